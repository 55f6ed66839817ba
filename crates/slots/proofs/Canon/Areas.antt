-- The words of slots laid into an area.
--     flatten_append, slots_append    of two lists of slots
--     length_flatten, length_fill     how many they are
--     fill_none                       an area with no slot is all zero
-- Assumes nothing.
use Rattle.std.specs.Prelude.{ℕ, ◌-◌, ◌*◌, ◌≤◌, ◌≡◌, refl, length, replicate}
use Rattle.std.proofs.Common.{arith, ap, sym, ◌∙◌, length-append}
use mathlib.Core.List.{List, [], ◌∷◌, ◌++◌, append_assoc, flatten}
use Rattle.std.proofs.lemmas.List.{length-replicate}
use Rattle.slots.specs.Canon.{fill, AllSixteen}

pub flatten_append : (a b : List (List ℕ)) → flatten (a ++ b) ≡ flatten a ++ flatten b
unfolding flatten
flatten_append [] b = refl
flatten_append (x ∷ a) b = rw (flatten_append a b) (sym (append_assoc x (flatten a) (flatten b)))

pub slots_append : (a b : List (List ℕ)) → AllSixteen (a ++ b) → AllSixteen a × AllSixteen b
slots_append [] b v = (tt, v)
slots_append (x ∷ a) b v = let r = slots_append a b v.1 in ((v.0, r.0), r.1)

pub length_flatten : (ss : List (List ℕ)) → AllSixteen ss → length (flatten ss) ≡ length ss * 16
unfolding flatten
length_flatten [] v = omega arith
length_flatten (s ∷ ss) v = length-append s (flatten ss) ∙ omega (arith, v.0, length_flatten ss v.1)

pub length_fill : (n : ℕ) (ss : List (List ℕ)) → AllSixteen ss → length ss ≤ n → length (fill n ss) ≡ n * 16
unfolding fill
length_fill n ss v h =
    length-append (flatten ss) _
    ∙ omega (arith, length_flatten ss v, length-replicate {A = ℕ} ((n - length ss) * 16) 0)

pub fill_none : (n : ℕ) → fill n [] ≡ replicate (n * 16) 0
unfolding fill flatten
fill_none n = let i : (n - 0) * 16 ≡ n * 16 = omega arith in ap (λ (k : ℕ). replicate {A = ℕ} k 0) i
