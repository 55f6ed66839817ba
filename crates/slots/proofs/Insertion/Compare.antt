-- Slices compare by their first differing words.
--     slices_order     the order of two slices is that of their words
--     compare_slot     of a slot in an area and a new one
--     above_by         the new one is above where that is less
-- Assumes nothing.
use Rattle.std.specs.Prelude.{ℕ, ◌+◌, ◌*◌, ◌<◌, ◌≤◌, ◌≡◌, refl, List, [], ◌∷◌, length, get_or}
use Rattle.std.specs.List.{between}
use Rattle.std.specs.Ordering.{nat_cmp, is_lt}
use Rattle.std.specs.Cmp.Lexicographic.{slice_cmp}
use Rattle.std.proofs.Common.{arith, ap, sym, ◌∙◌}
use Rattle.std.proofs.lemmas.Bool.Decides.{nat_tests}
use Rattle.std.proofs.Math.Decide.{dec_lt}
use Rattle.std.proofs.lemmas.List.Edits.{get_or-between, length-between}
use Rattle.std.specs.declared.cmp.Ordering.{Ordering}
use Rattle.std.specs.declared.cmp.Ordering.TheVariants.{Less, Equal, Greater}
use Rattle.slots.specs.Canon.{Order, compare_words}
use Rattle.slots.specs.Insertion.{order, order_of, is_above}
use Rattle.slots.proofs.Canon.Comparison.{cmp_lt, cmp_gt, cmp_eq}
use Rattle.slots.proofs.Canon.Places.{order_is}

pub slices_order : (y s : List ℕ) → order_of (slice_cmp nat_cmp y s) ≡ compare_words s y
unfolding compare_words
slices_order [] [] = refl
slices_order [] (x ∷ s) = refl
slices_order (y ∷ ys) [] = refl
slices_order (y ∷ ys) (x ∷ s) = by (dec_lt x y) (dec_lt y x) (slices_order ys s)
  where
    by : Dec (x < y) → Dec (y < x) → order_of (slice_cmp nat_cmp ys s) ≡ compare_words s ys
        → order_of (slice_cmp nat_cmp (y ∷ ys) (x ∷ s)) ≡ compare_words (x ∷ s) (y ∷ ys)
    by (yes h) k ih =
        let e : nat_cmp y x ≡ Greater = grind (arith, nat_tests) in
        rw (e, cmp_lt x y s ys h)
    by (no h) (yes k) ih =
        let e : nat_cmp y x ≡ Less = grind (arith, nat_tests) in
        rw (e, cmp_gt x y s ys k)
    by (no h) (no k) ih =
        let n : x ≡ y = omega arith in
        let e : nat_cmp y x ≡ Equal = grind (arith, nat_tests) in
        rw (e, cmp_eq x y s ys n) ih

pub compare_slot : (a s : List ℕ) (i p : ℕ) (o : Ordering) → i * 16 + 16 ≤ length a → length s ≡ 16 → p ≡ i * 16
    → o ≡ slice_cmp nat_cmp (between p (p + 16) a) s → order_of o ≡ order 16 a (i * 16) s 0
compare_slot a s i p o h es ep e =
    ap order_of e
    ∙ slices_order (between p (p + 16) a) s
    ∙ sym (order_is 16 a (i * 16) s 0 (between p (p + 16) a) s
    (length-between a p (p + 16) (omega arith) ∙ omega arith) es
    (λ k w. rw ep (sym (get_or-between a (i * 16) (i * 16 + 16) k 0 (omega arith))))
    (λ k w. let z : 0 + k ≡ k = omega arith in ap (λ (j : ℕ). get_or s j 0) z))

-- the new slot is above the held one exactly where that is less
above_less_than : (o : Ordering) → is_above (order_of o) ≡ is_lt o
above_less_than Less = refl
above_less_than Equal = refl
above_less_than Greater = refl

pub above_by : (o : Ordering) (w : Order) → order_of o ≡ w → is_above w ≡ is_lt o
above_by o w e = rw (← e) (above_less_than o)
