-- What std's `<` answers of slices of words is the order by first differing word. Assumes nothing.
use Prim.Native.Nat.{ℕ, ◌<◌}
use native.Mathlib.Omega.{arith}
use native.Mathlib.Decide.{dec_lt}
use mathlib.Core.Path.{◌≡◌, refl, ap, sym, ◌∙◌}
use mathlib.Core.List.{List, [], ◌∷◌}
use Rattle.std.specs.Prelude.{Option, Some}
use Rattle.std.specs.declared.cmp.Ordering.{Ordering}
use Rattle.std.specs.declared.cmp.Ordering.TheVariants.{Less, Equal, Greater}
use Rattle.std.specs.Ordering.{nat_cmp, is_lt, is_some_and, partial_ordering_then}
use Rattle.std.specs.Cmp.Lexicographic.{slice_partial_cmp}
use Rattle.std.specs.Cmp.{nat_cmp_is}
use Rattle.slots.specs.Canon.{compare_words}
use Rattle.slots.proofs.Canon.Comparison.{cmp_lt, cmp_gt, cmp_eq}
use Rattle.monitor_spec.specs.Valid.{is_below}

abbrev compared : List ℕ → List ℕ → Option Ordering
compared a b = slice_partial_cmp (λ (x y : ℕ). Some (nat_cmp x y)) a b

pub before_is : (a b : List ℕ) → is_some_and is_lt (compared a b) ≡ is_below (compare_words a b)
unfolding compare_words
before_is [] [] = refl
before_is [] (y ∷ b) = refl
before_is (x ∷ a) [] = refl
before_is (x ∷ a) (y ∷ b) = by (dec_lt x y) (dec_lt y x) (before_is a b)
  where
    head : (r : Ordering) → r ≡ nat_cmp x y
        → is_some_and is_lt (compared (x ∷ a) (y ∷ b)) ≡ is_some_and is_lt (partial_ordering_then (Some r) (compared a b))
    head r e = ap (λ (o : Ordering). is_some_and is_lt (partial_ordering_then (Some o) (compared a b))) (sym e)

    by : Dec (x < y) → Dec (y < x) → is_some_and is_lt (compared a b) ≡ is_below (compare_words a b)
        → is_some_and is_lt (compared (x ∷ a) (y ∷ b)) ≡ is_below (compare_words (x ∷ a) (y ∷ b))
    by (yes h) k ih = head Less (nat_cmp_is x y Less h) ∙ ap is_below (sym (cmp_lt x y a b h))
    by (no h) (yes k) ih = head Greater (nat_cmp_is x y Greater k) ∙ ap is_below (sym (cmp_gt x y a b k))
    by (no h) (no k) ih =
        let n : x ≡ y = omega arith in
        head Equal (nat_cmp_is x y Equal n) ∙ ih ∙ ap is_below (sym (cmp_eq x y a b n))
