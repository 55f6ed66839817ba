-- A record that is bad after those before it: what `sound` refuses is what `Wrong` says, and back.
--     floor_after           the least lot after some records
--     wrong_in, wrong_out   the two halves
-- Assumes nothing.
use Rattle.std.specs.Prelude.{ℕ, zero, ◌+◌, ◌^◌, ◌<◌, ◌≡◌, refl, List, [], ◌∷◌, ◌++◌, length}
use Rattle.std.proofs.Common.{arith, ap, sym, ◌∙◌}
use Rattle.std.proofs.Math.Decide.{dec_lt}
use mathlib.Core.Bool.{Bool, true, false}
use Rattle.lot_book.specs.declared.entry.Lot.{Lot}
use Rattle.lot_book.specs.Book.{sound}
use Rattle.lot_book.proofs.Book.Sound.{GoodRecord, sound_out, sound_in}
use Rattle.lot_book.specs.Written.{Wrong, not_ascending, other_mark, above_taken, not_zero, wide_lot, wide_place}

abbrev pub floor_after : ℕ → List Lot → ℕ
floor_after floor [] = floor
floor_after floor (r ∷ rs) = floor_after (r.number + 1) rs

-- the bound after some records is 0, or above the last of them
data Bound (before : List Lot) : ℕ → Type 0 where
  none : before ≡ [] → Bound before 0
  above : (front : List Lot) (last : Lot) → before ≡ front ++ (last ∷ []) → Bound before (last.number + 1)

bound_more : (r : Lot) (rs : List Lot) (k : ℕ) → Bound rs k → (rs ≡ [] → ⊥) → Bound (r ∷ rs) k
bound_more r rs zero (none e) h = absurd (h e)
bound_more r rs k (above front last e) h = above (r ∷ front) last (ap (λ (t : List Lot). r ∷ t) e)

bound_from : (r : Lot) (rs : List Lot) → Bound (r ∷ rs) (floor_after (r.number + 1) rs)
bound_from r [] = above [] r refl
bound_from r (x ∷ rs) =
    bound_more r (x ∷ rs) _ (bound_from x rs) (λ e. let z = ap length e in omega arith)

bound : (before : List Lot) → Bound before (floor_after 0 before)
bound [] = none refl
bound (r ∷ rs) = bound_from r rs

low_wrong : (before : List Lot) (r : Lot) (k : ℕ) → Bound before k → r.number < k → Wrong before r
low_wrong before r k (none e) h = absurd (omega arith)
low_wrong before r k (above front last e) h = not_ascending front last e (omega arith)

after_last : (floor : ℕ) (front : List Lot) (last : Lot) → floor_after floor (front ++ (last ∷ [])) ≡ last.number + 1
after_last floor [] last = refl
after_last floor (r ∷ front) last = after_last (r.number + 1) front last

pub wrong_in : (before : List Lot) (r : Lot) → Wrong before r → sound (floor_after 0 before) r ≡ true → ⊥
wrong_in before r (not_ascending front last e h) s =
    let k = ap (floor_after 0) e ∙ after_last 0 front last in
    let up = (sound_out (floor_after 0 before) r s).above in
    omega arith
wrong_in before r (other_mark h) s = omega (arith, (sound_out (floor_after 0 before) r s).marked)
wrong_in before r (above_taken h) s = omega (arith, (sound_out (floor_after 0 before) r s).reached)
wrong_in before r (not_zero e h) s = omega (arith, (sound_out (floor_after 0 before) r s).running e)
wrong_in before r (wide_lot h) s = omega (arith, (sound_out (floor_after 0 before) r s).lot_fits)
wrong_in before r (wide_place h) s = omega (arith, (sound_out (floor_after 0 before) r s).place_fits)

module _ (before : List Lot) (r : Lot) (s : sound (floor_after 0 before) r ≡ false) where
  all_hold : GoodRecord (floor_after 0 before) r → Wrong before r
  all_hold h =
      let e = sym s ∙ sound_in (floor_after 0 before) r h in
      let z : ◌≡◌ {A = Bool} false true = e in
      absurd (mathlib.Core.Bool.false≢true z)

  by_tests : Dec (r.number < floor_after 0 before) → Dec (r.number < 10 ^ 10) → Dec (1 < r.mark)
      → Dec (r.taken < r.place) → Dec (r.place < 10 ^ 8) → Dec (0 < r.mark) → Dec (0 < r.place) → Wrong before r
  by_tests (yes a) _ _ _ _ _ _ = low_wrong before r _ (bound before) a
  by_tests (no a) (no b) _ _ _ _ _ = wide_lot (omega arith)
  by_tests (no a) (yes b) (yes c) _ _ _ _ = other_mark c
  by_tests (no a) (yes b) (no c) (yes d) _ _ _ = above_taken d
  by_tests (no a) (yes b) (no c) (no d) (no e) _ _ = wide_place (omega arith)
  by_tests (no a) (yes b) (no c) (no d) (yes e) (no f) (yes g) = not_zero (omega arith) g
  by_tests (no a) (yes b) (no c) (no d) (yes e) (yes f) _ =
      all_hold (record {
        above = omega arith;
        lot_fits = b;
        marked = omega arith;
        reached = omega arith;
        place_fits = e;
        running = λ z. absurd (omega arith);
      })
  by_tests (no a) (yes b) (no c) (no d) (yes e) (no f) (no g) =
      all_hold (record {
        above = omega arith;
        lot_fits = b;
        marked = omega arith;
        reached = omega arith;
        place_fits = e;
        running = λ z. omega arith;
      })

  pub wrong_out : Wrong before r
  wrong_out =
      by_tests (dec_lt _ _) (dec_lt _ _) (dec_lt _ _) (dec_lt _ _) (dec_lt _ _) (dec_lt _ _) (dec_lt _ _)
