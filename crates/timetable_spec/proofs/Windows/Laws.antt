-- A list that is judged good is a timetable by its conditions, and no other is.
--     From                      the windows of a list, none before a minute
--     good_from_out, good_out   from the judgement to the conditions
--     good_from_in, good_in     and back
--     held_out, held_in         wash_at, by windows
-- Assumes nothing.
use Rattle.std.specs.Prelude.{ℕ, ◌≤◌, ◌<◌, refl, ◌⊎◌, List, [], ◌∷◌, T, ltb, leb}
use Rattle.std.proofs.Common.{arith, sym, ap, subst, inl, inr, ltb→lt, leb→le, lt→ltb, le→leb}
use Rattle.std.proofs.Math.Decide.{dec_lt}
use Rattle.numbers.specs.Every.{All, all_imp, all_and}
use Rattle.numbers.specs.Choice.{both, both_in, either, either_left, either_right}
use Rattle.timetable_spec.specs.Timetable.{week, good_window, good_from, good_timetable, some_window, holds, wash_at}
use Rattle.timetable_spec.proofs.Timetable.Laws.{good_pair}
use Rattle.timetable_spec.specs.Windows.{Window, numbers_of, Holds, Held, GoodWindow, Before, InOrder, Windows}

-- ---- from the judgement to the conditions
pub record From (floor : ℕ) (w : List ℕ) : Type 0 where
  pub found : Windows w
  pub above : All (λ (p : Window). floor ≤ p.first) found.windows

earlier : (a b : ℕ) (q : Window) → a < b → b ≤ q.first → Before (record { first = a; last = b }) q
earlier a b q h l = record { ascending = omega arith; apart = λ m x y. omega arith }

pair : (floor a b : ℕ) (w : List ℕ) → floor ≤ a → a < b → b ≤ week → From b w → From floor (a ∷ b ∷ w)
unfolding numbers_of
pair floor a b w l h k f =
    let ps = f.found.windows in
    let p : Window = record { first = a; last = b } in
    record {
      found =
          record {
            windows = p ∷ ps;
            pairs = ap (λ (x : List ℕ). a ∷ b ∷ x) f.found.pairs;
            good = (
              record { first_fits = omega arith; last_fits = omega arith; some = (a, (omega arith, h)) },
              f.found.good,
            );
            ordered =
                (all_imp (λ q. b ≤ q.first) (Before p) (λ q x. earlier a b q h x) ps f.above, f.found.ordered);
          };
      above =
          (l, all_imp (λ q. b ≤ q.first) (λ q. floor ≤ q.first) (λ q x. omega arith) ps f.above);
    }

pub good_from_out : (floor : ℕ) (w : List ℕ) → T (good_from floor w) → From floor w
unfolding numbers_of
good_from_out floor [] h =
    record { found = record { windows = []; pairs = refl; good = tt; ordered = tt }; above = tt }
good_from_out floor (a ∷ []) h = absurd (unfold good_from in h)
good_from_out floor (a ∷ b ∷ w) h =
    let g = good_pair floor a b w h in
    pair floor a b w g.above g.some g.within (good_from_out b w g.rest)

pub good_out : (w : List ℕ) → T (good_timetable w) → Windows w
unfolding good_timetable
good_out w h = (good_from_out 0 w h).found

-- ---- and back
ends_before : (p q : Window) → GoodWindow q × Before p q → p.last ≤ q.first
ends_before p q h = by (dec_lt q.first p.last)
  where
    by : Dec (q.first < p.last) → p.last ≤ q.first
    by (no l) = omega arith
    by (yes l) =
        let s = h.0.some.1 in
        let a = h.1.ascending in
        absurd (h.1.apart q.first (omega arith, l) (omega arith, omega arith))

pub good_from_in : (floor : ℕ) (ps : List Window) → All GoodWindow ps → InOrder ps
    → All (λ (p : Window). floor ≤ p.first) ps → T (good_from floor (numbers_of ps))
unfolding good_from good_window numbers_of
good_from_in floor [] g o a = tt
good_from_in floor (p ∷ ps) g o a =
    let s = g.0.some.1 in
    let l = g.0.last_fits in
    let later = all_imp (λ q. GoodWindow q × Before p q) (λ q. p.last ≤ q.first) (ends_before p) ps
    (all_and GoodWindow (Before p) ps g.1 o.0) in
    let fits = both_in (ltb p.first p.last) _ (lt→ltb p.first p.last (omega arith))
    (le→leb p.last week l) in
    both_in (good_window floor p.first p.last) _ (both_in (leb floor p.first) _ (le→leb _ _ a.0) fits)
    (good_from_in p.last ps g.1 o.1 later)

pub good_in : (w : List ℕ) → Windows w → T (good_timetable w)
unfolding good_timetable
good_in w h =
    subst (λ (x : List ℕ). T (good_from 0 x)) (sym h.pairs)
    (good_from_in 0 h.windows h.good h.ordered (low h.windows))
  where
    low : (ps : List Window) → All (λ (p : Window). 0 ≤ p.first) ps
    low [] = tt
    low (p ∷ ps) = (omega arith, low ps)

-- ---- the minutes of windows
pub held_out : (ps : List Window) (m : ℕ) → T (wash_at (numbers_of ps) m) → Held ps m
unfolding wash_at some_window holds numbers_of
held_out [] m h = h
held_out (p ∷ ps) m h =
    by (either (holds p.first p.last m) (wash_at (numbers_of ps) m) h) (held_out ps m)
  where
    by : T (holds p.first p.last m) ⊎ T (wash_at (numbers_of ps) m)
        → (T (wash_at (numbers_of ps) m) → Held ps m) → Holds p m ⊎ Held ps m
    by (inl x) later =
        let y = both (leb p.first m) (ltb m p.last) x in
        inl (leb→le p.first m y.0, ltb→lt m p.last y.1)
    by (inr x) later = inr (later x)

pub held_in : (ps : List Window) (m : ℕ) → Held ps m → T (wash_at (numbers_of ps) m)
unfolding wash_at some_window holds numbers_of
held_in [] m h = h
held_in (p ∷ ps) m (inl h) =
    either_left (holds p.first p.last m) (wash_at (numbers_of ps) m)
    (both_in (leb p.first m) (ltb m p.last) (le→leb p.first m h.0) (lt→ltb m p.last h.1))
held_in (p ∷ ps) m (inr h) =
    either_right (holds p.first p.last m) (wash_at (numbers_of ps) m) (held_in ps m h)
