-- Minutes of the week, and the windows that a timetable leaves free.
--     distance_some, -week, -reaches, -near            how far a minute of the week is from an absolute minute
--     not_before                                       no window of a good list holds a minute before all of them
--     gaps_hold                                        a gap holds a minute exactly where no window does
--     Fits, good_fits, gaps_fit                        no window ends after the week
-- Assumes nothing.
use Rattle.std.specs.Prelude.{ℕ, ◌+◌, ◌-◌, ◌%◌, ◌≤◌, ◌<◌, ◌≡◌, Bool, not, ◌&&◌, ◌||◌, List, [], ◌∷◌, T, ltb, leb}
use Rattle.std.proofs.Common.{arith, ◌∙◌, ltb→lt, leb→le}
use Rattle.std.proofs.Math.Decide.{dec_lt}
use Rattle.std.proofs.Math.Path.{refl}
use Rattle.std.proofs.Math.Bool.{true, false}
use borrow.Author.Tests.{lt-ltb, le-ltb, le-leb, lt-leb}
use Rattle.numbers.specs.Choice.{both}
use Rattle.timetable_spec.specs.Timetable.{week, good_window, good_from, some_window, holds, wash_at}
use Rattle.timetable_spec.specs.Timetable.{distance, gaps_from}

-- ---- distances
pub distance_above : (r p : ℕ) → r < p → distance r p ≡ p - r
unfolding distance
distance_above r p h = rw (lt-ltb r p h)

pub distance_below : (r p : ℕ) → p ≤ r → distance r p ≡ p + week - r
unfolding distance
distance_below r p h = rw (le-ltb r p h)

pub distance_some : (r p : ℕ) → r < week → 1 ≤ distance r p
distance_some r p h = by (dec_lt r p)
  where
    by : Dec (r < p) → 1 ≤ distance r p
    by (yes l) = rw (distance_above r p l) (omega arith)
    by (no l) = rw (distance_below r p (omega arith)) (omega arith)

pub distance_week : (r p : ℕ) → p < week → r < week → distance r p ≤ week
distance_week r p k h = by (dec_lt r p)
  where
    by : Dec (r < p) → distance r p ≤ week
    by (yes l) = rw (distance_above r p l) (omega arith)
    by (no l) = rw (distance_below r p (omega arith)) (omega arith)

pub distance_reaches : (l p : ℕ) → p < week → (l + distance (l % week) p) % week ≡ p
distance_reaches l p h = by (dec_lt (l % week) p)
  where
    by : Dec (l % week < p) → (l + distance (l % week) p) % week ≡ p
    by (yes k) = rw (distance_above (l % week) p k) (omega arith)
    by (no k) = rw (distance_below (l % week) p (omega arith)) (omega arith)

pub distance_near : (l m : ℕ) → l < m → distance (l % week) (m % week) ≤ m - l
distance_near l m h = by (dec_lt (l % week) (m % week))
  where
    by : Dec (l % week < m % week) → distance (l % week) (m % week) ≤ m - l
    by (yes k) = rw (distance_above (l % week) (m % week) k) (omega arith)
    by (no k) = rw (distance_below (l % week) (m % week) (omega arith)) (omega arith)

-- ---- windows of a good list
pub record Pair (floor a b : ℕ) (w : List ℕ) : Type 0 where
  pub above : floor ≤ a
  pub some : a < b
  pub within : b ≤ week
  pub rest : T (good_from b w)

pub good_pair : (floor a b : ℕ) (w : List ℕ) → T (good_from floor (a ∷ b ∷ w)) → Pair floor a b w
unfolding good_from good_window
good_pair floor a b w h =
    let x = both (good_window floor a b) (good_from b w) h in
    let y = both (leb floor a) (ltb a b && leb b week) x.0 in
    let z = both (ltb a b) (leb b week) y.1 in
    record { above = leb→le _ _ y.0; some = ltb→lt _ _ z.0; within = leb→le _ _ z.1; rest = x.1 }

-- ---- wash_at, by cases
module _ (a b m : ℕ) (w : List ℕ) where
  pub wash_before : m < a → wash_at (a ∷ b ∷ w) m ≡ wash_at w m
  unfolding wash_at some_window holds
  wash_before h = simp (lt-leb a m h)

  pub wash_in : a ≤ m → m < b → wash_at (a ∷ b ∷ w) m ≡ true
  unfolding wash_at some_window holds
  wash_in h k = simp (le-leb a m h, lt-ltb m b k)

  pub wash_after : b ≤ m → wash_at (a ∷ b ∷ w) m ≡ wash_at w m
  unfolding wash_at some_window holds
  wash_after h = rw (le-ltb m b h) (ends (leb a m))
    where
      ends : (t : Bool) → ((t && false) || wash_at w m) ≡ wash_at w m
      ends true = refl
      ends false = refl

pub wash_none : (m : ℕ) → wash_at [] m ≡ false
unfolding wash_at some_window holds
wash_none m = refl

pub wash_odd : (a m : ℕ) → wash_at (a ∷ []) m ≡ false
unfolding wash_at some_window holds
wash_odd a m = refl

-- ---- the windows that a timetable leaves free
pub not_before : (floor : ℕ) (w : List ℕ) (m : ℕ) → T (good_from floor w) → m < floor → wash_at w m ≡ false
not_before floor [] m h l = wash_none m
not_before floor (a ∷ []) m h l = wash_odd a m
not_before floor (a ∷ b ∷ w) m h l =
    let g = good_pair floor a b w h in
    let x = g.above in
    let y = g.some in
    wash_before a b m w (omega arith) ∙ not_before b w m g.rest (omega arith)

module _ (floor : ℕ) where
  pub gaps_none : gaps_from floor [] ≡ floor ∷ week ∷ []
  unfolding gaps_from
  gaps_none = refl

  pub gaps_odd : (a : ℕ) → gaps_from floor (a ∷ []) ≡ floor ∷ week ∷ []
  unfolding gaps_from
  gaps_odd a = refl

  pub gaps_pair : (a b : ℕ) (w : List ℕ) → gaps_from floor (a ∷ b ∷ w) ≡ floor ∷ a ∷ gaps_from b w
  unfolding gaps_from
  gaps_pair a b w = refl

-- no gap before the minute that they are counted from
pub gaps_before : (floor : ℕ) (w : List ℕ) (m : ℕ) → T (good_from floor w) → m < floor
    → wash_at (gaps_from floor w) m ≡ false
gaps_before floor [] m h l = rw (gaps_none floor) (wash_before floor week m [] l ∙ wash_none m)
gaps_before floor (a ∷ []) m h l = absurd (unfold good_from in h)
gaps_before floor (a ∷ b ∷ w) m h l =
    let g = good_pair floor a b w h in
    let x = g.above in
    let y = g.some in
    rw (gaps_pair floor a b w)
    (wash_before floor a m (gaps_from b w) l ∙ gaps_before b w m g.rest (omega arith))

pub gaps_hold : (floor : ℕ) (w : List ℕ) (m : ℕ) → T (good_from floor w) → floor ≤ m → m < week
    → wash_at (gaps_from floor w) m ≡ not (wash_at w m)
gaps_hold floor [] m h l k = rw (gaps_none floor, wash_none m) (wash_in floor week m [] l k)
gaps_hold floor (a ∷ []) m h l k = absurd (unfold good_from in h)
gaps_hold floor (a ∷ b ∷ w) m h l k =
    rw (gaps_pair floor a b w) (by (dec_lt m a) (dec_lt m b) (λ x. gaps_hold b w m g.rest x k))
  where
    g : Pair floor a b w
    g = good_pair floor a b w h

    by : Dec (m < a) → Dec (m < b) → (b ≤ m → wash_at (gaps_from b w) m ≡ not (wash_at w m))
        → wash_at (floor ∷ a ∷ gaps_from b w) m ≡ not (wash_at (a ∷ b ∷ w) m)
    by (yes x) y later =
        let s = g.some in
        rw (wash_in floor a m (gaps_from b w) l x, wash_before a b m w x, not_before b w m g.rest (omega arith))
    by (no x) (yes y) later =
        rw (
          wash_after floor a m (gaps_from b w) (omega arith),
          wash_in a b m w (omega arith) y,
          gaps_before b w m g.rest y,
        )
    by (no x) (no y) later =
        rw (wash_after floor a m (gaps_from b w) (omega arith), wash_after a b m w (omega arith))
        (later (omega arith))

-- ---- no window ends after the week
abbrev pub Fits : List ℕ → Type 0
Fits [] = Unit
Fits (a ∷ []) = Unit
Fits (a ∷ b ∷ w) = (b ≤ week) × Fits w

pub good_fits : (floor : ℕ) (w : List ℕ) → T (good_from floor w) → Fits w
good_fits floor [] h = tt
good_fits floor (a ∷ []) h = tt
good_fits floor (a ∷ b ∷ w) h = let g = good_pair floor a b w h in (g.within, good_fits b w g.rest)

pub gaps_fit : (floor : ℕ) (w : List ℕ) → T (good_from floor w) → Fits (gaps_from floor w)
gaps_fit floor [] h = rw (gaps_none floor) (omega arith, tt)
gaps_fit floor (a ∷ []) h = absurd (unfold good_from in h)
gaps_fit floor (a ∷ b ∷ w) h =
    let g = good_pair floor a b w h in
    let x = g.some in
    let y = g.within in
    rw (gaps_pair floor a b w) (omega arith, gaps_fit b w g.rest)
