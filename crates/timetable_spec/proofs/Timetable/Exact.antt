-- `changes` says of a good timetable whether the table in force changes, over every minute between two.
--     begins_out, begins_in        a window begins within some minutes exactly where one holds a minute within them
--     others                       the windows of the table that is not in force
--     changed_between              between two minutes that differ there is one that differs from the one before it
--     changes_out, changes_in      the two halves of claim ChangesExactly;  unchanged_same: no change
--     week_out, week_in            the two halves of claim WeekOrMore
-- Assumes nothing.
use Rattle.std.specs.Prelude.{ℕ, zero, suc, ◌+◌, ◌-◌, ◌%◌, ◌≤◌, ◌<◌, ◌≡◌, refl, List, [], ◌∷◌, ◌≢◌, ◌⊎◌, ltb, leb}
use Rattle.std.proofs.Common.{arith, mod-lt, sym, ap, ◌∙◌, inl, inr, ltb→lt, leb→le, lt→ltb, le→leb}
use Rattle.std.proofs.Math.Decide.{dec_lt}
use Rattle.std.proofs.Math.Path.{subst}
use mathlib.Core.Bool.{Bool, true, false, not, cond, ◌||◌, Bool-discrete}
use Rattle.std.proofs.Math.Dec.{T}
use Rattle.numbers.specs.Choice.{both, both_in, either, either_left, either_right, true_T}
use Rattle.timetable_spec.specs.Timetable.{week, good_timetable, some_window, holds, wash_at, in_force}
use Rattle.timetable_spec.specs.Timetable.{Changes, distance, begins_by, begins, gaps_from, changes}
use Rattle.timetable_spec.proofs.Timetable.Laws.{distance_above, distance_below, distance_some, distance_reaches}
use Rattle.timetable_spec.proofs.Timetable.Laws.{distance_near, distance_week, gaps_hold, Fits, good_fits, gaps_fit}
use Rattle.timetable_spec.proofs.Timetable.Laws.{wash_in}

-- ---- a window that begins
-- the minute of the week at which a window begins
pub record Begun (v : List ℕ) (r d : ℕ) : Type 0 where
  pub minute : ℕ
  pub in_week : minute < week
  pub held : T (wash_at v minute)
  pub near : distance r minute ≤ d

pub begins_out : (v : List ℕ) (r d : ℕ) → Fits v → T (begins v r d) → Begun v r d
unfolding begins some_window begins_by
begins_out [] r d f h = absurd h
begins_out (a ∷ []) r d f h = absurd h
begins_out (a ∷ b ∷ v) r d f h =
    by (either (begins_by a b r d) (begins v r d) h) (λ x. begins_out v r d f.1 x)
  where
    by : T (begins_by a b r d) ⊎ T (begins v r d) → (T (begins v r d) → Begun v r d)
        → Begun (a ∷ b ∷ v) r d
    by (inl x) later =
        let y = both (ltb a b) (leb (distance r a) d) x in
        let k = ltb→lt a b y.0 in
        let e = f.0 in
        record {
          minute = a;
          in_week = omega arith;
          held = true_T _ (wash_in a b a v (omega arith) k);
          near = leb→le _ _ y.1;
        }
    by (inr x) later =
        let y = later x in
        record {
          minute = y.minute;
          in_week = y.in_week;
          held = unfold wash_at some_window in either_right (holds a b y.minute) _ y.held;
          near = y.near;
        }

-- a window that holds a minute and not the one that distances are counted from begins no later
first_near : (a b r x : ℕ) → r < week → a ≤ x → x < b → (a ≤ r → r < b → ⊥) → distance r a ≤ distance r x
first_near a b r x w h k f = by (dec_lt r a)
  where
    by : Dec (r < a) → distance r a ≤ distance r x
    by (yes l) = rw (distance_above r a l, distance_above r x (omega arith)) (omega arith)
    by (no l) = beyond (dec_lt r b)
      where
        beyond : Dec (r < b) → distance r a ≤ distance r x
        beyond (yes m) = absurd (f (omega arith) m)
        beyond (no m) = rw (distance_below r a (omega arith), distance_below r x (omega arith)) (omega arith)

pub begins_in : (v : List ℕ) (r d x : ℕ) → r < week → (T (wash_at v r) → ⊥) → T (wash_at v x) → distance r x ≤ d
    → T (begins v r d)
unfolding begins some_window begins_by wash_at holds
begins_in [] r d x w n h k = absurd h
begins_in (a ∷ []) r d x w n h k = absurd h
begins_in (a ∷ b ∷ v) r d x w n h k =
    by (either (holds a b x) (wash_at v x) h)
    (λ y. begins_in v r d x w (λ z. n (either_right (holds a b r) _ z)) y k)
  where
    by : T (holds a b x) ⊎ T (wash_at v x) → (T (wash_at v x) → T (begins v r d))
        → T (begins_by a b r d || begins v r d)
    by (inl y) later =
        let z = both (leb a x) (ltb x b) y in
        let p = leb→le a x z.0 in
        let q = ltb→lt x b z.1 in
        let outside : a ≤ r → r < b → ⊥
        = λ i j. n (either_left (holds a b r) (wash_at v r)
        (both_in (leb a r) (ltb r b) (le→leb a r i) (lt→ltb r b j))) in
        let e = first_near a b r x w p q outside in
        either_left (begins_by a b r d) (begins v r d)
        (both_in (ltb a b) (leb (distance r a) d) (lt→ltb a b (omega arith)) (le→leb (distance r a) d (omega arith)))
    by (inr y) later = either_right (begins_by a b r d) _ (later y)

-- ---- the windows of the table that is not in force
differs_true : (b : Bool) → T b → b ≢ false
differs_true true h e = let z : ◌≡◌ {A = Bool} true false = e in mathlib.Core.Bool.true≢false z
differs_true false h e = h

differs_not : (b : Bool) → T (not b) → b ≢ true
differs_not true h e = h
differs_not false h e = let z : ◌≡◌ {A = Bool} false true = e in mathlib.Core.Bool.false≢true z

true_differs : (b : Bool) → b ≢ false → T b
true_differs true h = tt
true_differs false h = absurd (h refl)

not_differs : (b : Bool) → b ≢ true → T (not b)
not_differs true h = absurd (h refl)
not_differs false h = tt

abbrev pub others : List ℕ → Bool → List ℕ
others w t = cond t (gaps_from 0 w) w

module _ (w : List ℕ) (g : T (good_timetable w)) (m : ℕ) (k : m < week) where
  pub others_out : (t : Bool) → T (wash_at (others w t) m) → wash_at w m ≢ t
  unfolding good_timetable
  others_out true h = differs_not (wash_at w m) (subst T (gaps_hold 0 w m g (omega arith) k) h)
  others_out false h = differs_true (wash_at w m) h

  pub others_in : (t : Bool) → wash_at w m ≢ t → T (wash_at (others w t) m)
  unfolding good_timetable
  others_in true h = subst T (sym (gaps_hold 0 w m g (omega arith) k)) (not_differs (wash_at w m) h)
  others_in false h = true_differs (wash_at w m) h

others_fit : (w : List ℕ) (t : Bool) → T (good_timetable w) → Fits (others w t)
unfolding good_timetable
others_fit w true g = gaps_fit 0 w g
others_fit w false g = good_fits 0 w g

-- ---- minutes that differ
-- a minute after l and up to n that differs from the one before it
pub changed_between : (w : List ℕ) (l k : ℕ) → in_force w (l + k) ≢ in_force w l → Changes w l (l + k)
unfolding Changes
changed_between w l zero h = absurd (h (ap (in_force w) (omega arith)))
changed_between w l (suc k) h = by (Bool-discrete (in_force w (l + k)) (in_force w l)) (changed_between w l k)
  where
    by : Dec (in_force w (l + k) ≡ in_force w l) → (in_force w (l + k) ≢ in_force w l → Changes w l (l + k))
        → (m : ℕ) × (l < m) × (m ≤ l + suc k) × (in_force w m ≢ in_force w (m - 1))
    by (yes e) earlier =
        (l + suc k, omega arith, omega arith, λ x. h (x ∙ ap (in_force w) (omega arith) ∙ e))
    by (no e) earlier =
        let c = earlier e in
        (c.0, c.1, omega arith, c.3)

-- and one that differs from l
pub record Differs (w : List ℕ) (l n : ℕ) : Type 0 where
  pub minute : ℕ
  pub after : l < minute
  pub by_now : minute ≤ n
  pub differs : in_force w minute ≢ in_force w l

pub changed_differs : (w : List ℕ) (l n : ℕ) → Changes w l n → Differs w l n
unfolding Changes
changed_differs w l n (m, a, b, f) = by (Bool-discrete (in_force w (m - 1)) (in_force w l)) (dec_lt l (m - 1))
  where
    by : Dec (in_force w (m - 1) ≡ in_force w l) → Dec (l < m - 1) → Differs w l n
    by (yes e) y = record { minute = m; after = a; by_now = b; differs = λ x. f (x ∙ sym e) }
    by (no e) (yes y) = record { minute = m - 1; after = y; by_now = omega arith; differs = e }
    by (no e) (no y) = absurd (e (ap (in_force w) (omega arith)))

-- ---- the claim
week_some : 0 < week
week_some = omega arith

changed_later : (w : List ℕ) (l n d : ℕ) → d ≤ n - l → 1 ≤ d → Changes w l (l + d) → Changes w l n
unfolding Changes
changed_later w l n d k s c = (c.0, c.1, omega arith, c.3)

pub changes_out : (w : List ℕ) (l n : ℕ) → T (good_timetable w) → T (changes w l n) → Changes w l n
unfolding changes
changes_out w l n g h =
    let r = l % week in
    let b = begins_out (others w (in_force w l)) r (n - l) (others_fit w (in_force w l) g) h in
    let d = distance r b.minute in
    let s = distance_some r b.minute (mod-lt l week_some) in
    let e = distance_reaches l b.minute b.in_week in
    let f = others_out w g b.minute b.in_week (in_force w l) b.held in
    changed_later w l n d b.near s (changed_between w l d (λ x. f (ap (wash_at w) (sym e) ∙ (unfold in_force in x))))

pub changes_in : (w : List ℕ) (l n : ℕ) → T (good_timetable w) → Changes w l n → T (changes w l n)
unfolding changes
changes_in w l n g c =
    let d = changed_differs w l n c in
    let m = d.minute in
    let r = l % week in
    let near = distance_near l m d.after in
    let b = d.by_now in
    let k = mod-lt l week_some in
    begins_in (others w (in_force w l)) r (n - l) (m % week) k
    (λ x. others_out w g r k (in_force w l) x (unfold in_force in refl))
    (others_in w g (m % week) (mod-lt m week_some) (in_force w l) (λ x. d.differs (unfold in_force in x)))
    (omega arith)

-- no change: the same table is in force
pub unchanged_same : (w : List ℕ) (l n : ℕ) → T (good_timetable w) → l ≤ n → changes w l n ≡ false
    → in_force w n ≡ in_force w l
unchanged_same w l n g h e = by (Bool-discrete (in_force w n) (in_force w l))
  where
    by : Dec (in_force w n ≡ in_force w l) → in_force w n ≡ in_force w l
    by (yes x) = x
    by (no x) =
        let k : l + (n - l) ≡ n = omega arith in
        let c = changed_between w l (n - l) (rw k x) in
        absurd (differs_true (changes w l n) (changes_in w l n g (rw k at c)) e)

-- ---- a week or more
pub week_out : (w : List ℕ) (l n : ℕ) → Changes w l n → (i : ℕ) × (j : ℕ) × (in_force w i ≢ in_force w j)
unfolding Changes
week_out w l n c = (c.0, c.0 - 1, c.3)

-- every minute of the week comes within a week
comes : (w : List ℕ) (l n i : ℕ) → l + week ≤ n → in_force w i ≢ in_force w l → Changes w l n
comes w l n i h f =
    let p = i % week in
    let r = l % week in
    let k = mod-lt i week_some in
    let e = distance_reaches l p k in
    let s = distance_some r p (mod-lt l week_some) in
    changed_later w l n (distance r p) (omega (arith, distance_week r p k (mod-lt l week_some))) s
    (changed_between w l (distance r p) (λ x. f (unfold in_force in (ap (wash_at w) (sym e) ∙ x))))

pub week_in : (w : List ℕ) (l n i j : ℕ) → l + week ≤ n → in_force w i ≢ in_force w j → Changes w l n
week_in w l n i j h f = by (Bool-discrete (in_force w i) (in_force w l))
  where
    by : Dec (in_force w i ≡ in_force w l) → Changes w l n
    by (no e) = comes w l n i h e
    by (yes e) = comes w l n j h (λ x. f (e ∙ sym x))
