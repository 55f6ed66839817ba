-- 17 and a start that is due: the tests that the definitions make, and the conditions. Assumes nothing.
use Rattle.std.specs.Prelude.{ℕ, ◌≤◌, ◌<◌, ◌≡◌, Bool, true, false, ◌||◌, List, ◌⊎◌, T, ltb, leb}
use Rattle.std.proofs.Math.Path.{refl}
use Rattle.std.proofs.Common.{inl, inr, leb-true, le-leb, ltb-true, ltb-false, lt-ltb}
use Rattle.numbers.specs.Choice.{T_true, true_T}
use Rattle.monitor_spec.specs.State.{State}
use Rattle.monitor_spec.proofs.Refusals.Laws.{clash}
use Rattle.timetable_spec.specs.Timetable.{minute_bound, good_timetable, Changes, changes}
use Rattle.timetable_spec.proofs.Timetable.Exact.{changes_in, changes_out}
use Rattle.wash_spec.specs.Timed.{TimedState, not_started, started}
use Rattle.wash_spec.specs.Taking.{clock_back, start_due}
use Rattle.wash_spec.specs.Progress.{ClockBack, Due}

or_out : (a b : Bool) → (a || b) ≡ true → (a ≡ true) ⊎ (b ≡ true)
or_out true b e = inl refl
or_out false b e = inr e

pub back_in : (s : TimedState) (now : ℕ) → ClockBack s now → clock_back s now ≡ true
unfolding clock_back
back_in not_started now h = le-leb minute_bound now h
back_in (started s last) now (inl h) = rw (lt-ltb now last h)
back_in (started s last) now (inr h) = by (ltb now last)
  where
    by : (a : Bool) → (a || leb minute_bound now) ≡ true
    by true = refl
    by false = le-leb minute_bound now h

pub back_out : (s : TimedState) (now : ℕ) → clock_back s now ≡ true → ClockBack s now
unfolding clock_back
back_out not_started now e = leb-true minute_bound now e
back_out (started s last) now e = by (or_out (ltb now last) (leb minute_bound now) e)
  where
    by : (ltb now last ≡ true) ⊎ (leb minute_bound now ≡ true) → (now < last) ⊎ (minute_bound ≤ now)
    by (inl a) = inl (ltb-true now last a)
    by (inr a) = inr (leb-true minute_bound now a)

pub in_time_in : (s : TimedState) (now : ℕ) → (ClockBack s now → ⊥) → clock_back s now ≡ false
in_time_in s now h = by (clock_back s now) refl
  where
    by : (b : Bool) → clock_back s now ≡ b → clock_back s now ≡ false
    by true e = absurd (h (back_out s now e))
    by false e = e

pub in_time_out : (s : TimedState) (now : ℕ) → clock_back s now ≡ false → ClockBack s now → ⊥
in_time_out s now e h = clash (back_in s now h) e

-- no earlier than the last event
pub in_order : (s : State) (last now : ℕ) → (ClockBack (started s last) now → ⊥) → last ≤ now
in_order s last now h = by (ltb now last) refl
  where
    by : (b : Bool) → ltb now last ≡ b → last ≤ now
    by true e = absurd (h (inl (ltb-true now last e)))
    by false e = ltb-false now last e

module _ (windows : List ℕ) (good : T (good_timetable windows)) where
  pub due_in : (s : TimedState) (now : ℕ) → Due windows s now → start_due windows s now ≡ true
  unfolding start_due
  due_in not_started now h = refl
  due_in (started s last) now h = T_true (changes windows last now) (changes_in windows last now good h)

  pub changed_out : (last now : ℕ) → changes windows last now ≡ false → Changes windows last now → ⊥
  changed_out last now e h = clash (T_true (changes windows last now) (changes_in windows last now good h)) e

  pub changed_in : (last now : ℕ) → (Changes windows last now → ⊥) → changes windows last now ≡ false
  changed_in last now h = by (changes windows last now) refl
    where
      by : (b : Bool) → changes windows last now ≡ b → changes windows last now ≡ false
      by true e = absurd (h (changes_out windows last now good (true_T (changes windows last now) e)))
      by false e = e
