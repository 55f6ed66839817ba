-- The clock and the start that is due, by the state.
--     back_none, back_below, back_bound     `clock_back`
--     due_none, due_changes                 `start_due`
-- Assumes nothing.
use Prim.Native.Nat.{ℕ, ◌≤◌, ◌<◌}
use mathlib.Core.Path.{◌≡◌}
use mathlib.Core.Bool.{Bool, true}
use mathlib.Core.List.{List}
use lib.Dec.{leb}
use borrow.Author.Tests.{lt-ltb, le-ltb}
use Rattle.timetable_spec.specs.Timetable.{minute_bound, changes}
use Rattle.wash_spec.specs.Taking.{clock_back, start_due}
use Rattle.state.specs.declared.record.State.{State}
use Rattle.wash_state.specs.declared.answer.TimedState.{TimedState}
use Rattle.wash_state.specs.declared.answer.TimedState.TheVariants.{NotStarted, Started}
use Rattle.wash_state.specs.Answers.{timed_state_of}

module _ (x : TimedState) (minute : ℕ) where
  pub back_none : x ≡ NotStarted → leb minute_bound minute ≡ clock_back (timed_state_of x) minute
  unfolding clock_back
  back_none q = rw q

  module _ (s : State) (last : ℕ) (q : x ≡ Started s last) where
    pub back_below : minute < last → true ≡ clock_back (timed_state_of x) minute
    unfolding clock_back
    back_below h = rw (q, lt-ltb minute last h)

    pub back_bound : last ≤ minute → leb minute_bound minute ≡ clock_back (timed_state_of x) minute
    unfolding clock_back
    back_bound h = rw (q, le-ltb minute last h)

  module _ (windows : List ℕ) where
    pub due_none : x ≡ NotStarted → true ≡ start_due windows (timed_state_of x) minute
    unfolding start_due
    due_none q = rw q

    pub due_changes : (s : State) (last : ℕ) → x ≡ Started s last → (r : Bool) → r ≡ changes windows last minute
        → r ≡ start_due windows (timed_state_of x) minute
    unfolding start_due
    due_changes s last q r e = rw q e
