-- The record, the answers and the outcome of a monitor with wash hours (02, W5).
--     TimedState, TimedMonitor     not started, or a record with the last event's minute; with both areas
--     plain, stamped               a monitor without its minute; one with a minute put on
--     TimedAnswer, TimedOutcome    a result, a refusal, a refusal with what stands; the answer with all lent words
-- Assumes nothing.
use Rattle.std.specs.Prelude.{ℕ, List}
use Rattle.monitor_spec.specs.State.{State, Monitor}

-- "The monitor starts with its first event": before it there is no record; after it there is one, and the minute of the
-- last event
pub data TimedState : Type 0 where
  not_started : TimedState
  started : State → ℕ → TimedState

pub record TimedMonitor : Type 0 where
  pub state : TimedState
  pub area0 : List ℕ
  pub area1 : List ℕ

abbrev pub plain : State → List ℕ → List ℕ → Monitor
plain s a b = record { state = s; area0 = a; area1 = b }

abbrev pub stamped : ℕ → Monitor → TimedMonitor
stamped minute m = record { state = started m.state minute; area0 = m.area0; area1 = m.area1 }

-- "17 .., both placed and answered like 11": a refused event has number, place and what stands; "16 and later numbers
-- but 17 return and keep what 10 does": number and place
pub data TimedAnswer : Type 0 where
  given : TimedState → TimedAnswer
  refused : ℕ → ℕ → TimedAnswer
  stopped : ℕ → ℕ → TimedState → TimedAnswer

pub record TimedOutcome : Type 0 where
  pub answer : TimedAnswer
  pub area0 : List ℕ
  pub area1 : List ℕ
  pub work : List ℕ
