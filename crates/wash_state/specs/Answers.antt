-- The code's values of wash hours as 02, W5, has them (01, "Which form goes where": "Where an answer is an enum, the
-- promises use a definition").
--     timed_state_of, timed_monitor_of  a record with its minute, or none yet; the same with both areas
--     TimedAnswer, timed_answer_of, timed_outcome  an answer; with what stands in the lent areas
-- Assumes nothing.
use Rattle.std.specs.Prelude.{ℕ, List, Result, Ok, Err}
use Rattle.wash_state.specs.declared.answer.TimedState as code
use Rattle.wash_state.specs.declared.answer.TimedState.TheVariants.{NotStarted, Started}
use Rattle.state.specs.declared.answer.Declined.{Declined}
use Rattle.state.specs.declared.answer.Declined.TheVariants.{Refused, Stopped}
use Rattle.state.specs.Record.{state_of}
use Rattle.wash_spec.specs.Timed.{TimedState, not_started, started, TimedMonitor, given, refused, stopped, TimedOutcome}
use Rattle.wash_spec.specs.Timed as operation

abbrev pub timed_state_of : code.TimedState → TimedState
timed_state_of NotStarted = not_started
timed_state_of (Started s minute) = started (state_of s) minute

abbrev pub timed_monitor_of : code.TimedState → List ℕ → List ℕ → TimedMonitor
timed_monitor_of s a b = record { state = timed_state_of s; area0 = a; area1 = b }

abbrev pub TimedAnswer : Type 0
TimedAnswer = Result code.TimedState (Declined code.TimedState)

abbrev pub timed_answer_of : TimedAnswer → operation.TimedAnswer
timed_answer_of (Ok s) = given (timed_state_of s)
timed_answer_of (Err (Refused r)) = refused r.number r.place
timed_answer_of (Err (Stopped r s)) = stopped r.number r.place (timed_state_of s)

abbrev pub timed_outcome : TimedAnswer → List ℕ → List ℕ → List ℕ → TimedOutcome
timed_outcome r a b w = record { answer = timed_answer_of r; area0 = a; area1 = b; work = w }
