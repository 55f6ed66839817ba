-- The code's values as 01 has them (01, "Which form goes where": "Where an answer is an enum, the promises use a
-- definition"), and what the functions on the record promise.
--     verdict_of, state_of, monitor_of  a verdict, a record, a record with both areas
--     succeeding                       the record after an event, while events can be counted
-- The laws are in `Record/Laws.antt`. Assumes nothing.
use Rattle.std.specs.Prelude.{ℕ, true, false, List, eqb}
use Rattle.state.specs.declared.record.Verdict.{Verdict as VerdictCode}
use Rattle.state.specs.declared.record.Verdict.TheVariants.{Running, Failed}
use Rattle.state.specs.declared.record.State.{State as StateCode}
use Rattle.monitor_spec.specs.State.{Verdict, running, failed_at, State, state_after, Monitor}
use Rattle.monitor_spec.specs.Feed.{counter_most}
pub mod Laws

-- "running or failed at a place"
abbrev pub verdict_of : VerdictCode → Verdict
verdict_of Running = running
verdict_of (Failed p) = failed_at p

abbrev pub state_of : StateCode → State
state_of s = record { taken = s.taken; count = s.count; peak = s.peak; verdict = verdict_of s.verdict }

abbrev pub monitor_of : StateCode → List ℕ → List ℕ → Monitor
monitor_of s a b = record { state = state_of s; area0 = a; area1 = b }

-- the record after an event that leaves n residuals; where no event more can be counted it stays, and Feed refuses (12)
unfoldable pub succeeding : State → ℕ → State
succeeding s n = elim (eqb s.taken counter_most) [ true ↦ s | false ↦ state_after s n ]
