-- What the functions before the first event promise (02, W5).
--     AgreedAt, Agreed    whether state and areas agree
--     TimedEntered        what stands before the first event;  after_everyday: after the everyday table
-- The laws are with the proofs. Assumes nothing.
use Rattle.std.specs.Prelude.{ℕ, ◌≡◌, Bool, List}
use Rattle.table.specs.Judge.{judge_list}
use Rattle.std.specs.declared.result.Result.{Result}
use Rattle.table.specs.declared.answer.Refusal.{Refusal}
use Rattle.std.specs.declared.result.Result.TheVariants.{Ok, Err}
use Rattle.table_index.specs.Index.{table_in, Indexed}
use Rattle.monitor_spec.specs.Consistent.{consistent}
use Rattle.monitor_spec.specs.Entering.{judging, entering}
use Rattle.state.specs.declared.record.State.{State}
use Rattle.state.specs.Record.{monitor_of}
use Rattle.wash_spec.specs.Timed.{TimedMonitor}
use Rattle.wash_spec.specs.Entering.{agrees_by, TimedEntrance, shut, admits, scheduling}
use Rattle.wash_state.specs.declared.answer.TimedState.{TimedState}
use Rattle.wash_state.specs.declared.answer.TimedState.TheVariants.{NotStarted, Started}
use Rattle.wash_state.specs.Answers.{timed_state_of}
use Rattle.wash_start.specs.Standing.{list_at, TimedReady}

pub record AgreedAt (everyday wash windows : List ℕ) (s : State) (last : ℕ) (a b : List ℕ) (r : Bool) (work' : List ℕ)
    : Type 0 where
  pub answer : r ≡ consistent (table_in (list_at everyday wash windows last)) (monitor_of s a b)
  pub index : Indexed (list_at everyday wash windows last) work'

-- the index, once the monitor has started
abbrev pub IndexAt : List ℕ → List ℕ → List ℕ → TimedState → List ℕ → Type 0
IndexAt everyday wash windows NotStarted work = Unit
IndexAt everyday wash windows (Started s last) work = Indexed (list_at everyday wash windows last) work

pub record Agreed (everyday wash windows : List ℕ) (s : TimedState) (a b : List ℕ) (r : Bool) (work' : List ℕ)
    : Type 0 where
  pub answer : r ≡ agrees_by (table_in everyday) (table_in wash) windows (timed_state_of s) a b
  pub index : IndexAt everyday wash windows s work'

-- the answer is the entrance e; where it admits, all is ready
unfoldable pub TimedEntered : TimedEntrance → List ℕ → List ℕ → List ℕ → TimedState → List ℕ → List ℕ → Result Unit Refusal → List ℕ
    → Type 0
TimedEntered e everyday wash windows s a b (Ok _) work' =
    (e ≡ admits (table_in everyday) (table_in wash)) × TimedReady everyday wash windows s a b work'
TimedEntered e everyday wash windows s a b (Err r) work' = e ≡ shut r.number r.place work'

-- what `timed_entrance` comes to after the everyday table, with a work area of the right length
unfoldable pub after_everyday : List ℕ → List ℕ → List ℕ → TimedMonitor → TimedEntrance
after_everyday everyday wash windows m =
    entering shut (λ u. scheduling windows m 8192 (table_in everyday) u) (judging (judge_list wash) 8192)
