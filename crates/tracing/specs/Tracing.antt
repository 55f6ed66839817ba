-- What holds between the calls of a trace, and what one event promises.
--     Tracing      the index of the list stands in the work area, and the monitor is laid out in 256 slots
--     TracedOn     the monitor after an event, with the events permitted next
--     TracedBy     the promise of `trace_event`
-- A loop over events keeps `Tracing l w m` together with `reached_by s ≡ at (table_in l) m` of crate trace_spec, where s
-- is what was read so far; `Tracing/Laws.antt` has both for the next event. Assumes nothing.
use Rattle.std.specs.Prelude.{ℕ, ◌≡◌, List, Result, Ok, Err}
use Rattle.table_index.specs.Index.{table_in, Indexed}
use Rattle.monitor_spec.specs.State.{Monitor}
use Rattle.monitor_spec.specs.Fold.{went, stops}
use Rattle.monitor_spec.specs.Feed.{take_event}
use Rattle.monitor_spec.specs.Sensible.{Laid}
use Rattle.state.specs.declared.record.State.{State}
use Rattle.state.specs.declared.answer.EventBits.{EventBits}
use Rattle.state.specs.Record.{monitor_of}
use Rattle.state.specs.Answers.{bits_of}
use Rattle.trace_spec.specs.Trace.{permitted_by}
use Rattle.tracing.specs.declared.answer.Traced.{Traced}
use Rattle.tracing.specs.declared.answer.Refused.{Refused}
pub mod Laws

-- of a number list l, the work words w and a monitor
pub record Tracing (l w : List ℕ) (m : Monitor) : Type 0 where
  pub indexed : Indexed l w
  pub laid : Laid (table_in l) 256 m

-- after event e, of a monitor m: the record s with the areas a and b
pub record TracedOn (l w : List ℕ) (m : Monitor) (e : ℕ) (s : State) (bits : EventBits) (a b : List ℕ) : Type 0 where
  pub takes : take_event (table_in l) m e ≡ went (monitor_of s a b)
  pub permitted : bits_of bits ≡ permitted_by (table_in l) (monitor_of s a b)
  pub tracing : Tracing l w (monitor_of s a b)

-- an event that is refused: "Events are placed from the input's first", and the areas are kept
pub record RefusedEvent (l : List ℕ) (m : Monitor) (e number place : ℕ) (a b : List ℕ) : Type 0 where
  pub stopped : take_event (table_in l) m e ≡ stops number
  pub placed : place ≡ m.state.taken
  pub first : a ≡ m.area0
  pub second : b ≡ m.area1

abbrev pub TracedBy : List ℕ → List ℕ → Monitor → ℕ → Result Traced Refused → List ℕ → List ℕ → Type 0
TracedBy l w m e (Ok t) a b = TracedOn l w m e t.state t.permitted a b
TracedBy l w m e (Err q) a b = RefusedEvent l m e q.number q.place a b
