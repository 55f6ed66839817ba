-- Runs over a part of a call's events (ours): one comes to the call's answer, or to a monitor from which the events
-- left come to the same.
--     EndedFrom     what all events from a place on come to
--     ReachedAt     a monitor that is reached at a place
--     RunBy         the promise of a run from one place on, up to another at least
-- Their laws are in `Runs/Laws.antt`. Assumes nothing.
use Rattle.std.specs.Prelude.{ℕ, ◌≤◌, ◌≡◌, List, length, drop}
use Rattle.table.specs.Table.{Table}
use Rattle.table.specs.Operations.{zeros}
use Rattle.monitor_spec.specs.State.{Monitor}
use Rattle.monitor_spec.specs.Fold.{through}
use Rattle.monitor_spec.specs.Feed.{take_event, ending_of}
use Rattle.state.specs.Answers.{Answer}
use Rattle.state.specs.Record.{monitor_of}
use Rattle.state.specs.Answers.{outcome}
use Rattle.taking.specs.declared.run.Run.{Run}
use Rattle.taking.specs.declared.run.Run.TheVariants.{Ended, Left}
use Rattle.taking.specs.Taking.{Standing}
pub mod Laws

-- the events from place i on, from monitor m, come to answer r and areas a and b, with a work area of any length
unfoldable pub EndedFrom : Table → Monitor → List ℕ → ℕ → Answer → List ℕ → List ℕ → Type 0
EndedFrom t m es i r a b = (n : ℕ) → outcome r a b (zeros n) ≡ ending_of n (through (take_event t) m i (drop i es))

-- from monitor m at place i, monitor m' is reached at place j: the events left come to the same
pub record ReachedAt (t : Table) (m : Monitor) (es : List ℕ) (i : ℕ) (m' : Monitor) (j : ℕ) : Type 0 where
  pub standing : Standing t m'
  pub rest : through (take_event t) m i (drop i es) ≡ through (take_event t) m' j (drop j es)

-- a run from monitor m at place i: the call's answer, or a record and areas at place `to` or after it
unfoldable pub RunBy : Table → Monitor → List ℕ → ℕ → ℕ → Run → List ℕ → List ℕ → Type 0
RunBy t m es i to (Ended r) a b = EndedFrom t m es i r a b
RunBy t m es i to (Left s j) a b = ReachedAt t m es i (monitor_of s a b) j × (to ≤ j) × (j ≤ length es)
