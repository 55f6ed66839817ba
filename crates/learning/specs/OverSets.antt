-- Runs over the sets that a call has met (ours): between two events the residuals are in the areas, or are a set kept
-- and both areas are zero.
--     Going, LaidOut    record and set at a place, with areas of zeros; with the set laid out in them
--     Stays             the latter, from some monitor
--     Turn, TurnTo      what is told of a turn; where it comes to
--     BegunBy           the promise of `begin_again`
--     LearnBy           the promise of `learn`
-- The laws are in `OverSets/Laws.antt`. Assumes nothing.
use Rattle.std.specs.Prelude.{ℕ, ◌≤◌, ◌<◌, ◌≡◌, List, length}
use Rattle.std.specs.declared.ops.ControlFlow.{ControlFlow}
use Rattle.std.specs.declared.ops.ControlFlow.TheVariants.{Continue, Break}
use Rattle.table.specs.Table.{Table}
use Rattle.monitor_spec.specs.Regular.{Regular}
use Rattle.monitor_spec.specs.State.{Monitor}
use Rattle.state.specs.declared.record.State.{State}
use Rattle.state.specs.Record.{monitor_of}
use Rattle.met_sets.specs.declared.run.Followed.{Followed}
use Rattle.met_sets.specs.declared.sets.MetSets.{MetSets}
use Rattle.met_sets.specs.Value.{MetIn}
use Rattle.met_sets.specs.Runs.{monitor_at, SetReached, Zeroed}
use Rattle.taking.specs.declared.run.Run.{Run}
use Rattle.taking.specs.Runs.{ReachedAt, RunBy}
pub mod Laws

-- from monitor m at place i, record and set f of the sets v are reached; areas a and b are zero
pub record Going (t : Table) (m : Monitor) (es : List ℕ) (i : ℕ) (v : MetSets) (f : Followed) (a b : List ℕ)
    : Type 0 where
  pub cap : ℕ
  pub met : MetIn t cap v
  pub follows : SetReached t cap v.count v.sets v.starts es m i f.state f.set f.place
  pub zeroed : Zeroed cap a b

-- the same, but the set is laid out in the areas
pub record LaidOut (t : Table) (m : Monitor) (es : List ℕ) (i : ℕ) (v : MetSets) (f : Followed) (a b : List ℕ)
    : Type 0 where
  pub cap : ℕ
  pub met : MetIn t cap v
  pub follows : SetReached t cap v.count v.sets v.starts es m i f.state f.set f.place
  pub same : monitor_of f.state a b ≡ monitor_at cap v.sets v.starts f.state f.set

-- from some monitor at some place
pub record Stays (t : Table) (es : List ℕ) (v : MetSets) (f : Followed) (a b : List ℕ) : Type 0 where
  pub m : Monitor
  pub i : ℕ
  pub out : LaidOut t m es i v f a b

-- the run is over, or a record and a set from which it goes on
abbrev pub Turn : Type 0
Turn = ControlFlow Run Followed

-- from monitor m at place i, after place j: the call's answer, a record and areas, or a record and a set kept
abbrev pub TurnTo : Table → Monitor → List ℕ → ℕ → ℕ → Turn → MetSets → List ℕ → List ℕ → Type 0
TurnTo t m es i j (Break r) v a b = RunBy t m es i j r a b
TurnTo t m es i j (Continue f) v a b = Going t m es i v f a b × (j < f.place) × (f.place ≤ length es)

-- the promise of `begin_again`, from a record and areas at place l, whatever the table is and wherever the run began
pub record BegunBy (v : MetSets) (s : State) (l : ℕ) (a b : List ℕ) (r : Turn) (v' : MetSets) (a' b' : List ℕ)
    : Type 0 where
  pub from : (t : Table) → Regular t → t.alphabet ≡ v.alphabet → (m : Monitor) (es : List ℕ) (i j : ℕ) → j < l
      → l ≤ length es → ReachedAt t m es i (monitor_of s a b) l → TurnTo t m es i j r v' a' b'

-- wherever the run began
pub record LearnBy (t : Table) (es : List ℕ) (v : MetSets) (f : Followed) (a b : List ℕ) (r : Turn) (v' : MetSets)
    (a' b' : List ℕ) : Type 0 where
  pub from : (m : Monitor) (i : ℕ) → LaidOut t m es i v f a b → TurnTo t m es i f.place r v' a' b'
