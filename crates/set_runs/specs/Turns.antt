-- What runs over the sets that a call has met promise (ours), turn by turn.
--     Goes            record and set at a place, from some monitor
--     TurnBy          the promise of `take_turn`
--     GoesBy, Since   the promise of `take_turns`; what its loop keeps
-- The laws are in `proofs/turns/Laws.antt`. Assumes nothing.
use Rattle.std.specs.Prelude.{ℕ, List}
use Rattle.table.specs.Table.{Table}
use Rattle.monitor_spec.specs.State.{Monitor}
use Rattle.met_sets.specs.declared.run.Followed.{Followed}
use Rattle.met_sets.specs.declared.sets.MetSets.{MetSets}
use Rattle.taking.specs.declared.run.Run.{Run}
use Rattle.taking.specs.Runs.{RunBy}
use Rattle.learning.specs.OverSets.{Going, Turn, TurnTo}

-- from some monitor at some place
pub record Goes (t : Table) (es : List ℕ) (v : MetSets) (f : Followed) (a b : List ℕ) : Type 0 where
  pub m : Monitor
  pub i : ℕ
  pub going : Going t m es i v f a b

-- wherever the run began
pub record TurnBy (t : Table) (es : List ℕ) (v : MetSets) (f : Followed) (a b : List ℕ) (r : Turn) (v' : MetSets)
    (a' b' : List ℕ) : Type 0 where
  pub from : (m : Monitor) (i : ℕ) → Going t m es i v f a b → TurnTo t m es i f.place r v' a' b'

pub record GoesBy (t : Table) (es : List ℕ) (v : MetSets) (f : Followed) (a b : List ℕ) (r : Run) (a' b' : List ℕ)
    : Type 0 where
  pub from : (m : Monitor) (i : ℕ) → Going t m es i v f a b → RunBy t m es i f.place r a' b'

-- what is reached before is the beginning of what is reached now
pub record Since (t : Table) (es : List ℕ) (v : MetSets) (f : Followed) (a b : List ℕ) (v' : MetSets) (f' : Followed)
    (a' b' : List ℕ) : Type 0 where
  pub from : (m : Monitor) (i : ℕ) → Going t m es i v f a b → Going t m es i v' f' a' b'
