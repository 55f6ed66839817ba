-- An event on one table: `take_on`.
--     on_first, on_due, on_taken     before the first event; where a start is due; where none is
--     ready_free                     the test of the code says which area is zero
-- Assumes nothing.
use Prim.Native.Nat.{ℕ, ◌%◌}
use mathlib.Core.Path.{◌≡◌, ◌∙◌}
use mathlib.Core.Bool.{Bool, true, false}
use mathlib.Core.List.{List}
use lib.Dec.{eqb}
use Rattle.table_index.specs.Index.{table_in, Indexed}
use Rattle.monitor_spec.specs.State.{slot_count, even, choose}
use Rattle.state.specs.declared.record.State.{State}
use Rattle.state.specs.Record.{monitor_of}
use Rattle.taking.specs.Taking.{Taken}
use Rattle.std.specs.declared.result.Result.TheVariants.{Ok, Err}
use Rattle.feeding.specs.Feeding.{Standing, TakenBy}
use Rattle.wash_spec.specs.Taking.{take_fresh, take_on}
use Rattle.wash_state.specs.declared.answer.TimedState.{TimedState}
use Rattle.wash_state.specs.declared.answer.TimedState.TheVariants.{NotStarted, Started}
use Rattle.wash_state.specs.Answers.{timed_state_of}
use Rattle.wash_start.specs.Fresh.{AfreshBy, FreshBy, Free}
use Rattle.wash_event.specs.Event.{OnReady, AreasOn, OnBy}

-- before the first event area 1 is zero
pub ready_first : (l w : List ℕ) (due : Bool) (x : TimedState) (a b : List ℕ) → OnReady l w due x a b → x ≡ NotStarted
    → Free true a b
unfolding Free choose
ready_first l w due x a b h q = rw q at h

module _ (l w : List ℕ) (due : Bool) (x : TimedState) (a b : List ℕ) (h : OnReady l w due x a b) (s : State) (last : ℕ)
    (q : x ≡ Started s last) where
  started : OnReady l w due (Started s last) a b
  started = rw q at h

  -- the code tests the parity of the events taken
  pub ready_free : (r : Bool) → r ≡ eqb (s.taken % 2) 0 → Free r a b
  unfolding even
  ready_free r e = rw e started.0

  pub ready_stands : due ≡ false → Indexed l w × Standing (table_in l) (monitor_of s a b)
  ready_stands e = started.1 e

module _ (l : List ℕ) (due : Bool) (x : TimedState) (e : ℕ) (a b : List ℕ) (r : Taken) (a' b' work' : List ℕ) where
  afresh : take_on (table_in l) due (timed_state_of x) a b e ≡ take_fresh (table_in l) (slot_count a) e
      → FreshBy l e a b r a' b' work' → OnBy l due x e a b r a' b' work'
  afresh q f = record { areas = by r f.areas; index = f.index }
    where
      by : (u : Taken) → AfreshBy (table_in l) e a b u a' b' → AreasOn (table_in l) due x e a b u a' b'
      by (Ok s) g = q ∙ g
      by (Err k) g = (q ∙ g.0, g.1, g.2)

  pub on_first : x ≡ NotStarted → FreshBy l e a b r a' b' work' → OnBy l due x e a b r a' b' work'
  unfolding take_on
  on_first q f = afresh (rw q) f

  module _ (s : State) (last : ℕ) (q : x ≡ Started s last) where
    pub on_due : due ≡ true → FreshBy l e a b r a' b' work' → OnBy l due x e a b r a' b' work'
    unfolding take_on
    on_due d f = afresh (rw (q, d)) f

    pub on_taken : due ≡ false → Indexed l work' → TakenBy (table_in l) (monitor_of s a b) e r a' b'
        → OnBy l due x e a b r a' b' work'
    unfolding take_on
    on_taken d i g = record { areas = by r g; index = i }
      where
        same : take_on (table_in l) due (timed_state_of x) a b e
            ≡ take_on (table_in l) false (timed_state_of (Started s last)) a b e
        same = rw (q, d)

        by : (u : Taken) → TakenBy (table_in l) (monitor_of s a b) e u a' b' → AreasOn (table_in l) due x e a b u a' b'
        by (Ok v) k = same ∙ k
        by (Err n) k = (same ∙ k.0, k.1, k.2)
