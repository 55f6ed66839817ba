-- What Try gives and leaves, by conditions, and what it foretells (02, W4).
--     Alike          the further areas are as long as the first two
--     TryRefused     its refusals before an event: 1 for a further area, and those of Feed
--     tried          the record that stands after Try's answer, with the further areas
--     Foretells      a feeding call answers and leaves what Try did
-- Assumes nothing.
use Rattle.std.specs.Prelude.{ℕ, ◌≡◌, List, length}
use Rattle.monitor_spec.specs.State.{Monitor, Outcome}
use Rattle.monitor_spec.specs.Refusals.{CallRefused}
use Rattle.monitor_spec.specs.History.{afterwards}

-- "two further areas of the same length"
pub record Alike (m : Monitor) (c d : List ℕ) : Type 0 where
  pub first : length c ≡ length m.area0
  pub second : length d ≡ length m.area1

-- "gives Feed's answer, refusals included"
pub data TryRefused (l : List ℕ) (m : Monitor) (c d w : List ℕ) (n p : ℕ) : Type 0 where
  -- 1, "wrong measure: a lent length is not as above", place 0
  unlike : (Alike m c d → ⊥) → n ≡ 1 → p ≡ 0 → TryRefused l m c d w n p
  as_feed : Alike m c d → CallRefused l m w n p → TryRefused l m c d w n p

-- the copy of the monitor m, after a Try with the outcome o
abbrev pub tried : Monitor → Outcome → Monitor
tried m o = afterwards m o

-- "Operators want to know what events would do": what a feeding call then comes to
pub record Foretells (o fed : Outcome) : Type 0 where
  pub answer : fed.answer ≡ o.answer
  pub area0 : fed.area0 ≡ o.area0
  pub area1 : fed.area1 ≡ o.area1
