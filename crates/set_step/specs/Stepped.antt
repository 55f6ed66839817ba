-- A set of residuals and one event.
--     slot_nodes             the node words of the i-th slot of an area
--     gathered               the slots of all results of n residuals, from the i-th on
--     SoundSlot, Source      what a step asks of the area it starts from
--     StepsOne, stepped_one  one residual: what its step asks, and its results held
--     SteppedOne, SteppedSet what is given: slots with the members of these are held
-- The laws are in `Stepped/One.antt` (one residual) and `Stepped/Laws.antt` (a set). Assumes nothing.
use Rattle.std.specs.Prelude.{ℕ, zero, suc, ◌+◌, ◌*◌, ◌<◌, ◌≤◌, ◌≡◌, List, [], ◌++◌, length, get_or}
use Rattle.table.specs.Table.{Table}
use Rattle.residuals.specs.Slots.{nodes}
use Rattle.residuals.specs.Residual.{Residual}
use Rattle.slots.specs.Holding.{Outcome, put_all, Gave, Held}
use Rattle.slots.specs.Canon.{SameMembers}
use Rattle.resolving.specs.Lawful.{Lawful}
use Rattle.resolving.specs.Distinct.{window, empty}
use Rattle.tree_walk.specs.Walk.{room, results, onto}
use Rattle.tree_walk.specs.Forest.{Valid}
use Rattle.leaf_memo.specs.Memo.{StoreOf}
pub mod One
pub mod Laws

unfoldable pub slot_nodes : List ℕ → ℕ → List ℕ
slot_nodes src i = window (i * 16 + 1) (get_or src (i * 16) 0) src

unfoldable pub gathered : Table → ℕ → List ℕ → ℕ → ℕ → List (List ℕ)
gathered t e src zero i = []
gathered t e src (suc n) i = onto empty (results t e (slot_nodes src i) 1) ++ gathered t e src n (i + 1)

-- the i-th slot holds one known tree, whose results fit a slot
pub record SoundSlot (t : Table) (e : ℕ) (src : List ℕ) (i : ℕ) : Type 0 where
  pub few : get_or src (i * 16) 0 ≤ 15
  pub tree : Residual
  pub spelt : slot_nodes src i ≡ nodes tree
  pub valid : Valid t tree
  pub room : room t e (slot_nodes src i) ≤ 15

pub record Source (t : Table) (e : ℕ) (src : List ℕ) (n : ℕ) : Type 0 where
  pub room : n * 16 ≤ length src
  pub event : e < t.alphabet
  pub slots : (i : ℕ) → i < n → SoundSlot t e src i

pub record StepsOne (t : Table) (bound e : ℕ) (src : List ℕ) (i : ℕ) (store dst : List ℕ) (c : ℕ) : Type 0 where
  pub law : Lawful t
  pub event : e < t.alphabet
  pub whole : bound ≡ length t.definitions
  pub inside : i * 16 + 16 ≤ length src
  pub slot : SoundSlot t e src i
  pub leaves : StoreOf t store
  pub held : c * 16 ≤ length dst

-- the results of the i-th residual, held
unfoldable pub stepped_one : Table → ℕ → List ℕ → ℕ → List ℕ → ℕ → Outcome
stepped_one t e src i dst c = put_all dst c (onto empty (results t e (slot_nodes src i) 1))

-- what is given: some slots are held, whose members are those of the results of the i-th residual
pub record SteppedOne (t : Table) (e : ℕ) (src : List ℕ) (i : ℕ) (dst : List ℕ) (c : ℕ) (r : Held) (dst' : List ℕ)
    : Type 0 where
  pub slots : List (List ℕ)
  pub members : SameMembers slots (onto empty (results t e (slot_nodes src i) 1))
  pub gave : Gave (put_all dst c slots) r dst'

-- the same of n residuals
pub record SteppedSet (t : Table) (e : ℕ) (src : List ℕ) (n : ℕ) (dst : List ℕ) (r : Held) (dst' : List ℕ)
    : Type 0 where
  pub slots : List (List ℕ)
  pub members : SameMembers slots (gathered t e src n 0)
  pub gave : Gave (put_all dst 0 slots) r dst'
