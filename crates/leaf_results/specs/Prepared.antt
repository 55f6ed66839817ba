-- A store filled for one residual; a tree that cannot take the event is passed over whole.
--     Loaded                      the residual in a store: a known tree whose results fit a slot
--     LeafFilled                 one leaf is filled
--     FilledBefore               a prefix filled before
--     TreeFrom, TreeFilled       the tree at a node; it is prepared
--     Fills                      the promise of `prepare`
-- The laws are in `Prepared/`: `Nodes` (one node), `Repeats` (a node whose word was there before), `Asked` (a tree that
-- takes the event, and one that does not), `Trees` (`prepare_tree`). Assumes nothing.
use Rattle.std.specs.Prelude.{ℕ, ◌+◌, ◌*◌, ◌<◌, ◌≤◌, ◌≡◌, List, ◌++◌, length, get_or, take}
use Rattle.table.specs.Table.{Table}
use Rattle.residuals.specs.Slots.{nodes}
use Rattle.residuals.specs.Residual.{Residual}
use Rattle.tree_walk.specs.Layout.{store_words}
use Rattle.tree_walk.specs.Walk.{leaf_kept, room}
use Rattle.tree_walk.specs.Forest.{Valid}
use Rattle.tree_walk.specs.Course.{node_count, nodes_from, LeafAt, Prepared, Ready}
use Rattle.leaf_results.specs.declared.preparing.TreeEnd.{TreeEnd}
use Rattle.leaf_memo.specs.Memo.{Memo}
pub mod Nodes
pub mod Repeats
pub mod Asked
pub mod Trees

pub record Loaded (t : Table) (bound e : ℕ) (store : List ℕ) : Type 0 where
  pub size : length store ≡ store_words
  pub memo : Memo t store
  pub few : node_count store ≤ 15
  pub event : e < t.alphabet
  pub whole : bound ≡ length t.definitions
  pub tree : Residual
  pub spelt : nodes_from store 1 ≡ nodes tree
  pub valid : Valid t tree
  pub room : room t e (nodes_from store 1) ≤ 15

-- the results of node k are filled in; nothing before its part is touched
pub record LeafFilled (t : Table) (e : ℕ) (old new : List ℕ) (k : ℕ) : Type 0 where
  pub before : take (k * 257) new ≡ take (k * 257) old
  pub leaf : LeafAt t e new (k * 257) (get_or old k 0)

-- a prefix before node k that is filled, or 0
pub record FilledBefore (t : Table) (e : ℕ) (store : List ℕ) (k last : ℕ) : Type 0 where
  pub before : last < k
  pub few : 0 < last → length (leaf_kept t e (get_or store last 0)) ≤ 256
  pub leaf : 0 < last → LeafAt t e store (last * 257) (get_or store last 0)

-- a tree's nodes stand in a store from k on
pub record TreeFrom (t : Table) (store : List ℕ) (k : ℕ) : Type 0 where
  pub first : 1 ≤ k
  pub tree : Residual
  pub tail : List ℕ
  pub spelt : nodes_from store k ≡ nodes tree ++ tail
  pub valid : Valid t tree

-- it is prepared; nothing before its parts is touched
pub record TreeFilled (t : Table) (e : ℕ) (old new : List ℕ) (k : ℕ) (c : TreeEnd) : Type 0 where
  pub before : take (k * 257) new ≡ take (k * 257) old
  pub tree : (r : Residual) (ws : List ℕ) → nodes_from old k ≡ nodes r ++ ws → Valid t r
      → Prepared t e new k r × (c.next ≡ k + length (nodes r))
  pub last : FilledBefore t e new c.next c.last

pub record Fills (t : Table) (bound e : ℕ) (old new : List ℕ) : Type 0 where
  pub ready : Ready t bound e new
  pub slot : take 257 new ≡ take 257 old
  pub tree : (r : Residual) → Valid t r → nodes_from old 1 ≡ nodes r → Prepared t e new 1 r
