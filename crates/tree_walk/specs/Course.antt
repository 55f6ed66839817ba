-- The walk over the nodes of one residual: what it leans on, a place in it, and what it gives from there.
--     node_count, nodes_from  the nodes in a store, from one on
--     LeafAt, Prepared        the results of one leaf stand in the store; those of a tree's leaves
--     Ready, Served           what holds of the store; the trees that are to take the event are prepared
--     Place, walked           a place in the walk, and what the walk gives from there
--     leaf_rest               what is left of a leaf's results
-- A store has the residual's slot from 0 on, and for a leaf at k the number of its results at k * 257 and their indices
-- after it; for a pair 1 there where it can take the event, 0 only where it cannot. What stands behind the nodes' parts
-- the walk does not read. The laws are in `Course/`: `Nodes` (node words), `Turns` (the first tree at a place),
-- `Places`, `Pairs` and `Leaves` (the walk). Assumes nothing.
use Rattle.std.specs.Prelude.{ℕ, ◌+◌, ◌-◌, ◌*◌, ◌/◌, ◌%◌, ◌<◌, ◌≤◌, ◌^◌, ◌≡◌, true, ◌⊎◌, List, [], ◌∷◌, length, get_or, drop}
use Rattle.table.specs.Table.{Table}
use Rattle.table.specs.Memory.{remember}
use Rattle.node_word.specs.Word.{pack, term_of_word, memory_of}
use Rattle.residuals.specs.Residual.{Residual, leaf, pair}
use Rattle.residuals.specs.Slots.{nodes}
use Rattle.slots.specs.Holding.{Outcome, put_all}
use Rattle.resolving.specs.ResidualWords.{Clean}
use Rattle.resolving.specs.Distinct.{window, Resolvable}
use Rattle.resolving.specs.Words.{kind_at, holds_at}
use Rattle.resolving.specs.Lawful.{Lawful}
use Rattle.tree_walk.specs.Layout.{store_words}
use Rattle.tree_walk.specs.Walk.{leaf_kept, options, joins, results, room, onto}
use Rattle.tree_walk.specs.Forest.{Forest, after_kept}
pub mod Nodes
pub mod Turns
pub mod Places
pub mod Pairs
pub mod Leaves

abbrev pub node_count : List ℕ → ℕ
node_count store = get_or store 0 0

-- the node words from k on
unfoldable pub nodes_from : List ℕ → ℕ → List ℕ
nodes_from store k = window k (node_count store + 1 - k) store

-- ---- what stands in a store

-- the results of the leaf whose word is w, from p on: their number, and their indices after it
pub record LeafAt (t : Table) (e : ℕ) (store : List ℕ) (p w : ℕ) : Type 0 where
  pub number : get_or store p 0 ≡ length (leaf_kept t e w)
  pub indices : window (p + 1) (length (leaf_kept t e w)) store ≡ leaf_kept t e w

-- of the tree at k: of a leaf its results; of a pair those of its sides, but where its number is 0, which says that it
-- cannot take the event
abbrev pub Prepared : Table → ℕ → List ℕ → ℕ → Residual → Type 0
Prepared t e store k (leaf n m) = LeafAt t e store (k * 257) (pack n m)
Prepared t e store k (pair n m l r) =
    ((get_or store (k * 257) 0 ≡ 0) × (after_kept t e (pair n m l r) ≡ []))
    ⊎ ((get_or store (k * 257) 0 ≡ 1) × Prepared t e store (k + 1) l × Prepared t e store (k + 1 + length (nodes l)) r)

-- the trees from k on that are to take the event: the lowest bit of the modes says it of the first
abbrev pub Served : Table → ℕ → List ℕ → ℕ → ℕ → List Residual → Type 0
Served t e store k modes [] = Unit
Served t e store k modes (r ∷ rs) =
    ((modes % 2 ≡ 0 → ⊥) → Prepared t e store k r) × Served t e store (k + length (nodes r)) (modes / 2) rs

pub record Ready (t : Table) (bound e : ℕ) (store : List ℕ) : Type 0 where
  pub size : length store ≡ store_words
  pub few : node_count store ≤ 15
  pub law : Lawful t
  pub event : e < t.alphabet
  pub resolvable : (k : ℕ) → 1 ≤ k → k ≤ node_count store → kind_at t (get_or store k 0) ≡ 2
      → holds_at t e (get_or store k 0) ≡ true
      → Resolvable t bound (term_of_word (get_or store k 0) + 1) (remember e (memory_of (get_or store k 0)))

-- ---- a place in the walk

-- the trees from k on
pub record Trees (t : Table) (e : ℕ) (store : List ℕ) (k modes : ℕ) : Type 0 where
  pub forest : Forest t (nodes_from store k)
  pub served : Served t e store k modes forest.trees

pub record Place (t : Table) (e : ℕ) (store : List ℕ) (k modes : ℕ) (slot area : List ℕ) (count : ℕ) : Type 0 where
  pub first : 1 ≤ k
  pub last : k ≤ node_count store + 1
  pub bits : modes < 2 ^ k
  pub clean : Clean slot
  pub room : get_or slot 0 0 + room t e (nodes_from store k) ≤ 15
  pub held : count * 16 ≤ length area
  pub trees : Trees t e store k modes

-- what the walk gives from there
unfoldable pub walked : Table → ℕ → List ℕ → ℕ → ℕ → List ℕ → List ℕ → ℕ → Outcome
walked t e store k modes slot area count = put_all area count (onto slot (results t e (nodes_from store k) modes))

-- what is left of a leaf's results from the j-th on
unfoldable pub leaf_rest : Table → ℕ → List ℕ → ℕ → ℕ → List ℕ → List ℕ → ℕ → ℕ → Outcome
leaf_rest t e store k rest slot area c j =
    put_all area c
    (onto slot (joins (drop j (options t e (get_or store k 0))) (results t e (nodes_from store (k + 1)) rest)))
