-- The results that moves say, held: one leaf that moves, in each residual that it comes to, and one leaf after the
-- other.
--     StepsLeaf, stepped_leaf        one leaf: what its step asks, and what it gives
--     StepsMoves, stepped_moves      the leaves that moves say
-- The laws are in `Moving/Leaves.antt` and `Moving/Moves.antt`. Assumes nothing.
use Rattle.std.specs.Prelude.{ℕ, ◌+◌, ◌-◌, ◌*◌, ◌/◌, ◌<◌, ◌≤◌, ◌≡◌, List, length, get_or}
use Rattle.table.specs.Table.{Table}
use Rattle.resolving.specs.Lawful.{Lawful}
use Rattle.resolving.specs.Distinct.{window}
use Rattle.tree_walk.specs.Walk.{onto}
use Rattle.slots.specs.Holding.{Outcome, put_all}
use Rattle.tree_ways.specs.Only.{rebuilt, tried, moved, Active, Movable, Rest}
pub mod Leaves
pub mod Moves

-- a leaf at p, of n nodes; a slot has what becomes of the nodes before it
pub record StepsLeaf (t : Table) (bound e : ℕ) (src : List ℕ) (p n also : ℕ) (slot dst : List ℕ) (c : ℕ)
    : Type 0 where
  pub law : Lawful t
  pub event : e < t.alphabet
  pub whole : bound ≡ length t.definitions
  pub inside : p + n ≤ length src
  pub some : 0 < n
  pub active : Active t e (get_or src p 0)
  pub rest : Rest t e (window p n src) also slot
  pub held : c * 16 ≤ length dst

unfoldable pub stepped_leaf : Table → ℕ → List ℕ → ℕ → ℕ → ℕ → List ℕ → List ℕ → ℕ → Outcome
stepped_leaf t e src p n also slot dst c =
    put_all dst c (onto slot (tried t e (get_or src p 0) (rebuilt t e (window (p + 1) (n - 1) src) (also / 2))))

-- n nodes from p on; a slot has what becomes of the nodes before them
pub record StepsMoves (t : Table) (bound e : ℕ) (src : List ℕ) (p n each also : ℕ) (slot dst : List ℕ) (c : ℕ)
    : Type 0 where
  pub law : Lawful t
  pub event : e < t.alphabet
  pub whole : bound ≡ length t.definitions
  pub inside : p + n ≤ length src
  pub can : Movable t e (window p n src) each
  pub rest : Rest t e (window p n src) also slot
  pub held : c * 16 ≤ length dst

unfoldable pub stepped_moves : Table → ℕ → List ℕ → ℕ → ℕ → ℕ → ℕ → List ℕ → List ℕ → ℕ → Outcome
stepped_moves t e src p n each also slot dst c = put_all dst c (onto slot (moved t e (window p n src) each also))
