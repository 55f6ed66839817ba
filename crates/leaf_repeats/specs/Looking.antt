-- What a look at a residual's results asks; nothing is promised of it.
--     LooksLeaf     one leaf that takes the event, and whose results fit a slot
--     Looks         n nodes from p on, the marked leaves of which are such
-- The laws are in `Looking/Laws.antt`. Assumes nothing.
use Rattle.std.specs.Prelude.{ℕ, ◌+◌, ◌<◌, ◌≤◌, ◌≡◌, List, map, length}
use Rattle.table.specs.Table.{Table}
use Rattle.residuals.specs.Slots.{nodes}
use Rattle.resolving.specs.Distinct.{window}
use Rattle.tree_walk.specs.Walk.{leaf_results, longest, room}
use Rattle.tree_ways.specs.Only.{Active, Movable}
pub mod Laws

pub record LooksLeaf (t : Table) (bound e w : ℕ) : Type 0 where
  pub event : e < t.alphabet
  pub whole : bound ≡ length t.definitions
  pub active : Active t e w
  pub room : longest (map nodes (leaf_results t e w)) ≤ 15

pub record Looks (t : Table) (bound e : ℕ) (src : List ℕ) (p n each : ℕ) : Type 0 where
  pub event : e < t.alphabet
  pub whole : bound ≡ length t.definitions
  pub inside : p + n ≤ length src
  pub can : Movable t e (window p n src) each
  pub room : room t e (window p n src) ≤ 15
