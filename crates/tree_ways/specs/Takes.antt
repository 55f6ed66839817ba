-- Whether a residual may take an event (01, "Operations": "exactly when the residuals after e, crowded or not, are
-- not empty"), of the tree whose words stand at a place of an area.
--     leaf_takes  whether a prefix may
--     pair_takes  whether a pair may, by its sides
--     TreeAt      a tree's words stand there
--     Takes       what is said of it
-- The laws are in `Takes/Counts.antt` (how many residuals there are) and `Takes/Laws.antt`. Assumes nothing.
use Rattle.std.specs.Prelude.{ℕ, ◌+◌, ◌≡◌, Bool, true, false, List, ◌++◌, length, drop, ltb}
use Rattle.table.specs.Table.{Table}
use Rattle.tree_ways.specs.declared.takes.Tree.{Tree}
use Rattle.node_word.specs.Word.{term_of_word}
use Rattle.residuals.specs.Residual.{Residual, after}
use Rattle.residuals.specs.Slots.{nodes}
use Rattle.resolving.specs.Words.{holds_at}
use Rattle.table.specs.Branches.{branches}
use Rattle.table.specs.Branches.Capped.{capped}
use Rattle.table.specs.Node.{term_of}
use Rattle.tree_walk.specs.Forest.{Valid}
pub mod Counts
pub mod Laws

-- of a prefix's word: its set holds the event, and its follower has a branch
unfoldable pub leaf_takes : Table → ℕ → ℕ → Bool
leaf_takes t e w =
    elim (holds_at t e w) [ true ↦ ltb 0 (capped (branches t (term_of t (term_of_word w + 1)))) | false ↦ false ]

-- of a pair, by its left side, its right side, and whether its set holds the event: then both must
unfoldable pub pair_takes : Bool → Bool → Bool → Bool
pair_takes left right held =
    elim held [
      | true ↦ elim left [ true ↦ right | false ↦ false ]
      | false ↦ elim left [ true ↦ true | false ↦ right ]
    ]

pub record TreeAt (t : Table) (area : List ℕ) (k : ℕ) : Type 0 where
  pub tree : Residual
  pub tail : List ℕ
  pub spelt : drop k area ≡ nodes tree ++ tail
  pub valid : Valid t tree

pub record Takes (t : Table) (e : ℕ) (area : List ℕ) (k : ℕ) (c : Tree) : Type 0 where
  pub of : (r : Residual) (ws : List ℕ) → drop k area ≡ nodes r ++ ws → Valid t r
      → (c.moves ≡ ltb 0 (length (after t e r))) × (c.next ≡ k + length (nodes r))
