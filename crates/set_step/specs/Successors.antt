-- The residuals after an event, of all residuals of a set (01, "Residuals": "The set after a list is the union, event
-- by event": `after_all` of crate residuals).
--     SlotsHold    the slots of an area, from the i-th on, are those of residuals
--     all_kept     the residuals after an event, of all, with each leaf's repeats dropped
-- The laws are in `Successors/`: `Room` (they fit a slot) and `Laws` (what a step comes to). Assumes nothing.
use Rattle.std.specs.Prelude.{ℕ, ◌+◌, ◌≡◌, List, [], ◌∷◌, ◌++◌}
use Rattle.table.specs.Table.{Table}
use Rattle.residuals.specs.Residual.{Residual}
use Rattle.residuals.specs.Slots.{nodes}
use Rattle.tree_walk.specs.Forest.{Valid, after_kept}
use Rattle.set_step.specs.Stepped.{slot_nodes}
pub mod Room
pub mod Laws

-- the slots of an area, from the i-th on, are those of residuals
abbrev pub SlotsHold : Table → List ℕ → ℕ → List Residual → Type 0
SlotsHold t src i [] = Unit
SlotsHold t src i (r ∷ rs) = (slot_nodes src i ≡ nodes r) × Valid t r × SlotsHold t src (i + 1) rs

unfoldable pub all_kept : Table → ℕ → List Residual → List Residual
all_kept t e [] = []
all_kept t e (r ∷ rs) = after_kept t e r ++ all_kept t e rs
