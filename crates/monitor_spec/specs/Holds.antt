-- An area as the operations read it (01, "Residuals": "An area holds slots ascending by first differing word, then
-- zeros").
--     AreaHolds     an area that holds the slots of proper residuals, so many
--     held_in       the residuals that so many slots of an area hold
-- The laws are in crate step_laws, `HeldAreas.antt`. Assumes nothing.
use Rattle.std.specs.Prelude.{ℕ, ◌≤◌, ◌≡◌, List, length}
use Rattle.numbers.specs.Every.{All}
use Rattle.table.specs.Table.{Table}
use Rattle.residuals.specs.Residual.{Residual}
use Rattle.residuals.specs.Slots.{slots_of}
use Rattle.monitor_spec.specs.Valid.{held}
use Rattle.monitor_spec.specs.State.{chunks, fill}
use Rattle.monitor_spec.specs.Proper.{Proper}

pub record AreaHolds (t : Table) (area : List ℕ) (count : ℕ) : Type 0 where
  pub residuals : List Residual
  -- how many the area has room for
  pub slots : ℕ
  pub proper : All (Proper t) residuals
  pub room : length (slots_of residuals) ≤ slots
  pub words : area ≡ fill slots (slots_of residuals)
  pub number : count ≡ length (slots_of residuals)

unfoldable pub held_in : Table → List ℕ → ℕ → List Residual
held_in t area count = held t (chunks count area)
