-- The residuals of a definition's body, held in an area (01, "Operations": "Start settles the last definition into
-- area 0").
--     ResolvesAll      every residual of the definition fits a slot
--     initial          their slots, a slot as often as residuals have it
-- The laws are in `Started/Laws.antt`. Assumes nothing.
use Rattle.std.specs.Prelude.{ℕ, ◌<◌, List, map, length}
use Rattle.table.specs.Table.{Table}
use Rattle.meaning.specs.Figure1.{body_count}
use Rattle.residuals.specs.Residual.{resolve_def}
use Rattle.residuals.specs.Slots.{slot_of}
use Rattle.resolving.specs.ResidualWords.{ResolvesDefinition}
use Rattle.resolving.specs.Distinct.{empty}
pub mod Laws

pub record ResolvesAll (t : Table) (d : ℕ) : Type 0 where
  pub known : d < length t.definitions
  pub each : (i : ℕ) → i < length (resolve_def t (body_count t) d) → ResolvesDefinition t d i empty

abbrev pub initial : Table → ℕ → List (List ℕ)
initial t d = map slot_of (resolve_def t (body_count t) d)
