-- What `specs/Claims.antt` says, proved by computing. Assumes nothing.
use mathlib.Core.Path.{refl}
use Rattle.decimal.specs.Decimal.{decimal_within, decimal}
use Rattle.format.specs.Text.{spelled, text_of}
use Rattle.format.specs.Claims.{Rows}

pub rows : Rows
unfolding Rows text_of spelled decimal decimal_within
rows = (refl, refl, refl, refl)
