-- `lot_sheet::main` is safe and ends: `fill` tells of the book what `answer` asks. Assumes nothing.
use Prim.Native.Nat.{ℕ}
use mathlib.Core.Path.{◌∙◌}
use lib.ListN.{length-replicate}
use Rattle.input.specs.Reading.Laws.{fills_part}
use Rattle.lot_sheet.proofs.main.Goals as goal

pub answer-requires : goal.answer-requires
answer-requires c =
    let fill = c.fill in
    (fill.auto.buffer ∙ length-replicate {A = ℕ} 65537 0, fills_part _ _ fill.ensures _ c.in-Ok.is)
