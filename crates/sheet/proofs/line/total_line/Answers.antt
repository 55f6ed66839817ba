-- `line::total_line` meets its contract: the parts stand one after the other in a line of spaces. Assumes nothing.
use native.Mathlib.Omega.{arith}
use Rattle.sheet_spec.proofs.Line.Laws.{total_done}
use Rattle.sheet.proofs.line.total_line.Goals as goal

pub returns : goal.returns
returns c =
    total_done c.args.sum (omega (arith, c.ranges.sum)) c.args.line.now _ _ _ c.requires
    (c.fill.ensures.after (λ y e. e)) c.copy_from_slice.ensures.after c.right.ensures
