-- `line_monitor::pieces::turn` meets its contract: what is fed is the part of the piece that was filled. Assumes
-- nothing.
use native.Mathlib.Omega.{arith}
use mathlib.Core.Path.{sym}
use lib.Seq.{length-take-le}
use Rattle.line_monitor.proofs.pieces.turn.Goals as goal

pub slice_bounds-take_piece-end : goal.slice_bounds-take_piece-end
slice_bounds-take_piece-end c = sym (length-take-le _ _ (omega arith))

pub returns : goal.returns
returns c =
    rw (c.count-n.ensures, c.last.ensures) at c.take_piece.ensures
