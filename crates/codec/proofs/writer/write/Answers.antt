-- `codec::writer::write` meets its contract: the work area's length is tried first, and the work area is cleared last.
-- Assumes nothing.
use native.Mathlib.Omega.{arith}
use Rattle.codec.proofs.writer.Outcomes.{write_wrong_work, write_said}
use Rattle.codec.proofs.writer.write.Goals as goal

pub returns-then-work-ne8192 : goal.returns-then-work-ne8192
returns-then-work-ne8192 c = write_wrong_work _ _ _ c.if-work-ne8192.true

pub returns : goal.returns
returns c =
    write_said _ _ _ _ _ c.write_list-answer.new.work _ c.if-work-ne8192.false
    c.write_list-answer.ensures c.clear_all.ensures (omega arith)
