-- `codec::reader::read` meets its contract: both lent lengths are tried first, and the work area is cleared last.
-- Assumes nothing.
use native.Mathlib.Omega.{arith}
use Rattle.codec.proofs.reader.Outcomes.{read_wrong_output, read_wrong_work, read_said}
use Rattle.codec.proofs.reader.read.Goals as goal

pub returns-then-out-ne16384 : goal.returns-then-out-ne16384
returns-then-out-ne16384 c = read_wrong_output _ _ _ c.if-out-ne16384.true

pub returns-then-work-ne8192 : goal.returns-then-work-ne8192
returns-then-work-ne8192 c = read_wrong_work _ _ _ c.if-out-ne16384.false c.if-work-ne8192.true

pub returns : goal.returns
returns c =
    read_said _ _ _ _ _ c.read_bytes-answer.new.work _ c.if-out-ne16384.false c.if-work-ne8192.false
    c.read_bytes-answer.ensures c.clear_all.ensures (omega arith)
