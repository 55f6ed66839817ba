-- `codec::writer::write_list` meets its contract: the judgement of the list, and its bytes where there is room for
-- them. Assumes nothing.
use native.Mathlib.Omega.{arith}
use Rattle.table.specs.Answers.{WriteSaid}
use Rattle.table.proofs.Passed.{passed}
use Rattle.codec.proofs.writer.Outcomes.{room, said_short, said_written, said_declined}
use Rattle.codec.proofs.writer.write_list.Goals as goal

pub returns-then-out-n : goal.returns-then-out-n
returns-then-out-n c =
    said_short _ _ _ _ c.check_list.ensures _ c.in_ok-check_list.was c.byte_place-n.ensures
    (omega arith)

pub encode-requires : goal.encode-requires
encode-requires c =
    room _ _ _ c.byte_place-n.ensures (omega arith)

pub returns : goal.returns
returns c =
    said_written _ _ _ _ c.check_list.ensures _ _ c.in_ok-check_list.was c.byte_place-n.ensures
    (omega arith) c.encode.ensures

pub returns-in_err-check_list : goal.returns-in_err-check_list
returns-in_err-check_list c =
    passed (λ r. WriteSaid c.args.list.now c.args.out.now r c.args.out.now) _ _ c.from_residual.ensures.1
    (said_declined _ _ _ _ c.check_list.ensures _ c.in_err-check_list.was)
