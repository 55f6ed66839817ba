-- `line_monitor::pieces::feed_front` meets its contract, by what the front's events leave. Assumes nothing.
use Rattle.line_monitor.specs.Report.Front.{front_goes, front_over}
use Rattle.line_monitor.proofs.pieces.feed_front.Goals as goal

pub returns-in-Continue : goal.returns-in-Continue
returns-in-Continue c =
    let args = c.args in
    front_goes args.list.now args.state args.area0.now args.area1.now args.events.now
    args.work.now args.last _ _ _ _ c.take_piece.ensures _ c.in-Continue.is _
    c.large_buffer-piece.ensures c.follow.result c.follow.ensures

pub returns-in-Break : goal.returns-in-Break
returns-in-Break c =
    let args = c.args in
    front_over args.list.now args.state args.area0.now args.area1.now args.events.now
    args.work.now args.last _ _ _ _ c.take_piece.ensures _ c.in-Break.is
