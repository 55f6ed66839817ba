-- `feeder::take_piece` meets its contract, by those of `resume` and `after_piece`. Assumes nothing.
use Rattle.resuming.specs.Answers.Laws.{piece_taken}
use Rattle.state.specs.Record.{monitor_of}
use Rattle.resuming.proofs.feeder.take_piece.Goals as goal

pub returns : goal.returns
returns c =
    let args = c.args in
    piece_taken args.list.now (monitor_of args.state args.area0.now args.area1.now) args.events.now
    args.work.now c.resume.result _ _ _ c.resume.ensures args.last
    c.after_piece.result c.after_piece.ensures
