-- `whole::finish` meets its contract, by what the events leave. Assumes nothing.
use Rattle.line.specs.Answers.Whole.{end_going, end_over}
use Rattle.line.proofs.whole.finish.Goals as goal

pub returns-in-Continue : goal.returns-in-Continue
returns-in-Continue c =
    let args = c.args in
    end_going args.list.now args.state args.area0.now args.area1.now args.events.now
    args.work.now _ _ _ _ c.resume.ensures _ c.in-Continue.is c.conclude.result
    c.conclude.ensures

pub returns-in-Break : goal.returns-in-Break
returns-in-Break c =
    let args = c.args in
    end_over args.list.now args.state args.area0.now args.area1.now args.events.now
    args.work.now _ _ _ _ c.resume.ensures _ c.in-Break.is
