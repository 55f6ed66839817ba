-- `feeder::resume` meets its contract, by Feed's answer. Assumes nothing.
use native.Mathlib.Omega.{arith}
use Rattle.std.specs.Prelude.{◌≡◌, Err}
use Rattle.state.specs.declared.answer.Declined.TheVariants.{Refused, Stopped}
use Rattle.resuming.specs.Answers.Pieces.{piece_given, piece_refused, piece_stopped}
use Rattle.resuming.proofs.feeder.resume.Goals as goal

pub returns-in-Ok : goal.returns-in-Ok
returns-in-Ok c =
    let args = c.args in
    piece_given args.list.now args.state args.area0.now args.area1.now args.events.now
    args.work.now _ _ _ _ c.feed.ensures _ c.in-Ok.is

pub returns-in-Err-Refused : goal.returns-in-Err-Refused
returns-in-Err-Refused c =
    let x = c.in-Err-Refused in
    let e : c.feed.result ≡ Err (Refused x.refusal) = grind arith in
    let args = c.args in
    piece_refused args.list.now args.state args.area0.now args.area1.now args.events.now
    args.work.now _ _ _ _ c.feed.ensures _ e c.refused.result
    c.refused.ensures

pub returns-in-Err-Stopped : goal.returns-in-Err-Stopped
returns-in-Err-Stopped c =
    let x = c.in-Err-Stopped in
    let e : c.feed.result ≡ Err (Stopped x.refusal x.last) = grind arith in
    let args = c.args in
    piece_stopped args.list.now args.state args.area0.now args.area1.now args.events.now
    args.work.now _ _ _ _ c.feed.ensures _ _ e
