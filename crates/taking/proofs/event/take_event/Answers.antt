-- `taking::event::take_event` meets its contract: the event is taken, or refused as it was. Assumes nothing.
use Rattle.taking.proofs.event.Tests.{taken_refused, taken_went}
use Rattle.taking.proofs.event.take_event.Goals as goal

-- the event is taken
pub returns-in-Ok : goal.returns-in-Ok
returns-in-Ok c =
    let args = c.args in (
      taken_went _ _ args.state args.area0.now args.area1.now _ _ _
          c.advance_present.ensures.0 _
          c.in-Ok.is c.after.result c.after.ensures,
      c.advance_present.ensures.1,
    )

-- it is refused
pub returns-in-Err : goal.returns-in-Err
returns-in-Err c =
    let args = c.args in (
      taken_refused _ _ args.state args.area0.now args.area1.now _ _ _
          c.advance_present.ensures.0 _
          c.in-Err.is,
      c.advance_present.ensures.1,
    )
