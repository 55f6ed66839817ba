-- `washing::feeder::timed_feed` meets its contract: it is entered or refused; the work area is cleared last. Assumes
-- nothing.
use mathlib.Core.Path.{◌∙◌}
use Rattle.washing.proofs.feeder.Outcomes.{fed_declined, fed_ready, fed_pairs, fed_given}
use Rattle.washing.proofs.feeder.timed_feed.Goals as goal

pub take_all_timed-answer-requires : goal.take_all_timed-answer-requires
take_all_timed-answer-requires c =
    let args = c.args in
    let told = c.in-Ok.is in record {
      timed_ready = fed_ready args.everyday.now args.wash.now args.windows.now args.state args.area0.now
          args.area1.now args.events.now args.minutes.now args.work.now _ _
          c.enter_timed.ensures told;
      events_len = fed_pairs args.everyday.now args.wash.now
          args.windows.now args.state args.area0.now args.area1.now args.events.now
          args.minutes.now args.work.now _ _ c.enter_timed.ensures told;
    }

pub returns-in-Ok : goal.returns-in-Ok
returns-in-Ok c =
    let args = c.args in
    fed_given args.everyday.now args.wash.now args.windows.now args.state args.area0.now
    args.area1.now args.events.now args.minutes.now args.work.now _ _
    c.enter_timed.ensures c.in-Ok.is _ _ _
    c.take_all_timed-answer.new.work _
    c.take_all_timed-answer.ensures c.clear_all.ensures
    (c.take_all_timed-answer.auto.work ∙
    c.enter_timed.auto.work)

pub returns-in-Err : goal.returns-in-Err
returns-in-Err c =
    let args = c.args in
    fed_declined args.everyday.now args.wash.now args.windows.now args.state args.area0.now
    args.area1.now args.events.now args.minutes.now args.work.now _ _
    c.enter_timed.ensures _ c.in-Err.is
