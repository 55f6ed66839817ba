-- `wash_entering::entry::schedule` meets its contract: 16, then 10. Assumes nothing.
use native.Mathlib.Omega.{arith}
use mathlib.Core.Path.{sym, ◌∙◌}
use Rattle.entering.specs.Entered.Laws.{areas_same}
use Rattle.wash_start.specs.Fresh.{ListAccepted}
use Rattle.wash_entering.proofs.entry.Scheduling.{scheduled_bad, scheduled_no, scheduled_yes}
use Rattle.wash_entering.proofs.entry.schedule.Goals as goal

pub returns-then-not-good_timetable : goal.returns-then-not-good_timetable
returns-then-not-good_timetable c =
    let args = c.args in
    scheduled_bad args.everyday.now args.wash.now args.windows.now args.state args.area0.now
    args.area1.now (sym c.good_timetable.ensures ∙ c.if-not-good_timetable.true)
    args.work.now _ c.requires.area1_value.1 c.clear_all.ensures

pub agrees-requires : goal.agrees-requires
agrees-requires c =
    record {
      list_accepted = c.requires.list_accepted;
      area0_len = (areas_same _ _ c.requires.area1_value.0, c.requires.area1_value.1);
    }

pub returns-then-agrees : goal.returns-then-agrees
unfolding ListAccepted
returns-then-agrees c =
    scheduled_yes _ _ _ _ _ _ (sym c.good_timetable.ensures ∙ c.if-not-good_timetable.false)
    _ _ (omega (arith, c.requires.area1_value.1)) c.agrees.ensures c.if-agrees.true c.requires.list_accepted.0
    c.requires.list_accepted.1.taken c.requires.area1_value.0

pub returns : goal.returns
returns c =
    scheduled_no _ _ _ _ _ _ (sym c.good_timetable.ensures ∙ c.if-not-good_timetable.false) _
    _ (omega (arith, c.requires.area1_value.1)) c.agrees.ensures c.if-agrees.false _
    c.clear_all-2.ensures
