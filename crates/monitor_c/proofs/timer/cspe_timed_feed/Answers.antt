-- `monitor_c::timer::cspe_timed_feed` meets its contract: the record's length is tried first; then the outcome is that
-- of `timed_feed` on the record that the words hold, told by `tell_timed`. Assumes nothing.
use Rattle.wash_words.proofs.Call.Laws.{timed_unmeasured, timed_told}
use Rattle.monitor_c.proofs.timer.cspe_timed_feed.Goals as goal

pub returns-then-record-ne7 : goal.returns-then-record-ne7
returns-then-record-ne7 c = timed_unmeasured _ _ _ _ _ _ _ _ _ c.if-record-ne7.true

pub returns : goal.returns
returns c =
    let told = c.tell_timed in
    timed_told c.timed_feed-answer.result _ _ _ _ _ _ _ told.ensures _ _ _ _ _ _ _ _ c.load_timed-state.result
    c.if-record-ne7.false c.load_timed-state.ensures c.timed_feed-answer.ensures
