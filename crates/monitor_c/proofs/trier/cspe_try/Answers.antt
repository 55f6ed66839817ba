-- `monitor_c::trier::cspe_try` meets its contract: the lengths of both records are tried first; then the outcome is
-- Try's on the record that the words hold, told by `tell`. Assumes nothing.
use Rattle.words_spec.proofs.Calls.Laws.{try_unread, try_unmeasured, try_told}
use Rattle.monitor_c.proofs.trier.cspe_try.Goals as goal

pub returns-then-record-ne5 : goal.returns-then-record-ne5
returns-then-record-ne5 c = try_unread _ _ _ _ _ _ _ _ _ c.if-record-ne5.true

pub returns-then-further_record-ne5 : goal.returns-then-further_record-ne5
returns-then-further_record-ne5 c = try_unmeasured _ _ _ _ _ _ _ _ _ c.if-record-ne5.false c.if-further_record-ne5.true

pub returns : goal.returns
returns c =
    let told = c.tell in
    try_told c.try_feed-answer.result _ _ _ _ _ _ _ told.ensures _ _ _ _ _ _ _ _ c.load-state.result
    c.if-record-ne5.false c.if-further_record-ne5.false c.load-state.ensures c.try_feed-answer.ensures
