-- `monitor_c::opener::cspe_open` meets its contract: the record's length is tried first; then the outcome is Open's,
-- told by `has_record` and `tell`. Assumes nothing.
use Rattle.words_spec.proofs.Calls.Laws.{open_unmeasured, open_told}
use Rattle.monitor_c.proofs.opener.cspe_open.Goals as goal

pub returns-then-record-ne5 : goal.returns-then-record-ne5
returns-then-record-ne5 c = open_unmeasured _ _ _ _ _ _ c.if-record-ne5.true

pub returns : goal.returns
returns c =
    let told = c.tell in
    open_told c.open-answer.result _ _ _ _ _ _ _ told.ensures _ c.has_record.ensures _ _ _ _ _
    c.if-record-ne5.false c.open-answer.ensures
