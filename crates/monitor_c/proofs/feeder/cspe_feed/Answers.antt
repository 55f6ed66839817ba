-- `monitor_c::feeder::cspe_feed` meets its contract: the record's length is tried first; then the outcome is Feed's on
-- the record that the words hold, told by `tell`. Assumes nothing.
use Rattle.words_spec.proofs.Calls.Laws.{feed_unmeasured, feed_told}
use Rattle.monitor_c.proofs.feeder.cspe_feed.Goals as goal

pub returns-then-record-ne5 : goal.returns-then-record-ne5
returns-then-record-ne5 c = feed_unmeasured _ _ _ _ _ _ c.if-record-ne5.true

pub returns : goal.returns
returns c =
    let told = c.tell in
    feed_told c.feed-answer.result _ _ _ _ _ _ _ told.ensures _ _ _ _ _ c.load.result
    c.if-record-ne5.false c.load.ensures c.feed-answer.ensures
