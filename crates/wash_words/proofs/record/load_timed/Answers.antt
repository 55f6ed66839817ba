-- `wash_words::record::load_timed` meets its contract: the word that says whether there is a record is tried, and
-- `timed_in` reads the same words. Assumes nothing.
use Rattle.wash_words.proofs.Words.Laws.{loaded_none, loaded}
use Rattle.wash_words.proofs.record.load_timed.Goals as goal

pub returns-then-record-eq0 : goal.returns-then-record-eq0
returns-then-record-eq0 c = loaded_none _ c.if-record-eq0.true

pub returns : goal.returns
returns c =
    loaded c.load-state.result _ c.requires c.if-record-eq0.false c.load-state.ensures
