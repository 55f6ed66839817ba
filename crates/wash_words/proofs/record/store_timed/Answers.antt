-- `wash_words::record::store_timed` meets its contract, by the cases of a state. Assumes nothing.
use Rattle.wash_words.proofs.Words.Laws.{words_none, words_started}
use Rattle.wash_words.proofs.record.store_timed.Goals as goal

pub returns-in-NotStarted : goal.returns-in-NotStarted
returns-in-NotStarted c =
    let zero = c.zero_state in
    words_none _ zero.result _ c.in-NotStarted.is zero.ensures
    c.store_at.ensures

pub returns-in-Started : goal.returns-in-Started
returns-in-Started c =
    words_started _ _ _ _ c.in-Started.is c.store_at-in-Started.ensures
