-- `words::record::load` meets its contract: `state_in` reads the same five words. Assumes nothing.
use Rattle.words_spec.proofs.Words.Laws.{loaded}
use Rattle.words.proofs.record.load.Goals as goal

pub returns : goal.returns
returns c =
    let verdict-in = c.verdict_in in
    loaded verdict-in.result _ verdict-in.ensures
