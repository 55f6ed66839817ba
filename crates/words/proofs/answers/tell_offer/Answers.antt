-- `words::answers::tell_offer` meets its contract, by the cases of an answer. Assumes nothing.
use Rattle.words_spec.proofs.Calls.Laws.{tell_offers, tell_declined}
use Rattle.words.proofs.answers.tell_offer.Goals as goal

pub returns-in-Ok : goal.returns-in-Ok
returns-in-Ok c = tell_offers _ _ c.in-Ok.is

pub returns-in-Err : goal.returns-in-Err
returns-in-Err c = tell_declined _ _ c.in-Err.is
