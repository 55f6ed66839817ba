-- `monitor_c::offerer::cspe_offer` meets its contract: the record's length is tried first; then the outcome is Offer's
-- on the record that the words hold, told by `tell_offer`. Assumes nothing.
use Rattle.words_spec.proofs.Calls.Laws.{offer_unmeasured, offer_told}
use Rattle.monitor_c.proofs.offerer.cspe_offer.Goals as goal

pub returns-then-record-ne5 : goal.returns-then-record-ne5
returns-then-record-ne5 c = offer_unmeasured _ _ _ _ _ c.if-record-ne5.true

pub returns : goal.returns
returns c =
    offer_told c.offer-answer.result _ _ _ _ _ _ _ _ _ c.load.result c.tell_offer.ensures
    c.if-record-ne5.false c.load.ensures c.offer-answer.ensures
