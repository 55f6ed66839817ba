-- `offering::offerer::words` meets its contract: the first word and the second. Assumes nothing.
use Rattle.offering.proofs.offerer.WordCases.{words_both}
use Rattle.offering.proofs.offerer.words.Goals as goal

pub word-first-requires : goal.word-first-requires
word-first-requires c =
    record {
      area_holds = c.requires.area_holds;
    }

pub word-second-requires : goal.word-second-requires
word-second-requires c =
    record {
      area_holds = c.requires.area_holds;
    }

pub returns : goal.returns
returns c = words_both _ _ _ _ c.word-first.ensures c.word-second.ensures
