-- `offering::offerer::word` meets its contract: from b on there are no events, fewer than a word has bits for, or
-- enough. Assumes nothing.
use native.Mathlib.Omega.{arith}
use Rattle.monitor_spec.specs.Offer.{word_bits}
use Rattle.offering.proofs.offerer.WordCases.{word_none, word_short, word_full}
use Rattle.offering.proofs.offerer.word.Goals as goal

-- there are none
pub returns-then-alphabet-b : goal.returns-then-alphabet-b
returns-then-alphabet-b c = word_none _ _ _ _ c.alphabet-alphabet.ensures.0 c.if-alphabet-b.true

-- fewer than a word has bits for
pub bits-requires : goal.bits-requires
unfolding word_bits
bits-requires c =
    let size = c.alphabet-alphabet.ensures.0 in
    record {
      area_holds = c.requires.area_holds;
      n_le_word_bits = (omega arith, omega arith);
    }

pub returns-then-n-lt-WORD_BITS : goal.returns-then-n-lt-WORD_BITS
returns-then-n-lt-WORD_BITS c =
    let size = c.alphabet-alphabet.ensures.0 in
    word_short _ _ _ _ size _ c.if-n-lt-WORD_BITS.true c.bits.ensures

-- enough
pub bits-requires-2 : goal.bits-requires-2
unfolding word_bits
bits-requires-2 c =
    let size = c.alphabet-alphabet.ensures.0 in
    record {
      area_holds = c.requires.area_holds;
      n_le_word_bits = (omega arith, omega arith);
    }

pub returns : goal.returns
returns c =
    let size = c.alphabet-alphabet.ensures.0 in
    word_full _ _ _ _ size _ c.if-n-lt-WORD_BITS.false c.bits-2.ensures
