-- `node_word::term_of` meets its contract, which is its code. Assumes nothing.
use mathlib.Core.Path.{refl}
use Rattle.node_word.specs.Word.{digit_bits, term_of_word}
use Rattle.node_word.proofs.term_of.Goals as goal

pub returns : goal.returns
unfolding term_of_word digit_bits
returns c = refl
