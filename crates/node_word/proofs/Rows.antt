-- The worked examples hold, by computing. Assumes nothing.
use mathlib.Core.Path.{refl}
use Rattle.node_word.specs.Word.{digit_bits, digit_bound, pack, term_of_word, memory_of}
use Rattle.node_word.specs.Examples.{WordIs}

pub word_is : WordIs
unfolding digit_bits digit_bound pack term_of_word memory_of WordIs
word_is = (refl, refl, refl, refl, refl)
