-- `node_word::memory_of` meets its contract. Assumes nothing.
use Rattle.node_word.specs.Word.{memory_bound, digit_bound, digit_bits}
use Rattle.node_word.proofs.Word.Laws.{first_unit, second_unit}
use Rattle.node_word.proofs.Word.Laws.{memory_word}
use Rattle.node_word.proofs.memory_of.Goals as goal

pub returns : goal.returns
unfolding memory_bound first_unit second_unit digit_bound digit_bits
returns c = memory_word _
