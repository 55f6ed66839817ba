-- `node_word::remember` meets its contract. Assumes nothing.
use borrow.Author.Rules.{rules}
use Rattle.node_word.specs.Word.{memory_bound, digit_bound, digit_bits}
use Rattle.node_word.proofs.Word.Laws.{first_unit, second_unit}
use Rattle.node_word.proofs.Word.Laws.{remember_word}
use Rattle.node_word.proofs.remember.Goals as goal

pub overflow_mul-result : goal.overflow_mul-result
unfolding memory_bound digit_bound digit_bits
overflow_mul-result c = search rules

pub overflow_add-result : goal.overflow_add-result
unfolding memory_bound digit_bound digit_bits
overflow_add-result c = search rules

pub returns : goal.returns
unfolding memory_bound first_unit second_unit digit_bound digit_bits
returns c = remember_word _ _ (search rules) (search rules)
