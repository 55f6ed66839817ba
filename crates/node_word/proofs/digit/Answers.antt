-- `node_word::digit` meets its contract: the match says which event it is. Assumes nothing.
use native.Mathlib.Omega.{arith}
use Rattle.node_word.specs.Word.{memory_bound, digit_bound, digit_bits}
use Rattle.node_word.proofs.Word.Laws.{first_unit, second_unit}
use Rattle.node_word.proofs.Word.Laws.{digit_0, digit_1, digit_2, digit_3}
use Rattle.node_word.proofs.digit.Goals as goal

pub returns-in-0 : goal.returns-in-0
unfolding memory_bound first_unit second_unit digit_bound digit_bits
returns-in-0 c = digit_0 _ _ c.in-0.is

pub returns-in-1 : goal.returns-in-1
unfolding memory_bound first_unit second_unit digit_bound digit_bits
returns-in-1 c = digit_1 _ _ c.in-1.is

pub returns-in-2 : goal.returns-in-2
unfolding memory_bound first_unit second_unit digit_bound digit_bits
returns-in-2 c = digit_2 _ _ c.in-2.is

pub returns-in-3-to-18446744073709551615 : goal.returns-in-3-to-18446744073709551615
unfolding memory_bound first_unit second_unit digit_bound digit_bits
returns-in-3-to-18446744073709551615 c = digit_3 _ _ (omega arith)
