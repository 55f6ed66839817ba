-- The worked examples hold, by computing. Assumes nothing.
use mathlib.Core.Path.{refl}
use mathlib.Core.List.{flat_map}
use Rattle.table.specs.Table.{size, sizes, body_of, body_number, term_in, term_of_defs, term_at}
use Rattle.table.specs.Memory.{digit, remember}
use Rattle.table.specs.Member.{elem, row_in, row_of, in_row, recalled, member}
use Rattle.meaning.specs.Figure1.{body_count}
use Rattle.node_word.specs.Word.{digit_bits, digit_bound, pack}
use Rattle.residuals.specs.Keep.{keep}
use Rattle.residuals.specs.Residual.{pairs, resolve_in, resolve_def, resolve, after_leaf, after_pair, after, after_all, run}
use Rattle.residuals.specs.Residual.{from_definition, residuals_of}
use Rattle.slots.specs.Canon.{compare_words, insert_sorted, canon}
use Rattle.residuals.specs.Slots.{nodes, slot_of, slots_of}
use Rattle.residuals.specs.Examples.{residuals_after, RowsHold, CallForgets, SlotsAscend}

pub rows_hold : RowsHold
unfolding flat_map size sizes body_of body_number term_in term_of_defs term_at digit remember elem row_in row_of in_row recalled
    member body_count keep pairs resolve_in resolve_def resolve after_leaf after_pair after after_all run from_definition
    residuals_of residuals_after RowsHold
rows_hold = refl

pub call_forgets : CallForgets
unfolding flat_map size sizes body_of body_number term_in term_of_defs term_at digit remember elem row_in row_of in_row recalled
    member body_count keep pairs resolve_in resolve_def resolve after_leaf after_pair after after_all run from_definition
    residuals_of CallForgets
call_forgets = refl

pub slots_ascend : SlotsAscend
unfolding digit_bits digit_bound pack nodes slot_of compare_words insert_sorted canon slots_of SlotsAscend
slots_ascend = refl
