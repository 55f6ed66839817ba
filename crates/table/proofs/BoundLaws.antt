-- Every row of `Bounds` holds, by computing: `bounds_hold`. Assumes nothing.
use mathlib.Core.List.{flat_map}
use Rattle.std.specs.Prelude.{T}
use Rattle.numbers.specs.Number.{bytes_of, read_number, list_bytes, scan_with, carry, later, groups}
use Rattle.table.specs.Table.{size}
use Rattle.table.specs.Tokens.{list_tokens, byte_token, byte_tokens_with, byte_tokens, trailing, place_of}
use Rattle.table.specs.Parser.{number, pure, next, and_then, times}
use Rattle.table.specs.Rows.{row_count, rows_of, rows_fit}
use Rattle.table.specs.Grammar.{events, row, set_of_kind, kind_fits, event_set, event_sets, ref_of_kind, set_ref}
use Rattle.table.specs.Grammar.{term_of_kind, term_with, definition, definitions_of, table}
use Rattle.table.specs.Writing.{row_numbers, set_numbers, ref_numbers, term_numbers, definition_numbers, numbers_of}
use Rattle.table.specs.First.{or_else, unless}
use Rattle.table.specs.References.{level_in, param_fits, call_fits, wrong_ref, wrong_in, wrong_from, first_wrong}
use Rattle.table.specs.Grow.{grow}
use Rattle.table.specs.Width.{width_with, widest, call_width, next_width, all_widths, first_above, too_wide}
use Rattle.table.specs.Branches.{branches_with, branches_at, body_in, next_branches, all_branches, follower_above}
use Rattle.table.specs.Branches.{body_above, too_many_branches}
use Rattle.table.specs.Judge.{unless_met, placed, judge_read, judge, judge_bytes, sized, judge_list}
use Rattle.table.specs.Examples.{bytes_are, list_is, every}
use Rattle.table.specs.Bounds.{alphabet_rows, set_rows, row_rows, definition_rows, parameter_rows, call_rows}
use Rattle.table.specs.Bounds.{width_rows, branch_rows, order_rows}

pub bounds_hold : T (every alphabet_rows) × T (every set_rows) × T (every row_rows) × T (every definition_rows)
    × T (every parameter_rows) × T (every call_rows) × T (every width_rows) × T (every branch_rows) × T (every order_rows)
unfolding alphabet_rows set_rows row_rows definition_rows parameter_rows call_rows width_rows branch_rows order_rows bytes_are
    list_is judge_bytes judge judge_read byte_tokens byte_tokens_with byte_token read_number scan_with carry later table number
    and_then next pure times events row set_of_kind event_set event_sets kind_fits row_count rows_of rows_fit ref_of_kind set_ref
    term_of_kind term_with definition definitions_of size list_tokens unless_met placed place_of trailing first_wrong wrong_from
    wrong_in wrong_ref param_fits call_fits level_in or_else unless row_numbers set_numbers ref_numbers term_numbers
    definition_numbers flat_map numbers_of width_with widest call_width next_width all_widths grow first_above too_wide
    branches_with branches_at body_in next_branches all_branches follower_above body_above too_many_branches judge_list sized
    list_bytes bytes_of groups
bounds_hold = (tt, tt, tt, tt, tt, tt, tt, tt, tt)
