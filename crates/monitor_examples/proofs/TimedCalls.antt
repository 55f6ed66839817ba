-- The worked calls in wash hours hold, by computing. Assumes nothing.
use mathlib.Core.Path.{refl}
use mathlib.Core.List.{flat_map, flatten}
use Rattle.table.specs.Table.{size, sizes, body_of, body_number, term_in, term_of_defs, term_at}
use Rattle.table.specs.Table.{prefixes_in, enclosing_in, enclosing}
use Rattle.numbers.specs.Number.{list_bytes, bytes_of, groups}
use Rattle.table.specs.Tokens.{list_tokens, trailing, place_of}
use Rattle.table.specs.Parser.{number, pure, next, and_then, times}
use Rattle.table.specs.Rows.{row_count, rows_of, rows_fit}
use Rattle.table.specs.Grammar.{events, row, set_of_kind, kind_fits, event_set, event_sets, ref_of_kind, set_ref, term_of_kind}
use Rattle.table.specs.Grammar.{term_with, definition, definitions_of, table}
use Rattle.table.specs.Writing.{row_numbers, set_numbers, ref_numbers, term_numbers, definition_numbers, numbers_of}
use Rattle.table.specs.First.{or_else, unless}
use Rattle.table.specs.References.{level_in, param_fits, call_fits, wrong_ref, wrong_in, wrong_from, first_wrong}
use Rattle.table.specs.Grow.{grow}
use Rattle.table.specs.Width.{width_with, widest, call_width, next_width, all_widths, level_width, reach, first_above}
use Rattle.table.specs.Width.{too_wide}
use Rattle.table.specs.Branches.{branches_with, branches_at, body_in, next_branches, all_branches, follower_above, body_above}
use Rattle.table.specs.Branches.{too_many_branches}
use Rattle.table.specs.Judge.{unless_met, placed, judge_read, judge, sized, judge_list}
use Rattle.table.specs.Memory.{digit, remember}
use Rattle.table.specs.Member.{elem, row_in, row_of, in_row, recalled, member}
use Rattle.meaning.specs.Figure1.{body_count}
use Rattle.residuals.specs.Residual.{pairs, resolve_in, resolve_def, resolve, after_leaf, after_pair, after}
use Rattle.residuals.specs.Residual.{after_all}
use Rattle.residuals.specs.Residual.{run}
use Rattle.residuals.specs.Residual.{from_definition, residuals_of}
use Rattle.node_word.specs.Word.{digit_bits, digit_bound, pack, term_of_word, memory_of}
use Rattle.residuals.specs.Keep.{keep}
use Rattle.slots.specs.Canon.{compare_words, insert_sorted, canon}
use Rattle.residuals.specs.Slots.{nodes, slot_of}
use Rattle.residuals.specs.Slots.{slots_of}
use Rattle.monitor_spec.specs.Valid.{join_trees, plant, plant_word, forest, one_tree, slot_residual, held, digit_fits}
use Rattle.monitor_spec.specs.Valid.{memory_fits, memories_fit, reach_at, reach_sum, valid_slot}
use Rattle.monitor_spec.specs.State.{next_verdict, fresh_state, state_after, areas_measured, work_measured, slot_count}
use Rattle.monitor_spec.specs.State.{counted, holding}
use Rattle.monitor_spec.specs.State.{even, choose, chunks, fill}
use Rattle.monitor_spec.specs.Consistent.{every, all_zero, ascends_from, ascends, verdict_fits, peak_fits, record_fits}
use Rattle.monitor_spec.specs.Consistent.{area_fits, consistent}
use Rattle.monitor_spec.specs.Entering.{measuring, judging, entrance, entering}
use Rattle.monitor_spec.specs.Fold.{through}
use Rattle.monitor_spec.specs.Feed.{present_slots, next_slots, taking, event_refused, take_event}
use Rattle.monitor_spec.specs.Open.{fresh_monitor}
use Rattle.monitor_spec.specs.Examples.{drawn}
use Rattle.timetable_spec.specs.Timetable.{good_window, good_from, good_timetable, some_window, holds, wash_at, in_force}
use Rattle.timetable_spec.specs.Timetable.{distance, begins_by, begins, gaps_from, changes}
use Rattle.wash_spec.specs.Taking.{drawing_at, clock_back, start_due, take_fresh, take_on, at_minute, take_timed}
use Rattle.wash_spec.specs.Entering.{timed_measured, agrees_by, timed_consistent, scheduling, timed_entrance}
use Rattle.wash_spec.specs.Feed.{timed_pairs, timed_ending, timed_refusing, timed_going, timed_of}
use Rattle.monitor_examples.specs.TimedRows.{RowsStand}

pub rows_stand : RowsStand
unfolding flat_map size sizes body_of body_number term_in term_of_defs term_at prefixes_in enclosing_in enclosing
    list_bytes bytes_of groups list_tokens trailing place_of number pure next and_then times
    events row set_of_kind event_set event_sets kind_fits row_count rows_of rows_fit ref_of_kind set_ref term_of_kind term_with
    definition definitions_of table
    row_numbers set_numbers ref_numbers term_numbers definition_numbers numbers_of or_else unless
    level_in param_fits call_fits wrong_ref wrong_in wrong_from first_wrong grow
    width_with widest call_width next_width all_widths level_width reach first_above too_wide
    branches_with branches_at body_in next_branches all_branches follower_above body_above too_many_branches
    unless_met placed judge_read judge sized judge_list digit remember elem row_in row_of in_row recalled member body_count
    pairs resolve_in resolve_def resolve after_leaf after_pair after after_all run from_definition residuals_of
    digit_bits digit_bound pack term_of_word memory_of keep nodes slot_of compare_words insert_sorted canon slots_of
    join_trees plant plant_word forest one_tree slot_residual held digit_fits memory_fits memories_fit reach_at reach_sum
    valid_slot
    areas_measured work_measured slot_count even choose chunks flatten fill
    every all_zero ascends_from ascends verdict_fits peak_fits record_fits area_fits consistent through
    present_slots next_slots next_verdict fresh_state state_after counted holding taking event_refused take_event drawn
    fresh_monitor
    measuring judging entrance entering
    good_window good_from good_timetable some_window holds wash_at in_force distance begins_by begins gaps_from changes
    drawing_at clock_back start_due take_fresh take_on at_minute take_timed
    timed_measured agrees_by timed_consistent scheduling timed_entrance
    timed_pairs timed_ending timed_refusing timed_going timed_of
rows_stand = (refl, refl)
