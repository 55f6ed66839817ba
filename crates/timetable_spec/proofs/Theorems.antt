-- The claims of `specs/Claims.antt`, proved from the laws of `specs/Timetable/` and `specs/Windows/`, and the worked
-- timetables, by computing. Assumes nothing.
use lib.Dec.{T}
use Rattle.numbers.specs.Choice.{both_in}
use Rattle.timetable_spec.specs.Claims.{GoodExactly, WashExactly, ChangesExactly, WeekOrMore}
use Rattle.timetable_spec.specs.Examples.{lists, questions, judged_all, asked_all, Examples}
use Rattle.timetable_spec.specs.Timetable.{good_window, good_from, good_timetable, holds, wash_at, in_force}
use Rattle.timetable_spec.specs.Timetable.{some_window, distance, begins_by, begins, gaps_from, changes}
use Rattle.timetable_spec.proofs.Timetable.Exact.{changes_out, changes_in, week_out, week_in}
use Rattle.timetable_spec.proofs.Windows.Laws.{good_out, good_in, held_out, held_in}

pub good_exactly : GoodExactly
unfolding GoodExactly
good_exactly w = (good_out w, good_in w)

pub wash_exactly : WashExactly
unfolding WashExactly
wash_exactly ps m = (held_out ps m, held_in ps m)

pub changes_exactly : ChangesExactly
unfolding ChangesExactly
changes_exactly w l n g = (changes_out w l n g, changes_in w l n g)

pub week_or_more : WeekOrMore
unfolding WeekOrMore
week_or_more w l n g h = (
  λ c. week_out w l n (changes_out w l n g c),
  λ d. changes_in w l n g (week_in w l n d.0 d.1 h d.2),
)

judged_rows : T (judged_all lists)
unfolding good_timetable good_from good_window
judged_rows = tt

asked_rows : T (asked_all questions)
unfolding good_timetable good_from good_window in_force wash_at some_window holds changes begins begins_by distance gaps_from
asked_rows = tt

pub examples : Examples
unfolding Examples
examples = both_in (judged_all lists) (asked_all questions) judged_rows asked_rows
