-- `timetable::change::changes` meets its contract: which windows are asked is which table is in force. Assumes nothing.
use Prim.Native.Nat.{◌%◌}
use mathlib.Core.Path.{sym, ap, ◌∙◌}
use Rattle.timetable_spec.specs.Timetable.{week, begins, gaps_from, changes}
use Rattle.timetable.proofs.change.changes.Goals as goal

pub returns-then-in_force : goal.returns-then-in_force
unfolding changes
returns-then-in_force c =
    let args = c.args in
    let w = args.windows.now in
    let f = sym c.in_force.ensures ∙ c.if-in_force.true in
    rw f
    (c.gap_begins.ensures
    ∙ ap (begins (gaps_from 0 w) (args.last % week)) c.saturating_sub-minutes.ensures)

pub returns : goal.returns
unfolding changes
returns c =
    let args = c.args in
    let w = args.windows.now in
    let f = sym c.in_force.ensures ∙ c.if-in_force.false in
    rw f (c.window_begins.ensures ∙ ap (begins w (args.last % week)) c.saturating_sub-minutes.ensures)
