-- `timetable::change::window_begins` meets its contract. Assumes nothing.
use native.Mathlib.Omega.{arith}
use mathlib.Core.Path.{refl, ◌∙◌}
use Rattle.timetable_spec.specs.Timetable.{begins_by, begins}
use Rattle.timetable.proofs.Places.{found_at, next_at, none_at}
use Rattle.timetable.proofs.change.window_begins.Goals as goal

pub loop-i-init : goal.loop-i-init
loop-i-init c = refl

pub returns-then-begins_by : goal.returns-then-begins_by
unfolding begins
returns-then-begins_by c =
    let k = c.loop-i in
    found_at (λ a b. begins_by a b _ _) c.args.windows.now k.i (omega arith) c.if-begins_by.ensures ∙ k.invariant

pub loop-i-preserved : goal.loop-i-preserved
unfolding begins
loop-i-preserved c =
    let k = c.loop-i in
    next_at (λ a b. begins_by a b _ _) c.args.windows.now k.i (omega arith) c.if-begins_by.ensures ∙ k.invariant

pub returns : goal.returns
unfolding begins
returns c =
    let k = c.loop-i in
    none_at (λ a b. begins_by a b _ _) c.args.windows.now k.i (omega arith) ∙ k.invariant
