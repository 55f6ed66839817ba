-- `timetable::force::wash_at` meets its contract. Assumes nothing.
use native.Mathlib.Omega.{arith}
use mathlib.Core.Path.{refl, ◌∙◌}
use Rattle.timetable_spec.specs.Timetable.{holds, wash_at}
use Rattle.timetable.proofs.Places.{found_at, next_at, none_at}
use Rattle.timetable.proofs.force.wash_at.Goals as goal

pub loop-i-init : goal.loop-i-init
loop-i-init c = refl

pub returns-then-holds : goal.returns-then-holds
unfolding wash_at
returns-then-holds c =
    let k = c.loop-i in
    found_at (λ a b. holds a b _) c.args.windows.now k.i (omega arith) c.if-holds.ensures ∙ k.invariant

pub loop-i-preserved : goal.loop-i-preserved
unfolding wash_at
loop-i-preserved c =
    let k = c.loop-i in
    next_at (λ a b. holds a b _) c.args.windows.now k.i (omega arith) c.if-holds.ensures ∙ k.invariant

pub returns : goal.returns
unfolding wash_at
returns c =
    let k = c.loop-i in
    none_at (λ a b. holds a b _) c.args.windows.now k.i (omega arith) ∙ k.invariant
