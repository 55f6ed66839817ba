-- `timetable::judging::good_timetable` meets its contract. The invariant: the windows from i on, which are to begin at
-- `floor` or later, say what all of them say. The measure is what is left of the list. Assumes nothing.
use native.Mathlib.Omega.{arith}
use mathlib.Core.Path.{refl, sym, ◌∙◌}
use Rattle.timetable_spec.specs.Timetable.{good_timetable}
use Rattle.timetable_spec.proofs.Timetable.Pairs.{good_next, good_bad, good_done}
use Rattle.timetable.proofs.judging.good_timetable.Goals as goal

pub loop-i-init : goal.loop-i-init
unfolding good_timetable
loop-i-init c = (omega arith, refl)

pub loop-i-smaller : goal.loop-i-smaller
loop-i-smaller c = omega arith

pub loop-i-preserved : goal.loop-i-preserved
loop-i-preserved c =
    let k = c.loop-i in
    let w = c.args.windows.now in (
      omega arith,
      sym (good_next w k.floor k.i (omega arith) (sym c.good.ensures ∙ c.if-not-good.false))
          ∙ k.invariant.1,
    )

pub returns-then-not-good : goal.returns-then-not-good
returns-then-not-good c =
    let k = c.loop-i in
    let w = c.args.windows.now in
    sym (good_bad w k.floor k.i (omega arith) (sym c.good.ensures ∙ c.if-not-good.true)) ∙ k.invariant.1

pub returns : goal.returns
returns c =
    let k = c.loop-i in
    let w = c.args.windows.now in
    sym (good_done w k.floor k.i k.invariant.0 (omega arith)) ∙ k.invariant.1
