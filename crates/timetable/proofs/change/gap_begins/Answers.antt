-- `timetable::change::gap_begins` meets its contract. The invariant: the gaps from `end` and the windows from i on say
-- what all of them say. The measure is what is left of the list. Assumes nothing.
use native.Mathlib.Omega.{arith}
use mathlib.Core.Path.{refl, sym, ◌∙◌}
use Rattle.timetable_spec.specs.Timetable.{begins_by, begins}
use Rattle.timetable_spec.proofs.Timetable.Pairs.{gap_next, gap_found, gap_done}
use Rattle.timetable.proofs.change.gap_begins.Goals as goal

pub loop-i-init : goal.loop-i-init
loop-i-init c = (omega arith, refl)

pub returns-then-begins_by : goal.returns-then-begins_by
unfolding begins
returns-then-begins_by c =
    let k = c.loop-i in
    let w = c.args.windows.now in
    sym (gap_found (λ a b. begins_by a b _ _) w k.end k.i (omega arith)
    (sym c.begins_by.ensures ∙ c.if-begins_by.true))
    ∙ k.invariant.1

pub loop-i-smaller : goal.loop-i-smaller
loop-i-smaller c = omega arith

pub loop-i-preserved : goal.loop-i-preserved
unfolding begins
loop-i-preserved c =
    let k = c.loop-i in
    let w = c.args.windows.now in (
      omega arith,
      sym (gap_next (λ a b. begins_by a b _ _) w k.end k.i (omega arith)
          (sym c.begins_by.ensures ∙ c.if-begins_by.false))
          ∙ k.invariant.1,
    )

pub returns : goal.returns
unfolding begins
returns c =
    let k = c.loop-i in
    let w = c.args.windows.now in
    c.begins_by-2.ensures
    ∙ sym (gap_done (λ a b. begins_by a b _ _) w k.end k.i (omega arith)) ∙ k.invariant.1
