-- `state::consistency::slots_ascend` meets its contract. The invariant: the slots from the one before the i-th on ascend
-- exactly where all do. Assumes nothing.
use native.Mathlib.Omega.{arith}
use Prim.Native.Nat.{◌+◌, ◌-◌, ◌*◌}
use mathlib.Core.Path.{refl, ap, sym, ◌∙◌}
use Rattle.monitor_spec.specs.Consistent.{ascends}
use Rattle.state.proofs.consistency.SlotsTurn.{part_length, slots_first, after_goes, after_not, after_done}
use Rattle.state.proofs.consistency.slots_ascend.Goals as goal

pub loop-i-init : goal.loop-i-init
loop-i-init c = (omega arith, ap ascends (slots_first _ _))

pub below-requires : goal.below-requires
below-requires c =
    let turn = c.loop-i in
    let h = turn.invariant.0 in
    let p = turn.i * 16 in (
      part_length (p - 16) p _ (omega arith) (omega arith),
      part_length p (p + 16) _ refl (omega arith),
    )

pub returns-then-not-below : goal.returns-then-not-below
returns-then-not-below c =
    let turn = c.loop-i in
    after_not c.args.area.now c.args.count turn.i turn.invariant.0 c.loop-i-test.true
    (sym c.below.ensures ∙ c.if-not-below.true)
    ∙ turn.invariant.1

pub loop-i-preserved : goal.loop-i-preserved
loop-i-preserved c =
    let turn = c.loop-i in
    let e = after_goes c.args.area.now c.args.count turn.i turn.invariant.0 c.loop-i-test.true
    (sym c.below.ensures ∙ c.if-not-below.false) in
    (omega arith, e ∙ turn.invariant.1)

pub returns : goal.returns
returns c =
    let turn = c.loop-i in
    after_done c.args.area.now c.args.count turn.i turn.invariant.0 c.loop-i-test.false ∙ turn.invariant.1
