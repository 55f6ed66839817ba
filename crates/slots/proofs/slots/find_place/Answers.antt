-- `slots::slots::find_place` meets its contract. Outer loop: the place among the slots not yet passed is the place
-- among those from the given one on; inner loop: the order of the words from j on is that of the slots. Assumes
-- nothing.
use native.Mathlib.Omega.{arith}
use Rattle.std.specs.Prelude.{Some}
use mathlib.Core.Path.{◌≡◌, ap, sym, ◌∙◌}
use Rattle.slots.proofs.Insertion.Laws.{order_none, order_below, order_above, order_on, seek_none, seek_here}
use Rattle.slots.proofs.Insertion.Laws.{seek_held, seek_on}
use Rattle.slots.proofs.slots.find_place.Goals as goal

pub slots-preserved : goal.slots-preserved
slots-preserved c =
    let k = c.loop-j in
    seek_on _ _ _ _ _ (omega arith) (sym k.invariant.0 ∙ order_above _ _ _ _ _ (omega arith) c.if-held-new.true)
    ∙ k.invariant.1

pub loop-j-preserved : goal.loop-j-preserved
loop-j-preserved c =
    let k = c.loop-j in (
      order_on _ _ _ _ _ _ _ (omega arith) (omega arith) c.if-new-held.false c.if-held-new.false
          ∙ k.invariant.0,
      k.invariant.1,
    )

pub returns-in-slots : goal.returns-in-slots
returns-in-slots c =
    let k = c.loop-j in
    seek_held _ _ _ _ (omega arith) (sym k.invariant.0 ∙ order_none _ _ _ _ _ (omega arith)) ∙ k.invariant.1

pub returns-then-new-held : goal.returns-then-new-held
returns-then-new-held c =
    let k = c.loop-j in
    seek_here _ _ _ _ (omega arith) (sym k.invariant.0 ∙ order_below _ _ _ _ _ (omega arith) c.if-new-held.true)
    ∙ k.invariant.1

pub returns : goal.returns
returns c =
    let e : c.slots.i ≡ c.args.count = omega arith in
    ap Some (sym e) ∙ seek_none _ _ _ _ (omega arith) ∙ c.slots.invariant
