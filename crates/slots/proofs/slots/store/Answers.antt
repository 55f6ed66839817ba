-- `slots::slots::store` meets its contract: the first j words are stored. Assumes nothing.
use native.Mathlib.Omega.{arith}
use mathlib.Core.Path.{◌≡◌, refl}
use Rattle.slots.proofs.Insertion.Gap.{slot_whole, stored_none, stored_step}
use Rattle.slots.proofs.slots.store.Goals as goal

pub loop-j-init : goal.loop-j-init
loop-j-init c = stored_none _ _ _ _ refl

pub loop-j-preserved : goal.loop-j-preserved
loop-j-preserved c =
    let (whole, n) = slot_whole c.args.slot.now (omega arith) in
    rw whole (rw c.loop-j.invariant (stored_step _ _ _ _ _ (omega arith) (omega arith) (omega (arith, n))))

pub returns : goal.returns
returns c =
    let (whole, n) = slot_whole c.args.slot.now (omega arith) in
    let e : c.loop-j.j ≡ 16 = omega (arith, n) in
    rw e at c.loop-j.invariant
