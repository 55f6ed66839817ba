-- `slots::slots::move_up` meets its contract: the words from k on are moved, and k falls to 0. Assumes nothing.
use native.Mathlib.Omega.{arith}
use mathlib.Core.Path.{◌≡◌, refl}
use lib.ListN.{length-set}
use Rattle.slots.proofs.Insertion.Gap.{gap_none, gap_step}
use Rattle.slots.proofs.slots.move_up.Goals as goal

pub loop-k-init : goal.loop-k-init
loop-k-init c = (refl, gap_none _ _ (omega arith))

pub loop-k-preserved : goal.loop-k-preserved
loop-k-preserved c =
    let k = c.loop-k in (
      simp length-set k.invariant.0,
      rw k.invariant.1 (gap_step _ _ (omega arith) _ (omega arith) _ (omega arith)),
    )

pub returns : goal.returns
returns c =
    let e : c.loop-k.k ≡ 0 = omega arith in
    rw e at c.loop-k.invariant.1
