-- `resolving::leaves::key_of` meets its contract: the key so far, and the words still to come. Assumes nothing.
use Prim.Native.Nat.{ℕ, ◌+◌, ◌*◌}
use native.Mathlib.Omega.{arith}
use mathlib.Core.Path.{ap₂, ◌∙◌}
use lib.ListN.{drop}
use Rattle.resolving.specs.Distinct.{key_from}
use Rattle.resolving.specs.Distinct.Words.{key_none, key_on}
use Rattle.resolving.proofs.leaves.key_of.Goals as goal

pub loop-w-preserved : goal.loop-w-preserved
loop-w-preserved c =
    let k = c.loop-w in
    let slot = c.args.slot.now in
    ap₂ (λ (x y : ℕ). key_from (x * 31 + y) (drop (k.w-index + 1) slot))
    c.lower.ensures.0 c.lower-in-loop-w.ensures.0
    ∙ key_on slot _ _ _ k.invariant (omega arith)

pub returns : goal.returns
returns c = key_none c.args.slot.now _ c.loop-w.w-index _ c.loop-w.invariant (omega arith)
