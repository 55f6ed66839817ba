-- `leaf_memo::memo::forget` meets its contract: nothing is kept in the first i entries. The measure is what is left of
-- them. Assumes nothing.
use native.Mathlib.Omega.{arith}
use mathlib.Core.Path.{◌≡◌}
use lib.ListN.{length-set}
use Rattle.tree_walk.specs.Layout.{entry_count}
use Rattle.leaf_memo.specs.Memo.Laws.{none_first, forget_next, forget_done}
use Rattle.leaf_memo.proofs.memo.forget.Goals as goal

pub loop-i-init : goal.loop-i-init
loop-i-init c = (omega arith, c.requires, none_first _)

pub loop-i-preserved : goal.loop-i-preserved
loop-i-preserved c =
    let inv = c.loop-i.invariant in
    (omega arith, simp length-set inv.1, forget_next _ _ inv.2 (omega arith))

pub returns : goal.returns
returns c =
    let e : c.loop-i.i ≡ entry_count = omega arith in
    forget_done _ c.loop-i.invariant.1 (rw e at c.loop-i.invariant.2)
