-- `leaf_memo::memo::keeps_some` meets its contract: nothing is kept in the first j entries. The measure is what is left
-- of them. Assumes nothing.
use native.Mathlib.Omega.{arith}
use mathlib.Core.Path.{◌≡◌}
use Rattle.tree_walk.specs.Layout.{entry_count}
use Rattle.leaf_memo.specs.Memo.Laws.{none_first, none_next, none_done, keeps_one}
use Rattle.leaf_memo.proofs.memo.keeps_some.Goals as goal

pub loop-j-init : goal.loop-j-init
loop-j-init c = (omega arith, none_first _)

pub returns-then-store-j-gt0 : goal.returns-then-store-j-gt0
returns-then-store-j-gt0 c = keeps_one _ _ (omega arith) c.if-store-j-gt0.true

pub loop-j-preserved : goal.loop-j-preserved
loop-j-preserved c =
    (omega arith, none_next _ _ c.loop-j.invariant.1 (omega arith))

pub returns : goal.returns
returns c =
    let e : c.loop-j.j ≡ entry_count = omega arith in
    none_done _ (rw e at c.loop-j.invariant.1)
