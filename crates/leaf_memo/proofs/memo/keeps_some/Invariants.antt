-- The invariants and measures of `memo.keeps_some`.
use Prim.Native.Nat.{◌≤◌}
use Rattle.tree_walk.specs.Layout.{entry_count}
use Rattle.leaf_memo.specs.Memo.Laws.{KeepsNone}
use Rattle.leaf_memo.proofs.memo.keeps_some.Given as goal

abbrev pub invariant-loop-j : goal.invariant-loop-j
invariant-loop-j l = (l.j ≤ entry_count) × KeepsNone l.store l.j
