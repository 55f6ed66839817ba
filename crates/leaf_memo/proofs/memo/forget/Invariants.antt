-- The invariants and measures of `memo.forget`.
use Prim.Native.Nat.{◌≤◌}
use mathlib.Core.Path.{◌≡◌}
use lib.ListN.{length}
use Rattle.tree_walk.specs.Layout.{entry_count, store_words}
use Rattle.leaf_memo.specs.Memo.Laws.{KeepsNone}
use Rattle.leaf_memo.proofs.memo.forget.Given as goal

abbrev pub invariant-loop-i : goal.invariant-loop-i
invariant-loop-i l = (l.i ≤ entry_count) × (length l.store ≡ store_words) × KeepsNone l.store l.i
