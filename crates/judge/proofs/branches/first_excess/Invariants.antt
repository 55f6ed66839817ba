-- The invariant of `branches.first_excess`.
use Prim.Native.Nat.{ℕ, ◌≤◌, ◌<◌}
use mathlib.Core.Path.{◌≡◌}
use mathlib.Core.Bool.{false}
use Rattle.table_index.specs.Index.{table_in}
use Rattle.table_index.specs.Filling.{exceeds}
use Rattle.judge.proofs.branches.first_excess.Given as goal

abbrev pub invariant-loop-n : goal.invariant-loop-n
invariant-loop-n l = (l.n ≤ l.terms) × ((k : ℕ) → k < l.n → exceeds (table_in l.list) k ≡ false)
