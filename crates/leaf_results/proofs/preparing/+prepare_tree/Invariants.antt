-- The invariants and measures of `preparing.+prepare_tree`.
use Prim.Native.Nat.{◌-◌}
use Rattle.leaf_results.proofs.preparing.+prepare_tree.Given as goal

abbrev pub decreases-prepare_tree : goal.decreases-prepare_tree
decreases-prepare_tree l = 16 - l.k
