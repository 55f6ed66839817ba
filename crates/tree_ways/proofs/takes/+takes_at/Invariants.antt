-- The invariants and measures of `takes.+takes_at`.
use Prim.Native.Nat.{◌-◌}
use lib.ListN.{length}
use Rattle.tree_ways.proofs.takes.+takes_at.Given as goal

abbrev pub decreases-takes_at : goal.decreases-takes_at
decreases-takes_at l = length l.area.now - l.k
