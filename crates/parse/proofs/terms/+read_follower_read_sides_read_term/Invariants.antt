-- The invariants and measures of `terms.+read_follower_read_sides_read_term`.
use Prim.Native.Nat.{◌+◌, ◌*◌}
use Rattle.parse.proofs.terms.+read_follower_read_sides_read_term.Given as goal

abbrev pub decreases-read_follower : goal.decreases-read_follower
decreases-read_follower l = l.deep * 2 + 1

abbrev pub decreases-read_sides : goal.decreases-read_sides
decreases-read_sides l = l.deep * 2 + 1

abbrev pub decreases-read_term : goal.decreases-read_term
decreases-read_term l = l.deep * 2
