-- The invariants and measures of `run.follow`.
use Prim.Native.Nat.{◌≤◌}
use Rattle.met_sets.specs.Runs.{KeptSet, FollowedBy}
use Rattle.met_sets.proofs.Turn.{at}
use Rattle.met_sets.proofs.run.follow.Given as goal

abbrev pub invariant-loop-i : goal.invariant-loop-i
invariant-loop-i l =
    KeptSet l.alphabet l.starts l.next l.set × (l.fn.from.place ≤ l.i) × (l.i ≤ l.to)
    × FollowedBy l.alphabet l.starts l.next l.events l.fn.from.state l.fn.from.set l.fn.from.place l.to
    (at l.state l.set l.i)
