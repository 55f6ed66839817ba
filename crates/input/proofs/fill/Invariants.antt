-- `input::fill`: the buffer keeps its length, and no more bytes stand in it than it holds. The measure is what is left
-- of it. Assumes nothing.
use Rattle.std.proofs.Common.{length, ◌-◌, ◌≤◌}
use Rattle.input.proofs.fill.Given as goal

abbrev pub invariant-loop-next : goal.invariant-loop-next
invariant-loop-next l = l.n ≤ length l.buffer

abbrev pub decreases-loop-next : goal.decreases-loop-next
decreases-loop-next l = length l.buffer - l.n
