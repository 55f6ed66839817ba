-- `tree_ways::takes::pair_takes` meets its contract: the tests say which case of `pair_takes` holds. Assumes nothing.
use Rattle.tree_ways.specs.Takes.{pair_takes}
use Rattle.tree_ways.proofs.takes.pair_takes.Goals as goal

pub returns-then-left : goal.returns-then-left
unfolding pair_takes
returns-then-left c = rw (c.if-held.true, c.if-left.true)

pub returns-then-held : goal.returns-then-held
unfolding pair_takes
returns-then-held c = rw (c.if-held.true, c.if-left.false)

pub returns-then-left-2 : goal.returns-then-left-2
unfolding pair_takes
returns-then-left-2 c = rw (c.if-held.false, c.if-left-2.true)

pub returns : goal.returns
unfolding pair_takes
returns c = rw (c.if-held.false, c.if-left-2.false)
