-- `tree_ways::only::either_code` meets its contract: one law for each way out. Assumes nothing.
use Rattle.tree_ways.specs.Code.Cases.{either_told, either_more}
use Rattle.tree_ways.proofs.only.either_code.Goals as goal

pub returns-then-a-b-eq0 : goal.returns-then-a-b-eq0
returns-then-a-b-eq0 c = either_told _ _ c.if-a-b-eq0.true

pub returns : goal.returns
returns c = either_more _ _ c.if-a-b-eq0.false
