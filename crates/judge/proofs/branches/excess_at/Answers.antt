-- `judge::branches::excess_at` meets its contract: the entry digit of the term's word says whether the term is tested,
-- and the capped count is above 256 where the count is. Assumes nothing.
use Rattle.table_index.specs.Filling.Excess.{excess_entry, excess_other}
use Rattle.judge.proofs.branches.excess_at.Goals as goal

-- a body or a follower
pub returns-then-w-eq1 : goal.returns-then-w-eq1
returns-then-w-eq1 c = excess_entry _ _ _ c.requires c.if-w-eq1.true

-- any other term
pub returns-else-w-eq1 : goal.returns-else-w-eq1
returns-else-w-eq1 c = excess_other _ _ _ c.requires c.if-w-eq1.false
