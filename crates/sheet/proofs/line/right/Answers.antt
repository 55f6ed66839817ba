-- `line::right` meets its contract: digits from the right end, while some are left. The invariant is `Filling`.
-- Assumes nothing.
use Rattle.sheet_spec.proofs.Line.Filling.{fill_next, fill_done}
use Rattle.sheet.proofs.line.right.Goals as goal

pub returns-then-rest-eq0 : goal.returns-then-rest-eq0
returns-then-rest-eq0 c = fill_done _ _ _ _ _ c.loop-k.invariant c.if-rest-eq0.true

pub loop-k-preserved : goal.loop-k-preserved
loop-k-preserved c = fill_next _ _ _ _ _ c.loop-k.invariant c.if-rest-eq0.false
