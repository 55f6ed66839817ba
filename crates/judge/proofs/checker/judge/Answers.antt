-- `judge::checker::judge` meets its contract: what `parse` refuses is refused so, and the rest is `judge_parsed`'s.
-- Assumes nothing.
use Rattle.table.proofs.Passed.{passed}
use Rattle.table_index.specs.Judging.{JudgeDone}
use Rattle.judge.proofs.checker.judge.Goals as goal

pub judge_parsed-requires : goal.judge_parsed-requires
judge_parsed-requires c =
    c.in_ok-parse.ensures

-- `parse` refuses
pub returns-in_err-parse : goal.returns-in_err-parse
returns-in_err-parse c = passed (JudgeDone _ _) _ _ c.from_residual.ensures.1 c.in_err-parse.ensures
