-- `judge::checker::check` meets its contract: another length is refused before anything is stored; else `check_list`
-- answers, and what it leaves is the index, or is cleared. Assumes nothing.
use Rattle.table_index.specs.Judging.Laws.{checked_wrong, checked_taken, checked_refused}
use Rattle.judge.proofs.checker.check.Goals as goal

-- a work area of another length
pub returns-then-work-ne8192 : goal.returns-then-work-ne8192
returns-then-work-ne8192 c = checked_wrong _ _ c.if-work-ne8192.true

-- the list is a table
pub returns-in-Ok : goal.returns-in-Ok
returns-in-Ok c =
    checked_taken _ _ _ _ c.if-work-ne8192.false c.check_list.ensures c.in-Ok.is

-- it is refused
pub returns-in-Err : goal.returns-in-Err
returns-in-Err c =
    checked_refused _ _ _ _ _ _ c.if-work-ne8192.false c.check_list.ensures c.in-Err.is
    c.clear_all.ensures
