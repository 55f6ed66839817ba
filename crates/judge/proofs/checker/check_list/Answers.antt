-- `judge::checker::check_list` meets its contract: `judge` says all but 2, and the bytes of an accepted list are
-- counted. Assumes nothing.
use native.Mathlib.Omega.{arith}
use Rattle.table.proofs.Judge.Laws.{list_declined}
use Rattle.table.proofs.Passed.{passed}
use Rattle.table_index.specs.Judging.{CheckDone}
use Rattle.table_index.specs.Judging.Laws.{listed_long, listed_short}
use Rattle.judge.proofs.checker.check_list.Goals as goal

-- too many bytes
pub returns-then-byte_place-gt16384 : goal.returns-then-byte_place-gt16384
returns-then-byte_place-gt16384 c =
    let f = c.in_ok-judge.ensures in
    (listed_long _ _ f (omega (arith, c.byte_place.ensures)), f.structure.whole)

-- the list is a table
pub returns : goal.returns
returns c =
    let f = c.in_ok-judge.ensures in
    listed_short _ _ f (omega (arith, c.byte_place.ensures))

-- `judge` refuses
pub returns-in_err-judge : goal.returns-in_err-judge
returns-in_err-judge c =
    let f = c.in_err-judge.ensures in
    passed (CheckDone _ _) _ _ c.from_residual.ensures.1 (list_declined _ _ _ f.0, f.1)
