-- `parse::parser::parse_definitions` meets its contract: each way out is where the grammar stops at the number of
-- definitions, in a definition or after the table, or the stored index of a whole one. Assumes nothing.
use native.Mathlib.Omega.{arith}
use mathlib.Core.Path.{◌∙◌}
use Rattle.table.proofs.Passed.{passed, passed_none}
use Rattle.table_index.specs.Parse.{ParseDone}
use Rattle.table_index.specs.Parse.Header.{stop_4, stop_5, more_left}
use Rattle.table_index.specs.Parse.Header.{count_got, count_low, count_high, count_none}
use Rattle.table_index.specs.Parse.Structure.{structured}
use Rattle.parse.proofs.parser.parse_definitions.Goals as goal

-- no number of definitions
pub returns-in_err-count : goal.returns-in_err-count
returns-in_err-count c =
    let head = c.requires in
    let e = c.in_err-count.ensures in
    passed_none (ParseDone _ _) _ _ _ _ c.from_residual.ensures.1 e (
      stop_4 _ _ head.alphabet _ head.counts _ _ head.parsed _ _ (count_none 1 32 _ _ head.within e.beyond),
      head.ready.whole,
    )

-- none, and more than 32
pub returns-then-count-lt1 : goal.returns-then-count-lt1
returns-then-count-lt1 c =
    let n = c.in_ok-count.ensures in
    let head = c.requires in (
      stop_4 _ _ head.alphabet _ head.counts _ _ head.parsed _ _
          (count_low 1 32 _ _ (omega arith) (omega arith)),
      head.ready.whole,
    )

pub returns-then-count-gt32 : goal.returns-then-count-gt32
returns-then-count-gt32 c =
    let n = c.in_ok-count.ensures in
    let head = c.requires in (
      stop_4 _ _ head.alphabet _ head.counts _ _ head.parsed _ _
          (count_high 1 32 _ _ (omega arith) (omega arith) (omega arith)),
      head.ready.whole,
    )

-- numbers after the table
pub returns-then-end-list : goal.returns-then-end-list
returns-then-end-list c =
    let n = c.in_ok-count.ensures in
    let head = c.requires in
    let f = rw n.same at c.in_ok-end.ensures in (
      more_left _ _ head.alphabet _ head.counts _ _ head.parsed _ _
          (count_got 1 32 _ _ (omega arith) (omega arith) (omega arith)) _ _
          f.parsed (omega arith),
      f.same ∙ head.ready.whole,
    )

-- a whole table
pub returns : goal.returns
returns c =
    let n = c.in_ok-count.ensures in
    rw (c.store_counts.ensures, n.same)
    (structured _ _ _ _ _ _ _ _ c.requires (omega arith)
    (count_got 1 32 _ _ (omega arith) (omega arith) (omega arith))
    (rw n.same at c.in_ok-end.ensures) (omega arith))

-- a definition is not read
pub returns-in_err-end : goal.returns-in_err-end
returns-in_err-end c =
    let n = c.in_ok-count.ensures in
    let head = c.requires in
    let f = rw n.same at c.in_err-end.ensures in
    passed (ParseDone _ _) _ _ c.from_residual-in_err-end.ensures.1 (
      stop_5 _ _ head.alphabet _ head.counts _ _ head.parsed _ _
          (count_got 1 32 _ _ (omega arith) (omega arith) (omega arith)) _ _ f.0,
      f.1 ∙ head.ready.whole,
    )
