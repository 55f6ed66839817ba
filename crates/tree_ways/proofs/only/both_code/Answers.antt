-- `tree_ways::only::both_code` meets its contract: one law for each way out. Assumes nothing.
use native.Mathlib.Omega.{arith}
use Rattle.tree_ways.specs.Code.Cases.{both_more_first, both_more_second, both_lone_first}
use Rattle.tree_ways.specs.Code.Cases.{both_lone_second, both_neither}
use Rattle.tree_ways.proofs.only.both_code.Goals as goal

pub returns-then-a-ge-MANY : goal.returns-then-a-ge-MANY
returns-then-a-ge-MANY c = both_more_first _ _ c.if-a-ge-MANY.true

pub returns-then-b-ge-MANY : goal.returns-then-b-ge-MANY
returns-then-b-ge-MANY c = both_more_second _ _ (omega (arith, c.if-a-ge-MANY.false)) c.if-b-ge-MANY.true

pub returns-then-a-lt-SEVERAL : goal.returns-then-a-lt-SEVERAL
returns-then-a-lt-SEVERAL c =
    both_lone_first _ _ (omega (arith, c.if-a-ge-MANY.false))
    (omega (arith, c.if-b-ge-MANY.false)) c.if-a-lt-SEVERAL.true

pub returns-then-b-lt-SEVERAL : goal.returns-then-b-lt-SEVERAL
returns-then-b-lt-SEVERAL c =
    both_lone_second _ _ (omega (arith, c.if-a-ge-MANY.false))
    (omega (arith, c.if-b-ge-MANY.false)) (omega (arith, c.if-a-lt-SEVERAL.false)) c.if-b-lt-SEVERAL.true

pub returns : goal.returns
returns c =
    both_neither _ _ (omega (arith, c.if-a-ge-MANY.false)) (omega (arith, c.if-b-ge-MANY.false))
    (omega (arith, c.if-a-lt-SEVERAL.false)) (omega (arith, c.if-b-lt-SEVERAL.false))
