-- `reader::lent_fit` meets its contract: the tests of each return say which part of `lent_fit` decides. Assumes nothing.
use borrow.Author.Tests.{eq-eqb, ne_eqb}
use Rattle.line_spec.specs.Opening.{lent_fit}
use Rattle.table_reading.proofs.reader.lent_fit.Goals as goal

pub returns-then-list-ne16384 : goal.returns-then-list-ne16384
unfolding lent_fit
returns-then-list-ne16384 c = simp (ne_eqb _ _ c.if-list-ne16384.true)

pub returns-then-area0-ne4096 : goal.returns-then-area0-ne4096
unfolding lent_fit
returns-then-area0-ne4096 c = simp (eq-eqb _ _ c.if-list-ne16384.false, ne_eqb _ _ c.if-area0-ne4096.true)

pub returns-then-area1-ne4096 : goal.returns-then-area1-ne4096
unfolding lent_fit
returns-then-area1-ne4096 c =
    simp (eq-eqb _ _ c.if-list-ne16384.false, eq-eqb _ _ c.if-area0-ne4096.false, ne_eqb _ _ c.if-area1-ne4096.true)

pub returns : goal.returns
unfolding lent_fit
returns c =
    simp (eq-eqb _ _ c.if-list-ne16384.false, eq-eqb _ _ c.if-area0-ne4096.false, eq-eqb _ _ c.if-area1-ne4096.false)
