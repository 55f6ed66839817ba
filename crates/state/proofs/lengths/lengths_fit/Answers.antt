-- `state::lengths::lengths_fit` meets its contract: the tests of each return say which part of `lengths_fit` decides.
-- Assumes nothing.
use borrow.Author.Tests.{le-leb, lt-leb, eq-eqb, ne_eqb}
use Rattle.monitor_spec.specs.State.{lengths_fit}
use Rattle.state.proofs.lengths.lengths_fit.Goals as goal

pub returns-then-a-b : goal.returns-then-a-b
unfolding lengths_fit
returns-then-a-b c = simp (ne_eqb _ _ c.if-a-b.true)

pub returns-then-a-ne0 : goal.returns-then-a-ne0
unfolding lengths_fit
returns-then-a-ne0 c = simp (eq-eqb _ _ c.if-a-b.false, ne_eqb _ _ c.if-a-ne0.true)

pub returns-then-a-lt16 : goal.returns-then-a-lt16
unfolding lengths_fit
returns-then-a-lt16 c =
    let if3 = c.if-a-lt16 in
    let if2 = c.if-a-ne0 in
    let if1 = c.if-a-b in
    simp (eq-eqb _ _ if1.false, eq-eqb _ _ if2.false, lt-leb _ _ if3.true)

pub returns : goal.returns
unfolding lengths_fit
returns c =
    let if3 = c.if-a-lt16 in
    let if2 = c.if-a-ne0 in
    let if1 = c.if-a-b in
    simp (eq-eqb _ _ if1.false, eq-eqb _ _ if2.false, le-leb _ _ if3.false)
