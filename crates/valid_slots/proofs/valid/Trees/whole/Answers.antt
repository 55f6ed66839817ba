-- `valid_slots::valid::Trees::whole` meets its contract: one tree, and its reach decides. Assumes nothing.
use borrow.Author.Tests.{eq-eqb, ne_eqb}
use Rattle.valid_slots.specs.Walk.{is_whole}
use Rattle.valid_slots.proofs.valid.Trees.whole.Goals as goal

pub returns-then-self-eq1 : goal.returns-then-self-eq1
unfolding is_whole
returns-then-self-eq1 c = simp (eq-eqb _ _ c.if-self-eq1.true)

pub returns-else-self-eq1 : goal.returns-else-self-eq1
unfolding is_whole
returns-else-self-eq1 c = simp (ne_eqb _ _ c.if-self-eq1.false)
