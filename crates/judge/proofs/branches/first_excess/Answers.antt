-- `judge::branches::first_excess` meets its contract. The loop's invariant: no term below n exceeds. Assumes nothing.
use native.Mathlib.Omega.{arith}
use mathlib.Core.Path.{sym, ◌∙◌}
use borrow.Author.Count.{below_more}
use Rattle.table_index.specs.Filling.Excess.{excess_asked, excess_broken, excess_nowhere}
use Rattle.judge.proofs.branches.first_excess.Goals as goal

pub fill_all_branches-requires : goal.fill_all_branches-requires
fill_all_branches-requires c =
    let p = c.requires in
    record { fields = p.judging.fields; structure = p.judging.structure; linked = p.list_value }

pub bounds-work-7307 : goal.bounds-work-7307
bounds-work-7307 c = omega (arith, c.fill_all_branches.ensures.structure.whole)

pub loop-n-init : goal.loop-n-init
loop-n-init c = (omega arith, λ k h. absurd (omega arith))

pub excess_at-requires : goal.excess_at-requires
excess_at-requires c =
    let p = c.requires in
    excess_asked _ _ _ p.judging.fields p.reaching c.fill_all_branches.ensures _
    c.loop-n-test.true

pub shape_of-work-then-excess_at : goal.shape_of-work-then-excess_at
shape_of-work-then-excess_at c =
    c.fill_all_branches.ensures.structure.whole ∙ sym c.requires.judging.structure.whole

-- term n exceeds
pub returns-then-excess_at : goal.returns-then-excess_at
returns-then-excess_at c =
    let p = c.requires in
    excess_broken _ _ _ p.judging.fields p.reaching c.fill_all_branches.ensures _ c.loop-n.invariant.1
    (sym c.excess_at.ensures ∙ c.if-excess_at.true)

pub loop-n-preserved : goal.loop-n-preserved
loop-n-preserved c =
    (omega arith, below_more _ _ c.loop-n.invariant.1 (sym c.excess_at.ensures ∙ c.if-excess_at.false))

pub shape_of-work : goal.shape_of-work
shape_of-work c =
    c.fill_all_branches.ensures.structure.whole ∙ sym c.requires.judging.structure.whole

-- none does
pub returns : goal.returns
returns c =
    let p = c.requires in
    excess_nowhere _ _ _ p.judging.fields p.reaching c.fill_all_branches.ensures _
    c.loop-n.invariant.1 (omega arith)
