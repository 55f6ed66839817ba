-- `judge::branches::fill_branches` meets its contract. The loop's invariant: the terms from n on have their branches,
-- as far as those of the bodies that they call are there, and no other word has changed. The measure is n. Assumes
-- nothing.
use native.Mathlib.Omega.{arith}
use mathlib.Core.Path.{sym, ◌∙◌}
use Rattle.table_index.specs.Layout.{with_branches}
use Rattle.table_index.specs.Filling.Fill.{fill_first, branches_next, fill_next, fill_done}
use Rattle.judge.proofs.branches.fill_branches.Goals as goal

pub loop-n-init : goal.loop-n-init
loop-n-init c = let p = c.requires in (p.ordered, omega arith, fill_first _ _ _ _ p)

pub overflow_sub-n : goal.overflow_sub-n
overflow_sub-n c = omega arith

pub branches_at-branches-requires : goal.branches_at-branches-requires
branches_at-branches-requires c =
    let i = c.loop-n.invariant in
    branches_next _ _ _ _ _ _ c.requires i.2 c.loop-n-test.true i.1

pub overflow_add-w : goal.overflow_add-w
overflow_add-w c =
    let p = c.requires in
    omega (arith, p.inside, p.fields.terms_most)

pub offset_bounds-work-n : goal.offset_bounds-work-n
offset_bounds-work-n c =
    let p = c.requires in
    omega (arith, p.inside, p.fields.terms_most)

pub bounds-work-n : goal.bounds-work-n
bounds-work-n c =
    let p = c.requires in
    omega (arith, p.inside, p.fields.terms_most, c.loop-n.invariant.2.structure.whole)

-- the word with other branches
pub overflow_mul-work : goal.overflow_mul-work
overflow_mul-work c = omega (arith, c.branches_at-branches.ensures.small)

pub overflow_add-work : goal.overflow_add-work
overflow_add-work c = omega (arith, c.branches_at-branches.ensures.small)

pub overflow_add-work-in-loop-n : goal.overflow_add-work-in-loop-n
overflow_add-work-in-loop-n c =
    let p = c.requires in
    omega (arith, p.inside, p.fields.terms_most)

pub offset_bounds-work-n-in-loop-n : goal.offset_bounds-work-n-in-loop-n
offset_bounds-work-n-in-loop-n c =
    let p = c.requires in
    omega (arith, p.inside, p.fields.terms_most)

pub bounds-work-n-in-loop-n : goal.bounds-work-n-in-loop-n
bounds-work-n-in-loop-n c =
    let p = c.requires in
    omega (arith, p.inside, p.fields.terms_most, c.loop-n.invariant.2.structure.whole)

pub loop-n-smaller : goal.loop-n-smaller
loop-n-smaller c = omega arith

pub loop-n-preserved : goal.loop-n-preserved
unfolding with_branches
loop-n-preserved c =
    let i = c.loop-n.invariant in (
      omega arith,
      omega arith,
      fill_next _ _ _ _ _ _ c.requires i.2 c.loop-n-test.true i.1 _ c.branches_at-branches.ensures,
    )

pub shape_of-work : goal.shape_of-work
shape_of-work c =
    c.loop-n.invariant.2.structure.whole ∙ sym c.requires.structure.whole

pub returns : goal.returns
returns c =
    let i = c.loop-n.invariant in
    fill_done _ _ _ _ _ _ i.0 (omega arith) i.2
