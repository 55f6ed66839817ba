-- `judge::branches::fill_all_branches` meets its contract. The loop's invariant: each term of the definitions before d
-- with no prefix around it has its branches. Assumes nothing.
use native.Mathlib.Omega.{arith}
use mathlib.Core.Path.{sym, ◌∙◌}
use Rattle.table_index.specs.Filling.Bodies.{bodies_first, bodies_asked, bodies_next, all_asked, all_done}
use Rattle.judge.proofs.branches.fill_all_branches.Goals as goal

pub bounds-work-7306 : goal.bounds-work-7306
bounds-work-7306 c = omega (arith, c.requires.structure.whole)

pub bounds-work-7307 : goal.bounds-work-7307
bounds-work-7307 c = omega (arith, c.requires.structure.whole)

pub loop-d-init : goal.loop-d-init
loop-d-init c = bodies_first _ _ c.requires

pub overflow_add-root : goal.overflow_add-root
overflow_add-root c =
    let p = c.requires in
    omega (arith, p.structure.definitions, p.fields.definitions_most)

pub offset_bounds-work-d : goal.offset_bounds-work-d
offset_bounds-work-d c =
    let p = c.requires in
    omega (arith, p.structure.definitions, p.fields.definitions_most)

pub bounds-work-d : goal.bounds-work-d
bounds-work-d c =
    let p = c.requires in
    omega (arith, p.structure.definitions, p.fields.definitions_most, c.loop-d.invariant.structure.whole)

pub overflow_add-end : goal.overflow_add-end
overflow_add-end c =
    let p = c.requires in
    omega (arith, p.structure.definitions, p.fields.definitions_most)

pub overflow_add-end-in-loop-d : goal.overflow_add-end-in-loop-d
overflow_add-end-in-loop-d c =
    let p = c.requires in
    omega (arith, p.structure.definitions, p.fields.definitions_most)

pub offset_bounds-work-d-in-loop-d : goal.offset_bounds-work-d-in-loop-d
offset_bounds-work-d-in-loop-d c =
    let p = c.requires in
    omega (arith, p.structure.definitions, p.fields.definitions_most)

pub bounds-work-d-in-loop-d : goal.bounds-work-d-in-loop-d
bounds-work-d-in-loop-d c =
    let p = c.requires in
    omega (arith, p.structure.definitions, p.fields.definitions_most, c.loop-d.invariant.structure.whole)

-- the terms of one definition
pub fill_branches-requires : goal.fill_branches-requires
fill_branches-requires c =
    let p = c.requires in
    bodies_asked _ _ _ _ p c.loop-d.invariant (omega (arith, p.structure.definitions, c.loop-d-test.true))

pub loop-d-preserved : goal.loop-d-preserved
loop-d-preserved c =
    let p = c.requires in
    bodies_next _ _ _ _ p c.loop-d.invariant (omega (arith, p.structure.definitions, c.loop-d-test.true)) _
    c.fill_branches.ensures

-- all terms
pub fill_branches-requires-2 : goal.fill_branches-requires-2
fill_branches-requires-2 c =
    all_asked _ _ _ _ c.requires c.loop-d.invariant

pub shape_of-work : goal.shape_of-work
shape_of-work c =
    c.fill_branches-2.ensures.structure.whole ∙ sym c.requires.structure.whole

pub returns : goal.returns
returns c =
    let p = c.requires in
    all_done _ _ _ _ p c.loop-d.invariant _ (omega (arith, p.structure.definitions, c.loop-d-test.false))
    c.fill_branches-2.ensures
