-- `judge::widths::first_wide_level` meets its contract. The loop's invariant: the widths of the levels below are
-- stored, and at most 8. Assumes nothing.
use native.Mathlib.Omega.{arith}
use mathlib.Core.Path.{sym, ◌∙◌}
use Rattle.table_index.specs.Filling.Wide.{wide_first, wide_asked, wide_level, wide_next, wide_none}
use Rattle.table_index.specs.Filling.Wide.{reach_asked, reach_done, wide_broken, wide_nowhere}
use Rattle.judge.proofs.widths.first_wide_level.Goals as goal

pub loop-level-init : goal.loop-level-init
loop-level-init c = wide_first _ _ c.requires.judging.structure

pub level_width-w-requires : goal.level_width-w-requires
level_width-w-requires c =
    let p = c.requires in
    wide_asked _ _ _ p.judging.fields p.list_value c.loop-level.invariant c.loop-level-test.true

pub shape_of-work-then-w-gt8 : goal.shape_of-work-then-w-gt8
shape_of-work-then-w-gt8 c =
    c.level_width-w.ensures.structure.whole ∙ sym c.requires.judging.structure.whole

-- a level above 8
pub returns-then-w-gt8 : goal.returns-then-w-gt8
returns-then-w-gt8 c =
    let p = c.requires in
    let d = c.level_width-w.ensures in
    wide_broken _ _ _
    (wide_level _ _ _ p.judging.fields p.list_value c.loop-level.invariant _ _ c.loop-level-test.true d (omega arith))
    d.structure

pub overflow_add-work : goal.overflow_add-work
overflow_add-work c = omega arith

pub offset_bounds-work-level : goal.offset_bounds-work-level
offset_bounds-work-level c = omega arith

pub bounds-work-level : goal.bounds-work-level
bounds-work-level c = omega (arith, c.level_width-w.ensures.structure.whole)

pub loop-level-preserved : goal.loop-level-preserved
loop-level-preserved c =
    let p = c.requires in
    wide_next _ _ _ p.judging.fields p.list_value c.loop-level.invariant _ _ c.loop-level-test.true
    c.level_width-w.ensures (omega arith)

pub bounds-work-7307 : goal.bounds-work-7307
bounds-work-7307 c = omega (arith, c.loop-level.invariant.structure.whole)

pub fill_widths-requires : goal.fill_widths-requires
fill_widths-requires c =
    let p = c.requires in
    reach_asked _ _ _ p.judging.fields p.list_value c.loop-level.invariant (omega arith)

pub shape_of-work : goal.shape_of-work
shape_of-work c =
    c.fill_widths.ensures.structure.whole ∙ sym c.requires.judging.structure.whole

-- none
pub returns : goal.returns
returns c =
    let p = c.requires in
    let i = c.loop-level.invariant in
    let f = c.fill_widths.ensures in
    wide_nowhere _ _ (wide_none _ _ _ p.judging.fields p.list_value i (omega arith)) f.structure
    (reach_done _ _ _ p.judging.fields p.list_value i _ (omega arith) f)
