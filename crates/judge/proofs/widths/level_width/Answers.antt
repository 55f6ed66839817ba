-- `judge::widths::level_width` meets its contract. The loop's invariant: the larger of `widest` and of the widths of
-- the bodies from d on is the level's width. Assumes nothing.
use native.Mathlib.Omega.{arith}
use mathlib.Core.Path.{sym, ◌∙◌}
use Rattle.table_index.specs.Filling.Levels.{level_first, level_asked, level_next, level_done}
use Rattle.judge.proofs.widths.level_width.Goals as goal

pub bounds-work-7306 : goal.bounds-work-7306
bounds-work-7306 c = omega (arith, c.requires.structure.whole)

pub loop-d-init : goal.loop-d-init
loop-d-init c = level_first _ _ _ c.requires

pub body_width-requires : goal.body_width-requires
body_width-requires c =
    let p = c.requires in
    let i = c.loop-d.invariant in
    (level_asked _ _ _ _ _ _ p i, omega (arith, p.structure.definitions, c.loop-d-test.true))

pub larger-widest-requires : goal.larger-widest-requires
larger-widest-requires c = tt

pub loop-d-preserved : goal.loop-d-preserved
loop-d-preserved c =
    let p = c.requires in
    let i = c.loop-d.invariant in
    level_next _ _ _ _ _ _ p i _ _ _ (omega (arith, p.structure.definitions, c.loop-d-test.true))
    c.body_width.ensures c.larger-widest.ensures

pub shape_of-work : goal.shape_of-work
shape_of-work c =
    c.loop-d.invariant.structure.whole ∙ sym c.requires.structure.whole

pub returns : goal.returns
returns c =
    let p = c.requires in
    level_done _ _ _ _ _ _ p c.loop-d.invariant (omega (arith, p.structure.definitions, c.loop-d-test.false))
