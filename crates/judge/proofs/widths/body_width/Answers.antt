-- `judge::widths::body_width` meets its contract: where the body is of the level, the word of its root is its width
-- after its terms are filled in. Assumes nothing.
use native.Mathlib.Omega.{arith}
use Rattle.table_index.specs.Filling.Levels.{body_asked, root_inside, body_own, body_other}
use Rattle.judge.proofs.widths.body_width.Goals as goal

pub fill_widths-requires : goal.fill_widths-requires
fill_widths-requires c =
    let p = c.requires in
    body_asked _ _ _ _ p.0 p.1 c.if-work-d.true

pub overflow_add-result : goal.overflow_add-result
overflow_add-result c =
    let p = c.requires in
    omega (arith, root_inside _ _ _ _ p.0 p.1)

pub offset_bounds-work-root : goal.offset_bounds-work-root
offset_bounds-work-root c =
    let p = c.requires in
    omega (arith, root_inside _ _ _ _ p.0 p.1)

pub bounds-work-root : goal.bounds-work-root
bounds-work-root c =
    let p = c.requires in
    omega (arith, root_inside _ _ _ _ p.0 p.1, c.fill_widths.ensures.structure.whole)

-- of the level
pub returns-then-work-d : goal.returns-then-work-d
returns-then-work-d c =
    let p = c.requires in
    body_own _ _ _ _ p.0 p.1 _ c.if-work-d.true c.fill_widths.ensures

-- of another level
pub returns-else-work-d : goal.returns-else-work-d
returns-else-work-d c = let p = c.requires in body_other _ _ _ _ p.0 p.1 c.if-work-d.false
