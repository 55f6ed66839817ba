-- `judge::widths::call_width` meets its contract: the stored level of the definition says which case of `stored_call`
-- holds. Assumes nothing.
use native.Mathlib.Omega.{arith}
use Rattle.table_index.specs.Filling.Spans.{level_stored}
use Rattle.table_index.specs.Filling.OneWidth.{call_own, call_other}
use Rattle.judge.proofs.widths.call_width.Goals as goal

pub overflow_add-result : goal.overflow_add-result
overflow_add-result c =
    let p = c.requires in
    omega (arith, level_stored _ _ _ p.0.fields p.0.structure p.1)

pub offset_bounds-work-l : goal.offset_bounds-work-l
offset_bounds-work-l c =
    let p = c.requires in
    omega (arith, level_stored _ _ _ p.0.fields p.0.structure p.1)

pub bounds-work-l : goal.bounds-work-l
bounds-work-l c =
    let p = c.requires in
    omega (arith, level_stored _ _ _ p.0.fields p.0.structure p.1, p.0.structure.whole)

-- the level asked about
pub returns-then-l-level : goal.returns-then-l-level
returns-then-l-level c = let p = c.requires in call_own _ _ _ _ p.0.structure p.1 c.if-l-level.true

-- another level
pub returns-else-l-level : goal.returns-else-l-level
returns-else-l-level c =
    let p = c.requires in
    call_other _ _ _ _ p.0.structure p.1 c.if-l-level.false
