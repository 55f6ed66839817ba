-- `opening::opener::resolve_last` meets its contract: what `resolve_set` holds are the slots of the last definition, or
-- there is no room for them. Assumes nothing.
use mathlib.Core.Path.{refl, ◌∙◌}
use Rattle.opening.specs.Opening.Laws.{last_resolves, resolved_count, resolved_exceeded}
use Rattle.opening.proofs.opener.resolve_last.Goals as goal

pub resolve_set-requires : goal.resolve_set-requires
resolve_set-requires c =
    let last = c.definition_count-last.ensures in
    record {
      resolves_all = last_resolves c.args.table.now.indexed _ _ last.0 last.1 refl;
    }

-- the slots suffice
pub returns-in-Ok : goal.returns-in-Ok
returns-in-Ok c =
    let last = c.definition_count-last.ensures in
    let other = c.clear_all-2.ensures in
    resolved_count c.args.table.now.indexed _ _ last.0 last.1 refl _ _ c.requires.area1_value _
    c.clear_all.ensures _ _ c.resolve_set.ensures _ other _ c.in-Ok.is

-- they do not
pub returns-in-Err : goal.returns-in-Err
returns-in-Err c =
    let last = c.definition_count-last.ensures in
    let other = c.clear_all-2.ensures in
    resolved_exceeded c.args.table.now.indexed _ _ last.0 last.1 refl _ _ c.requires.area1_value _
    c.clear_all.ensures _ _ c.resolve_set.ensures _ other
    c.in-Err.is _
    c.clear_all-in-Err.ensures (c.resolve_set.auto.area ∙ c.clear_all.auto.words)
