-- `picking::picker::lay_out` meets its contract: by the parity of the events taken, area 0 or area 1 is present. Assumes
-- nothing.
use Rattle.met_sets.specs.Runs.Areas.{laid_even, laid_odd}
use Rattle.picking.proofs.picker.lay_out.Goals as goal

pub returns-then-state-eq0 : goal.returns-then-state-eq0
returns-then-state-eq0 c =
    let a = c.args in
    laid_even _ _ _ a.state a.area0.now a.area1.now _ c.if-state-eq0.true c.lay.ensures

pub returns-else-state-eq0 : goal.returns-else-state-eq0
returns-else-state-eq0 c =
    let a = c.args in
    laid_odd _ _ _ a.state a.area0.now a.area1.now _ c.if-state-eq0.false c.lay-else-state-eq0.ensures
