-- `picking::picker::pick_up` meets its contract: by the parity of the events taken, area 0 or area 1 is present. Assumes
-- nothing.
use Rattle.met_sets.specs.Runs.{PickedBy}
use Rattle.met_sets.specs.Runs.Areas.{picked_even, picked_odd}
use Rattle.picking.proofs.picker.pick_up.Goals as goal

-- area 0 is present
pub returns-then-state-eq0 : goal.returns-then-state-eq0
unfolding PickedBy
returns-then-state-eq0 c t regular cap met l =
    let a = c.args in
    picked_even regular a.state a.area0.now a.area1.now l _ met _ _ _ c.if-state-eq0.true c.pick_area.ensures

-- area 1 is present
pub returns : goal.returns
unfolding PickedBy
returns c t regular cap met l =
    let a = c.args in
    picked_odd regular a.state a.area0.now a.area1.now l _ met _ _ _ c.if-state-eq0.false c.pick_area-2.ensures
