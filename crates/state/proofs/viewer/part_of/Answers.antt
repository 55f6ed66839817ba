-- `state::viewer::part_of` meets its contract: verdict and parity say which case of `view_part` holds. Assumes nothing.
use Rattle.state.specs.Viewed.Laws.{after_failure, in_area_0, in_area_1}
use Rattle.state.proofs.viewer.part_of.Goals as goal

pub returns-in-Failed : goal.returns-in-Failed
returns-in-Failed c = after_failure _ _ _ _ c.in-Failed.is

pub returns-then-state-eq0 : goal.returns-then-state-eq0
returns-then-state-eq0 c =
    let told = c.in_default in
    in_area_0 _ _ _ _ told.is c.if-state-eq0.true c.part_in.ensures

pub returns-else-state-eq0 : goal.returns-else-state-eq0
returns-else-state-eq0 c =
    let told = c.in_default in
    in_area_1 _ _ _ _ told.is c.if-state-eq0.false c.part_in-else-state-eq0.ensures
