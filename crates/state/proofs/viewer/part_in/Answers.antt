-- `state::viewer::part_in` meets its contract: whether there is room says which case of `part_by` holds. Assumes
-- nothing.
use Rattle.state.specs.Viewed.Laws.{room, no_room}
use Rattle.state.proofs.viewer.part_in.Goals as goal

pub returns-then-n-length : goal.returns-then-n-length
returns-then-n-length c = room _ _ _ c.if-n-length.true

pub returns-else-n-length : goal.returns-else-n-length
returns-else-n-length c = no_room _ _ _ c.if-n-length.false
