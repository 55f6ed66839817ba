-- `picking::picker::pick_area` meets its contract: the set is found, or kept as one more, or has no room. Assumes
-- nothing.
use mathlib.Core.Path.{refl}
use Rattle.met_sets.specs.Runs.{FoundBy}
use Rattle.met_sets.specs.Runs.Areas.{found_same, found_more}
use Rattle.picking.proofs.picker.pick_area.Goals as goal

-- it is found
pub returns-in-Some : goal.returns-in-Some
unfolding FoundBy
returns-in-Some c t regular h met = found_same regular h met c.clear_first.ensures _ c.in-Some.ensures

-- it has no room
pub returns-then-not-has_room : goal.returns-then-not-has_room
unfolding FoundBy
returns-then-not-has_room c t regular h met = (refl, refl)

-- it is kept
pub returns : goal.returns
unfolding FoundBy
returns c t regular h met =
    let (few, room, rows) = c.has_room.ensures c.if-not-has_room.false in
    found_more regular h met c.clear_first-2.ensures few room rows c.keep.ensures
