-- `state::viewer::view` meets its contract: the part's area says which slice is handed back. Assumes nothing.
use Rattle.state.specs.Viewed.Laws.{fits_0, fits_1, viewed_0, viewed_1}
use Rattle.state.proofs.viewer.view.Goals as goal

pub slice_bounds-result-end : goal.slice_bounds-result-end
slice_bounds-result-end c =
    let args = c.args in
    fits_0 args.state args.area0 args.area1 _ c.part_of-part.ensures c.if-part-eq0.true

pub slice_bounds-result-end-else-part-eq0 : goal.slice_bounds-result-end-else-part-eq0
slice_bounds-result-end-else-part-eq0 c =
    let args = c.args in
    fits_1 args.state args.area0 args.area1 _ c.part_of-part.ensures c.if-part-eq0.false

pub returns-then-part-eq0 : goal.returns-then-part-eq0
returns-then-part-eq0 c = viewed_0 _ _ _ _ c.part_of-part.ensures c.if-part-eq0.true

pub returns-else-part-eq0 : goal.returns-else-part-eq0
returns-else-part-eq0 c = viewed_1 _ _ _ _ c.part_of-part.ensures c.if-part-eq0.false
