-- `monitor_c::viewer::cspe_view` meets its contract: the record's length is tried first; the part that View hands back
-- is empty or not. Assumes nothing.
use Rattle.words_spec.proofs.Calls.Laws.{view_unmeasured, view_some, view_none}
use Rattle.monitor_c.proofs.viewer.cspe_view.Goals as goal

pub returns-then-record-ne5 : goal.returns-then-record-ne5
returns-then-record-ne5 c = view_unmeasured _ _ _ c.if-record-ne5.true

pub returns-then-n-ne0 : goal.returns-then-n-ne0
returns-then-n-ne0 c =
    view_some c.load-state.result _ _ _ _ c.if-record-ne5.false c.load-state.ensures
    c.view-n.ensures.words c.if-n-ne0.true

pub returns-else-n-ne0 : goal.returns-else-n-ne0
returns-else-n-ne0 c =
    view_none c.load-state.result _ _ _ _ c.if-record-ne5.false c.load-state.ensures
    c.view-n.ensures.words c.if-n-ne0.false
