-- `state::consistency::record_fits` meets its contract: the verdict decides, and then the peak beside the count and the
-- slots. Assumes nothing.
use mathlib.Core.Path.{sym, ◌∙◌}
use borrow.Author.Tests.{lt-leb}
use Rattle.state.proofs.consistency.Cases.{verdict_unfit, peak_below, peak_within}
use Rattle.state.proofs.consistency.record_fits.Goals as goal

pub returns-then-not-verdict_fits : goal.returns-then-not-verdict_fits
returns-then-not-verdict_fits c = verdict_unfit c.args.state _ (sym c.verdict_fits.ensures ∙ c.if-not-verdict_fits.true)

pub returns-then-state : goal.returns-then-state
returns-then-state c =
    peak_within c.args.state _ (sym c.verdict_fits.ensures ∙ c.if-not-verdict_fits.false) c.if-state.true

pub returns-else-state : goal.returns-else-state
returns-else-state c =
    lt-leb _ _ c.if-state.false
    ∙ peak_below c.args.state _ (sym c.verdict_fits.ensures ∙ c.if-not-verdict_fits.false) c.if-state.false
