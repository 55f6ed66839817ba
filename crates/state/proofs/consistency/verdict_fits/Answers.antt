-- `state::consistency::verdict_fits` meets its contract: the verdict and the first test say which case holds. Assumes
-- nothing.
use native.Mathlib.Omega.{arith}
use mathlib.Core.Path.{◌∙◌}
use borrow.Author.Tests.{le-ltb, lt-leb}
use Rattle.state.proofs.consistency.Cases.{running_none, running_some, failed_later, failed_here}
use Rattle.state.proofs.consistency.verdict_fits.Goals as goal

pub returns-then-state-gt0 : goal.returns-then-state-gt0
returns-then-state-gt0 c = let h = c.if-state-gt0.true in running_some _ _ _ _ c.in-Running.is (λ z. omega arith)

pub returns-else-state-gt0 : goal.returns-else-state-gt0
returns-else-state-gt0 c =
    let h = c.if-state-gt0.false in
    le-ltb _ _ h ∙ running_none _ _ _ _ c.in-Running.is (omega arith)

pub returns-then-place-state : goal.returns-then-place-state
returns-then-place-state c = failed_here _ _ _ _ _ c.in-Failed.is c.if-place-state.true

pub returns-else-place-state : goal.returns-else-place-state
returns-else-place-state c =
    lt-leb _ _ c.if-place-state.false ∙ failed_later _ _ _ _ _ c.in-Failed.is c.if-place-state.false
