-- `judge::references::call_fits` meets its contract: each return's tests say which of the rules on calls fails, or that
-- none does. Assumes nothing.
use native.Mathlib.Omega.{arith}
use Rattle.table_index.specs.References.Words.{fits_unknown, fits_higher, fits_beside, fits_bare, fits_under}
use Rattle.judge.proofs.references.call_fits.Goals.{then-w-eq1+else-home-level-2, else-w-eq1}
use Rattle.judge.proofs.references.call_fits.Goals as goal

pub returns-then-work-d : goal.returns-then-work-d
returns-then-work-d c =
    fits_unknown _ _ c.requires.judging.structure _ c.requires.w_in_bounds c.if-work-d.true

pub returns-then-home-level : goal.returns-then-home-level
returns-then-home-level c =
    fits_higher _ _ c.requires.judging.structure _ c.requires.w_in_bounds (omega arith) c.if-home-level.true

pub returns-then-home-level-2 : goal.returns-then-home-level-2
returns-then-home-level-2 c =
    fits_beside _ _ c.requires.judging.structure _ c.requires.w_in_bounds (omega arith) (omega arith) c.if-w-eq1.true
    c.if-home-level-2.true

pub returns-then-w-eq0 : goal.returns-then-w-eq0
returns-then-w-eq0 c =
    fits_bare _ _ c.requires.judging.structure _ c.requires.w_in_bounds (omega arith) (omega arith)
    (λ e. elim c.if-w-eq1.branch [ then-w-eq1+else-home-level-2 w ↦ omega arith | else-w-eq1 w ↦ omega arith ]) c.if-w-eq0.true

pub returns : goal.returns
returns c =
    fits_under _ _ c.requires.judging.structure _ c.requires.w_in_bounds (omega arith) (omega arith)
    (λ e. elim c.if-w-eq1.branch [ then-w-eq1+else-home-level-2 w ↦ omega arith | else-w-eq1 w ↦ omega arith ]) c.if-w-eq0.false
