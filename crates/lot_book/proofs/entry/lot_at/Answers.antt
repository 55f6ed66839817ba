-- `lot_book::entry::lot_at` meets its contract: one law for each number that is not there, and one for all four.
-- Assumes nothing.
use mathlib.Core.Path.{◌∙◌}
use Rattle.lot_book.proofs.Lots.Laws.{no_number, no_taken, no_mark, no_place, whole}
use Rattle.lot_book.proofs.entry.lot_at.Goals as goal

pub returns-in_err-number : goal.returns-in_err-number
returns-in_err-number c = c.from_residual.ensures ∙ no_number _ _ c.in_err-number.ensures

pub returns-in_err-taken : goal.returns-in_err-taken
returns-in_err-taken c =
    c.from_residual-in_err-taken.ensures
    ∙ no_taken _ _ _ _ c.in_ok-number.ensures c.in_err-taken.ensures

pub returns-in_err-mark : goal.returns-in_err-mark
returns-in_err-mark c =
    c.from_residual-in_err-mark.ensures
    ∙ no_mark _ _ _ _ c.in_ok-number.ensures _ _ c.in_ok-taken.ensures c.in_err-mark.ensures

pub returns-in_err-place : goal.returns-in_err-place
returns-in_err-place c =
    c.from_residual-in_err-place.ensures
    ∙ no_place _ _ _ _ c.in_ok-number.ensures _ _ c.in_ok-taken.ensures _ _ c.in_ok-mark.ensures
    c.in_err-place.ensures

pub returns : goal.returns
returns c =
    whole _ _ _ _ c.in_ok-number.ensures _ _ c.in_ok-taken.ensures _ _ c.in_ok-mark.ensures _ _
    c.in_ok-place.ensures
