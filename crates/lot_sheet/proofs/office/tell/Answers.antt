-- `lot_sheet::office::tell` meets its contract, by whether the book was read whole. Assumes nothing.
use native.Mathlib.Omega.{arith}
use mathlib.Core.Path.{sym, ◌∙◌}
use lib.Seq.{length-take-le}
use Rattle.lot_sheet.specs.Reply.Laws.{tell_whole, tell_long}
use Rattle.lot_sheet.proofs.office.tell.Goals as goal

pub slice_bounds-tell_book-end : goal.slice_bounds-tell_book-end
slice_bounds-tell_book-end c = sym (length-take-le _ _ (omega arith))

pub returns-then-last : goal.returns-then-last
returns-then-last c =
    let whole = sym c.last.ensures ∙ c.if-last.true in
    tell_whole _ whole _ _ _ (rw c.count-n.ensures at c.tell_book.ensures)

pub returns : goal.returns
returns c = tell_long _ (sym c.last.ensures ∙ c.if-last.false) _ _
