-- `lot_sheet::office::tell_book` meets its contract, by the answer of the sheet. Assumes nothing.
use Rattle.std.proofs.lemmas.Result.{err_from_is_err_and}
use Rattle.lot_sheet.specs.Reply.Laws.{told_given, told_refused}
use Rattle.lot_sheet.proofs.office.tell_book.Goals as goal

pub returns-in_err-sheet : goal.returns-in_err-sheet
returns-in_err-sheet c =
    let p = err_from_is_err_and c.from_residual.result c.from_residual.ensures.1 in
    rw p.1 (told_refused _ _ _ c.sheet.result c.sheet.ensures _ c.in_err-sheet.was p.0 p.2)

pub returns : goal.returns
returns c = told_given _ _ _ c.sheet.result c.sheet.ensures _ c.in_ok-sheet.was
