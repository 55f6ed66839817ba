-- `monitor_c::sheets::cspe_sheet` meets its contract: the outcome is the sheet's, told by `tell_sheet`. Assumes nothing.
use Rattle.sheet_words.proofs.Call.Laws.{sheet_told}
use Rattle.monitor_c.proofs.sheets.cspe_sheet.Goals as goal

pub returns : goal.returns
returns c =
    let done = c.sheet-answer in
    sheet_told done.result _ _ _ _ _ c.tell_sheet.ensures done.ensures
