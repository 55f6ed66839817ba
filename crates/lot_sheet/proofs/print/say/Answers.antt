-- `lot_sheet::print::say` is safe: a sheet's bytes stand in the text. Assumes nothing.
use mathlib.Core.Path.{sym}
use lib.Seq.{length-take-le}
use Rattle.lot_sheet.specs.Reply.Laws.{fits_sheet}
use Rattle.lot_sheet.proofs.print.say.Goals as goal

pub slice_bounds-say_sheet-end : goal.slice_bounds-say_sheet-end
slice_bounds-say_sheet-end c =
    sym (length-take-le _ _ (fits_sheet _ _ c.requires _ c.in-Ok.is))
