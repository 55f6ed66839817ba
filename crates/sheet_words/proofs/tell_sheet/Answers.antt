-- `sheet_words::tell_sheet` meets its contract, by the cases of an answer. Assumes nothing.
use Rattle.sheet_words.proofs.Call.Laws.{tell_given, tell_refused}
use Rattle.sheet_words.proofs.tell_sheet.Goals as goal

pub returns-in-Ok : goal.returns-in-Ok
returns-in-Ok c = tell_given _ _ c.in-Ok.is

pub returns-in-Err : goal.returns-in-Err
returns-in-Err c = rw c.from.ensures (tell_refused _ _ c.in-Err.is)
