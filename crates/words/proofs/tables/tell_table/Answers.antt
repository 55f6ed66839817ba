-- `words::tables::tell_table` meets its contract, by the cases of an answer. Assumes nothing.
use Rattle.words_spec.proofs.Tables.Laws.{tell_count, tell_refused}
use Rattle.words.proofs.tables.tell_table.Goals as goal

pub returns-in-Ok : goal.returns-in-Ok
returns-in-Ok c = tell_count _ _ c.in-Ok.is

pub returns-in-Err : goal.returns-in-Err
returns-in-Err c = tell_refused _ _ c.in-Err.is
