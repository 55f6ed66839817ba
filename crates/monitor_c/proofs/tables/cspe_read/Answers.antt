-- `monitor_c::tables::cspe_read` meets its contract: the outcome is Read's, told by `tell_table`. Assumes nothing.
use Rattle.words_spec.proofs.Tables.Laws.{read_told}
use Rattle.monitor_c.proofs.tables.cspe_read.Goals as goal

pub returns : goal.returns
returns c =
    let done = c.read-answer in
    read_told done.result _ _ _ _ _ _ _ c.tell_table.ensures done.ensures
