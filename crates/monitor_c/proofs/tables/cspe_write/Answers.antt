-- `monitor_c::tables::cspe_write` meets its contract: the outcome is Write's, told by `tell_table`. Assumes nothing.
use Rattle.words_spec.proofs.Tables.Laws.{write_told}
use Rattle.monitor_c.proofs.tables.cspe_write.Goals as goal

pub returns : goal.returns
returns c =
    let done = c.write-answer in
    write_told done.result _ _ _ _ _ _ _ c.tell_table.ensures done.ensures
