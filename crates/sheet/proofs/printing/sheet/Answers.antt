-- `printing::sheet` meets its contract: one law for each outcome; what is written is `write`'s. Assumes nothing.
use Rattle.sheet_spec.proofs.Sheets.Laws.{out_bad, out_over, out_short, out_room}
use Rattle.sheet.proofs.printing.sheet.Goals as goal

pub returns-in-Err : goal.returns-in-Err
returns-in-Err c = rw c.refused.ensures (out_bad _ _ _ c.in-Err.ensures)

pub returns-in_default : goal.returns-in_default
returns-in_default c = rw c.refused-in_default.ensures (out_over _ _ _ c.in-Ok.ensures c.in_default.is)

pub returns-then-out-judged : goal.returns-then-out-judged
returns-then-out-judged c =
    rw c.refused-then-out-judged.ensures
    (out_short _ _ _ c.in-Ok.ensures _ c.in-Some.is c.if-out-judged.true)

pub write-requires : goal.write-requires
write-requires c = out_room _ _ _ c.in-Ok.ensures _ c.in-Some.is c.if-out-judged.false
