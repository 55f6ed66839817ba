-- `line::verdict` meets its contract: one law for each word. Assumes nothing.
use mathlib.Core.Path.{refl}
use Rattle.sheet_spec.proofs.Line.Laws.{word_running, word_failed}
use Rattle.sheet.proofs.line.verdict.Goals as goal

pub returns-then-mark-eq0 : goal.returns-then-mark-eq0
returns-then-mark-eq0 c = word_running _ _ c.if-mark-eq0.true c.copy_from_slice.ensures.after

pub returns-else-mark-eq0 : goal.returns-else-mark-eq0
returns-else-mark-eq0 c =
    word_failed _ _ _ c.if-mark-eq0.false c.requires
    (rw c.copy_from_slice-else-mark-eq0.ensures.after refl)
