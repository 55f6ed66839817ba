-- `words::record::verdict_in` meets its contract: the test says which case of `verdict_in` holds. Assumes nothing.
use Rattle.words_spec.proofs.Words.Laws.{verdict_running, verdict_failed}
use Rattle.words.proofs.record.verdict_in.Goals as goal

pub returns-then-failed-eq0 : goal.returns-then-failed-eq0
returns-then-failed-eq0 c = verdict_running _ _ c.if-failed-eq0.true

pub returns-else-failed-eq0 : goal.returns-else-failed-eq0
returns-else-failed-eq0 c = verdict_failed _ _ c.if-failed-eq0.false
