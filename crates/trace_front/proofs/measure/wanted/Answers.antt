-- `measure::wanted` meets its contract, by what is read at the start. Assumes nothing.
use mathlib.Core.Path.{sym, ap, ◌∙◌}
use Rattle.std.specs.declared.result.Result.TheVariants.{Err}
use Rattle.trace_front.specs.Wanted.Laws.{wanted_within, wanted_value, wanted_truncated, wanted_malformed}
use Rattle.trace_front.proofs.measure.wanted.Goals as goal

pub missing-requires : goal.missing-requires
missing-requires c =
    wanted_within _ _ (sym c.in-Ok.is ∙ c.read.ensures)

pub returns-in-Ok : goal.returns-in-Ok
returns-in-Ok c =
    wanted_value _ _ _ (sym c.in-Ok.is ∙ c.read.ensures) c.missing.ensures

pub returns-in-Err-Truncated : goal.returns-in-Err-Truncated
returns-in-Err-Truncated c = wanted_truncated _ (sym (c.in-Err-Truncated.is ∙ ap Err c.in-Err-Truncated.field-0-is) ∙ c.read.ensures)

pub returns-in-Err-Malformed : goal.returns-in-Err-Malformed
returns-in-Err-Malformed c = wanted_malformed _ (sym (c.in-Err-Malformed.is ∙ ap Err c.in-Err-Malformed.field-0-is) ∙ c.read.ensures)
