-- `header::head` meets its contract, by what is read at the input's start. Assumes nothing.
use mathlib.Core.Path.{ap, ◌∙◌}
use Rattle.std.specs.declared.result.Result.TheVariants.{Err}
use Rattle.format.specs.Head.Laws.{head_next, head_value, head_truncated, head_malformed}
use Rattle.format.proofs.header.head.Goals as goal

pub cut-requires : goal.cut-requires
cut-requires c = head_next _ _ c.read.ensures _ c.in-Ok.is

pub returns-in-Ok : goal.returns-in-Ok
returns-in-Ok c = head_value _ _ c.read.ensures _ c.in-Ok.is c.cut.result c.cut.ensures

pub returns-in-Err-Truncated : goal.returns-in-Err-Truncated
returns-in-Err-Truncated c =
    let e = c.in-Err-Truncated in
    head_truncated _ _ c.read.ensures (e.is ∙ ap Err e.field-0-is)

pub returns-in-Err-Malformed : goal.returns-in-Err-Malformed
returns-in-Err-Malformed c =
    let e = c.in-Err-Malformed in
    head_malformed _ _ c.read.ensures (e.is ∙ ap Err e.field-0-is)
