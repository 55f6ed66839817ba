-- `parts::Writer::put_number` meets its contract: crate `io` makes the fewest digits, at most 20. Assumes nothing.
use Rattle.std.proofs.Common.{arith, ◌∙◌}
use Rattle.format.specs.Text.Laws.{decimal_digits, few_digits}
use Rattle.trace_text.specs.Put.Laws.{grows_number}
use Rattle.trace_text.proofs.parts.Writer.put_number.Goals as goal

pub returns-clause-grows : goal.returns-clause-grows
returns-clause-grows c =
    let made = c.decimal-k in
    let few = few_digits c.args.v made.result (omega (arith, c.ranges.v)) made.ensures.len in
    grows_number _ _ _ _ _ c.put.ensures.grows c.put-2.ensures.grows
    (made.ensures.digits ∙ decimal_digits _ _ few made.ensures.len)
    (omega (arith, made.ensures.in_bounds.1))
