-- `text::Text::push_number` meets its contract: crate `io` makes the fewest digits, at most 20. Assumes nothing.
use Rattle.std.proofs.Common.{arith, [], ◌∷◌, ◌∙◌, append_assoc}
use Rattle.decimal.specs.Decimal.{decimal}
use Rattle.format.specs.Text.Laws.{decimal_digits, few_digits}
use Rattle.format.proofs.text.Text.push_number.Goals as goal

pub returns-clause-bytes : goal.returns-clause-bytes
returns-clause-bytes c =
    let made = c.decimal-k in
    let few = few_digits c.args.n made.result (omega (arith, c.ranges.n)) made.ensures.len in
    c.push-2.ensures
    ∙ rw (c.push.ensures, made.ensures.digits ∙ decimal_digits _ _ few made.ensures.len)
    (append_assoc c.args.self.now (32 ∷ []) (decimal c.args.n))
