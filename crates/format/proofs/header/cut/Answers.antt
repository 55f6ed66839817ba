-- `header::cut` meets its contract, by the length and the bytes that are there. Assumes nothing.
use Rattle.format.specs.Head.Laws.{cut_over, cut_missing, cut_there}
use borrow.Author.Rules.{rules}
use Rattle.format.proofs.header.cut.Goals as goal

pub returns-then-value-gt16384 : goal.returns-then-value-gt16384
returns-then-value-gt16384 c =
    let args = c.args in
    cut_over args.size args.value args.next c.if-value-gt16384.true

pub returns-then-rest-value : goal.returns-then-rest-value
returns-then-rest-value c =
    let args = c.args in
    cut_missing args.size args.value args.next c.if-value-gt16384.false c.if-rest-value.true

pub returns : goal.returns
returns c =
    let args = c.args in
    cut_there args.size args.value args.next (search rules) c.if-value-gt16384.false c.if-rest-value.false
