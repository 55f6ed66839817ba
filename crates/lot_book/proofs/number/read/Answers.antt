-- `lot_book::number::read` meets its contract: the tests before each return are those of one case of `number_at`.
-- Assumes nothing.
use native.Mathlib.Omega.{arith}
use mathlib.Core.Path.{◌∙◌}
use Rattle.lot_book.proofs.NumberLaws.{none, one, several, broken, limit_8, value_small}
use Rattle.lot_book.proofs.number.read.Goals as goal

pub returns-in_err-get : goal.returns-in_err-get
returns-in_err-get c = c.from_residual.ensures ∙ none _ _ c.in_err-get.ensures.lookup.3

pub returns-then-a-lt128 : goal.returns-then-a-lt128
returns-then-a-lt128 c =
    let byte = c.in_ok-get.ensures.lookup.3 in
    one _ _ _ (c.from-a.ensures ∙ byte.1 0) byte.0 c.if-a-lt128.true

pub returns-in_err-value : goal.returns-in_err-value
returns-in_err-value c =
    let byte = c.in_ok-get.ensures.lookup.3 in
    let same = c.from-a.ensures ∙ byte.1 0 in
    c.from_residual-in_err-value.ensures ∙ broken _ _ byte.0 (omega arith) c.in_err-value.ensures

pub overflow_mul-result : goal.overflow_mul-result
overflow_mul-result c = omega (arith, limit_8, value_small 8 _ _ _ _ c.in_ok-value.ensures)

pub overflow_add-result : goal.overflow_add-result
overflow_add-result c =
    let byte = c.in_ok-get.ensures.lookup.3 in
    let same = c.from-a.ensures ∙ byte.1 0 in
    omega (arith, limit_8, value_small 8 _ _ _ _ c.in_ok-value.ensures, c.type_inv.s c.args.at)

pub returns : goal.returns
returns c =
    let byte = c.in_ok-get.ensures.lookup.3 in
    several _ _ _ _ _ (c.from-a.ensures ∙ byte.1 0) byte.0 c.if-a-lt128.false c.in_ok-value.ensures
