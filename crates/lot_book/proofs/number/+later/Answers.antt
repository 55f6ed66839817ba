-- `lot_book::number::later` meets its contract: the tests before each return are those of one case of `later` in crate
-- `numbers`. The measure is how many bytes may follow. Assumes nothing.
use Prim.Native.Nat.{◌-◌}
use native.Mathlib.Omega.{arith}
use mathlib.Core.Path.{◌∙◌}
use Rattle.lot_book.proofs.NumberLaws.{cut, zero_byte, large, last, short, more, lost, limit_under, value_small}
use Rattle.lot_book.proofs.number.+later.Goals as goal

pub returns-in_err-get : goal.returns-in_err-get
returns-in_err-get t c = rw c.from_residual.ensures (cut _ _ _ c.in_err-get.ensures.lookup.3)

pub returns-then-b-eq0 : goal.returns-then-b-eq0
returns-then-b-eq0 t c =
    let byte = c.in_ok-get.ensures.lookup.3 in
    let same = c.from-b.ensures ∙ byte.1 0 in
    zero_byte _ _ _ byte.0 (omega arith)

pub returns-then-b-gt1 : goal.returns-then-b-gt1
returns-then-b-gt1 t c =
    let byte = c.in_ok-get.ensures.lookup.3 in
    let same = c.from-b.ensures ∙ byte.1 0 in
    large _ _ _ (omega arith) byte.0 (omega arith)

pub returns-then-more-eq0 : goal.returns-then-more-eq0
returns-then-more-eq0 t c =
    let byte = c.in_ok-get.ensures.lookup.3 in
    last _ _ _ _ (omega arith) (c.from-b.ensures ∙ byte.1 0) byte.0 c.if-b-eq0.false (omega arith)

pub returns-then-b-lt128 : goal.returns-then-b-lt128
returns-then-b-lt128 t c =
    let byte = c.in_ok-get.ensures.lookup.3 in
    short _ _ _ _ (omega arith) (c.from-b.ensures ∙ byte.1 0) byte.0 c.if-b-eq0.false (omega arith)

pub returns-in_err-value : goal.returns-in_err-value
returns-in_err-value t c =
    let byte = c.in_ok-get.ensures.lookup.3 in
    let same = c.from-b.ensures ∙ byte.1 0 in
    rw c.from_residual-in_err-value.ensures
    (lost _ _ _ (omega arith) byte.0 (omega arith) c.in_err-value.ensures)

pub overflow_mul-result : goal.overflow_mul-result
overflow_mul-result t c =
    let k = c.args.more - 1 in
    omega (arith, value_small k _ _ _ _ c.in_ok-value.ensures, limit_under k (omega arith))

pub overflow_add-result : goal.overflow_add-result
overflow_add-result t c =
    let k = c.args.more - 1 in
    let byte = c.in_ok-get.ensures.lookup.3 in
    let same = c.from-b.ensures ∙ byte.1 0 in
    omega (
      arith,
      value_small k _ _ _ _ c.in_ok-value.ensures,
      limit_under k (omega arith),
      c.type_inv.s c.args.at,
    )

pub returns : goal.returns
returns t c =
    let byte = c.in_ok-get.ensures.lookup.3 in
    let same = c.from-b.ensures ∙ byte.1 0 in
    let fits = c.type_inv.s c.args.at in
    more _ _ _ _ _ _ (omega arith) same byte.0 (omega arith) (omega arith) c.in_ok-value.ensures
