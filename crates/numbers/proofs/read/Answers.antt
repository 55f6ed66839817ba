-- `numbers::read` meets its contract: the tests before each return are those of one case of `read_at`. Assumes nothing.
use native.Mathlib.Omega.{arith}
use mathlib.Core.Path.{◌≡◌}
use Rattle.std.specs.declared.result.Result.{Result}
use Rattle.std.specs.declared.result.Result.TheVariants.{Ok, Err}
use Rattle.std.specs.Result.{IsErrAnd}
use Rattle.numbers.specs.declared.Reading.{Reading}
use Rattle.numbers.specs.declared.ReadError.{ReadError}
use Rattle.numbers.specs.declared.ReadError.TheVariants.{Truncated}
use Rattle.numbers.specs.Position.Reads.{cut1, one, cut2, loose2, two, cut3, loose3, large3, three}
use borrow.Author.Rules.{rules}
use Rattle.numbers.proofs.read.Goals as goal

-- what a `?` hands on
passed : (r w : Result Reading ReadError) (e : ReadError) → IsErrAnd r (λ y. y ≡ e) → e ≡ Truncated → Err Truncated ≡ w
    → r ≡ w
passed (Ok _) w e h t k = elim h [ ]
passed (Err y) w e h t k = cc

-- no byte at the position
pub returns-in_err-a : goal.returns-in_err-a
returns-in_err-a c =
    let e = c.in_err-a.ensures in
    passed _ _ _ c.from_residual.ensures.1 e.0 (cut1 _ _ e.1)

-- a first byte below 128
pub returns-then-a-lt128 : goal.returns-then-a-lt128
returns-then-a-lt128 c =
    let a = c.in_ok-a.ensures in
    one _ _ _ a.within a.same (omega arith)

-- no second byte
pub returns-in_err-b : goal.returns-in_err-b
returns-in_err-b c =
    let a = c.in_ok-a.ensures in
    let e = c.in_err-b.ensures in
    passed _ _ _ c.from_residual-in_err-b.ensures.1 e.0 (cut2 _ _ a.within (omega (arith, a.same)) e.1)

-- a second byte of 0
pub returns-then-b-eq0 : goal.returns-then-b-eq0
returns-then-b-eq0 c =
    let a = c.in_ok-a.ensures in
    let b = c.in_ok-b.ensures in
    loose2 _ _ b.within (omega (arith, a.same)) (omega (arith, b.same))

pub returns-then-b-lt128 : goal.returns-then-b-lt128
returns-then-b-lt128 c =
    let a = c.in_ok-a.ensures in
    let b = c.in_ok-b.ensures in
    two _ _ b.within (omega (arith, a.same)) _ _ a.same b.same (search rules) (omega arith)

-- no third byte
pub returns-in_err-c : goal.returns-in_err-c
returns-in_err-c c =
    let a = c.in_ok-a.ensures in
    let b = c.in_ok-b.ensures in
    let e = c.in_err-c.ensures in
    passed _ _ _ c.from_residual-in_err-c.ensures.1 e.0
    (cut3 _ _ b.within (omega (arith, a.same)) (omega (arith, b.same)) e.1)

-- a third byte of 0
pub returns-then-c-eq0 : goal.returns-then-c-eq0
returns-then-c-eq0 c =
    let a = c.in_ok-a.ensures in
    let b = c.in_ok-b.ensures in
    let d = c.in_ok-c.ensures in
    loose3 _ _ b.within (omega (arith, a.same)) (omega (arith, b.same)) d.within (omega (arith, d.same))

pub returns-then-c-le3 : goal.returns-then-c-le3
returns-then-c-le3 c =
    let a = c.in_ok-a.ensures in
    let b = c.in_ok-b.ensures in
    let d = c.in_ok-c.ensures in
    three _ _ b.within (omega (arith, a.same)) (omega (arith, b.same)) d.within _ _ _ a.same b.same d.same
    (search rules) (omega arith)

-- a third byte above 3
pub returns-else-c-le3 : goal.returns-else-c-le3
returns-else-c-le3 c =
    let a = c.in_ok-a.ensures in
    let b = c.in_ok-b.ensures in
    let d = c.in_ok-c.ensures in
    large3 _ _ b.within (omega (arith, a.same)) (omega (arith, b.same)) d.within (omega (arith, d.same))
