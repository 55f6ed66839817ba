-- `judge::branches::product_capped` meets its contract: a factor of at least 257 makes the product 0, or at least 257.
-- Assumes nothing.
use native.Mathlib.Omega.{arith}
use native.Mathlib.Nat.{zero-mul, mul-zero, mul-le-mul}
use Rattle.judge.proofs.branches.product_capped.Goals as goal

-- a is 0
pub returns-then-a-eq0 : goal.returns-then-a-eq0
returns-then-a-eq0 c = simp (c.if-a-eq0.true, zero-mul)

-- b is 0
pub returns-then-b-eq0 : goal.returns-then-b-eq0
returns-then-b-eq0 c = simp (c.if-b-eq0.true, mul-zero)

-- a is above 256
pub returns-then-a-gt256 : goal.returns-then-a-gt256
returns-then-a-gt256 c =
    let q = c.args in
    omega (arith, mul-le-mul {n₁ = 257} {m₁ = 1} {n₂ = q.a} {m₂ = q.b} (omega arith) (omega arith))

-- b is above 256
pub returns-then-b-gt256 : goal.returns-then-b-gt256
returns-then-b-gt256 c =
    let q = c.args in
    omega (arith, mul-le-mul {n₁ = 1} {m₁ = 257} {n₂ = q.a} {m₂ = q.b} (omega arith) (omega arith))

pub overflow_mul-s : goal.overflow_mul-s
overflow_mul-s c =
    let q = c.args in
    omega (arith, mul-le-mul {n₁ = q.a} {m₁ = q.b} {n₂ = 256} {m₂ = 256} (omega arith) (omega arith))
