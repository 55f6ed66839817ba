-- `leaf_memo::memo::is_entry` meets its contract: the tests say it. Assumes nothing.
use Prim.Native.Nat.{ℕ}
use native.Mathlib.Omega.{arith}
use mathlib.Core.Path.{◌≡◌, ap}
use mathlib.Core.Bool.{Bool, cond}
use borrow.Author.Tests.{eqb-true}
use Rattle.leaf_memo.proofs.memo.is_entry.Goals as goal

pub returns-then-store-p : goal.returns-then-store-p
returns-then-store-p c e = absurd (let z : ◌≡◌ {A = ℕ} 1 0 = ap (λ (b : Bool). cond b 0 1) e in omega arith)

pub returns : goal.returns
returns c e = (omega arith, eqb-true _ _ e)
