-- The claims of `specs/Claims.antt`, proved from the laws of `specs/Decimal/`. Assumes nothing.
use Prim.Native.Nat.{suc, ◌-◌}
use native.Mathlib.Omega.{arith}
use mathlib.Core.Path.{◌≡◌, refl, sym, subst}
use Rattle.decimal.specs.Claims.{Denotes, Fits, Rows}
use Rattle.decimal.specs.Decimal.{decimal, decimal_within, denoted, denoted_after, IsDecimal}
use Rattle.decimal.proofs.Decimal.Laws.{is_decimal, within_short}
use Rattle.decimal.proofs.Decimal.Unique.{decimal_is}

pub denotes : Denotes
unfolding Denotes
denotes n ds h = (λ e. subst (IsDecimal n) (sym e) (is_decimal n h), decimal_is n ds h)

pub fits : Fits
unfolding Fits decimal
fits k n p q h =
    let e : suc (k - 1) ≡ k = omega arith in
    let short = within_short (k - 1) 20 n (rw e h) in
    omega arith

pub rows : Rows
unfolding Rows decimal decimal_within denoted denoted_after
rows = (refl, (refl, (refl, refl)))
