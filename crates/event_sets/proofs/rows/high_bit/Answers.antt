-- `event_sets::rows::high_bit` meets its contract, as `low_bit` does: the power of an event below 64 has no bit in the
-- second word, that of any other has 1, shifted by the event less 64. Assumes nothing.
use native.Mathlib.Nat.{one-mul}
use native.Mathlib.Omega.{arith}
use mathlib.Core.Path.{sym, ◌∙◌}
use Prim.Native.Nat.{◌-◌}
use lib.Dec.{lit<}
use lib.Pow.{shl_exact}
use Rattle.table_index.specs.Index.Sets.{second_low, second_high}
use Rattle.event_sets.proofs.rows.high_bit.Goals as goal

-- the event is below 64
pub returns-then-e-lt-LARGE_ABOVE : goal.returns-then-e-lt-LARGE_ABOVE
returns-then-e-lt-LARGE_ABOVE c = sym (second_low c.args.e c.if-e-lt-LARGE_ABOVE.true)

-- it is not
pub returns-else-e-lt-LARGE_ABOVE : goal.returns-else-e-lt-LARGE_ABOVE
returns-else-e-lt-LARGE_ABOVE c =
    let e = c.args.e in
    shl_exact 1 (e - 64) 64 (lit< tt) (omega arith) ∙ one-mul _ ∙ sym (second_high e (omega arith))
