-- `event_sets::rows::low_bit` meets its contract: 1, shifted by an event below 64, loses no bits, and is the whole
-- power; the power of any other event has no bit in the first word. Assumes nothing.
use native.Mathlib.Nat.{one-mul}
use native.Mathlib.Omega.{arith}
use mathlib.Core.Path.{sym, ◌∙◌}
use lib.Dec.{lit<}
use lib.Pow.{shl_exact}
use Rattle.table_index.specs.Index.Sets.{first_low, first_high}
use Rattle.event_sets.proofs.rows.low_bit.Goals as goal

-- the event is 64 or more
pub returns-then-e-ge-LARGE_ABOVE : goal.returns-then-e-ge-LARGE_ABOVE
returns-then-e-ge-LARGE_ABOVE c = sym (first_high c.args.e c.if-e-ge-LARGE_ABOVE.true)

-- it is below 64
pub returns : goal.returns
returns c =
    let e = c.args.e in
    shl_exact 1 e 64 (lit< tt) (omega arith) ∙ one-mul _ ∙ sym (first_low e c.if-e-ge-LARGE_ABOVE.false)
