-- `slots::slots::open_gap` meets its contract: the words from p on are a part of the area, in which the gap is opened.
-- Assumes nothing.
use native.Mathlib.Omega.{arith}
use Rattle.slots.proofs.Insertion.Gap.{gap_part}
use Rattle.slots.proofs.slots.open_gap.Goals as goal

pub returns : goal.returns
returns c = gap_part _ _ _ (omega arith) (omega arith) _ c.move_up.ensures
