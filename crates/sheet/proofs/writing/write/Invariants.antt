-- The invariants and measures of `writing.write`.
use Prim.Native.Nat.{◌-◌}
use lib.ListN.{length}
use Rattle.sheet_spec.proofs.Sheets.Writing.{Writing}
use Rattle.sheet.proofs.writing.write.Given as goal

abbrev pub invariant-loop-at : goal.invariant-loop-at
invariant-loop-at l = Writing l.book l.initial.out l.sum l.out l.at l.p

abbrev pub decreases-loop-at : goal.decreases-loop-at
decreases-loop-at l = length l.book - l.at
