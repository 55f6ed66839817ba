-- The invariants and measures of `judging.judge`.
use Prim.Native.Nat.{◌-◌}
use lib.ListN.{length}
use Rattle.lot_book.proofs.Book.Judging.{Judging}
use Rattle.lot_book.proofs.judging.judge.Given as goal

abbrev pub invariant-loop-at : goal.invariant-loop-at
invariant-loop-at l = Judging l.book l.at l.floor l.count l.total

abbrev pub decreases-loop-at : goal.decreases-loop-at
decreases-loop-at l = length l.book - l.at
