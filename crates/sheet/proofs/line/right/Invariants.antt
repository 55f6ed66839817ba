-- The invariants and measures of `line.right`.
use lib.ListN.{length}
use Rattle.sheet_spec.proofs.Line.Filling.{Filling}
use Rattle.sheet.proofs.line.right.Given as goal

abbrev pub invariant-loop-k : goal.invariant-loop-k
invariant-loop-k l = Filling (length l.initial.part) l.n l.part l.k l.rest
