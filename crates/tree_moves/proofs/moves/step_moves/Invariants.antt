-- The invariants and measures of `moves.step_moves`.
use mathlib.Core.Path.{◌≡◌}
use lib.ListN.{length}
use Rattle.table_index.specs.Index.{table_in}
use Rattle.tree_moves.specs.Moving.{stepped_moves}
use Rattle.tree_moves.specs.Moving.Moves.{MovesLeft}
use Rattle.tree_moves.proofs.moves.step_moves.Given as goal

abbrev pub invariant-loop-x : goal.invariant-loop-x
invariant-loop-x l =
    MovesLeft (table_in l.table.list.now) l.e l.src l.at l.left l.x l.u l.s l.dst l.c
    (stepped_moves (table_in l.table.list.now) l.e l.src l.p l.n l.each l.also l.initial.s l.initial.dst l.count) × (length l.dst ≡ length l.initial.dst)

abbrev pub decreases-loop-x : goal.decreases-loop-x
decreases-loop-x l = l.x
