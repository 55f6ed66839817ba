-- The node of a number has the term that `term_at` finds, with the prefixes around it.
--     term_at_lem, enclosing_at  `term_at`, `enclosing` of a table's numbers
-- Assumes nothing.
use Rattle.std.specs.Prelude.{ℕ, ◌<◌, ◌≡◌}
use Rattle.std.proofs.Math.Option.{some}
use Rattle.table.specs.Table.{Table, term_count, term_at, enclosing}
use Rattle.table.proofs.Stands.Laws.{at_number, around_number}
use Rattle.table.specs.Node.{node_at, term_of}
use Rattle.table.proofs.Node.Homes.{node_stands}
use Rattle.table.proofs.Node.Laws.{in_at}

pub term_at_lem : (t : Table) (n : ℕ) → n < term_count t → term_at t n ≡ some (term_of t n)
unfolding term_of
term_at_lem t n h = let (d, y) = in_at t n h in at_number t (node_stands y)

pub enclosing_at : (t : Table) (n : ℕ) → n < term_count t → enclosing t n ≡ (node_at t n).spot.prefixes
enclosing_at t n h = let (d, y) = in_at t n h in around_number t (node_stands y)
