-- Resolving a term by number, as lists.
--     term_beyond, term_none, resolve_of    the term of a number: from the term count on there is none; resolved
--     length_resolved                       as many residuals as branches
--     resolved_definition                   a call's residuals are those of the body called
-- Not here: by the kind of the term (`Kinds.antt`); the i-th of a list of residuals (`Nth.antt`). Assumes nothing.
use Rattle.std.specs.Prelude.{ℕ, ◌<◌, ◌≤◌, ◌≡◌}
use Rattle.std.proofs.Common.{arith, ◌∙◌}
use Rattle.std.proofs.Math.Decide.{dec_lt}
use Rattle.std.proofs.Math.Path.{ap}
use Rattle.std.proofs.Math.Option.{none}
use Rattle.std.proofs.Math.ListN.{length, get_or-eq_default}
use Rattle.table.specs.Table.{fail, Table, term_count, body_number, term_at}
use Rattle.table.proofs.Table.Laws.{none_beyond}
use Rattle.table.specs.Memory.{Memory, no_memory}
use Rattle.table.specs.Branches.{branches_with, branches}
use Rattle.table.specs.Node.{Node, no_node, nodes_of, node_at, term_of}
use Rattle.table.proofs.Node.Laws.{length_nodes_of}
use Rattle.table.proofs.Node.Numbers.{term_at_lem}
use Rattle.meaning.specs.Figure1.{body_count}
use Rattle.meaning.proofs.Formed.{guarded_table}
use Rattle.residuals.specs.Residual.{resolve_in, resolve_def, resolve}
use Rattle.residuals.proofs.Residual.Calls.{resolve_def_body}
use Rattle.residuals.proofs.Residual.Counts.{resolve_length}
use Rattle.resolving.specs.Lawful.{Lawful}

-- ---- the term of a number

-- from the term count on there is no term, which reads as FAIL
pub term_beyond : (t : Table) (n : ℕ) → term_count t ≤ n → term_of t n ≡ fail
unfolding term_of node_at
term_beyond t n h =
    ap (λ (x : Node). x.term) (get_or-eq_default (nodes_of t) no_node {n = n} (omega (arith, length_nodes_of t)))

pub term_none : (t : Table) (n : ℕ) → term_count t ≤ n → term_at t n ≡ none
unfolding term_at term_count
term_none t n h = none_beyond t.definitions n h

pub resolve_of : (t : Table) (n : ℕ) (m : Memory)
    → resolve t n m ≡ resolve_in (resolve_def t (body_count t)) (term_of t n) n m
unfolding resolve resolve_in
resolve_of t n m = by (dec_lt n (term_count t))
  where
    by : Dec (n < term_count t) → resolve t n m ≡ resolve_in (resolve_def t (body_count t)) (term_of t n) n m
    by (yes h) = rw (term_at_lem t n h, resolve)
    by (no h) = rw (term_none t n (omega arith), term_beyond t n (omega arith), resolve)

-- ---- of a lawful table

module _ (t : Table) (law : Lawful t) where
  pub length_resolved : (n : ℕ) (m : Memory) → length (resolve t n m) ≡ branches t (term_of t n)
  unfolding resolve_in branches branches_with
  length_resolved n m = by (dec_lt n (term_count t))
    where
      by : Dec (n < term_count t) → length (resolve t n m) ≡ branches t (term_of t n)
      by (yes h) = resolve_length t law.references n m (term_of t n) (term_at_lem t n h)
      by (no h) = let e = term_beyond t n (omega arith) in ap length (resolve_of t n m) ∙ rw e

  pub resolved_definition : (d : ℕ) → d < length t.definitions
      → resolve_def t (body_count t) d ≡ resolve t (body_number t d) no_memory
  unfolding body_count
  resolved_definition d h = resolve_def_body t (guarded_table t law.references) d h
