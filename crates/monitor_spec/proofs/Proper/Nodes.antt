-- A proper residual has at most 15 nodes. Assumes nothing.
use Rattle.std.specs.Prelude.{suc, ◌*◌, ◌≤◌, length}
use native.Mathlib.Omega.{arith}
use Rattle.std.proofs.Math.ListN.{length-append}
use Rattle.table.specs.Table.{Table, Term, stop, fail, prefix, choice, par, call}
use Rattle.meaning.specs.Figure1.{body_count, plain, Guarded}
use Rattle.meaning.proofs.Formed.{number_formed}
use Rattle.table.proofs.Stands.Laws.{number_at}
use Rattle.table.specs.Width.{width_with, reach}
use Rattle.monitor_spec.specs.Regular.{Regular}
use Rattle.residuals.specs.Residual.{Residual, leaf, pair}
use Rattle.monitor_spec.specs.Meaning.{Sound}
use Rattle.residuals.specs.Slots.{nodes}
use Rattle.monitor_spec.specs.Valid.{reach_sum}
use Rattle.monitor_spec.specs.Proper.{Proper}
use Rattle.monitor_spec.proofs.Proper.Laws.{reach_at_at}

module _ (t : Table) (regular : Regular t) where
  -- ---- a slot has room for the nodes
  reach_some : (p : Term) → Guarded (body_count t) (body_count t) (plain p) → 1 ≤ reach t p
  unfolding plain reach width_with
  reach_some stop g = omega arith
  reach_some fail g = omega arith
  reach_some (prefix r p) g = reach_some p g
  reach_some (choice p q) g = let a = reach_some p g.0 in omega arith
  reach_some (par r p q) g = let a = reach_some p g.0 in omega arith
  reach_some (call d) g = regular.width_some d g

  pub nodes_reach : (r : Residual) → Sound t r → suc (length (nodes r)) ≤ 2 * reach_sum t r
  unfolding nodes reach_sum
  nodes_reach (leaf n m) (x, h, i) =
      let a = reach_some x (number_formed t regular.guarded (number_at t n x h).stands) in
      let b = reach_at_at t n x h in
      omega arith
  nodes_reach (pair n m l r) (x, h, i, a, b) =
      let c = nodes_reach l a in
      let d = nodes_reach r b in
      omega (arith, length-append (nodes l) (nodes r))

  pub nodes_most : (r : Residual) → Proper t r → length (nodes r) ≤ 15
  nodes_most r (s, (f, k)) = let a = nodes_reach r s in omega arith
