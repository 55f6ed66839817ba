-- `leaf_results::preparing::is_prefix` meets its contract: an arm's kinds are 2, or are not. Assumes nothing.
use native.Mathlib.Omega.{arith}
use Rattle.tree_walk.specs.Kinds.{other_kind, is_kind, no_kind}
use Rattle.leaf_results.proofs.preparing.is_prefix.Goals as goal

pub returns-in-2 : goal.returns-in-2
returns-in-2 c = is_kind _ _ 2 c.kind_at.ensures c.in-2.is

pub returns-in-0 : goal.returns-in-0
returns-in-0 c = no_kind _ _ 2 c.kind_at.ensures (other_kind c.in-0.is).0

pub returns-in-4 : goal.returns-in-4
returns-in-4 c = no_kind _ _ 2 c.kind_at.ensures (λ z. omega (arith, c.in-4.is, z))

pub returns-in-1 : goal.returns-in-1
returns-in-1 c = no_kind _ _ 2 c.kind_at.ensures (λ z. omega (arith, c.in-1.is, z))

pub returns-in-6-to-18446744073709551615 : goal.returns-in-6-to-18446744073709551615
returns-in-6-to-18446744073709551615 c = no_kind _ _ 2 c.kind_at.ensures c.in-6-to-18446744073709551615.in-6-to-18446744073709551615-own.rest.0.0.0.1
