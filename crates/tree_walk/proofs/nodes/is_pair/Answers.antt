-- `tree_walk::nodes::is_pair` meets its contract: an arm's kinds are 4, or are not. Assumes nothing.
use native.Mathlib.Omega.{arith}
use Rattle.tree_walk.specs.Kinds.{other_node, is_kind, no_kind}
use Rattle.tree_walk.proofs.nodes.is_pair.Goals as goal

pub returns-in-4 : goal.returns-in-4
returns-in-4 c = is_kind _ _ 4 c.kind_at.ensures c.in-4.is

pub returns-in-0 : goal.returns-in-0
returns-in-0 c = no_kind _ _ 4 c.kind_at.ensures (other_node c.in-0.is)

pub returns-in-3 : goal.returns-in-3
returns-in-3 c = no_kind _ _ 4 c.kind_at.ensures (λ z. omega (arith, c.in-3.is, z))

pub returns-in-1 : goal.returns-in-1
returns-in-1 c = no_kind _ _ 4 c.kind_at.ensures (λ z. omega (arith, c.in-1.is, z))

pub returns-in-6-to-18446744073709551615 : goal.returns-in-6-to-18446744073709551615
returns-in-6-to-18446744073709551615 c = no_kind _ _ 4 c.kind_at.ensures c.in-6-to-18446744073709551615.in-6-to-18446744073709551615-own.rest.0.0.0.1
