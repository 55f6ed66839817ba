-- `resolving::descent::descend` meets its contract: at each turn the residual is the j-th of term `at`. The measure is
-- the number that bounds the calls, then the depth of the term. Assumes nothing.
use native.Mathlib.Omega.{arith}
use mathlib.Core.Logic.{inl, inr}
use Rattle.index.specs.Facts.{terms_few}
use Rattle.resolving.specs.Lawful.{lawful}
use Rattle.resolving.specs.ResidualWords.Ways.{beyond}
use Rattle.resolving.specs.ResidualWords.Descent.{descent_first, descent_called}
use Rattle.resolving.specs.ResidualWords.Descent.{call_known, call_less, call_next}
use Rattle.resolving.specs.ResidualWords.Descent.{choice_known, left_less, left_next, right_less, right_next}
use Rattle.resolving.specs.ResidualWords.Descent.{descent_node, descent_leaf, descent_pair, descent_none}
use Rattle.resolving.proofs.descent.descend.Goals as goal

pub loop-c-init : goal.loop-c-init
loop-c-init c =
    let pre = c.requires in descent_first (lawful c.args.table.now.indexed) pre.resolves pre.m_lt_memory_bound

pub kind-requires : goal.kind-requires
kind-requires c = record {
  n_bound = c.loop-c.invariant.resolves.within;
}

pub node_at-requires : goal.node_at-requires
node_at-requires c = record {
  n_bound = descent_node c.loop-c.invariant _ c.kind.ensures.0;
}

pub returns-in-0 : goal.returns-in-0
returns-in-0 c =
    descent_leaf c.loop-c.invariant _ c.kind.ensures.0
    c.in-0.is _ c.node_at.ensures

pub returns-in-1 : goal.returns-in-1
returns-in-1 c = descent_none c.loop-c.invariant _ c.kind.ensures.0 (inl c.in-1.is)

pub overflow_add-at : goal.overflow_add-at
overflow_add-at c =
    omega (
      arith,
      terms_few c.args.table.now.indexed,
      c.loop-c.invariant.resolves.within,
    )

pub branches-c-requires : goal.branches-c-requires
branches-c-requires c = record {
  n_bound = choice_known c.loop-c.invariant _ c.kind.ensures.0 c.in-3.is;
}

pub overflow_add-at-then-j-c : goal.overflow_add-at-then-j-c
overflow_add-at-then-j-c c =
    omega (
      arith,
      terms_few c.args.table.now.indexed,
      c.loop-c.invariant.resolves.within,
    )

pub loop-c-smaller-then-j-c : goal.loop-c-smaller-then-j-c
loop-c-smaller-then-j-c c =
    left_less c.loop-c.invariant _ c.kind.ensures.0
    c.in-3.is _ c.branches-c.ensures.0 c.if-j-c.true

pub loop-c-preserved-then-j-c : goal.loop-c-preserved-then-j-c
loop-c-preserved-then-j-c c =
    left_next c.loop-c.invariant _ c.kind.ensures.0
    c.in-3.is _ c.branches-c.ensures.0 c.if-j-c.true

pub right-at-requires : goal.right-at-requires
right-at-requires c = record {
  n_bound = c.loop-c.invariant.resolves.within;
}

pub loop-c-smaller-in-3 : goal.loop-c-smaller-in-3
loop-c-smaller-in-3 c =
    right_less c.loop-c.invariant _
    c.kind.ensures.0 c.in-3.is _
    c.branches-c.ensures.0 c.if-j-c.false _ c.right-at.ensures.0

pub loop-c-preserved-in-3 : goal.loop-c-preserved-in-3
loop-c-preserved-in-3 c =
    right_next c.loop-c.invariant _
    c.kind.ensures.0 c.in-3.is _
    c.branches-c.ensures.0 c.if-j-c.false _ c.right-at.ensures.0

pub returns-in-4 : goal.returns-in-4
returns-in-4 c = descent_pair c.loop-c.invariant _ c.kind.ensures.0

pub called-b-requires : goal.called-b-requires
called-b-requires c = record {
  n_bound = (descent_called c.loop-c.invariant _ c.kind.ensures.0 c.in-5.is).0;
  n_value = (descent_called c.loop-c.invariant _ c.kind.ensures.0 c.in-5.is).1;
}

pub body-at-requires : goal.body-at-requires
body-at-requires c = record {
  d_in_bounds = call_known c.loop-c.invariant _ c.kind.ensures.0 c.in-5.is
      _ c.called-b.ensures.0;
}

pub loop-c-smaller : goal.loop-c-smaller
loop-c-smaller c =
    call_less c.loop-c.invariant _ c.kind.ensures.0
    c.in-5.is _ c.called-b.ensures.0 _
    c.body-at.ensures.0

pub loop-c-preserved : goal.loop-c-preserved
loop-c-preserved c =
    call_next c.loop-c.invariant _ c.kind.ensures.0
    c.in-5.is _ c.called-b.ensures.0 _
    c.body-at.ensures.0

pub returns-in-6-to-18446744073709551615 : goal.returns-in-6-to-18446744073709551615
returns-in-6-to-18446744073709551615 c =
    descent_none c.loop-c.invariant _ c.kind.ensures.0
    (inr (beyond _ c.in-6-to-18446744073709551615.in-6-to-18446744073709551615-own.rest.0.0.0.0.1 c.in-6-to-18446744073709551615.in-6-to-18446744073709551615-own.rest.0.0.0.1 c.in-6-to-18446744073709551615.in-6-to-18446744073709551615-own.rest.0.0.1
    c.in-6-to-18446744073709551615.in-6-to-18446744073709551615-own.rest.0.1 c.in-6-to-18446744073709551615.in-6-to-18446744073709551615-own.rest.1))
