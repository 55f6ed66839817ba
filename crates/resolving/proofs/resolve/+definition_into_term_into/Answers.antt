-- `resolving::resolve::definition_into` and `resolving::resolve::term_into` meet their contracts: one law
-- of `Residual/Ways.antt` per way out and per turn. The measure is the number that bounds the calls, then the depth of
-- the term; a definition stands above the terms of its body. Assumes nothing.
use native.Mathlib.Omega.{arith}
use mathlib.Core.Path.{sym, ◌∙◌}
use mathlib.Core.Logic.{inl, inr}
use Rattle.index.specs.Facts.{terms_few}
use Rattle.node_word.proofs.Word.Laws.{memory_zero, zero_below}
use Rattle.resolving.specs.Lawful.{lawful}
use Rattle.resolving.specs.ResidualWords.Into.{into_definition}
use Rattle.resolving.specs.ResidualWords.Ways.{beyond, way_first, way_leaf, way_none, way_call}
use Rattle.resolving.specs.ResidualWords.Ways.{way_choice, way_left, way_right, way_par, way_room, way_side}
use Rattle.resolving.specs.ResidualWords.Ways.{way_other}
use Rattle.resolving.proofs.resolve.+definition_into_term_into.Goals as goal

pub definition_into-body-requires : goal.definition_into-body-requires
definition_into-body-requires t c =
    record {
      d_in_bounds = c.requires.resolves_definition.known;
    }

pub definition_into-term_into-requires : goal.definition_into-term_into-requires
definition_into-term_into-requires t c =
    let q = into_definition _ (lawful c.args.table.now.indexed) _ _ _ c.requires.resolves_definition _
    c.body.ensures.0 in (
      omega (arith, (lawful c.args.table.now.indexed).shallow c.body.result q.0.within),
      (rw memory_zero q.0, zero_below),
    )

pub definition_into-returns : goal.definition_into-returns
definition_into-returns t c =
    (rw memory_zero at c.term_into.ensures)
    ∙ (into_definition _ (lawful c.args.table.now.indexed) _ _ _ c.requires.resolves_definition _
    c.body.ensures.0).1

pub term_into-loop-slot-init : goal.term_into-loop-slot-init
term_into-loop-slot-init t c =
    way_first (lawful c.args.table.now.indexed) c.requires.resolves

pub term_into-kind-requires : goal.term_into-kind-requires
term_into-kind-requires t c =
    record {
      n_bound = c.loop-slot.invariant.resolves.within;
    }

pub term_into-node_at-requires : goal.term_into-node_at-requires
term_into-node_at-requires t c =
    record {
      n_bound = (c.loop-slot.invariant.resolves.within, c.requires.m_lt_memory_bound);
    }

pub term_into-push_into-requires : goal.term_into-push_into-requires
term_into-push_into-requires t c = (
  (way_leaf c.loop-slot.invariant _ c.kind.ensures.0
      c.in-0.is _ c.node_at.ensures).0,
  c.loop-slot.invariant.resolves.whole,
)

pub term_into-shape_of-slot-in-0 : goal.term_into-shape_of-slot-in-0
term_into-shape_of-slot-in-0 t c =
    c.push_into.auto.slot ∙ c.loop-slot.invariant.resolves.whole ∙ sym c.requires.resolves.whole

pub term_into-returns-in-0 : goal.term_into-returns-in-0
term_into-returns-in-0 t c =
    c.push_into.ensures
    ∙ (way_leaf c.loop-slot.invariant _ c.kind.ensures.0
    c.in-0.is _ c.node_at.ensures).1

pub term_into-shape_of-slot-in-1 : goal.term_into-shape_of-slot-in-1
term_into-shape_of-slot-in-1 t c =
    c.loop-slot.invariant.resolves.whole ∙ sym c.requires.resolves.whole

pub term_into-returns-in-1 : goal.term_into-returns-in-1
term_into-returns-in-1 t c =
    way_none c.loop-slot.invariant _ c.kind.ensures.0 (inl c.in-1.is)

pub term_into-overflow_add-at : goal.term_into-overflow_add-at
term_into-overflow_add-at t c =
    omega (arith, c.loop-slot.invariant.resolves.within, terms_few c.args.table.now.indexed)

pub term_into-branches-c-requires : goal.term_into-branches-c-requires
term_into-branches-c-requires t c =
    record {
      n_bound = way_choice c.loop-slot.invariant _ c.kind.ensures.0 c.in-3.is;
    }

pub term_into-overflow_add-at-then-j-c : goal.term_into-overflow_add-at-then-j-c
term_into-overflow_add-at-then-j-c t c =
    omega (arith, c.loop-slot.invariant.resolves.within, terms_few c.args.table.now.indexed)

pub term_into-loop-slot-smaller-then-j-c : goal.term_into-loop-slot-smaller-then-j-c
term_into-loop-slot-smaller-then-j-c t c =
    (way_left c.loop-slot.invariant _ c.kind.ensures.0 c.in-3.is _
    c.branches-c.ensures.0 c.if-j-c.true).0

pub term_into-loop-slot-preserved-then-j-c : goal.term_into-loop-slot-preserved-then-j-c
term_into-loop-slot-preserved-then-j-c t c =
    (way_left c.loop-slot.invariant _ c.kind.ensures.0 c.in-3.is _
    c.branches-c.ensures.0 c.if-j-c.true).1

pub term_into-right-at-requires : goal.term_into-right-at-requires
term_into-right-at-requires t c =
    record {
      n_bound = c.loop-slot.invariant.resolves.within;
    }

pub term_into-loop-slot-smaller-in-3 : goal.term_into-loop-slot-smaller-in-3
term_into-loop-slot-smaller-in-3 t c =
    (way_right c.loop-slot.invariant _ c.kind.ensures.0
    c.in-3.is _ c.branches-c.ensures.0 c.if-j-c.false _
    c.right-at.ensures.0).0

pub term_into-loop-slot-preserved-in-3 : goal.term_into-loop-slot-preserved-in-3
term_into-loop-slot-preserved-in-3 t c =
    (way_right c.loop-slot.invariant _ c.kind.ensures.0
    c.in-3.is _ c.branches-c.ensures.0 c.if-j-c.false _
    c.right-at.ensures.0).1

pub term_into-right-r-requires : goal.term_into-right-r-requires
term_into-right-r-requires t c =
    record {
      n_bound = c.loop-slot.invariant.resolves.within;
    }

pub term_into-branches-c-requires-in-4 : goal.term_into-branches-c-requires-in-4
term_into-branches-c-requires-in-4 t c =
    record {
      n_bound = way_par c.loop-slot.invariant _ c.kind.ensures.0 c.in-4.is _
          c.right-r.ensures.0;
    }

pub term_into-node_at-requires-in-4 : goal.term_into-node_at-requires-in-4
term_into-node_at-requires-in-4 t c =
    record {
      n_bound = (c.loop-slot.invariant.resolves.within, c.requires.m_lt_memory_bound);
    }

pub term_into-push_into-requires-in-4 : goal.term_into-push_into-requires-in-4
term_into-push_into-requires-in-4 t c = (
  (way_room c.loop-slot.invariant _ c.kind.ensures.0
      c.in-4.is _ c.right-r.ensures.0 _
      c.branches-c-in-4.ensures.0).1,
  c.loop-slot.invariant.resolves.whole,
)

pub term_into-nonzero_div-left : goal.term_into-nonzero_div-left
term_into-nonzero_div-left t c =
    (way_room c.loop-slot.invariant _ c.kind.ensures.0
    c.in-4.is _ c.right-r.ensures.0 _
    c.branches-c-in-4.ensures.0).0

pub term_into-nonzero_rem-j : goal.term_into-nonzero_rem-j
term_into-nonzero_rem-j t c =
    (way_room c.loop-slot.invariant _ c.kind.ensures.0
    c.in-4.is _ c.right-r.ensures.0 _
    c.branches-c-in-4.ensures.0).0

pub term_into-overflow_add-at-in-4 : goal.term_into-overflow_add-at-in-4
term_into-overflow_add-at-in-4 t c =
    omega (arith, c.loop-slot.invariant.resolves.within, terms_few c.args.table.now.indexed)

pub term_into-term_into-requires : goal.term_into-term_into-requires
term_into-term_into-requires t c =
    let q = way_side c.loop-slot.invariant _ c.kind.ensures.0
    c.in-4.is _ c.right-r.ensures.0 _
    c.branches-c-in-4.ensures.0 _
    c.node_at-in-4.ensures _ c.push_into-in-4.ensures in
    (omega (arith, q.0, c.decreases), (q.1, c.requires.m_lt_memory_bound))

pub term_into-loop-slot-smaller : goal.term_into-loop-slot-smaller
term_into-loop-slot-smaller t c =
    (way_other c.loop-slot.invariant _ c.kind.ensures.0
    c.in-4.is _ c.right-r.ensures.0 _
    c.branches-c-in-4.ensures.0 _
    c.node_at-in-4.ensures _
    c.push_into-in-4.ensures _
    c.term_into.ensures).0

pub term_into-loop-slot-preserved : goal.term_into-loop-slot-preserved
term_into-loop-slot-preserved t c =
    (way_other c.loop-slot.invariant _ c.kind.ensures.0
    c.in-4.is _ c.right-r.ensures.0 _
    c.branches-c-in-4.ensures.0 _
    c.node_at-in-4.ensures _
    c.push_into-in-4.ensures _
    c.term_into.ensures).1

pub term_into-called-requires : goal.term_into-called-requires
term_into-called-requires t c =
    record {
      n_bound = c.loop-slot.invariant.resolves.within;
      n_value = sym c.kind.ensures.0 ∙ c.in-5.is;
    }

pub term_into-definition_into-requires : goal.term_into-definition_into-requires
term_into-definition_into-requires t c =
    let q = way_call c.loop-slot.invariant _ c.kind.ensures.0
    c.in-5.is _ c.called.ensures.0 in
    (omega (arith, q.0, c.decreases), q.1)

pub term_into-shape_of-slot-in-5 : goal.term_into-shape_of-slot-in-5
term_into-shape_of-slot-in-5 t c =
    c.definition_into.auto.slot ∙ c.loop-slot.invariant.resolves.whole
    ∙ sym c.requires.resolves.whole

pub term_into-returns-in-5 : goal.term_into-returns-in-5
term_into-returns-in-5 t c =
    c.definition_into.ensures
    ∙ (way_call c.loop-slot.invariant _ c.kind.ensures.0
    c.in-5.is _
    c.called.ensures.0).2

pub term_into-shape_of-slot-in-6-to-18446744073709551615 : goal.term_into-shape_of-slot-in-6-to-18446744073709551615
term_into-shape_of-slot-in-6-to-18446744073709551615 t c =
    c.loop-slot.invariant.resolves.whole ∙ sym c.requires.resolves.whole

pub term_into-returns-in-6-to-18446744073709551615 : goal.term_into-returns-in-6-to-18446744073709551615
term_into-returns-in-6-to-18446744073709551615 t c =
    way_none c.loop-slot.invariant _ c.kind.ensures.0
    (inr (beyond _ c.in-6-to-18446744073709551615.in-6-to-18446744073709551615-own.rest.0.0.0.0.1 c.in-6-to-18446744073709551615.in-6-to-18446744073709551615-own.rest.0.0.0.1 c.in-6-to-18446744073709551615.in-6-to-18446744073709551615-own.rest.0.0.1
    c.in-6-to-18446744073709551615.in-6-to-18446744073709551615-own.rest.0.1 c.in-6-to-18446744073709551615.in-6-to-18446744073709551615-own.rest.1))
