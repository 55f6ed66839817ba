-- `tree_walk::nodes::walk`, `walk_kept`, `walk_leaf` and `walk_pair` meet their contracts: one law of
-- `Course/Places.antt`, `Course/Pairs.antt` or `Course/Leaves.antt` per way out. A leaf's loop: the slot is as it was,
-- and what is left of its results gives what was left at the start. The measure is the nodes left; for the same node a
-- walk stands above a pair and a leaf, and those above a node that is kept. Assumes nothing.
use native.Mathlib.Omega.{arith}
use Rattle.std.proofs.lemmas.Result.{err_from_is_err_and}
use mathlib.Core.Path.{refl, sym, ap, ◌∙◌}
use mathlib.Core.Logic.{inr}
use lib.ListN.{length}
use Rattle.index.specs.Facts.{terms_few}
use Rattle.tree_walk.specs.Course.Places.{walk_end, bits_fit, next_place, next_kept, next_leaf, known, pop_room}
use Rattle.tree_walk.specs.Course.Places.{walk_kept_pair, walk_kept_leaf, odd_place, odd_gave}
use Rattle.tree_walk.specs.Course.Places.{kept_room, kept_place, kept_gave, kept_back}
use Rattle.tree_walk.specs.Course.Pairs.{pair_stuck, pair_place, pair_both, pair_then, pair_room, pair_exceeded}
use Rattle.resolving.specs.Lawful.{event_small}
use Rattle.tree_walk.specs.Course.Leaves.{leaf_few, leaf_start, leaf_end, go_resolves, go_place, go_next}
use Rattle.tree_walk.specs.Course.Leaves.{go_back, go_exceeded}
use Rattle.tree_walk.specs.Kinds.{kind_yes, kind_no}
use Rattle.tree_walk.proofs.nodes.+walk_walk_kept_walk_leaf_walk_pair.Goals as goal

pub walk-bounds-store-0 : goal.walk-bounds-store-0
walk-bounds-store-0 t c =
    omega (arith, c.requires.ready.size, c.requires.ready.few)

pub walk-put-requires : goal.walk-put-requires
walk-put-requires t c =
    (c.requires.place.held, c.requires.place.clean.whole)

pub walk-returns-then-n-k : goal.walk-returns-then-n-k
walk-returns-then-n-k t c =
    (walk_end c.requires.ready _ _ _ _ _ c.if-n-k.true _ _ c.put.ensures, refl)

pub walk-offset_bounds-store-k : goal.walk-offset_bounds-store-k
walk-offset_bounds-store-k t c =
    omega (arith, c.requires.ready.size, c.requires.ready.few, c.if-n-k.false)

pub walk-bounds-store-k : goal.walk-bounds-store-k
walk-bounds-store-k t c =
    omega (arith, c.requires.ready.size, c.requires.ready.few, c.if-n-k.false)

pub walk-is_pair-pair-requires : goal.walk-is_pair-pair-requires
walk-is_pair-pair-requires t c =
    record {
      w_bound = (known c.requires.ready _ _ _ _ _ c.requires.place c.if-n-k.false).within;
    }

pub walk-overflow_mul-rest : goal.walk-overflow_mul-rest
walk-overflow_mul-rest t c =
    omega (
      arith,
      bits_fit c.requires.ready _ _ _ _ _ c.requires.place
          c.if-n-k.false,
    )

pub walk-walk_kept-requires : goal.walk-walk_kept-requires
walk-walk_kept-requires t c = (
  omega (arith, c.decreases, c.requires.ready.few, c.if-n-k.false),
  (
    c.requires.ready,
    (
      c.requires.place.clean,
      next_place c.requires.ready _ _ _ _ _ c.requires.place c.if-n-k.false _ _ _
          (omega arith) c.requires.place.held
          (next_kept c.requires.ready _ _ _ _ _ c.requires.place c.if-n-k.false
          (kind_yes _ _ 4 c.is_pair-pair.ensures
          c.if-pair.true)),
    ),
  ),
)

pub walk-returns-then-pair : goal.walk-returns-then-pair
walk-returns-then-pair t c = (
  walk_kept_pair c.requires.ready _ _ _ _ _ c.requires.place c.if-n-k.false
      c.if-modes-eq0.true (kind_yes _ _ 4 c.is_pair-pair.ensures c.if-pair.true) _ _
      c.walk_kept.ensures.0,
  c.walk_kept.ensures.1,
)

pub walk-walk_kept-requires-then-modes-eq0 : goal.walk-walk_kept-requires-then-modes-eq0
walk-walk_kept-requires-then-modes-eq0 t c = (
  omega (arith, c.decreases, c.requires.ready.few, c.if-n-k.false),
  (
    c.requires.ready,
    (
      c.requires.place.clean,
      next_place c.requires.ready _ _ _ _ _ c.requires.place c.if-n-k.false _ _ _
          (omega arith) c.requires.place.held
          (next_leaf c.requires.ready _ _ _ _ _ c.requires.place c.if-n-k.false
          (kind_no _ _ 4 c.is_pair-pair.ensures
          c.if-pair.false)),
    ),
  ),
)

pub walk-returns-then-modes-eq0 : goal.walk-returns-then-modes-eq0
walk-returns-then-modes-eq0 t c = (
  walk_kept_leaf c.requires.ready _ _ _ _ _ c.requires.place c.if-n-k.false
      c.if-modes-eq0.true (kind_no _ _ 4 c.is_pair-pair.ensures c.if-pair.false) _ _
      c.walk_kept-then-modes-eq0.ensures.0,
  c.walk_kept-then-modes-eq0.ensures.1,
)

pub walk-walk_pair-requires : goal.walk-walk_pair-requires
walk-walk_pair-requires t c = (
  omega (arith, c.decreases, c.requires.ready.few, c.if-n-k.false),
  (
    c.requires.ready,
    (
      odd_place _ _ _ _ _ _ _ _ c.if-modes-eq0.false c.requires.place,
      c.if-n-k.false,
      kind_yes _ _ 4 c.is_pair-pair.ensures c.if-pair-2.true,
    ),
  ),
)

pub walk-returns-then-pair-2 : goal.walk-returns-then-pair-2
walk-returns-then-pair-2 t c = (
  odd_gave _ _ _ _ _ _ _ _ c.if-modes-eq0.false c.walk_pair.ensures.0,
  c.walk_pair.ensures.1,
)

pub walk-walk_leaf-requires : goal.walk-walk_leaf-requires
walk-walk_leaf-requires t c = (
  omega (arith, c.decreases, c.requires.ready.few, c.if-n-k.false),
  (
    c.requires.ready,
    (
      odd_place _ _ _ _ _ _ _ _ c.if-modes-eq0.false c.requires.place,
      c.if-n-k.false,
      kind_no _ _ 4 c.is_pair-pair.ensures c.if-pair-2.false,
    ),
  ),
)

pub walk-returns : goal.walk-returns
walk-returns t c = (
  odd_gave _ _ _ _ _ _ _ _ c.if-modes-eq0.false c.walk_leaf.ensures.0,
  c.walk_leaf.ensures.1,
)

pub walk_kept-bounds-slot-0 : goal.walk_kept-bounds-slot-0
walk_kept-bounds-slot-0 t c =
    omega (arith, c.requires.clean.0.whole)

pub walk_kept-offset_bounds-store-k : goal.walk_kept-offset_bounds-store-k
walk_kept-offset_bounds-store-k t c =
    omega (arith, c.requires.ready.size, c.requires.ready.few, c.requires.clean.1.last)

pub walk_kept-bounds-store-k : goal.walk_kept-bounds-store-k
walk_kept-bounds-store-k t c =
    omega (arith, c.requires.ready.size, c.requires.ready.few, c.requires.clean.1.last)

pub walk_kept-push_into-requires : goal.walk_kept-push_into-requires
walk_kept-push_into-requires t c =
    kept_room _ _ _ _ _ _ _ _ c.requires.clean.0 c.requires.clean.1

pub walk_kept-overflow_add-k : goal.walk_kept-overflow_add-k
walk_kept-overflow_add-k t c =
    omega (arith, c.requires.ready.size, c.requires.ready.few, c.requires.clean.1.last)

pub walk_kept-walk-held-requires : goal.walk_kept-walk-held-requires
walk_kept-walk-held-requires t c = (
  omega (arith, c.decreases, c.requires.ready.few, c.requires.clean.1.last),
  (
    c.requires.ready,
    kept_place _ _ _ _ _ _ _ _ c.requires.clean.0 c.requires.clean.1 _
        c.push_into.ensures,
  ),
)

pub walk_kept-pop_to-requires : goal.walk_kept-pop_to-requires
walk_kept-pop_to-requires t c =
    pop_room
    (kept_place _ _ _ _ _ _ _ _ c.requires.clean.0 c.requires.clean.1 _
    c.push_into.ensures) _ c.walk-held.ensures.1

pub walk_kept-returns : goal.walk_kept-returns
walk_kept-returns t c = (
  kept_gave _ _ _ _ _ _ _ _ c.requires.clean.0 c.requires.clean.1 _
      c.push_into.ensures c.walk-held.ensures.0,
  kept_back _ _ _ _ _ _ _ _ c.requires.clean.0 c.requires.clean.1 _
      c.push_into.ensures _ _ c.walk-held.ensures.1 c.pop_to.ensures,
)

pub walk_leaf-offset_bounds-store-k : goal.walk_leaf-offset_bounds-store-k
walk_leaf-offset_bounds-store-k t c =
    omega (arith, c.requires.ready.size, c.requires.ready.few, c.requires.place.1)

pub walk_leaf-bounds-store-k : goal.walk_leaf-bounds-store-k
walk_leaf-bounds-store-k t c =
    omega (arith, c.requires.ready.size, c.requires.ready.few, c.requires.place.1)

pub walk_leaf-overflow_mul-f : goal.walk_leaf-overflow_mul-f
walk_leaf-overflow_mul-f t c =
    omega (arith, c.requires.ready.size, c.requires.ready.few, c.requires.place.1)

pub walk_leaf-offset_bounds-store-k-2 : goal.walk_leaf-offset_bounds-store-k-2
walk_leaf-offset_bounds-store-k-2 t c =
    omega (arith, c.requires.ready.size, c.requires.ready.few, c.requires.place.1)

pub walk_leaf-bounds-store-k-2 : goal.walk_leaf-bounds-store-k-2
walk_leaf-bounds-store-k-2 t c =
    omega (arith, c.requires.ready.size, c.requires.ready.few, c.requires.place.1)

pub walk_leaf-remember-m-requires : goal.walk_leaf-remember-m-requires
walk_leaf-remember-m-requires t c =
    (event_small c.requires.ready.law c.requires.ready.event, c.memory_of.ensures.1)

pub walk_leaf-bounds-slot-0 : goal.walk_leaf-bounds-slot-0
walk_leaf-bounds-slot-0 t c =
    omega (arith, c.requires.place.0.clean.whole)

pub walk_leaf-loop-j-init : goal.walk_leaf-loop-j-init
walk_leaf-loop-j-init t c =
    (refl, omega arith, refl, c.requires.place.0.held, refl)

pub walk_leaf-overflow_mul-i : goal.walk_leaf-overflow_mul-i
walk_leaf-overflow_mul-i t c =
    omega (arith, c.requires.ready.size, c.requires.ready.few, c.requires.place.1)

pub walk_leaf-overflow_add-i : goal.walk_leaf-overflow_add-i
walk_leaf-overflow_add-i t c =
    omega (arith, c.requires.ready.size, c.requires.ready.few, c.requires.place.1)

pub walk_leaf-overflow_add-i-in-loop-j : goal.walk_leaf-overflow_add-i-in-loop-j
walk_leaf-overflow_add-i-in-loop-j t c =
    omega (
      arith,
      c.requires.ready.size,
      c.requires.ready.few,
      c.requires.place.1,
      leaf_few c.requires.ready _ _ _ _ _ c.requires.place.0 c.requires.place.1
          c.requires.place.2 _ _ c.loop-j-test.true refl,
    )

pub walk_leaf-offset_bounds-store-k-in-loop-j : goal.walk_leaf-offset_bounds-store-k-in-loop-j
walk_leaf-offset_bounds-store-k-in-loop-j t c =
    omega (
      arith,
      c.requires.ready.size,
      c.requires.ready.few,
      c.requires.place.1,
      leaf_few c.requires.ready _ _ _ _ _ c.requires.place.0 c.requires.place.1
          c.requires.place.2 _ _ c.loop-j-test.true refl,
    )

pub walk_leaf-bounds-store-k-in-loop-j : goal.walk_leaf-bounds-store-k-in-loop-j
walk_leaf-bounds-store-k-in-loop-j t c =
    omega (
      arith,
      c.requires.ready.size,
      c.requires.ready.few,
      c.requires.place.1,
      leaf_few c.requires.ready _ _ _ _ _ c.requires.place.0 c.requires.place.1
          c.requires.place.2 _ _ c.loop-j-test.true refl,
    )

pub walk_leaf-overflow_add-t : goal.walk_leaf-overflow_add-t
walk_leaf-overflow_add-t t c =
    omega (
      arith,
      c.term_of-t.ensures,
      (known c.requires.ready _ _ _ _ _ c.requires.place.0 c.requires.place.1).within,
      terms_few c.args.table.now.indexed,
    )

pub walk_leaf-resolve_into-requires : goal.walk_leaf-resolve_into-requires
walk_leaf-resolve_into-requires t c =
    record {
      resolves = go_resolves c.requires.ready _ _ _ _ _ c.requires.place.0 c.requires.place.1
          c.requires.place.2 _ _ c.loop-j-test.true refl _ _ _
          c.term_of-t.ensures c.memory_of.ensures.0 c.remember-m.ensures.0 _
          c.loop-j.invariant.0;
      m_lt_memory_bound = c.remember-m.ensures.1;
    }

pub walk_leaf-overflow_add-k : goal.walk_leaf-overflow_add-k
walk_leaf-overflow_add-k t c =
    omega (arith, c.requires.ready.size, c.requires.ready.few, c.requires.place.1)

pub walk_leaf-walk-held-requires : goal.walk_leaf-walk-held-requires
walk_leaf-walk-held-requires t c = (
  omega (arith, c.decreases, c.requires.ready.few, c.requires.place.1),
  (
    c.requires.ready,
    go_place c.requires.ready _ _ _ _ _ c.requires.place.0 c.requires.place.1
        c.requires.place.2 _ _ c.loop-j-test.true refl _ _ _ c.term_of-t.ensures
        c.memory_of.ensures.0 c.remember-m.ensures.0 _ c.loop-j.invariant.0 _
        c.resolve_into.ensures _ _ c.loop-j.invariant.3,
  ),
)

pub walk_leaf-pop_to-requires : goal.walk_leaf-pop_to-requires
walk_leaf-pop_to-requires t c =
    pop_room
    (go_place c.requires.ready _ _ _ _ _ c.requires.place.0 c.requires.place.1
    c.requires.place.2 _ _ c.loop-j-test.true refl _ _ _ c.term_of-t.ensures
    c.memory_of.ensures.0 c.remember-m.ensures.0 _ c.loop-j.invariant.0 _
    c.resolve_into.ensures c.loop-j.area c.loop-j.c c.loop-j.invariant.3) _
    c.walk-held.ensures.1

pub walk_leaf-loop-j-preserved : goal.walk_leaf-loop-j-preserved
walk_leaf-loop-j-preserved t c =
    let q = go_next c.requires.ready _ _ _ _ _ c.requires.place.0 c.requires.place.1
    c.requires.place.2 _ _ c.loop-j-test.true refl _ _ _ c.term_of-t.ensures
    c.memory_of.ensures.0 c.remember-m.ensures.0 _ c.loop-j.invariant.0 _
    c.resolve_into.ensures _ _ _ _ c.walk-held.ensures.0 _ c.in_ok-c.was in (
      go_back c.requires.ready _ _ _ _ _ c.requires.place.0 c.requires.place.1
          c.requires.place.2 _ _ c.loop-j-test.true refl _ _ _ c.term_of-t.ensures
          c.memory_of.ensures.0 c.remember-m.ensures.0 _ c.loop-j.invariant.0 _
          c.resolve_into.ensures _ _ c.walk-held.ensures.1 c.pop_to.ensures,
      omega (arith, c.loop-j-test.true),
      c.walk-held.auto.area ∙ c.loop-j.invariant.2,
      q.1,
      q.0 ∙ c.loop-j.invariant.4,
    )

pub walk_leaf-shape_of-slot-in_err-c : goal.walk_leaf-shape_of-slot-in_err-c
walk_leaf-shape_of-slot-in_err-c t c =
    ap length
    (go_back c.requires.ready _ _ _ _ _ c.requires.place.0 c.requires.place.1
    c.requires.place.2 _ _ c.loop-j-test.true refl _ _ _ c.term_of-t.ensures
    c.memory_of.ensures.0 c.remember-m.ensures.0 _ c.loop-j.invariant.0 _
    c.resolve_into.ensures _ _ c.walk-held.ensures.1
    c.pop_to.ensures)

pub walk_leaf-returns-in_err-c : goal.walk_leaf-returns-in_err-c
walk_leaf-returns-in_err-c t c =
    let p = err_from_is_err_and c.from_residual.result c.from_residual.ensures.1 in
    rw p.1 (
      record {
        same = go_exceeded c.requires.ready _ _ _ _ _ c.requires.place.0 c.requires.place.1
            c.requires.place.2 _ _ c.loop-j-test.true refl _ _ _ c.term_of-t.ensures
            c.memory_of.ensures.0 c.remember-m.ensures.0 _ c.loop-j.invariant.0 _
            c.resolve_into.ensures _ _ _ _ c.walk-held.ensures.0 c.in_err-c.was ∙
            c.loop-j.invariant.4 ∙ leaf_start c.requires.ready _ _ _ _ _ c.requires.place.0
            c.requires.place.1 c.requires.place.2;
        fits = omega arith;
      },
      go_back c.requires.ready _ _ _ _ _ c.requires.place.0 c.requires.place.1
          c.requires.place.2 _ _ c.loop-j-test.true refl _ _ _ c.term_of-t.ensures
          c.memory_of.ensures.0 c.remember-m.ensures.0 _ c.loop-j.invariant.0 _
          c.resolve_into.ensures _ _ c.walk-held.ensures.1
          c.pop_to.ensures,
    )

pub walk_leaf-returns : goal.walk_leaf-returns
walk_leaf-returns t c = (
  record {
    same = leaf_end c.requires.ready _ _ _ _ _ c.requires.place.0 c.requires.place.1
        c.requires.place.2 _ _ _ c.loop-j-test.false ∙ c.loop-j.invariant.4 ∙ leaf_start
        c.requires.ready _ _ _ _ _ c.requires.place.0 c.requires.place.1
        c.requires.place.2;
    fits = c.loop-j.invariant.3;
  },
  c.loop-j.invariant.0,
)

pub walk_pair-overflow_mul-k : goal.walk_pair-overflow_mul-k
walk_pair-overflow_mul-k t c =
    omega (arith, c.requires.ready.size, c.requires.ready.few, c.requires.place.1)

pub walk_pair-offset_bounds-store-k : goal.walk_pair-offset_bounds-store-k
walk_pair-offset_bounds-store-k t c =
    omega (arith, c.requires.ready.size, c.requires.ready.few, c.requires.place.1)

pub walk_pair-bounds-store-k : goal.walk_pair-bounds-store-k
walk_pair-bounds-store-k t c =
    omega (arith, c.requires.ready.size, c.requires.ready.few, c.requires.place.1)

pub walk_pair-returns-then-store-k-eq0 : goal.walk_pair-returns-then-store-k-eq0
walk_pair-returns-then-store-k-eq0 t c = (
  pair_stuck c.requires.ready _ _ _ _ _ c.requires.place.0 c.requires.place.1
      c.requires.place.2 c.if-store-k-eq0.true,
  refl,
)

pub walk_pair-offset_bounds-store-k-2 : goal.walk_pair-offset_bounds-store-k-2
walk_pair-offset_bounds-store-k-2 t c =
    omega (arith, c.requires.ready.size, c.requires.ready.few, c.requires.place.1)

pub walk_pair-bounds-store-k-2 : goal.walk_pair-bounds-store-k-2
walk_pair-bounds-store-k-2 t c =
    omega (arith, c.requires.ready.size, c.requires.ready.few, c.requires.place.1)

pub walk_pair-overflow_mul-kept : goal.walk_pair-overflow_mul-kept
walk_pair-overflow_mul-kept t c =
    omega (arith, bits_fit c.requires.ready _ _ _ _ _ c.requires.place.0 c.requires.place.1)

pub walk_pair-holds_at-requires : goal.walk_pair-holds_at-requires
walk_pair-holds_at-requires t c =
    record {
      known_word = known c.requires.ready _ _ _ _ _ c.requires.place.0 c.requires.place.1;
      fact = inr c.requires.place.2;
      e_bound = c.requires.ready.event;
    }

pub walk_pair-overflow_add-kept : goal.walk_pair-overflow_add-kept
walk_pair-overflow_add-kept t c =
    omega (arith, bits_fit c.requires.ready _ _ _ _ _ c.requires.place.0 c.requires.place.1)

pub walk_pair-walk_kept-requires : goal.walk_pair-walk_kept-requires
walk_pair-walk_kept-requires t c = (
  omega (arith, c.decreases, c.requires.ready.few, c.requires.place.1),
  (
    c.requires.ready,
    pair_place c.requires.ready _ _ _ _ _ c.requires.place.0 c.requires.place.1
        c.requires.place.2 c.if-store-k-eq0.false _ _ _ _ (omega arith) (omega arith) (refl)
        c.requires.place.0.held,
  ),
)

pub walk_pair-returns-then-holds_at : goal.walk_pair-returns-then-holds_at
walk_pair-returns-then-holds_at t c = (
  pair_both c.requires.ready _ _ _ _ _ c.requires.place.0 c.requires.place.1
      c.requires.place.2 (sym c.holds_at.ensures ∙ c.if-holds_at.true) _ _
      c.walk_kept.ensures.0,
  c.walk_kept.ensures.1,
)

pub walk_pair-overflow_add-kept-2 : goal.walk_pair-overflow_add-kept-2
walk_pair-overflow_add-kept-2 t c =
    omega (arith, bits_fit c.requires.ready _ _ _ _ _ c.requires.place.0 c.requires.place.1)

pub walk_pair-walk_kept-requires-2 : goal.walk_pair-walk_kept-requires-2
walk_pair-walk_kept-requires-2 t c = (
  omega (arith, c.decreases, c.requires.ready.few, c.requires.place.1),
  (
    c.requires.ready,
    pair_place c.requires.ready _ _ _ _ _ c.requires.place.0 c.requires.place.1
        c.requires.place.2 c.if-store-k-eq0.false _ _ _ _ (omega arith) (omega arith) (refl)
        c.requires.place.0.held,
  ),
)

pub walk_pair-overflow_add-kept-3 : goal.walk_pair-overflow_add-kept-3
walk_pair-overflow_add-kept-3 t c =
    omega (arith, bits_fit c.requires.ready _ _ _ _ _ c.requires.place.0 c.requires.place.1)

pub walk_pair-walk_kept-requires-3 : goal.walk_pair-walk_kept-requires-3
walk_pair-walk_kept-requires-3 t c = (
  omega (arith, c.decreases, c.requires.ready.few, c.requires.place.1),
  (
    c.requires.ready,
    pair_place c.requires.ready _ _ _ _ _ c.requires.place.0 c.requires.place.1
        c.requires.place.2 c.if-store-k-eq0.false _ _ _ _ (omega arith) (omega arith)
        c.walk_kept-2.ensures.1
        (pair_room c.requires.ready _ _ _ _ _ c.requires.place.0 c.requires.place.1
        c.requires.place.2 (sym c.holds_at.ensures ∙ c.if-holds_at.false) _ _
        c.walk_kept-2.ensures.0 _ c.in_ok-c.was),
  ),
)

pub walk_pair-returns : goal.walk_pair-returns
walk_pair-returns t c = (
  pair_then c.requires.ready _ _ _ _ _ c.requires.place.0 c.requires.place.1
      c.requires.place.2 (sym c.holds_at.ensures ∙ c.if-holds_at.false) _ _
      c.walk_kept-2.ensures.0 _ c.in_ok-c.was _ c.walk_kept-2.ensures.1 _ _
      c.walk_kept-3.ensures.0,
  c.walk_kept-3.ensures.1 ∙ c.walk_kept-2.ensures.1,
)

pub walk_pair-returns-in_err-c : goal.walk_pair-returns-in_err-c
walk_pair-returns-in_err-c t c =
    let p = err_from_is_err_and c.from_residual.result c.from_residual.ensures.1 in
    rw p.1 (
      pair_exceeded c.requires.ready _ _ _ _ _ c.requires.place.0 c.requires.place.1
          c.requires.place.2 (sym c.holds_at.ensures ∙ c.if-holds_at.false) _ _
          c.walk_kept-2.ensures.0 c.in_err-c.was,
      c.walk_kept-2.ensures.1,
    )
