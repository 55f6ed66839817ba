-- `tree_moves::moves::step_leaf` meets its contract: the first i results of the leaf are held, and what is left gives
-- what was left at the start; the slot is as it was. Assumes nothing.
use native.Mathlib.Omega.{arith}
use Rattle.std.proofs.lemmas.Result.{err_from_is_err_and}
use mathlib.Core.Path.{refl, ap, ◌∙◌}
use lib.ListN.{length}
use Rattle.index.specs.Facts.{terms_few}
use Rattle.resolving.specs.Lawful.{event_small}
use Rattle.tree_moves.specs.Moving.Leaves.{leaf_known, leaf_resolves, leaf_rebuilds, leaf_first}
use Rattle.tree_moves.specs.Moving.Leaves.{leaf_next, leaf_exceeded, leaf_end, leaf_whole, leaf_back}
use Rattle.tree_moves.proofs.moves.step_leaf.Goals as goal

pub offset_bounds-src-p : goal.offset_bounds-src-p
offset_bounds-src-p c =
    omega (arith, c.requires.steps_leaf.inside, c.requires.steps_leaf.some)

pub bounds-src-p : goal.bounds-src-p
bounds-src-p c =
    omega (arith, c.requires.steps_leaf.inside, c.requires.steps_leaf.some)

pub overflow_add-t : goal.overflow_add-t
overflow_add-t c =
    omega (arith, c.term_of-t.ensures, c.requires.steps_leaf.active.within, terms_few c.args.table.now.indexed)

pub remember-m-requires : goal.remember-m-requires
remember-m-requires c =
    (event_small c.requires.steps_leaf.law c.requires.steps_leaf.event, c.memory_of.ensures.1)

pub branches-b-requires : goal.branches-b-requires
branches-b-requires c =
    record {
      n_bound = leaf_known c.requires.steps_leaf _ _ _ c.term_of-t.ensures c.memory_of.ensures.0 c.remember-m.ensures.0;
    }

pub bounds-slot-0 : goal.bounds-slot-0
bounds-slot-0 c =
    omega (arith, c.requires.steps_leaf.rest.clean.whole)

pub loop-i-init : goal.loop-i-init
loop-i-init c =
    (refl, c.requires.steps_leaf.held, leaf_first c.requires.steps_leaf, refl)

pub resolve_into-requires : goal.resolve_into-requires
resolve_into-requires c =
    record {
      resolves = rw c.loop-i.invariant.3 (leaf_resolves c.requires.steps_leaf _ _ _ c.term_of-t.ensures c.memory_of.ensures.0 c.remember-m.ensures.0 _ c.branches-b.ensures.0 _ c.loop-i-test.true);
      m_lt_memory_bound = c.remember-m.ensures.1;
    }

pub overflow_add-p : goal.overflow_add-p
overflow_add-p c =
    omega (arith, c.requires.steps_leaf.inside, c.requires.steps_leaf.some)

pub overflow_sub-n : goal.overflow_sub-n
overflow_sub-n c =
    omega (arith, c.requires.steps_leaf.inside, c.requires.steps_leaf.some)

pub rebuild-requires : goal.rebuild-requires
rebuild-requires c =
    record {
      rebuilds = leaf_rebuilds c.requires.steps_leaf _ _ _ c.term_of-t.ensures c.memory_of.ensures.0 c.remember-m.ensures.0 _ c.branches-b.ensures.0 _
          c.loop-i-test.true _ (rw c.loop-i.invariant.3 at c.resolve_into.ensures);
    }

pub put-held-requires : goal.put-held-requires
put-held-requires c = (
  c.loop-i.invariant.1,
  (leaf_whole c.requires.steps_leaf _ _ _ c.term_of-t.ensures c.memory_of.ensures.0 c.remember-m.ensures.0 _ c.branches-b.ensures.0 _
      c.loop-i-test.true _ (rw c.loop-i.invariant.3 at c.resolve_into.ensures) _
      c.rebuild.ensures).1,
)

pub pop_to-requires : goal.pop_to-requires
pop_to-requires c =
    leaf_whole c.requires.steps_leaf _ _ _ c.term_of-t.ensures c.memory_of.ensures.0
    c.remember-m.ensures.0 _ c.branches-b.ensures.0 _ c.loop-i-test.true _
    (rw c.loop-i.invariant.3 at c.resolve_into.ensures) _ c.rebuild.ensures

pub loop-i-preserved : goal.loop-i-preserved
loop-i-preserved c =
    let o = (rw c.loop-i.invariant.3 at c.resolve_into.ensures) in
    let q = leaf_next c.requires.steps_leaf _ _ _ c.term_of-t.ensures c.memory_of.ensures.0
    c.remember-m.ensures.0 _ c.branches-b.ensures.0 _ c.loop-i-test.true _ o
    _ c.rebuild.ensures _ _ _ _ c.put-held.ensures _ c.in_ok-c.was in
    let back = leaf_back c.requires.steps_leaf _ _ _ c.term_of-t.ensures c.memory_of.ensures.0 c.remember-m.ensures.0 _ c.branches-b.ensures.0 _ c.loop-i-test.true
    _ o _ c.rebuild.ensures _ refl in (
      c.put-held.auto.area ∙ c.loop-i.invariant.0,
      q.1,
      q.0 ∙ c.loop-i.invariant.2,
      c.pop_to.ensures ∙
          back,
    )

pub shape_of-slot-in_err-c : goal.shape_of-slot-in_err-c
shape_of-slot-in_err-c c =
    ap length (c.pop_to.ensures ∙ leaf_back c.requires.steps_leaf _ _ _ c.term_of-t.ensures
    c.memory_of.ensures.0 c.remember-m.ensures.0 _ c.branches-b.ensures.0
    _ c.loop-i-test.true _ (rw c.loop-i.invariant.3 at c.resolve_into.ensures) _
    c.rebuild.ensures _ refl)

pub returns-in_err-c : goal.returns-in_err-c
returns-in_err-c c =
    let o = (rw c.loop-i.invariant.3 at c.resolve_into.ensures) in
    let full = leaf_exceeded c.requires.steps_leaf _ _ _ c.term_of-t.ensures c.memory_of.ensures.0 c.remember-m.ensures.0 _ c.branches-b.ensures.0 _ c.loop-i-test.true _ o _ c.rebuild.ensures _ _ _ _ c.put-held.ensures c.in_err-c.was
    in
    let back = leaf_back c.requires.steps_leaf _ _ _ c.term_of-t.ensures c.memory_of.ensures.0 c.remember-m.ensures.0 _ c.branches-b.ensures.0 _ c.loop-i-test.true
    _ o _ c.rebuild.ensures _ refl in
    let p = err_from_is_err_and c.from_residual.result c.from_residual.ensures.1 in
    rw p.1 (record { same = full ∙ c.loop-i.invariant.2; fits = omega arith }, c.pop_to.ensures ∙ back)

pub returns : goal.returns
returns c = (
  record {
    same = leaf_end c.requires.steps_leaf _ _ _ c.term_of-t.ensures c.memory_of.ensures.0 c.remember-m.ensures.0 _ c.branches-b.ensures.0 _ _ _ (omega (
      arith,
      c.loop-i-test.false,
    )) ∙ c.loop-i.invariant.2;
    fits = c.loop-i.invariant.1;
  },
  c.loop-i.invariant.3,
)
