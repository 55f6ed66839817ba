-- `tree_moves::moves::step_moves` meets its contract: what is left of the nodes, with what is held by now, comes to
-- what is due. The measure is the bits of the leaves that are left. Assumes nothing.
use native.Mathlib.Omega.{arith}
use Rattle.std.proofs.lemmas.Result.{err_from_is_err_and}
use mathlib.Core.Path.{refl, ◌∙◌}
use Rattle.tree_moves.specs.Moving.Moves.{moves_first, left_end, left_head, left_leaf, left_cleared}
use Rattle.tree_moves.specs.Moving.Moves.{left_exceeded, left_carries, left_carried}
use Rattle.tree_moves.proofs.moves.step_moves.Goals as goal

pub loop-x-init : goal.loop-x-init
loop-x-init c = (moves_first c.requires.steps_moves, refl)

pub step_leaf-requires : goal.step_leaf-requires
step_leaf-requires c =
    record {
      steps_leaf = left_leaf c.loop-x.invariant.0 c.loop-x-test.true c.if-x-eq1.true
          c.requires.steps_moves.event c.requires.steps_moves.whole;
    }

pub loop-x-smaller-then-x-eq1 : goal.loop-x-smaller-then-x-eq1
loop-x-smaller-then-x-eq1 c =
    omega (arith, c.loop-x-test.true)

pub loop-x-preserved-then-x-eq1 : goal.loop-x-preserved-then-x-eq1
loop-x-preserved-then-x-eq1 c =
    let step = c.step_leaf in
    let next = left_cleared c.loop-x.invariant.0 c.loop-x-test.true c.if-x-eq1.true _ _ step.ensures.0 _ c.in_ok-c.was in
    (rw step.ensures.1 next, step.auto.dst ∙ c.loop-x.invariant.1)

pub returns-in_err-c : goal.returns-in_err-c
returns-in_err-c c =
    let p = err_from_is_err_and c.from_residual.result c.from_residual.ensures.1 in
    rw p.1 (left_exceeded c.loop-x.invariant.0 c.loop-x-test.true c.if-x-eq1.true _ _ c.step_leaf.ensures.0 c.in_err-c.was)

pub offset_bounds-src-at : goal.offset_bounds-src-at
offset_bounds-src-at c =
    let left = c.loop-x.invariant.0 in
    omega (arith, left.inside, left_head left c.loop-x-test.true)

pub bounds-src-at : goal.bounds-src-at
bounds-src-at c =
    let left = c.loop-x.invariant.0 in
    omega (arith, left.inside, left_head left c.loop-x-test.true)

pub overflow_add-at : goal.overflow_add-at
overflow_add-at c =
    let left = c.loop-x.invariant.0 in
    omega (arith, left.inside, left_head left c.loop-x-test.true)

pub overflow_sub-left : goal.overflow_sub-left
overflow_sub-left c =
    let left = c.loop-x.invariant.0 in
    omega (arith, left.inside, left_head left c.loop-x-test.true)

pub carry-requires : goal.carry-requires
carry-requires c =
    record {
      carries = left_carries c.loop-x.invariant.0 c.loop-x-test.true c.requires.steps_moves.event c.requires.steps_moves.whole;
    }

pub loop-x-smaller : goal.loop-x-smaller
loop-x-smaller c = omega (arith, c.loop-x-test.true)

pub loop-x-preserved : goal.loop-x-preserved
loop-x-preserved c = (
  left_carried c.loop-x.invariant.0 c.loop-x-test.true (omega (arith, c.if-x-eq1.false)) _
      c.carry.ensures,
  c.loop-x.invariant.1,
)

pub returns : goal.returns
returns c = left_end c.loop-x.invariant.0 (omega (arith, c.loop-x-test.false))
