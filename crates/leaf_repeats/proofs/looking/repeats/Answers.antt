-- `leaf_repeats::looking::repeats` is safe: the nodes that are left can be looked at. Assumes nothing.
use native.Mathlib.Omega.{arith}
use Rattle.leaf_repeats.specs.Looking.Laws.{looks_from, looks_head, looks_leaf, looks_next}
use Rattle.leaf_repeats.proofs.looking.repeats.Goals as goal

pub loop-x-init : goal.loop-x-init
loop-x-init c =
    (omega arith, looks_from c.requires.looks _ _ (omega arith) (omega arith))

pub offset_bounds-src-at : goal.offset_bounds-src-at
offset_bounds-src-at c =
    let here = c.loop-x.invariant.1 in
    omega (arith, here.inside, looks_head here c.loop-x-test.true)

pub bounds-src-at : goal.bounds-src-at
bounds-src-at c =
    let here = c.loop-x.invariant.1 in
    omega (arith, here.inside, looks_head here c.loop-x-test.true)

pub look_node-requires : goal.look_node-requires
look_node-requires c =
    let here = c.loop-x.invariant.1 in
    record {
      looks_leaf = λ odd. looks_leaf here (looks_head here c.loop-x-test.true) odd;
      store_len = c.requires.store_len;
    }

pub returns-in-Many : goal.returns-in-Many
returns-in-Many c = tt

pub overflow_add-at : goal.overflow_add-at
overflow_add-at c =
    let here = c.loop-x.invariant.1 in
    omega (arith, here.inside, looks_head here c.loop-x-test.true)

pub loop-x-preserved : goal.loop-x-preserved
loop-x-preserved c =
    let here = c.loop-x.invariant.1 in
    let some = looks_head here c.loop-x-test.true in
    (omega (arith, some), looks_next here some _ _ (omega arith) (omega (arith, some)))

pub returns : goal.returns
returns c = tt
