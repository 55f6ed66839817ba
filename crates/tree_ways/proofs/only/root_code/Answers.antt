-- `tree_ways::only::root_code` meets its contract: at node j the stack has the words of the trees from there on, the
-- first one's on top; the measure is j. Assumes nothing.
use native.Mathlib.Omega.{arith}
use mathlib.Core.Path.{refl}
use mathlib.Core.Logic.{inr}
use Rattle.tree_walk.specs.Kinds.{kind_yes, kind_no}
use Rattle.tree_ways.specs.Code.Turns.{codes_first, codes_last, codes_inside, codes_known, codes_leaf}
use Rattle.tree_ways.specs.Code.Turns.{codes_ready, codes_pair}
use Rattle.tree_ways.proofs.only.root_code.Goals as goal

pub loop-j-init : goal.loop-j-init
loop-j-init c = codes_first c.requires.e_bound.1 _ _ refl

pub overflow_sub-j : goal.overflow_sub-j
overflow_sub-j c = omega (arith, c.loop-j-test.true)

pub overflow_add-w : goal.overflow_add-w
overflow_add-w c =
    let turn = c.loop-j.invariant in
    let asked = c.requires in
    let some = c.loop-j-test.true in
    omega (arith, codes_inside asked.e_bound.1 turn some)

pub offset_bounds-area-k : goal.offset_bounds-area-k
offset_bounds-area-k c =
    let turn = c.loop-j.invariant in
    let asked = c.requires in
    let some = c.loop-j-test.true in
    omega (arith, codes_inside asked.e_bound.1 turn some)

pub bounds-area-k : goal.bounds-area-k
bounds-area-k c =
    let turn = c.loop-j.invariant in
    let asked = c.requires in
    let some = c.loop-j-test.true in
    (codes_inside asked.e_bound.1 turn some).0

pub is_pair-requires : goal.is_pair-requires
is_pair-requires c =
    let turn = c.loop-j.invariant in
    let asked = c.requires in
    let some = c.loop-j-test.true in
    record {
      w_bound = (codes_known asked.e_bound.1 turn some).within;
    }

pub holds_at-held-requires : goal.holds_at-held-requires
holds_at-held-requires c =
    let turn = c.loop-j.invariant in
    let asked = c.requires in
    let some = c.loop-j-test.true in record {
      known_word = codes_known asked.e_bound.1 turn some;
      fact = inr (kind_yes _ _ 4 c.is_pair.ensures c.if-is_pair.true);
      e_bound = asked.e_bound.0;
    }

pub overflow_sub-h : goal.overflow_sub-h
overflow_sub-h c =
    let turn = c.loop-j.invariant in
    let asked = c.requires in
    let some = c.loop-j-test.true in
    let ready = codes_ready asked.e_bound.1 turn some
    (kind_yes _ _ 4 c.is_pair.ensures c.if-is_pair.true) in
    omega (arith, ready.0, turn.size, turn.height)

pub offset_bounds-stack-h : goal.offset_bounds-stack-h
offset_bounds-stack-h c =
    let turn = c.loop-j.invariant in
    let asked = c.requires in
    let some = c.loop-j-test.true in
    let ready = codes_ready asked.e_bound.1 turn some
    (kind_yes _ _ 4 c.is_pair.ensures c.if-is_pair.true) in
    omega (arith, ready.0, turn.size, turn.height)

pub bounds-stack-h : goal.bounds-stack-h
bounds-stack-h c =
    let turn = c.loop-j.invariant in
    let asked = c.requires in
    let some = c.loop-j-test.true in
    let ready = codes_ready asked.e_bound.1 turn some
    (kind_yes _ _ 4 c.is_pair.ensures c.if-is_pair.true) in
    omega (arith, ready.0, turn.size, turn.height)

pub overflow_sub-h-then-is_pair : goal.overflow_sub-h-then-is_pair
overflow_sub-h-then-is_pair c =
    let turn = c.loop-j.invariant in
    let asked = c.requires in
    let some = c.loop-j-test.true in
    let ready = codes_ready asked.e_bound.1 turn some
    (kind_yes _ _ 4 c.is_pair.ensures c.if-is_pair.true) in
    omega (arith, ready.0, turn.size, turn.height)

pub offset_bounds-stack-h-then-is_pair : goal.offset_bounds-stack-h-then-is_pair
offset_bounds-stack-h-then-is_pair c =
    let turn = c.loop-j.invariant in
    let asked = c.requires in
    let some = c.loop-j-test.true in
    let ready = codes_ready asked.e_bound.1 turn some
    (kind_yes _ _ 4 c.is_pair.ensures c.if-is_pair.true) in
    omega (arith, ready.0, turn.size, turn.height)

pub bounds-stack-h-then-is_pair : goal.bounds-stack-h-then-is_pair
bounds-stack-h-then-is_pair c =
    let turn = c.loop-j.invariant in
    let asked = c.requires in
    let some = c.loop-j-test.true in
    let ready = codes_ready asked.e_bound.1 turn some
    (kind_yes _ _ 4 c.is_pair.ensures c.if-is_pair.true) in
    omega (arith, ready.0, turn.size, turn.height)

pub pair_code-requires : goal.pair_code-requires
pair_code-requires c =
    let turn = c.loop-j.invariant in
    let asked = c.requires in
    let some = c.loop-j-test.true in
    let ready = codes_ready asked.e_bound.1 turn some
    (kind_yes _ _ 4 c.is_pair.ensures c.if-is_pair.true) in
    (omega (arith, ready), omega (arith, ready))

pub overflow_sub-stack : goal.overflow_sub-stack
overflow_sub-stack c =
    let turn = c.loop-j.invariant in
    let asked = c.requires in
    let some = c.loop-j-test.true in
    let ready = codes_ready asked.e_bound.1 turn some
    (kind_yes _ _ 4 c.is_pair.ensures c.if-is_pair.true) in
    omega (arith, ready.0, turn.size, turn.height)

pub offset_bounds-stack-h-then-is_pair-2 : goal.offset_bounds-stack-h-then-is_pair-2
offset_bounds-stack-h-then-is_pair-2 c =
    let turn = c.loop-j.invariant in
    let asked = c.requires in
    let some = c.loop-j-test.true in
    let ready = codes_ready asked.e_bound.1 turn some
    (kind_yes _ _ 4 c.is_pair.ensures c.if-is_pair.true) in
    omega (arith, ready.0, turn.size, turn.height)

pub bounds-stack-h-then-is_pair-2 : goal.bounds-stack-h-then-is_pair-2
bounds-stack-h-then-is_pair-2 c =
    let turn = c.loop-j.invariant in
    let asked = c.requires in
    let some = c.loop-j-test.true in
    let ready = codes_ready asked.e_bound.1 turn some
    (kind_yes _ _ 4 c.is_pair.ensures c.if-is_pair.true) in
    omega (arith, ready.0, turn.size, turn.height)

pub overflow_sub-h-then-is_pair-2 : goal.overflow_sub-h-then-is_pair-2
overflow_sub-h-then-is_pair-2 c =
    let turn = c.loop-j.invariant in
    let asked = c.requires in
    let some = c.loop-j-test.true in
    let ready = codes_ready asked.e_bound.1 turn some
    (kind_yes _ _ 4 c.is_pair.ensures c.if-is_pair.true) in
    omega (arith, ready.0, turn.size, turn.height)

pub loop-j-smaller-then-is_pair : goal.loop-j-smaller-then-is_pair
loop-j-smaller-then-is_pair c = omega (arith, c.loop-j-test.true)

pub loop-j-preserved-then-is_pair : goal.loop-j-preserved-then-is_pair
loop-j-preserved-then-is_pair c =
    let turn = c.loop-j.invariant in
    let asked = c.requires in
    let some = c.loop-j-test.true in
    codes_pair asked.e_bound.1 turn some
    (kind_yes _ _ 4 c.is_pair.ensures c.if-is_pair.true) _
    c.holds_at-held.ensures _ c.pair_code.ensures

pub leaf_code-requires : goal.leaf_code-requires
leaf_code-requires c =
    let turn = c.loop-j.invariant in
    let asked = c.requires in
    let some = c.loop-j-test.true in
    record {
      known_word = codes_known asked.e_bound.1 turn some;
      e_bound = (asked.e_bound.0, (codes_inside asked.e_bound.1 turn some).1);
    }

pub offset_bounds-stack-h-in-loop-j : goal.offset_bounds-stack-h-in-loop-j
offset_bounds-stack-h-in-loop-j c = omega (arith, c.loop-j.invariant.size, c.loop-j.invariant.height)

pub bounds-stack-h-in-loop-j : goal.bounds-stack-h-in-loop-j
bounds-stack-h-in-loop-j c = omega (arith, c.loop-j.invariant.size, c.loop-j.invariant.height)

pub overflow_add-h : goal.overflow_add-h
overflow_add-h c = omega (arith, c.loop-j.invariant.size, c.loop-j.invariant.height)

pub loop-j-smaller : goal.loop-j-smaller
loop-j-smaller c = omega (arith, c.loop-j-test.true)

pub loop-j-preserved : goal.loop-j-preserved
loop-j-preserved c =
    let turn = c.loop-j.invariant in
    let asked = c.requires in
    let some = c.loop-j-test.true in
    codes_leaf asked.e_bound.1 turn some (kind_no _ _ 4 c.is_pair.ensures c.if-is_pair.false) _
    c.leaf_code.ensures

pub bounds-stack-0 : goal.bounds-stack-0
bounds-stack-0 c = omega (arith, c.loop-j.invariant.size)

pub returns : goal.returns
returns c =
    codes_last c.requires.e_bound.1 c.loop-j.invariant
    (omega (arith, c.loop-j-test.false))
