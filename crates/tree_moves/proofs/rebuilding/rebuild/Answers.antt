-- `tree_moves::rebuilding::rebuild` meets its contract: the slot has what the first j nodes became, and the marks from
-- there on are left; the nodes that are left have room. Assumes nothing.
use native.Mathlib.Omega.{arith}
use mathlib.Core.Path.{refl, ◌∙◌}
use Rattle.index.specs.Facts.{terms_few}
use Rattle.resolving.specs.ResidualWords.Descent.{landed_nowhere, landed_leaf, landed_pair}
use Rattle.resolving.specs.Lawful.{event_small}
use Rattle.tree_ways.specs.Only.Following.{carry_resolves, carry_moved}
use Rattle.tree_ways.specs.Only.Rebuilding.{rebuild_first, rebuild_room, rebuild_keep}
use Rattle.tree_ways.specs.Only.Rebuilding.{rebuild_carries, rebuild_carry, rebuild_last}
use Rattle.tree_moves.proofs.rebuilding.rebuild.Goals as goal
use Rattle.tree_moves.proofs.rebuilding.rebuild.Goals.{in-Leaf, in-Pair}

pub loop-j-init : goal.loop-j-init
loop-j-init c =
    let first = rebuild_first c.requires.rebuilds in
    let space = rebuild_room c.requires.rebuilds _ _ _ (omega arith) first in
    (omega arith, space.0, space.1, first)

pub overflow_add-w : goal.overflow_add-w
overflow_add-w c = omega (arith, c.requires.rebuilds.inside, c.loop-j-test.true)

pub offset_bounds-area-p : goal.offset_bounds-area-p
offset_bounds-area-p c = omega (arith, c.requires.rebuilds.inside, c.loop-j-test.true)

pub bounds-area-p : goal.bounds-area-p
bounds-area-p c =
    omega (arith, c.requires.rebuilds.inside, c.loop-j-test.true)

pub loop-j-preserved-then-m-eq0 : goal.loop-j-preserved-then-m-eq0
loop-j-preserved-then-m-eq0 c =
    let next = rebuild_keep c.requires.rebuilds _ _ _ c.loop-j-test.true c.loop-j.invariant.3 _ refl
    c.if-m-eq0.true in
    let space = rebuild_room c.requires.rebuilds _ _ _ (omega (arith, c.loop-j-test.true)) next in
    rw c.push_into.ensures (omega (arith, c.loop-j-test.true), space.0, space.1, next)

pub overflow_add-t : goal.overflow_add-t
overflow_add-t c =
    let carries = rebuild_carries c.requires.rebuilds _ _ _ c.loop-j-test.true c.loop-j.invariant.3
    _ refl in
    omega (
      arith,
      c.term_of-t.ensures,
      (carries.single c.if-m-eq0.false).active.within,
      terms_few c.args.table.now.indexed,
    )

pub remember-x-requires : goal.remember-x-requires
remember-x-requires c =
    (event_small c.requires.rebuilds.law c.requires.rebuilds.event, c.memory_of.ensures.1)

pub descend-requires : goal.descend-requires
descend-requires c =
    let carries = rebuild_carries c.requires.rebuilds _ _ _ c.loop-j-test.true c.loop-j.invariant.3
    _ refl in record {
      resolves = carry_resolves carries c.if-m-eq0.false _ _ _ c.term_of-t.ensures
          c.memory_of.ensures.0 c.remember-x.ensures.0;
      m_lt_memory_bound = c.remember-x.ensures.1;
    }

pub returns-in-Nothing : goal.returns-in-Nothing
returns-in-Nothing c = landed_nowhere _ _ _ _ _ _ c.descend.ensures c.in-Nothing.is

pub term_into-requires : goal.term_into-requires
term_into-requires c =
    let q = landed_pair _ _ _ _ _ _ c.descend.ensures _ _ _ _ c.in-Pair.is in
    record {
      resolves = q.0;
      m_lt_memory_bound = q.1;
    }

pub loop-j-preserved : goal.loop-j-preserved
loop-j-preserved c =
    let carries = rebuild_carries c.requires.rebuilds _ _ _ c.loop-j-test.true c.loop-j.invariant.3
    _ refl in
    elim c.match-descend.branch [
      | in-Leaf w ↦
          let here = landed_leaf _ _ _ _ _ _ c.descend.ensures _ w.in-Leaf.is in
          let next = rebuild_carry c.requires.rebuilds _ _ _ c.loop-j-test.true c.loop-j.invariant.3 _
          refl _ (carry_moved carries c.if-m-eq0.false _ _ _ c.term_of-t.ensures c.memory_of.ensures.0 c.remember-x.ensures.0 _ here.1) in
          let space = rebuild_room c.requires.rebuilds _ _ _ (omega (arith, c.loop-j-test.true)) next in
          rw (w.slot-is, w.push_into-in-Leaf.ensures) (omega (arith, c.loop-j-test.true), space.0, space.1, next)
      | in-Pair w ↦
          let here = landed_pair _ _ _ _ _ _ c.descend.ensures _ _ _ _ w.in-Pair.is in
          let next = rebuild_carry c.requires.rebuilds _ _ _ c.loop-j-test.true c.loop-j.invariant.3 _
          refl _ (carry_moved carries c.if-m-eq0.false _ _ _ c.term_of-t.ensures c.memory_of.ensures.0 c.remember-x.ensures.0 _ (w.term_into.ensures ∙ here.2)) in
          let space = rebuild_room c.requires.rebuilds _ _ _ (omega (arith, c.loop-j-test.true)) next in
          rw w.slot-is (omega (arith, c.loop-j-test.true), space.0, space.1, next)
    ]

pub returns : goal.returns
returns c =
    rebuild_last c.requires.rebuilds _ _ _ (omega (arith, c.loop-j-test.false)) c.loop-j.invariant.3
