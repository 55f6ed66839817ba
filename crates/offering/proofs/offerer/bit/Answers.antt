-- `offering::offerer::bit` meets its contract. The invariant: the residuals from the i-th on have the bit that all
-- have. Assumes nothing.
use native.Mathlib.Omega.{arith}
use Prim.Native.Nat.{◌-◌}
use mathlib.Core.Path.{refl, ◌∙◌}
use Rattle.index.specs.Facts.{indexed_rules}
use Rattle.step_laws.specs.HeldAreas.{holds_room, holds_tree}
use Rattle.offering.proofs.offerer.BitTurn.{bit_next, bit_found, bit_done}
use borrow.Author.Rules.{rules}
use Rattle.offering.proofs.offerer.bit.Goals as goal

pub loop-i-init : goal.loop-i-init
loop-i-init c = refl

pub overflow_mul-i : goal.overflow_mul-i
overflow_mul-i c =
    let room = holds_room (indexed_rules c.args.table.now.indexed) c.requires.area_holds in
    omega arith

pub overflow_add-i : goal.overflow_add-i
overflow_add-i c =
    let room = holds_room (indexed_rules c.args.table.now.indexed) c.requires.area_holds in
    omega arith

pub takes_at-tree-requires : goal.takes_at-tree-requires
takes_at-tree-requires c =
    let turn = c.loop-i in
    let rules = indexed_rules c.args.table.now.indexed in
    record {
      e_bound = (c.requires.e_bound, holds_tree rules c.requires.area_holds turn.i c.loop-i-test.true);
    }

pub returns-then-tree : goal.returns-then-tree
returns-then-tree c =
    let loop-test = c.loop-i-test in
    let turn = c.loop-i in
    bit_found (indexed_rules c.args.table.now.indexed) c.requires.area_holds _ _ loop-test.true _
    c.takes_at-tree.ensures c.if-tree.true
    ∙ turn.invariant

pub loop-i-preserved : goal.loop-i-preserved
loop-i-preserved c =
    let loop-test = c.loop-i-test in
    let turn = c.loop-i in
    bit_next (indexed_rules c.args.table.now.indexed) c.requires.area_holds _ _ loop-test.true _
    c.takes_at-tree.ensures c.if-tree.false
    ∙ turn.invariant

pub returns : goal.returns
returns c =
    let turn = c.loop-i in
    bit_done (indexed_rules c.args.table.now.indexed) c.requires.area_holds _ _ c.loop-i-test.false ∙ turn.invariant
