-- `valid_slots::valid::walk` meets its contract. The invariant is `Head`: the forest is that of the words from i on.
-- The measure is i. Assumes nothing.
use native.Mathlib.Omega.{arith}
use Rattle.valid_slots.proofs.valid.WalkTurn.{reach_few, head_first, head_few, head_next, head_done}
use Rattle.valid_slots.proofs.valid.walk.Goals as goal

pub loop-i-init : goal.loop-i-init
loop-i-init c =
    head_first _ _ _ c.requires.slot_len.0 c.requires.slot_len.1

pub offset_bounds-slot-i : goal.offset_bounds-slot-i
offset_bounds-slot-i c = omega (arith, c.loop-i.invariant.at_most)

pub bounds-slot-i : goal.bounds-slot-i
bounds-slot-i c = omega (arith, c.loop-i.invariant.at_most)

pub plant-forest-requires : goal.plant-forest-requires
plant-forest-requires c =
    let loop-test = c.loop-i-test in
    let turn = c.loop-i in
    record {
      few = head_few _ _ _ c.requires.slot_len.0 c.requires.slot_len.1 _ _ loop-test.true turn.invariant;
    }

pub loop-i-preserved : goal.loop-i-preserved
loop-i-preserved c =
    let plant = c.plant-forest in
    let loop-test = c.loop-i-test in
    let turn = c.loop-i in
    head_next _ _ _ c.requires.slot_len.0 c.requires.slot_len.1 (reach_few c.args.table.now.indexed) _ _ _
    loop-test.true turn.invariant plant.ensures

pub returns : goal.returns
returns c =
    let turn = c.loop-i in
    head_done _ _ _ c.requires.slot_len.0 c.requires.slot_len.1 _ _ (omega arith) turn.invariant
