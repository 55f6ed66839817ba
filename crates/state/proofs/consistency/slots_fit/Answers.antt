-- `state::consistency::slots_fit` meets its contract. The invariant: the slots from the i-th on are valid exactly where
-- all are. Assumes nothing.
use native.Mathlib.Omega.{arith}
use Prim.Native.Nat.{◌+◌, ◌*◌}
use mathlib.Core.Path.{refl, ap, sym, ◌∙◌}
use Rattle.table_index.specs.Index.{table_in}
use Rattle.monitor_spec.specs.Valid.{valid_slot}
use Rattle.monitor_spec.specs.Consistent.{every}
use Rattle.state.proofs.consistency.SlotsTurn.{part_length, slots_first}
use Rattle.state.proofs.consistency.SlotsTurn.{every_next, every_not, every_done}
use Rattle.state.proofs.consistency.slots_fit.Goals as goal

pub loop-i-init : goal.loop-i-init
loop-i-init c =
    let t = table_in c.args.table.now.list.now in
    (omega arith, ap (every (valid_slot t)) (slots_first _ _))

pub slot_fits-requires : goal.slot_fits-requires
slot_fits-requires c =
    let turn = c.loop-i in
    let i = turn.i in
    record {
      slot_len = part_length (i * 16) (i * 16 + 16) _ refl (omega arith);
    }

pub returns-then-not-slot_fits : goal.returns-then-not-slot_fits
returns-then-not-slot_fits c =
    let if1 = c.if-not-slot_fits in
    let slot-fits = c.slot_fits in
    let loop-test = c.loop-i-test in
    let turn = c.loop-i in
    let t = table_in c.args.table.now.list.now in
    every_not c.args.area.now c.args.count turn.i (valid_slot t) loop-test.true
    (sym slot-fits.ensures ∙ if1.true)
    ∙ turn.invariant.1

pub loop-i-preserved : goal.loop-i-preserved
loop-i-preserved c =
    let if1 = c.if-not-slot_fits in
    let slot-fits = c.slot_fits in
    let loop-test = c.loop-i-test in
    let turn = c.loop-i in
    let t = table_in c.args.table.now.list.now in
    let e = every_next c.args.area.now c.args.count turn.i (valid_slot t) loop-test.true
    (sym slot-fits.ensures ∙ if1.false) in
    (omega arith, e ∙ turn.invariant.1)

pub returns : goal.returns
returns c =
    let loop-test = c.loop-i-test in
    let turn = c.loop-i in
    let t = table_in c.args.table.now.list.now in
    every_done c.args.area.now c.args.count turn.i (valid_slot t) loop-test.false
    ∙ turn.invariant.1
