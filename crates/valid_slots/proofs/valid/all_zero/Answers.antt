-- `valid_slots::valid::all_zero` meets its contract. The invariant: the words from i on are zero exactly where those
-- from `from` on are. Assumes nothing.
use mathlib.Core.Path.{◌∙◌}
use Rattle.valid_slots.proofs.valid.ZeroTurn.{zero_next, zero_not, zero_done}
use Rattle.valid_slots.proofs.valid.all_zero.Goals as goal

pub loop-i-init : goal.loop-i-init
loop-i-init c = c.past_zeros-i.ensures

pub returns-then-area-i-ne0 : goal.returns-then-area-i-ne0
returns-then-area-i-ne0 c =
    let if1 = c.if-area-i-ne0 in
    let loop-test = c.loop-i-test in
    let turn = c.loop-i in
    zero_not c.args.area.now turn.i loop-test.true if1.true ∙ turn.invariant

pub loop-i-preserved : goal.loop-i-preserved
loop-i-preserved c =
    let if1 = c.if-area-i-ne0 in
    let loop-test = c.loop-i-test in
    let turn = c.loop-i in
    zero_next c.args.area.now turn.i loop-test.true if1.false ∙ turn.invariant

pub returns : goal.returns
returns c =
    let loop-test = c.loop-i-test in
    let turn = c.loop-i in
    zero_done c.args.area.now turn.i loop-test.false ∙ turn.invariant
