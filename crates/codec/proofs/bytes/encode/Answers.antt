-- `codec::bytes::encode` meets its contract. The invariant is `OutputFilled`, with the output's length kept. There is
-- room for every number. Assumes nothing.
use native.Mathlib.Omega.{arith}
use mathlib.Core.Path.{refl, sym, ◌∙◌}
use Rattle.codec.proofs.bytes.Written.{filled_none, filled_room, filled_more, filled_done}
use Rattle.codec.proofs.bytes.encode.Goals as goal

pub loop-i-init : goal.loop-i-init
loop-i-init c = (filled_none _ _, refl)

pub loop-i-preserved : goal.loop-i-preserved
loop-i-preserved c =
    let k = c.loop-i in
    let w = c.write in
    let e = sym c.in-Some.is ∙ w.ensures.answer in
    (filled_more _ _ _ _ _ k.invariant.0 (omega arith) _ _ e w.ensures.output, omega arith)

pub returns-in_default : goal.returns-in_default
returns-in_default c =
    let k = c.loop-i in
    let w = c.write in
    let e = sym c.in_default.is ∙ w.ensures.answer in
    absurd (filled_room _ _ _ _ _ k.invariant.0 (omega arith) (omega arith) e)

pub returns : goal.returns
returns c = filled_done _ _ _ _ _ c.loop-i.invariant.0 (omega arith)
