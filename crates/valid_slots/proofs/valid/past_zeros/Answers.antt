-- `valid_slots::valid::past_zeros` meets its contract. The invariant: the words from i on are zero exactly where those
-- from `from` on are. The measure is what is left of the length. Assumes nothing.
use mathlib.Core.Path.{refl, ◌∙◌}
use Rattle.valid_slots.proofs.valid.past_zeros.Goals as goal

pub returns-then-area-lt8 : goal.returns-then-area-lt8
returns-then-area-lt8 c = refl

pub loop-i-init : goal.loop-i-init
loop-i-init c = refl

pub returns-then-eight-ne0 : goal.returns-then-eight-ne0
returns-then-eight-ne0 c = c.loop-i.invariant

pub loop-i-preserved : goal.loop-i-preserved
loop-i-preserved c = c.eight.ensures c.if-eight-ne0.false ∙ c.loop-i.invariant

pub returns : goal.returns
returns c = c.loop-i.invariant
