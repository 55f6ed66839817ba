-- `valid_slots::valid::slot_fits` meets its contract: the count, the words after the nodes, and then the walk decide.
-- Assumes nothing.
use mathlib.Core.Path.{ap, sym, ◌∙◌}
use Rattle.valid_slots.specs.Walk.{is_whole}
use Rattle.valid_slots.specs.Walk.Validity.{slot_empty, slot_large, slot_rest, slot_walk}
use Rattle.valid_slots.proofs.valid.slot_fits.Goals as goal

pub returns-then-count-eq0 : goal.returns-then-count-eq0
returns-then-count-eq0 c = slot_empty _ _ c.requires.slot_len c.if-count-eq0.true

pub returns-then-count-gt15 : goal.returns-then-count-gt15
returns-then-count-gt15 c =
    let if2 = c.if-count-gt15 in
    slot_large _ _ c.requires.slot_len if2.true

pub returns-then-not-all_zero : goal.returns-then-not-all_zero
returns-then-not-all_zero c =
    let if3 = c.if-not-all_zero in
    let all-zero = c.all_zero in
    let if2 = c.if-count-gt15 in
    slot_rest _ _ c.requires.slot_len if2.false (sym all-zero.ensures ∙ if3.true)

pub returns-in-Some : goal.returns-in-Some
returns-in-Some c =
    slot_walk _ _ c.requires.slot_len c.if-count-gt15.false
    (sym c.all_zero.ensures ∙ c.if-not-all_zero.false) _ _ c.walk.ensures
    (c.whole.ensures ∙ ap is_whole (sym c.in-Some.is))

pub returns-in-None : goal.returns-in-None
unfolding is_whole
returns-in-None c =
    slot_walk _ _ c.requires.slot_len c.if-count-gt15.false
    (sym c.all_zero.ensures ∙ c.if-not-all_zero.false) _ _ c.walk.ensures (ap is_whole (sym c.in-None.is))
