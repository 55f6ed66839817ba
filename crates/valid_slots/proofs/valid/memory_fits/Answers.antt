-- `valid_slots::valid::memory_fits` meets its contract: the first event that does not fit decides. Assumes nothing.
use mathlib.Core.Path.{◌∙◌}
use Rattle.valid_slots.proofs.valid.Digits.{fits_at_lem, none_before, one_more, unfit_at, all_fit}
use Rattle.valid_slots.proofs.valid.memory_fits.Goals as goal

pub loop-i-init : goal.loop-i-init
loop-i-init c = none_before _ _ _

pub returns-then-not-digit_fits : goal.returns-then-not-digit_fits
returns-then-not-digit_fits c =
    let turn = c.loop-i in
    unfit_at _ _ _ turn.i c.loop-i-test.true turn.invariant
    (fits_at_lem _ _ _ turn.i _ _ c.digit.ensures.0 c.digit_fits.ensures ∙ c.if-not-digit_fits.true)

pub loop-i-preserved : goal.loop-i-preserved
loop-i-preserved c =
    let turn = c.loop-i in
    one_more _ _ _ turn.i turn.invariant
    (fits_at_lem _ _ _ turn.i _ _ c.digit.ensures.0 c.digit_fits.ensures ∙ c.if-not-digit_fits.false)

pub returns : goal.returns
returns c = all_fit _ _ _ _ c.loop-i-test.false c.loop-i.invariant
