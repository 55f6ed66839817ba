-- `valid_slots::valid::digit_fits` meets its contract: the tests of each return say which part of `digit_fits` decides.
-- Assumes nothing.
use borrow.Author.Tests.{lt-ltb, le-ltb}
use Rattle.monitor_spec.specs.Valid.{digit_fits}
use Rattle.valid_slots.proofs.valid.digit_fits.Goals as goal

pub returns-then-alphabet-v : goal.returns-then-alphabet-v
unfolding digit_fits
returns-then-alphabet-v c = simp (le-ltb _ _ c.if-alphabet-v.true)

pub returns-then-i-c : goal.returns-then-i-c
unfolding digit_fits
returns-then-i-c c = simp (lt-ltb _ _ c.if-alphabet-v.false, lt-ltb _ _ c.if-i-c.true)

pub returns : goal.returns
unfolding digit_fits
returns c = simp (lt-ltb _ _ c.if-alphabet-v.false, le-ltb _ _ c.if-i-c.false)
