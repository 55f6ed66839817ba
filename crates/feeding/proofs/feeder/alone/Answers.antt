-- `feeding::feeder::alone` meets its contract: the tests say which case of `alone_to` holds. Assumes nothing.
use native.Mathlib.Omega.{arith}
use borrow.Author.Tests.{lt-ltb, le-ltb}
use Rattle.feeding.proofs.feeder.alone.Goals as goal

pub returns-then-count-lt-MANY_RESIDUALS : goal.returns-then-count-lt-MANY_RESIDUALS
returns-then-count-lt-MANY_RESIDUALS c = (
  rw (c.if-long.false, lt-ltb _ _ c.if-count-lt-MANY_RESIDUALS.true, ← c.min.ensures) c.max.ensures,
  omega (arith, c.max.ensures, c.min.ensures, c.requires),
)

pub returns : goal.returns
returns c = (
  rw (c.if-long.false, le-ltb _ _ c.if-count-lt-MANY_RESIDUALS.false, ← c.min-2.ensures) c.max-2.ensures,
  omega (arith, c.max-2.ensures, c.min-2.ensures, c.requires),
)
