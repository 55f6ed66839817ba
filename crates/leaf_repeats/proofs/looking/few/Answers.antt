-- `leaf_repeats::looking::few` is safe: at most 13 keys are held. The measure is what is left of the residuals. Assumes
-- nothing.
use native.Mathlib.Omega.{arith}
use mathlib.Core.Path.{refl, ap}
use lib.ListN.{length}
use Rattle.leaf_repeats.proofs.looking.few.Goals as goal

pub loop-i-init : goal.loop-i-init
loop-i-init c = (omega arith, refl, refl)

pub returns-then-i-k : goal.returns-then-i-k
returns-then-i-k c = tt

pub slice_bounds-key_at-end : goal.slice_bounds-key_at-end
slice_bounds-key_at-end c = ap length c.loop-i.invariant.2

pub key_at-key-requires : goal.key_at-key-requires
key_at-key-requires c =
    record {
      resolvable = c.requires.resolvable;
      i_in_bounds = omega (arith, c.requires.resolvable.1, c.loop-i-test.true);
      none_value = c.loop-i.invariant.2;
    }

pub returns-then-most-k : goal.returns-then-most-k
returns-then-most-k c = tt

pub returns : goal.returns
returns c = tt
