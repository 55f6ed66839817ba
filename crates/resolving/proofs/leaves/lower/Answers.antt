-- `resolving::leaves::lower` meets its contract: a mask is a remainder. Assumes nothing.
use lib.Bits.{and_mask, mask_lt}
use Rattle.resolving.proofs.leaves.lower.Goals as goal

pub returns : goal.returns
returns c = (and_mask c.args.w 58, mask_lt c.args.w 58)
