-- `leaf_memo::memo::lower` meets its contract: a mask is a remainder. Assumes nothing.
use lib.Bits.{mask_lt}
use Rattle.leaf_memo.proofs.memo.lower.Goals as goal

pub returns : goal.returns
returns c = mask_lt c.args.h 5
