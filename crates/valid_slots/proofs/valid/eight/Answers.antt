-- `valid_slots::valid::eight` meets its contract: where no bit of eight words is set, each of them is zero. Assumes
-- nothing.
use Rattle.valid_slots.proofs.valid.ZeroTurn.{zero_eight}
use Rattle.valid_slots.proofs.valid.eight.Goals as goal

pub returns : goal.returns
returns c e =
    zero_eight c.args.area.now c.args.i e c.requires
