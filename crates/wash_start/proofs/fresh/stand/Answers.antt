-- `wash_start::fresh::stand` meets its contract: a table that was judged is accepted again. Assumes nothing.
use Rattle.wash_start.proofs.fresh.Settled.{indexed_again}
use Rattle.wash_start.proofs.fresh.stand.Goals as goal

pub returns : goal.returns
returns c =
    indexed_again _ _ c.requires.0 c.requires.1 _ _ c.enter-judged.ensures
