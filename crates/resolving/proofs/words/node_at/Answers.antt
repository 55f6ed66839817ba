-- `resolving::words::node_at` meets its contract: the memory is kept as it is. Assumes nothing.
use native.Mathlib.Omega.{arith}
use Rattle.index.specs.Facts.{terms_few}
use Rattle.residuals.specs.Keep.{keep}
use Rattle.resolving.proofs.words.node_at.Goals as goal

pub node-requires : goal.node-requires
node-requires c =
    (omega (arith, c.requires.n_bound.0, terms_few c.args.table.now.indexed), c.requires.n_bound.1)

pub returns : goal.returns
unfolding keep
returns c = c.node.ensures
