-- `index::IndexedTable::alphabet` meets its contract: the word of the alphabet size holds what the table has.
-- Assumes nothing.
use native.Mathlib.Omega.{arith}
use Rattle.index.specs.Facts.{alphabet_is}
use Rattle.index.proofs.IndexedTable.alphabet.Goals as goal

pub returns : goal.returns
returns c =
    let fact = alphabet_is c.args.self.now.indexed in
    (omega (arith, fact), omega (arith, fact))
