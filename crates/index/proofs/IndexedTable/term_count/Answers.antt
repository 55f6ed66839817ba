-- `index::IndexedTable::term_count` meets its contract: the word of the term count holds what the table has.
-- Assumes nothing.
use native.Mathlib.Omega.{arith}
use Rattle.index.specs.Facts.{terms_are}
use Rattle.index.proofs.IndexedTable.term_count.Goals as goal

pub returns : goal.returns
returns c =
    let fact = terms_are c.args.self.now.indexed in
    (omega (arith, fact), omega (arith, fact))
