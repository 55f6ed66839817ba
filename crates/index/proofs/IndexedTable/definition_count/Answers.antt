-- `index::IndexedTable::definition_count` meets its contract: the word of the definition count holds what the table has.
-- Assumes nothing.
use native.Mathlib.Omega.{arith}
use Rattle.index.specs.Facts.{definitions_are}
use Rattle.index.proofs.IndexedTable.definition_count.Goals as goal

pub returns : goal.returns
returns c =
    let fact = definitions_are c.args.self.now.indexed in
    (omega (arith, fact), omega (arith, fact), omega (arith, fact))
