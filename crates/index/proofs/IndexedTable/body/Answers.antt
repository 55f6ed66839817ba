-- `index::IndexedTable::body` meets its contract: the word of the definition holds what the table has.
-- Assumes nothing.
use native.Mathlib.Omega.{arith}
use Rattle.index.specs.Facts.{definitions_few, body_is}
use Rattle.index.proofs.IndexedTable.body.Goals as goal

pub overflow_add-result : goal.overflow_add-result
overflow_add-result c = omega (arith, definitions_few c.args.self.now.indexed)

pub offset_bounds-self-d : goal.offset_bounds-self-d
offset_bounds-self-d c = omega (arith, definitions_few c.args.self.now.indexed)

pub bounds-self-d : goal.bounds-self-d
bounds-self-d c = omega (arith, definitions_few c.args.self.now.indexed)

pub returns : goal.returns
returns c =
    let fact = body_is c.args.self.now.indexed c.args.d c.requires.d_in_bounds in
    (omega (arith, fact), omega (arith, fact))
