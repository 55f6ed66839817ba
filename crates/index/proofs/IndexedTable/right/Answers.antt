-- `index::IndexedTable::right` meets its contract: a digit of the term's word holds what the table has.
-- Assumes nothing.
use native.Mathlib.Omega.{arith}
use Rattle.index.specs.Facts.{terms_few, right_is}
use Rattle.index.proofs.IndexedTable.right.Goals as goal

pub overflow_add-result : goal.overflow_add-result
overflow_add-result c = omega (arith, terms_few c.args.self.now.indexed)

pub offset_bounds-self-n : goal.offset_bounds-self-n
offset_bounds-self-n c = omega (arith, terms_few c.args.self.now.indexed)

pub bounds-self-n : goal.bounds-self-n
bounds-self-n c = omega (arith, terms_few c.args.self.now.indexed)

pub returns : goal.returns
returns c =
    let fact = right_is c.args.self.now.indexed c.args.n c.requires.n_bound in
    (omega (arith, fact), omega (arith, fact))
