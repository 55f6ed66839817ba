-- `index::IndexedTable::called` meets its contract: the last digit of the call's word holds what the table has.
-- Assumes nothing.
use native.Mathlib.Omega.{arith}
use Rattle.index.specs.Facts.{terms_few, called_is}
use Rattle.index.proofs.IndexedTable.called.Goals as goal

pub overflow_add-result : goal.overflow_add-result
overflow_add-result c = omega (arith, terms_few c.args.self.now.indexed)

pub offset_bounds-self-n : goal.offset_bounds-self-n
offset_bounds-self-n c = omega (arith, terms_few c.args.self.now.indexed)

pub bounds-self-n : goal.bounds-self-n
bounds-self-n c = omega (arith, terms_few c.args.self.now.indexed)

pub returns : goal.returns
returns c =
    let p = c.requires in
    let fact = called_is c.args.self.now.indexed c.args.n p.n_bound p.n_value in
    (omega (arith, fact), omega (arith, fact))
