-- `index::IndexedTable::holds` meets its contract: the word that it reads is that of the row and the event, by the kind of the set.
-- Assumes nothing.
use native.Mathlib.Omega.{arith}
use mathlib.Core.Path.{◌∙◌}
use Rattle.table.specs.Member.{in_row}
use Rattle.index.specs.Facts.{terms_few, events_few, fixed_holds, family_holds}
use Rattle.index.proofs.IndexedTable.holds.Goals as goal

pub overflow_add-w : goal.overflow_add-w
overflow_add-w c = omega (arith, terms_few c.args.self.now.indexed)

pub offset_bounds-self-n : goal.offset_bounds-self-n
offset_bounds-self-n c = omega (arith, terms_few c.args.self.now.indexed)

pub bounds-self-n : goal.bounds-self-n
bounds-self-n c = omega (arith, terms_few c.args.self.now.indexed)

pub overflow_mul-second : goal.overflow_mul-second
overflow_mul-second c =
    let p = c.requires in
    omega (arith, events_few c.args.self.now.indexed, p.v_bound.1)

-- the set is of kind 0
pub overflow_add-row : goal.overflow_add-row
overflow_add-row c =
    let p = c.requires in
    let v = c.args.v in
    let row = fixed_holds c.args.self.now.indexed c.args.n p.n_bound p.fact (omega arith) v in
    omega (arith, row.inside c.args.e p.v_bound.1)

pub offset_bounds-self-row : goal.offset_bounds-self-row
offset_bounds-self-row c =
    let p = c.requires in
    let v = c.args.v in
    let row = fixed_holds c.args.self.now.indexed c.args.n p.n_bound p.fact (omega arith) v in
    omega (arith, row.inside c.args.e p.v_bound.1)

pub bounds-self-row : goal.bounds-self-row
bounds-self-row c =
    let p = c.requires in
    let v = c.args.v in
    let row = fixed_holds c.args.self.now.indexed c.args.n p.n_bound p.fact (omega arith) v in
    omega (arith, row.inside c.args.e p.v_bound.1, c.args.self.now.indexed.structure.whole)

pub returns-then-w-eq0 : goal.returns-then-w-eq0
unfolding in_row
returns-then-w-eq0 c =
    let p = c.requires in
    let v = c.args.v in
    let row = fixed_holds c.args.self.now.indexed c.args.n p.n_bound p.fact (omega arith) v in
    c.bit.ensures ∙ row.bit c.args.e p.v_bound.1

-- it is of kind 1
pub overflow_add-row-2 : goal.overflow_add-row-2
overflow_add-row-2 c =
    let p = c.requires in
    let v = c.args.v in
    let row = family_holds c.args.self.now.indexed c.args.n p.n_bound p.fact (λ z. omega arith) v p.v_bound.0 in
    omega (arith, row.inside c.args.e p.v_bound.1)

pub overflow_add-row-3 : goal.overflow_add-row-3
overflow_add-row-3 c =
    let p = c.requires in
    let v = c.args.v in
    let row = family_holds c.args.self.now.indexed c.args.n p.n_bound p.fact (λ z. omega arith) v p.v_bound.0 in
    omega (arith, row.inside c.args.e p.v_bound.1)

pub offset_bounds-self-row-2 : goal.offset_bounds-self-row-2
offset_bounds-self-row-2 c =
    let p = c.requires in
    let v = c.args.v in
    let row = family_holds c.args.self.now.indexed c.args.n p.n_bound p.fact (λ z. omega arith) v p.v_bound.0 in
    omega (arith, row.inside c.args.e p.v_bound.1)

pub bounds-self-row-2 : goal.bounds-self-row-2
bounds-self-row-2 c =
    let p = c.requires in
    let v = c.args.v in
    let row = family_holds c.args.self.now.indexed c.args.n p.n_bound p.fact (λ z. omega arith) v p.v_bound.0 in
    omega (arith, row.inside c.args.e p.v_bound.1, c.args.self.now.indexed.structure.whole)

pub returns : goal.returns
unfolding in_row
returns c =
    let p = c.requires in
    let v = c.args.v in
    let row = family_holds c.args.self.now.indexed c.args.n p.n_bound p.fact (λ z. omega arith) v p.v_bound.0 in
    c.bit-2.ensures ∙ row.bit c.args.e p.v_bound.1
