-- `judge::branches::branches_at` meets its contract: the kind in the term's word says which law of
-- `Filling/Branches.antt` gives the branches. Assumes nothing.
use native.Mathlib.Omega.{arith}
use mathlib.Core.Logic.{inl, inr}
use Rattle.std.proofs.Math.Logic.{⊎_elim}
use Rattle.table_index.specs.Filling.Branches.{branches_one, branches_fail, branches_choice, branches_par}
use Rattle.table_index.specs.Filling.Branches.{called_inside, root_inside, branches_called, branches_none}
use Rattle.judge.proofs.branches.branches_at.Goals as goal

-- a call
pub overflow_add-root : goal.overflow_add-root
overflow_add-root c = omega (arith, called_inside _ _ _ c.requires (rw c.in-Some-Call.field-0-is at c.in-Some-Call.ensures))

pub offset_bounds-work-d : goal.offset_bounds-work-d
offset_bounds-work-d c = omega (arith, called_inside _ _ _ c.requires (rw c.in-Some-Call.field-0-is at c.in-Some-Call.ensures))

pub bounds-work-d : goal.bounds-work-d
bounds-work-d c =
    let p = c.requires in
    omega (arith, called_inside _ _ _ p (rw c.in-Some-Call.field-0-is at c.in-Some-Call.ensures), p.structure.whole)

pub overflow_add-result : goal.overflow_add-result
overflow_add-result c =
    omega (arith, root_inside _ _ _ c.requires (rw c.in-Some-Call.field-0-is at c.in-Some-Call.ensures))

pub offset_bounds-work-root : goal.offset_bounds-work-root
offset_bounds-work-root c =
    omega (arith, root_inside _ _ _ c.requires (rw c.in-Some-Call.field-0-is at c.in-Some-Call.ensures))

pub bounds-work-root : goal.bounds-work-root
bounds-work-root c =
    let p = c.requires in
    omega (arith, root_inside _ _ _ p (rw c.in-Some-Call.field-0-is at c.in-Some-Call.ensures), p.structure.whole)

-- STOP and a prefix
pub returns-in-Some-Stop : goal.returns-in-Some-Stop
returns-in-Some-Stop c = branches_one _ _ _ c.requires (inl (rw c.in-Some-Stop.field-0-is at c.in-Some-Stop.ensures))

pub returns-in-Some-Prefix : goal.returns-in-Some-Prefix
returns-in-Some-Prefix c = branches_one _ _ _ c.requires (inr (rw c.in-Some-Prefix.field-0-is at c.in-Some-Prefix.ensures))

-- FAIL
pub returns-in-Some-Fail : goal.returns-in-Some-Fail
returns-in-Some-Fail c = branches_fail _ _ _ c.requires (rw c.in-Some-Fail.field-0-is at c.in-Some-Fail.ensures)

-- a choice
pub returns-in-Some-Choice : goal.returns-in-Some-Choice
returns-in-Some-Choice c =
    branches_choice _ _ _ c.requires (rw c.in-Some-Choice.field-0-is at c.in-Some-Choice.ensures) _ c.sum_capped.ensures

-- a parallel
pub returns-in-Some-Parallel : goal.returns-in-Some-Parallel
returns-in-Some-Parallel c =
    branches_par _ _ _ c.requires (rw c.in-Some-Parallel.field-0-is at c.in-Some-Parallel.ensures) _ c.product_capped.ensures

-- a call
pub returns-in-Some-Call : goal.returns-in-Some-Call
returns-in-Some-Call c =
    branches_called _ _ _ c.requires (rw c.in-Some-Call.field-0-is at c.in-Some-Call.ensures)

-- no other kind
pub returns-in-None : goal.returns-in-None
returns-in-None c =
    let k = c.in-None.ensures in
    absurd
    (branches_none _ _ _ c.requires (λ e. ⊎_elim (λ x. omega arith) (λ x. omega arith) e) (λ x. omega arith)
    (λ x. omega arith) (λ x. omega arith) (λ x. omega arith))
