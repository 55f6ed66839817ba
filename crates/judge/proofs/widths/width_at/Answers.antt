-- `judge::widths::width_at` meets its contract: the kind in the term's word says which law of `Filling/OneWidth.antt`
-- gives the width. Assumes nothing.
use native.Mathlib.Omega.{arith}
use mathlib.Core.Path.{refl}
use Rattle.table_index.specs.Filling.OneWidth.{width_leaf, width_prefix, width_choice, width_par, par_small}
use Rattle.table_index.specs.Filling.OneWidth.{width_call, call_named, width_none}
use Rattle.judge.proofs.widths.width_at.Goals as goal

pub overflow_add-result-in-Some-Parallel : goal.overflow_add-result-in-Some-Parallel
overflow_add-result-in-Some-Parallel c =
    omega (arith, par_small _ _ _ _ c.requires (rw c.in-Some-Parallel.field-0-is at c.in-Some-Parallel.ensures))

-- a call
pub call_width-requires : goal.call_width-requires
call_width-requires c =
    let p = c.requires in
    (record { fields = p.fields; structure = p.structure }, call_named _ _ _ _ p (rw c.in-Some-Call.field-0-is at c.in-Some-Call.ensures))

-- a prefix
pub returns-in-Some-Prefix : goal.returns-in-Some-Prefix
returns-in-Some-Prefix c = width_prefix _ _ _ _ c.requires (rw c.in-Some-Prefix.field-0-is at c.in-Some-Prefix.ensures)

-- a choice
pub returns-in-Some-Choice : goal.returns-in-Some-Choice
returns-in-Some-Choice c =
    width_choice _ _ _ _ c.requires (rw c.in-Some-Choice.field-0-is at c.in-Some-Choice.ensures) _ c.larger.ensures

-- a parallel
pub returns-in-Some-Parallel : goal.returns-in-Some-Parallel
returns-in-Some-Parallel c =
    width_par _ _ _ _ c.requires (rw c.in-Some-Parallel.field-0-is at c.in-Some-Parallel.ensures) _ refl

-- a call
pub returns-in-Some-Call : goal.returns-in-Some-Call
returns-in-Some-Call c =
    width_call _ _ _ _ c.requires (rw c.in-Some-Call.field-0-is at c.in-Some-Call.ensures) _ c.call_width.ensures

-- STOP and FAIL
pub returns-in-Some-Stop : goal.returns-in-Some-Stop
returns-in-Some-Stop c = width_leaf _ _ _ _ c.requires (omega (arith, rw c.in-Some-Stop.field-0-is at c.in-Some-Stop.ensures))

pub returns-in-Some-Fail : goal.returns-in-Some-Fail
returns-in-Some-Fail c = width_leaf _ _ _ _ c.requires (omega (arith, rw c.in-Some-Fail.field-0-is at c.in-Some-Fail.ensures))

-- no other kind
pub returns-in-None : goal.returns-in-None
returns-in-None c = absurd (width_none _ _ _ _ c.requires (omega (arith, c.in-None.ensures)))
