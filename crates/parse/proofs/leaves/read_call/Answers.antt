-- `parse::leaves::read_call` meets its contract: without a number there is none, and else `read_leaf` stored the call.
-- Assumes nothing.
use native.Mathlib.Omega.{arith}
use mathlib.Core.Path.{refl}
use Rattle.table.proofs.Passed.{passed_none}
use Rattle.table_index.specs.Parse.Terms.{TermReadBy}
use Rattle.table_index.specs.Parse.Terms.Kind.{call_short, call_read, head_fits}
use Rattle.parse.proofs.leaves.read_call.Goals as goal

pub returns-in_err-d : goal.returns-in_err-d
returns-in_err-d c =
    let e = c.in_err-d.ensures in
    passed_none (TermReadBy _ _ _ _ _ _ _ _ _) _ _ _ _ c.from_residual.ensures.1 e
    (call_short _ _ _ c.requires.work_len.1 e.beyond refl refl, refl)

pub read_leaf-requires : goal.read_leaf-requires
read_leaf-requires c =
    let n = c.in_ok-d.ensures in (
      c.requires.work_len.0,
      c.requires.n_bound.0,
      head_fits 5 0 _ _ 0 (omega arith) (omega arith) n.small c.requires.n_bound.1,
    )

pub returns : goal.returns
returns c =
    let n = c.in_ok-d.ensures in
    call_read _ _ _ _ _ _ _ c.requires.n_bound.0 c.requires.work_len.0 c.requires.work_len.1 _ _ _ refl n.within
    refl (rw n.same at c.read_leaf.ensures)
