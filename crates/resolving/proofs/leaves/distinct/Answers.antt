-- `resolving::leaves::distinct` meets its contract: no residual and an only one are known, the others are looked at one
-- by one. Assumes nothing.
use native.Mathlib.Omega.{arith}
use Rattle.node_word.specs.Word.{memory_of}
use Rattle.resolving.specs.Lawful.{lawful}
use Rattle.resolving.specs.Distinct.Laws.{branches_exact}
use Rattle.resolving.specs.Distinct.Keeping.{kept_none, kept_one}
use borrow.Author.Rules.{rules}
use Rattle.resolving.proofs.leaves.distinct.Goals as goal

pub returns-then-c-eq0 : goal.returns-then-c-eq0
returns-then-c-eq0 c =
    let q = branches_exact _ (lawful c.args.table.now.indexed) _ _ (memory_of c.args.m) _ c.requires.resolvable.0
    c.branches-c.ensures.0 in
    kept_none _ _ _ _ (omega (arith, q.0))

pub returns-then-c-eq1 : goal.returns-then-c-eq1
returns-then-c-eq1 c =
    let q =
    branches_exact _ (lawful c.args.table.now.indexed) _ _ (memory_of c.args.m) _ c.requires.resolvable.0
    c.branches-c.ensures.0 in
    kept_one _ _ _ _ (omega (arith, q.0)) (omega (arith, c.requires.at_in_bounds))

pub distinct_two-requires : goal.distinct_two-requires
distinct_two-requires c =
    let q =
    branches_exact _ (lawful c.args.table.now.indexed) _ _ (memory_of c.args.m) _ c.requires.resolvable.0
    c.branches-c.ensures.0 in
    let room = c.requires.at_in_bounds in
    record {
      resolvable = c.requires.resolvable;
      m_len = omega (arith, q.0);
      at_in_bounds = omega (arith, room);
    }

pub distinct_in-requires : goal.distinct_in-requires
distinct_in-requires c =
    let q =
    branches_exact _ (lawful c.args.table.now.indexed) _ _ (memory_of c.args.m) _ c.requires.resolvable.0
    c.branches-c.ensures.0 in
    let room = c.requires.at_in_bounds in record {
      resolvable = c.requires.resolvable;
      c_value = q.0;
      c_in_bounds = (omega (arith, q.1, room), omega (arith, q.1));
      in_bounds = search rules;
    }
