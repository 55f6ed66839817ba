-- `resolving::leaves::distinct_two` meets its contract: the second is kept where it is not the first. Assumes nothing.
use native.Mathlib.Omega.{arith}
use lib.ListN.{length-set}
use Rattle.resolving.specs.Distinct.{slot_at}
use Rattle.resolving.specs.Distinct.Laws.{resolves_empty}
use Rattle.resolving.specs.Distinct.Keeping.{kept_same, kept_both}
use borrow.Author.Rules.{rules}
use Rattle.resolving.proofs.leaves.distinct_two.Goals as goal

pub resolve_at-first-requires : goal.resolve_at-first-requires
resolve_at-first-requires c =
    let asked = c.requires.resolvable in
    record {
      resolves = resolves_empty _ _ _ _ _ asked.0 (omega (arith, c.requires.m_len));
      m_lt_memory_bound = asked.1;
    }

pub resolve_at-second-requires : goal.resolve_at-second-requires
resolve_at-second-requires c =
    let asked = c.requires.resolvable in
    record {
      resolves = resolves_empty _ _ _ _ _ asked.0 (omega (arith, c.requires.m_len));
      m_lt_memory_bound = asked.1;
    }

pub returns-then-same_at : goal.returns-then-same_at
unfolding slot_at
returns-then-same_at c =
    kept_same _ _ _ _ c.requires.m_len c.requires.at_in_bounds _ _
    c.resolve_at-first.ensures
    c.resolve_at-second.ensures (search rules) _ c.same_at.ensures
    c.if-same_at.true

pub bounds-indices-at-2 : goal.bounds-indices-at-2
bounds-indices-at-2 c =
    simp length-set (omega (arith, c.requires.at_in_bounds))

pub returns : goal.returns
unfolding slot_at
returns c =
    kept_both _ _ _ _ c.requires.m_len c.requires.at_in_bounds _ _
    c.resolve_at-first.ensures
    c.resolve_at-second.ensures (search rules) _ c.same_at.ensures
    c.if-same_at.false
