-- `resolving::descent::resolve_into` meets its contract: what the way came to is pushed or resolved. Assumes nothing.
use mathlib.Core.Path.{◌∙◌}
use Rattle.resolving.specs.ResidualWords.Descent.{landed_nowhere, landed_leaf, landed_pair}
use Rattle.resolving.proofs.descent.resolve_into.Goals as goal

pub push_into-requires : goal.push_into-requires
push_into-requires c =
    let lands = c.descend.ensures in (
      (landed_leaf _ _ _ _ _ _ lands _ c.in-Leaf.is).0,
      c.requires.resolves.whole,
    )

pub term_into-requires : goal.term_into-requires
term_into-requires c =
    let lands = c.descend.ensures in
    let q = landed_pair _ _ _ _ _ _ lands _ _ _ _ c.in-Pair.is in
    record {
      resolves = q.0;
      m_lt_memory_bound = q.1;
    }

pub returns-in-Nothing : goal.returns-in-Nothing
returns-in-Nothing c = landed_nowhere _ _ _ _ _ _ c.descend.ensures c.in-Nothing.is

pub returns-in-Leaf : goal.returns-in-Leaf
returns-in-Leaf c =
    let lands = c.descend.ensures in
    c.push_into.ensures
    ∙ (landed_leaf _ _ _ _ _ _ lands _ c.in-Leaf.is).1

pub returns-in-Pair : goal.returns-in-Pair
returns-in-Pair c =
    let lands = c.descend.ensures in
    c.term_into.ensures
    ∙ (landed_pair _ _ _ _ _ _ lands _ _ _ _ c.in-Pair.is).2
