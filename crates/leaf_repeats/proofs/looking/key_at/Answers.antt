-- `leaf_repeats::looking::key_at` is safe: the residual fits a slot. Assumes nothing.
use Rattle.resolving.specs.Distinct.Laws.{resolves_empty}
use Rattle.resolving.specs.ResidualWords.Descent.{landed_pair}
use Rattle.leaf_repeats.proofs.looking.key_at.Goals as goal

pub descend-requires : goal.descend-requires
descend-requires c =
    let asked = c.requires in
    record {
      resolves = rw asked.none_value (resolves_empty _ _ _ _ _ asked.resolvable.0 asked.i_in_bounds);
      m_lt_memory_bound = asked.resolvable.1;
    }

pub pair_key-requires : goal.pair_key-requires
pair_key-requires c =
    let q = landed_pair _ _ _ _ _ _ c.descend.ensures _ _ _ _ c.in-Pair.is in
    record {
      resolves = rw c.requires.none_value at q.0;
      m_lt_memory_bound = q.1;
    }
