-- `leaf_repeats::looking::pair_key` is safe: a slot has sixteen words. Assumes nothing.
use Rattle.leaf_repeats.proofs.looking.pair_key.Goals as goal

pub term_into-requires : goal.term_into-requires
term_into-requires c = let both = c.requires in record { resolves = both.resolves; m_lt_memory_bound = both.m_lt_memory_bound }
