-- The invariants and measures of `words.read_list`.
use Rattle.std.proofs.Common.{◌≤◌, vec_len}
use Rattle.cases.proofs.words.read_list.Given as goal

abbrev pub invariant-loop-word : goal.invariant-loop-word
invariant-loop-word g l =
    (goal.iterator-loop-word g).can_next l.word-iterator ×
    (goal.iterator-loop-word g).is_finite l.word-iterator × (vec_len l.list ≤ l.most)
