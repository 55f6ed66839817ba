-- `resolving::leaves::same_kept` meets its contract: the slot is held, or resolved again. Assumes nothing.
use mathlib.Core.Path.{◌∙◌, ap}
use Rattle.resolving.specs.Distinct.{same_words, slot_at}
use Rattle.resolving.specs.Distinct.Laws.{resolves_empty}
use Rattle.resolving.specs.Distinct.Words.{window_all}
use borrow.Author.Rules.{rules}
use Rattle.resolving.proofs.leaves.same_kept.Goals as goal

pub returns-then-j-lt8 : goal.returns-then-j-lt8
returns-then-j-lt8 c =
    c.same_at.ensures
    ∙ ap (same_words c.args.slot.now) (c.requires.slots_value c.if-j-lt8.true)

pub resolve_at-s-requires : goal.resolve_at-s-requires
resolve_at-s-requires c =
    let asked = c.requires.resolvable in
    record {
      resolves = resolves_empty _ _ _ _ _ asked.0 c.requires.i_in_bounds;
      m_lt_memory_bound = asked.1;
    }

pub returns : goal.returns
unfolding slot_at
returns c =
    c.same_at-2.ensures
    ∙ ap (same_words c.args.slot.now)
    (window_all c.resolve_at-s.result (search rules) ∙ c.resolve_at-s.ensures)
