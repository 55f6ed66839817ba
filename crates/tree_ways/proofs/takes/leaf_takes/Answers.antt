-- `tree_ways::takes::leaf_takes` meets its contract: the test of the set says which case of `leaf_takes` holds. Assumes
-- nothing.
use native.Mathlib.Omega.{arith}
use mathlib.Core.Path.{sym, ◌∙◌}
use mathlib.Core.Logic.{inl}
use Rattle.index.specs.Facts.{terms_few}
use Rattle.resolving.specs.Words.{kind_at}
use Rattle.resolving.specs.Lawful.{follower_in}
use Rattle.tree_ways.specs.Takes.Laws.{leaf_yes, leaf_no}
use Rattle.tree_ways.proofs.takes.leaf_takes.Goals as goal

pub holds_at-requires : goal.holds_at-requires
holds_at-requires c = record {
  known_word = c.requires.known_word.0;
  fact = inl c.requires.known_word.1;
  e_bound = c.requires.e_bound;
}

pub overflow_add-term_of : goal.overflow_add-term_of
overflow_add-term_of c =
    omega (
      arith,
      c.term_of.ensures,
      c.requires.known_word.0.within,
      terms_few c.args.table.now.indexed,
    )

pub branches-requires : goal.branches-requires
unfolding kind_at
branches-requires c = record {
  n_bound = rw c.term_of.ensures (follower_in _ _ c.requires.known_word.0.within
      c.requires.known_word.1);
}

pub returns-then-holds_at : goal.returns-then-holds_at
returns-then-holds_at c =
    leaf_yes _ _ _ (sym c.holds_at.ensures ∙ c.if-holds_at.true) _ _
    c.term_of.ensures c.branches.ensures.0

pub returns : goal.returns
returns c = leaf_no _ _ _ (sym c.holds_at.ensures ∙ c.if-holds_at.false)
