-- `resolving::words::kind_at` meets its contract: the kind of the term of the word. Assumes nothing.
use mathlib.Core.Path.{◌∙◌}
use Rattle.resolving.specs.Words.{kind_at}
use Rattle.resolving.proofs.words.kind_at.Goals as goal

pub kind-requires : goal.kind-requires
kind-requires c = record {
  n_bound = rw c.term_of.ensures c.requires.w_bound;
}

pub returns : goal.returns
unfolding kind_at
returns c = c.kind.ensures.0 ∙ rw c.term_of.ensures
