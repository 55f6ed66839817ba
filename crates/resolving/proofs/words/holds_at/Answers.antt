-- `resolving::words::holds_at` meets its contract: the event that the set recalls, if any, is one of the alphabet.
-- Assumes nothing.
use native.Mathlib.Omega.{arith}
use mathlib.Core.Path.{◌∙◌}
use borrow.Author.Rules.{rules}
use Rattle.resolving.specs.Lawful.{lawful}
use Rattle.resolving.specs.Words.{kind_at}
use Rattle.resolving.specs.Words.Laws.{holds_fixed, holds_family}
use Rattle.resolving.proofs.words.holds_at.Goals as goal

pub holds-requires : goal.holds-requires
unfolding kind_at
holds-requires c =
    let pre = c.requires in
    let term = c.term_of-n.ensures in
    let law = lawful c.args.table.now.indexed in record {
      n_bound = rw term pre.known_word.within;
      fact = rw term pre.fact;
      v_bound = (omega (arith, law.events_least), pre.e_bound);
    }

-- a set of kind 0
pub returns-then-k-eq0 : goal.returns-then-k-eq0
returns-then-k-eq0 c =
    let parameter = c.parameter-k.ensures.0 in
    let term = c.term_of-n.ensures in
    c.holds.ensures ∙ holds_fixed _ _ _ _ _ term parameter c.if-k-eq0.true

pub holds-requires-2 : goal.holds-requires-2
unfolding kind_at
holds-requires-2 c =
    let pre = c.requires in
    let term = c.term_of-n.ensures in record {
      n_bound = rw term pre.known_word.within;
      fact = rw term pre.fact;
      v_bound = (rw c.digit.ensures.0 (pre.known_word.digits _), pre.e_bound);
    }

-- a set of kind 1
pub returns : goal.returns
returns c =
    let parameter = c.parameter-k.ensures.0 in
    let term = c.term_of-n.ensures in
    c.holds-2.ensures ∙ holds_family _ _ _ _ _ term parameter (search rules) _ c.digit.ensures.0
