-- `valid_slots::valid::plant` meets its contract: the kind of the word's term says which law gives the forest. Assumes
-- nothing.
use mathlib.Core.Path.{ap, sym, ◌∙◌}
use Rattle.std.specs.Prelude.{None}
use Rattle.valid_slots.specs.Walk.{with_leaf, paired}
use Rattle.valid_slots.specs.Walk.Laws.{term_known, planted_unfit, planted_leaf, planted_par, planted_none}
use Rattle.valid_slots.specs.Walk.Spelling.{broken_stays}
use Rattle.valid_slots.proofs.valid.plant.Goals as goal

-- no trees were spelled
pub returns-in_err-trees : goal.returns-in_err-trees
returns-in_err-trees c = rw (c.from_residual.ensures, c.in_err-trees.was) (sym (broken_stays _ _))

pub returns-then-not-word_fits : goal.returns-then-not-word_fits
returns-then-not-word_fits c = planted_unfit _ _ _ (sym c.word_fits.ensures ∙ c.if-not-word_fits.true)

pub kind-kind-requires : goal.kind-kind-requires
kind-kind-requires c =
    let term_of = c.term_of-n in
    let if1 = c.if-not-word_fits in
    let word-fits = c.word_fits in
    let fits = sym word-fits.ensures ∙ if1.false in
    record {
      n_bound = term_known _ _ _ term_of.ensures fits;
    }

pub reach-requires : goal.reach-requires
reach-requires c =
    let term_of = c.term_of-n in
    let if1 = c.if-not-word_fits in
    let word-fits = c.word_fits in
    let fits = sym word-fits.ensures ∙ if1.false in
    record {
      n_bound = term_known _ _ _ term_of.ensures fits;
    }

pub returns-in-0 : goal.returns-in-0
returns-in-0 c =
    let leaf = c.leaf in
    let reach = c.reach in
    let arm = c.in-0 in
    let kind = c.kind-kind in
    let term_of = c.term_of-n in
    let if1 = c.if-not-word_fits in
    let word-fits = c.word_fits in
    let fits = sym word-fits.ensures ∙ if1.false in
    planted_leaf _ _ _ _ _ _ fits term_of.ensures kind.ensures.0 arm.is _
    reach.ensures.0 (leaf.ensures ∙ ap (with_leaf reach.result) (sym c.in_ok-trees.was))

pub returns-in-4 : goal.returns-in-4
returns-in-4 c =
    let join = c.join in
    let arm = c.in-4 in
    let kind = c.kind-kind in
    let term_of = c.term_of-n in
    let if1 = c.if-not-word_fits in
    let word-fits = c.word_fits in
    let fits = sym word-fits.ensures ∙ if1.false in
    planted_par _ _ _ _ _ _ fits term_of.ensures kind.ensures.0 arm.is
    (join.ensures ∙ ap paired (sym c.in_ok-trees.was))

pub returns-in_default : goal.returns-in_default
returns-in_default c =
    let arm = c.in_default in
    let kind = c.kind-kind in
    let term_of = c.term_of-n in
    let if1 = c.if-not-word_fits in
    let word-fits = c.word_fits in
    let fits = sym word-fits.ensures ∙ if1.false in
    planted_none _ _ _ _ _ None fits term_of.ensures kind.ensures.0 arm.in_default-own.rest.0.1
    arm.in_default-own.rest.1
