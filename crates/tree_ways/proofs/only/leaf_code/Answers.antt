-- `tree_ways::only::leaf_code` meets its contract: the branches of the follower say which case of `count_way` holds.
-- Assumes nothing.
use native.Mathlib.Omega.{arith}
use mathlib.Core.Path.{refl, sym, ◌∙◌}
use mathlib.Core.Logic.{inl}
use Rattle.index.specs.Facts.{terms_few}
use Rattle.resolving.specs.Words.{kind_at}
use Rattle.resolving.specs.Lawful.{follower_in}
use Rattle.tree_walk.specs.Kinds.{other_kind}
use Rattle.tree_ways.specs.Only.Laws.{way_not_kind, way_not_held}
use Rattle.tree_ways.specs.Code.Words.{bit_shifted, leaf_still, leaf_none, leaf_lone, leaf_several}
use Rattle.tree_ways.proofs.only.leaf_code.Goals as goal

pub holds_at-requires : goal.holds_at-requires
holds_at-requires c =
    let asked = c.requires in
    let kind = sym c.kind_at.ensures ∙ c.in-2.is in
    record {
      known_word = asked.known_word;
      fact = inl kind;
      e_bound = asked.e_bound.0;
    }

pub overflow_add-term_of : goal.overflow_add-term_of
overflow_add-term_of c =
    let asked = c.requires in
    omega (arith, c.term_of.ensures, asked.known_word.within, terms_few c.args.table.now.indexed)

pub branches-requires : goal.branches-requires
unfolding kind_at
branches-requires c =
    let asked = c.requires in
    let kind = sym c.kind_at.ensures ∙ c.in-2.is in
    record {
      n_bound = rw c.term_of.ensures (follower_in _ _ asked.known_word.within kind);
    }

pub overflow_add-result : goal.overflow_add-result
overflow_add-result c =
    let asked = c.requires in
    omega (arith, bit_shifted _ asked.e_bound.1)

pub overflow_add-result-in-2-to-18446744073709551615 : goal.overflow_add-result-in-2-to-18446744073709551615
overflow_add-result-in-2-to-18446744073709551615 c =
    let asked = c.requires in
    omega (arith, bit_shifted _ asked.e_bound.1)

pub returns-in-0-branches : goal.returns-in-0-branches
returns-in-0-branches c =
    let kind = sym c.kind_at.ensures
    ∙ c.in-2.is in
    let held = sym c.holds_at.ensures ∙ c.if-holds_at.true in
    leaf_none _ _ _ _ kind held _ _ c.term_of.ensures
    c.branches.ensures.0 c.in-0-branches.is

pub returns-in-1-branches : goal.returns-in-1-branches
returns-in-1-branches c =
    let kind = sym c.kind_at.ensures
    ∙ c.in-2.is in
    let held = sym c.holds_at.ensures ∙ c.if-holds_at.true in
    leaf_lone _ _ _ _ kind held _ _ c.term_of.ensures
    c.branches.ensures.0
    c.requires.e_bound.1 _ refl c.in-1-branches.is

pub returns-in-2-to-18446744073709551615 : goal.returns-in-2-to-18446744073709551615
returns-in-2-to-18446744073709551615 c =
    let kind = sym c.kind_at.ensures
    ∙ c.in-2.is in
    let held = sym c.holds_at.ensures ∙ c.if-holds_at.true in
    leaf_several _ _ _ _ kind held _ _ c.term_of.ensures
    c.branches.ensures.0
    c.requires.e_bound.1 _ refl
    (omega (arith, c.in-2-to-18446744073709551615.in-2-to-18446744073709551615-own.rest.0.1, c.in-2-to-18446744073709551615.in-2-to-18446744073709551615-own.rest.1))

pub returns-else-holds_at : goal.returns-else-holds_at
returns-else-holds_at c =
    let kind = sym c.kind_at.ensures ∙ c.in-2.is in
    leaf_still _ _ _ _ (way_not_held _ _ _ kind (sym c.holds_at.ensures ∙ c.if-holds_at.false))

pub returns-in-0 : goal.returns-in-0
returns-in-0 c =
    leaf_still _ _ _ _
    (way_not_kind _ _ _ (λ z. (other_kind c.in-0.is).0 (c.kind_at.ensures ∙ z)))

pub returns-in-4 : goal.returns-in-4
returns-in-4 c =
    leaf_still _ _ _ _
    (way_not_kind _ _ _ (λ z. omega (arith, c.in-4.is, c.kind_at.ensures, z)))

pub returns-in-1 : goal.returns-in-1
returns-in-1 c =
    leaf_still _ _ _ _
    (way_not_kind _ _ _ (λ z. omega (arith, c.in-1.is, c.kind_at.ensures, z)))

pub returns-in-6-to-18446744073709551615 : goal.returns-in-6-to-18446744073709551615
returns-in-6-to-18446744073709551615 c =
    leaf_still _ _ _ _
    (way_not_kind _ _ _ (λ z. c.in-6-to-18446744073709551615.in-6-to-18446744073709551615-own.rest.0.0.0.1 (c.kind_at.ensures ∙ z)))
