-- `tree_ways::takes::takes_at` meets its contract: one law of `Takes/Laws.antt` per arm. The measure is the words left.
-- Assumes nothing.
use Prim.Native.Nat.{◌-◌}
use native.Mathlib.Omega.{arith}
use mathlib.Core.Path.{refl, sym, ◌∙◌}
use mathlib.Core.Logic.{inr}
use Rattle.resolving.specs.Lawful.{lawful}
use Rattle.tree_walk.specs.Kinds.{other_kind}
use Rattle.tree_ways.specs.Takes.Laws.{tree_in, tree_known, tree_left, tree_right, takes_not_kind, takes_prefix}
use Rattle.tree_ways.specs.Takes.Laws.{takes_pair}
use Rattle.tree_ways.proofs.takes.+takes_at.Goals as goal

pub offset_bounds-area-k : goal.offset_bounds-area-k
offset_bounds-area-k t c = omega (arith, tree_in _ c.requires.e_bound.1)

pub bounds-area-k : goal.bounds-area-k
bounds-area-k t c = tree_in _ c.requires.e_bound.1

pub overflow_add-next : goal.overflow_add-next
overflow_add-next t c = omega (arith, tree_in _ c.requires.e_bound.1)

pub kind_at-requires : goal.kind_at-requires
kind_at-requires t c =
    record {
      w_bound = (tree_known _ c.requires.e_bound.1).within;
    }

-- a prefix
pub leaf_takes-moves-requires : goal.leaf_takes-moves-requires
leaf_takes-moves-requires t c =
    record {
      known_word = (tree_known _ c.requires.e_bound.1, (sym c.kind_at.ensures ∙ c.in-2.is));
      e_bound = c.requires.e_bound.0;
    }

-- a pair
pub takes_at-a-requires : goal.takes_at-a-requires
takes_at-a-requires t c = (
  omega (arith, c.decreases, tree_in _ c.requires.e_bound.1),
  (
    c.requires.e_bound.0,
    tree_left _ c.requires.e_bound.1 (sym c.kind_at.ensures ∙ c.in-4.is),
  ),
)

pub takes_at-b-requires : goal.takes_at-b-requires
takes_at-b-requires t c =
    let g = tree_right _ c.requires.e_bound.1 (sym c.kind_at.ensures ∙ c.in-4.is)
    c.args.e _ c.takes_at-a.ensures in (
      omega (arith, c.decreases, tree_in _ c.requires.e_bound.1, g.1),
      (c.requires.e_bound.0, g.0),
    )

pub holds_at-requires : goal.holds_at-requires
holds_at-requires t c =
    record {
      known_word = tree_known _ c.requires.e_bound.1;
      fact = inr (sym c.kind_at.ensures ∙ c.in-4.is);
      e_bound = c.requires.e_bound.0;
    }

pub pair_takes-moves-requires : goal.pair_takes-moves-requires
pair_takes-moves-requires t c = tt

pub returns-in-2 : goal.returns-in-2
returns-in-2 t c =
    takes_prefix _ c.requires.e_bound.1 _ (sym c.kind_at.ensures ∙ c.in-2.is)
    (lawful c.args.table.now.indexed) _ c.leaf_takes-moves.ensures _ refl

pub returns-in-4 : goal.returns-in-4
returns-in-4 t c =
    takes_pair _ c.requires.e_bound.1 _ (sym c.kind_at.ensures
    ∙ c.in-4.is) _ c.takes_at-a.ensures _
    c.takes_at-b.ensures _ c.holds_at.ensures _ c.pair_takes-moves.ensures _ refl

-- STOP, a choice, a call; FAIL; what is no kind
pub returns-in-0 : goal.returns-in-0
returns-in-0 t c =
    let k = other_kind c.in-0.is in
    takes_not_kind _ c.requires.e_bound.1 _
    (λ z. k.1 (c.kind_at.ensures ∙ z)) (λ z. k.0 (c.kind_at.ensures ∙ z))

pub returns-in-1 : goal.returns-in-1
returns-in-1 t c =
    takes_not_kind _ c.requires.e_bound.1 _
    (λ z. omega (arith, c.in-1.is, c.kind_at.ensures, z))
    (λ z. omega (arith, c.in-1.is, c.kind_at.ensures, z))

pub returns-in-6-to-18446744073709551615 : goal.returns-in-6-to-18446744073709551615
returns-in-6-to-18446744073709551615 t c =
    takes_not_kind _ c.requires.e_bound.1 _
    (λ z. c.in-6-to-18446744073709551615.in-6-to-18446744073709551615-own.rest.0.0.1 (c.kind_at.ensures ∙ z))
    (λ z. c.in-6-to-18446744073709551615.in-6-to-18446744073709551615-own.rest.0.0.0.1 (c.kind_at.ensures ∙ z))
