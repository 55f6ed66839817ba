-- `tree_ways::only::way_of` meets its contract: a residual of one node is a leaf. Assumes nothing.
use native.Mathlib.Omega.{arith}
use Rattle.tree_ways.specs.Takes.Laws.{tree_in, tree_known}
use Rattle.tree_ways.specs.Code.Turns.{leaf_told, way_told}
use Rattle.tree_ways.proofs.only.way_of.Goals as goal

pub offset_bounds-area-k : goal.offset_bounds-area-k
offset_bounds-area-k c = omega (arith, tree_in _ c.requires.e_bound.1.short.at)

pub bounds-area-k : goal.bounds-area-k
bounds-area-k c = tree_in _ c.requires.e_bound.1.short.at

pub leaf_code-requires : goal.leaf_code-requires
leaf_code-requires c =
    let asked = c.requires in
    record {
      known_word = tree_known _ asked.e_bound.1.short.at;
      e_bound = (asked.e_bound.0, omega arith);
    }

pub returns-then-n-eq1 : goal.returns-then-n-eq1
returns-then-n-eq1 c =
    let rooted = c.requires.e_bound.1 in
    way_told rooted _ _ _
    (leaf_told rooted _ _ c.if-n-eq1.true c.leaf_code.ensures) c.decode.ensures

pub returns : goal.returns
returns c =
    way_told c.requires.e_bound.1 _ _ _ c.root_code.ensures
    c.decode-2.ensures
