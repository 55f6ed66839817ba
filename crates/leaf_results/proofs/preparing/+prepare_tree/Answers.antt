-- `leaf_results::preparing::prepare_tree` meets its contract: one law of `Prepared/Trees.antt` per way out. The measure is
-- the nodes left. Assumes nothing.
use native.Mathlib.Omega.{arith}
use mathlib.Core.Path.{sym, ◌∙◌}
use Rattle.resolving.specs.Lawful.{lawful}
use Rattle.tree_walk.specs.Kinds.{kind_yes, kind_no}
use Rattle.leaf_results.specs.Prepared.Nodes.{node_known}
use Rattle.leaf_results.specs.Prepared.Trees.{node_inside, tree_asked, marked_store, passed_done, leaf_held}
use Rattle.leaf_results.specs.Prepared.Trees.{leaf_done, left_asks, right_asks, pair_done}
use Rattle.leaf_results.proofs.preparing.+prepare_tree.Goals as goal

pub takes_at-tree-requires : goal.takes_at-tree-requires
takes_at-tree-requires t c =
    record {
      e_bound = (c.requires.loaded.event, tree_asked c.requires.loaded _ c.requires.tree_from);
    }

-- it takes the event
pub offset_bounds-store-k : goal.offset_bounds-store-k
offset_bounds-store-k t c =
    omega (arith, node_inside c.requires.loaded _ c.requires.tree_from, c.requires.loaded.few, c.requires.loaded.size)

pub bounds-store-k : goal.bounds-store-k
bounds-store-k t c =
    omega (arith, node_inside c.requires.loaded _ c.requires.tree_from, c.requires.loaded.few, c.requires.loaded.size)

pub overflow_add-next : goal.overflow_add-next
overflow_add-next t c =
    omega (arith, node_inside c.requires.loaded _ c.requires.tree_from, c.requires.loaded.few, c.requires.loaded.size)

pub is_prefix-requires : goal.is_prefix-requires
is_prefix-requires t c =
    let inside = node_inside c.requires.loaded _ c.requires.tree_from in
    record {
      w_bound = (node_known _ _ _ _ c.requires.loaded _ c.requires.tree_from.first inside).within;
    }

-- a prefix
pub prepare_leaf-requires : goal.prepare_leaf-requires
prepare_leaf-requires t c =
    let q = kind_yes _ _ 2 c.is_prefix.ensures c.if-is_prefix.true in
    let held = leaf_held c.requires.loaded _ c.requires.tree_from _ c.takes_at-tree.ensures
    c.if-tree.true q in
    let inside = node_inside c.requires.loaded _ c.requires.tree_from in
    record {
      loaded = c.requires.loaded;
      le_k = (c.requires.tree_from.first, inside);
      k_value = (q, held);
      filled_before = c.requires.filled_before;
    }

pub returns-then-is_prefix : goal.returns-then-is_prefix
returns-then-is_prefix t c =
    let q = kind_yes _ _ 2 c.is_prefix.ensures c.if-is_prefix.true in
    let filled = c.prepare_leaf.ensures in
    (leaf_done c.requires.loaded _ c.requires.tree_from (lawful c.args.table.now.indexed) q _ filled.0, filled.1)

-- a pair
pub overflow_mul-store : goal.overflow_mul-store
overflow_mul-store t c =
    omega (arith, node_inside c.requires.loaded _ c.requires.tree_from, c.requires.loaded.few, c.requires.loaded.size)

pub offset_bounds-store-k-then-tree : goal.offset_bounds-store-k-then-tree
offset_bounds-store-k-then-tree t c =
    omega (arith, node_inside c.requires.loaded _ c.requires.tree_from, c.requires.loaded.few, c.requires.loaded.size)

pub bounds-store-k-then-tree : goal.bounds-store-k-then-tree
bounds-store-k-then-tree t c =
    omega (arith, node_inside c.requires.loaded _ c.requires.tree_from, c.requires.loaded.few, c.requires.loaded.size)

pub prepare_tree-left-requires : goal.prepare_tree-left-requires
prepare_tree-left-requires t c =
    let g = left_asks c.requires.loaded _ c.requires.tree_from _ c.takes_at-tree.ensures
    c.if-tree.true (kind_no _ _ 2 c.is_prefix.ensures c.if-is_prefix.false) _
    c.requires.filled_before in (
      omega (arith, c.decreases, node_inside c.requires.loaded _ c.requires.tree_from, c.requires.loaded.few),
      (g.0, (g.1, g.2)),
    )

pub prepare_tree-requires : goal.prepare_tree-requires
prepare_tree-requires t c =
    let left = c.prepare_tree-left.ensures in
    let g = right_asks c.requires.loaded _ c.requires.tree_from _ c.takes_at-tree.ensures
    c.if-tree.true
    (kind_no _ _ 2 c.is_prefix.ensures c.if-is_prefix.false) _ _ left.0 left.1 in (
      omega (arith, c.decreases, node_inside c.requires.loaded _ c.requires.tree_from, c.requires.loaded.few, g.2),
      (g.0, (g.1, left.0.last)),
    )

pub shape_of-store-then-tree : goal.shape_of-store-then-tree
shape_of-store-then-tree t c =
    c.prepare_tree.ensures.1.size ∙ sym c.requires.loaded.size

pub returns-then-tree : goal.returns-then-tree
returns-then-tree t c =
    let right = c.prepare_tree.ensures in (
      pair_done c.requires.loaded _ c.requires.tree_from _ c.takes_at-tree.ensures
          c.if-tree.true
          (kind_no _ _ 2 c.is_prefix.ensures c.if-is_prefix.false) _ _
          c.prepare_tree-left.ensures.0 (lawful c.args.table.now.indexed) _ _ right.0,
      right.1,
    )

-- it cannot
pub overflow_mul-store-2 : goal.overflow_mul-store-2
overflow_mul-store-2 t c =
    omega (arith, node_inside c.requires.loaded _ c.requires.tree_from, c.requires.loaded.few, c.requires.loaded.size)

pub offset_bounds-store-k-2 : goal.offset_bounds-store-k-2
offset_bounds-store-k-2 t c =
    omega (arith, node_inside c.requires.loaded _ c.requires.tree_from, c.requires.loaded.few, c.requires.loaded.size)

pub bounds-store-k-2 : goal.bounds-store-k-2
bounds-store-k-2 t c =
    omega (arith, node_inside c.requires.loaded _ c.requires.tree_from, c.requires.loaded.few, c.requires.loaded.size)

pub returns : goal.returns
returns t c = (
  passed_done c.requires.loaded _ c.requires.tree_from _ c.takes_at-tree.ensures c.if-tree.false _ c.requires.filled_before,
  marked_store c.requires.loaded _ c.requires.tree_from 0,
)
