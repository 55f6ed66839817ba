-- `leaf_results::preparing::prepare` meets its contract: the residual is the tree at its first node. Assumes nothing.
use Rattle.resolving.specs.Lawful.{lawful}
use Rattle.leaf_results.specs.Prepared.Repeats.{last_none}
use Rattle.leaf_results.specs.Prepared.Trees.{whole_asks, whole_done}
use Rattle.leaf_results.proofs.preparing.prepare.Goals as goal

pub prepare_tree-requires : goal.prepare_tree-requires
prepare_tree-requires c =
    let asked = c.requires in
    record {
      loaded = asked.loaded;
      tree_from = whole_asks asked.loaded;
      filled_before = last_none _ _ _;
    }

pub returns : goal.returns
returns c =
    let asked = c.requires in
    let filled = c.prepare_tree.ensures in
    (whole_done asked.loaded (lawful c.args.table.now.indexed) _ _ filled.0 filled.1, filled.1)
