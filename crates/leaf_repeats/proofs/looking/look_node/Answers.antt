-- `leaf_repeats::looking::look_node` is safe: where the lowest bit is set, the node is a leaf that can be looked at.
-- Assumes nothing.
use Rattle.leaf_repeats.proofs.looking.look_node.Goals as goal

pub look_leaf-requires : goal.look_leaf-requires
look_leaf-requires c =
    record {
      looks_leaf = c.requires.looks_leaf c.if-marks-eq1.true;
      store_len = c.requires.store_len;
    }
