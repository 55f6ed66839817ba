-- `leaf_results::preparing::prepare_leaf` meets its contract: laws of `Prepared/Repeats.antt` where the part is taken over.
-- Assumes nothing.
use native.Mathlib.Omega.{arith}
use mathlib.Core.Path.{refl}
use mathlib.Core.Logic.{inl}
use Rattle.leaf_results.specs.Prepared.Nodes.{sound_store}
use Rattle.leaf_results.specs.Prepared.Repeats.{over_room, over_fills, over_store}
use Rattle.leaf_results.proofs.preparing.prepare_leaf.Goals as goal

pub copy_part-requires : goal.copy_part-requires
copy_part-requires c =
    let same = c.has_word.ensures c.if-has_word.true in
    let last = c.requires.filled_before in
    let room = over_room _ _ _ _ _ last same.0 in
    let size = c.requires.loaded.size in
    let few = c.requires.loaded.few in record {
      p_in_bounds = (omega arith, omega (arith, room, size, few, last.before), omega (arith, room, size, few));
      apart = inl (omega (arith, room, last.before));
    }

-- the results are those of the prefix filled last
pub returns-then-has_word : goal.returns-then-has_word
returns-then-has_word c =
    let same = c.has_word.ensures c.if-has_word.true in
    let last = c.requires.filled_before in
    let over = c.copy_part in
    let store = sound_store _ _ _ _ c.requires.loaded in (
      over_fills _ _ _ _ _ last same.0 _ _ over.ensures refl same.1 store over.auto.store (omega arith),
      over_store _ _ _ _ _ last same.0 _ _ over.ensures refl same.1 store over.auto.store (omega arith),
    )
