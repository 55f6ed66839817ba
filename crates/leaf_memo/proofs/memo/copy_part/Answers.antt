-- `leaf_memo::memo::copy_part` meets its contract: the part is copied within the store. Assumes nothing.
use native.Mathlib.Omega.{arith}
use mathlib.Core.Path.{refl}
use Rattle.leaf_memo.specs.Memo.Copies.{part_copied}
use Rattle.leaf_memo.proofs.memo.copy_part.Goals as goal

pub returns : goal.returns
returns c = part_copied _ _ _ _ refl (omega arith) (omega arith) _ c.copy_within.ensures.after
