-- `parse::leaves::store_term` meets its contract: the bounds of a head keep the sums in range, and the word, which is
-- `packed`, below `width_unit`. Assumes nothing.
use native.Mathlib.Omega.{arith}
use mathlib.Core.Path.{refl}
use Rattle.table_index.specs.Index.{packed}
use Rattle.parse.proofs.leaves.store_term.Goals as goal

pub returns : goal.returns
unfolding packed
returns c = record { written = refl; small = omega arith }
