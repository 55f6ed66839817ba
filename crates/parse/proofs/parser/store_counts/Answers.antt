-- `parse::parser::store_counts` meets its contract: the five stores are those of `counted`, in its order. Assumes
-- nothing.
use native.Mathlib.Omega.{arith}
use mathlib.Core.Path.{refl}
use lib.ListN.{length-set}
use Rattle.table_index.specs.Parse.Structure.{counted}
use Rattle.parse.proofs.parser.store_counts.Goals as goal

pub bounds-work-7308 : goal.bounds-work-7308
bounds-work-7308 c = simp length-set (omega arith)

pub returns : goal.returns
unfolding counted
returns c = refl
