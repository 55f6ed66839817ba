-- What the functions that enter an operation promise (01, "When the monitor declines").
--     Entered      the answer is the entrance e; where it admits, the index of the table stands in the work area
-- The laws are in `Entered/Laws.antt`. Assumes nothing.
use Rattle.std.specs.Prelude.{ℕ, ◌≡◌, List}
use Rattle.table_index.specs.Index.{table_in, Indexed}
use Rattle.std.specs.declared.result.Result.{Result}
use Rattle.table.specs.declared.answer.Refusal.{Refusal}
use Rattle.std.specs.declared.result.Result.TheVariants.{Ok, Err}
use Rattle.monitor_spec.specs.Entering.{Entrance, shut, admits}
pub mod Laws

-- of the number list l, with the words w in the work area
unfoldable pub Entered : Entrance → List ℕ → Result Unit Refusal → List ℕ → Type 0
Entered e l (Ok _) w = (e ≡ admits (table_in l)) × Indexed l w
Entered e l (Err r) w = e ≡ shut r.number r.place w
