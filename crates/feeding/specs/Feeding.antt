-- What Feed's run promises (01, "Operations", "When the monitor declines").
--     EndedBy    all events
-- What the run takes from crate `taking` is passed on, for crates that do not list that. The laws of a whole call are
-- in `Feeding/Laws.antt`. Assumes nothing.
use Rattle.std.specs.Prelude.{ℕ, ◌≡◌, List}
use Rattle.table.specs.Table.{Table}
use Rattle.table.specs.Operations.{zeros}
use Rattle.monitor_spec.specs.State.{Monitor}
use Rattle.monitor_spec.specs.Fold.{through}
use Rattle.monitor_spec.specs.Feed.{take_event, ending_of}
use Rattle.state.specs.Answers.{Answer}
use Rattle.state.specs.Answers.{outcome}
pub use Rattle.taking.specs.Taking.{step_words, Standing, TakenBy}
unfoldable pub use Rattle.taking.specs.Taking.{Empty}
pub mod Laws

-- with a work area of any length, which is cleared later
unfoldable pub EndedBy : Table → Monitor → List ℕ → Answer → List ℕ → List ℕ → Type 0
EndedBy t m es r a b = (n : ℕ) → outcome r a b (zeros n) ≡ ending_of n (through (take_event t) m 0 es)
