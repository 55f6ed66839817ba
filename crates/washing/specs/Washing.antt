-- What the run below `timed_feed` promises (02, W5): `TimedEndedBy`, of all events. Assumes nothing.
use Rattle.std.specs.Prelude.{ℕ, ◌≡◌, List}
use Rattle.table.specs.Operations.{zeros}
use Rattle.table_index.specs.Index.{table_in}
use Rattle.monitor_spec.specs.Fold.{through}
use Rattle.wash_spec.specs.Timed.{TimedMonitor}
use Rattle.wash_spec.specs.Taking.{take_timed}
use Rattle.wash_spec.specs.Feed.{timed_pairs, timed_ending}
use Rattle.wash_state.specs.Answers.{TimedAnswer}
use Rattle.wash_state.specs.Answers.{timed_outcome}

-- with a work area of any length, which is cleared later
unfoldable pub TimedEndedBy : List ℕ → List ℕ → List ℕ → TimedMonitor → List ℕ → List ℕ → TimedAnswer → List ℕ → List ℕ
    → Type 0
TimedEndedBy everyday wash windows m es ms r a b =
    (n : ℕ) → timed_outcome r a b (zeros n)
    ≡ timed_ending n (through (take_timed (table_in everyday) (table_in wash) windows) m 0 (timed_pairs es ms))
