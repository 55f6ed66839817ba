-- The monitor that a joined list calls for (ours; 02, W5).
--     after_stretch, timed_after  by the last minute and the events since the last start; by the list
-- The laws are in `proofs/Expected/`: `Fresh`, `Steps`. Assumes nothing.
use Rattle.std.specs.Prelude.{ℕ, List}
use Rattle.std.proofs.Math.Option.{Option, none, some}
use Rattle.table.specs.Table.{Table}
use Rattle.monitor_spec.specs.Expected.{monitor_after}
use Rattle.wash_spec.specs.Timed.{TimedMonitor, stamped}
use Rattle.wash_spec.specs.Taking.{drawing_at}
use Rattle.wash_spec.specs.Joined.{Stretch, stretch}
use Rattle.wash_spec.specs.History.{unstarted}

unfoldable pub after_minute : Table → Table → List ℕ → ℕ → Option ℕ → List ℕ → TimedMonitor
after_minute everyday wash windows n none es = unstarted n
after_minute everyday wash windows n (some last) es =
    stamped last (monitor_after (drawing_at everyday wash windows last) n es)

unfoldable pub after_stretch : Table → Table → List ℕ → ℕ → Stretch → TimedMonitor
after_stretch everyday wash windows n x = after_minute everyday wash windows n x.last x.events

unfoldable pub timed_after : Table → Table → List ℕ → ℕ → List (ℕ × ℕ) → TimedMonitor
timed_after everyday wash windows n s = after_stretch everyday wash windows n (stretch windows s)
