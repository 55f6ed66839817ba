-- The lines of an input that comes in reads (ours): what has arrived is judged at once.
--     Configuration             where a trace stands: a monitor on a table, or its end
--     read_lines, reached_after  the lines of a read; where it stands after it
--     reached_by                where the trace of an input stands, with all the events that it has
--     reads_of                   the lines of an input, and then of each read after it
--     Decided                   an input whose head is the same, whatever follows
-- The relation that a loop over reads keeps is `reached_by s ≡ at t m`, where s is all that was read: the lines of s
-- are said, and the next event meets m on the table t. The laws are in `proofs/ReadLaws.antt`. Assumes nothing.
use Rattle.std.specs.Prelude.{ℕ, ◌≡◌, List, [], ◌∷◌, ◌++◌}
use Rattle.std.proofs.Math.Option.{Option, none, some}
use Rattle.table.specs.Table.{Table}
use Rattle.monitor_spec.specs.State.{Monitor}
use Rattle.monitor_spec.specs.Fold.{Ended, through}
use Rattle.monitor_spec.specs.Feed.{take_event}
use Rattle.line_spec.specs.Line.{parts, wrong, head_of}
use Rattle.trace_spec.specs.TraceLine.{TraceLine}
use Rattle.trace_spec.specs.Trace.{Beginning, begins, declines, beginning_of, event_lines, trace_of}

-- "A refusal is its last line"
pub data Configuration : Type 0 where
  at : Table → Monitor → Configuration
  ended : Configuration

unfoldable pub read_lines : Configuration → List ℕ → List TraceLine
read_lines (at t m) es = event_lines t m es
read_lines ended es = []

-- where a fold of events ended
unfoldable pub reached_in : Table → Monitor → Option ℕ → Configuration
reached_in t m none = at t m
reached_in t m (some n) = ended

unfoldable pub reached_at : Table → Ended Monitor → Configuration
reached_at t x = reached_in t x.at x.why

unfoldable pub reached_after : Configuration → List ℕ → Configuration
reached_after (at t m) es = reached_at t (through (take_event t) m 0 es)
reached_after ended es = ended

unfoldable pub reached_from : Beginning → Configuration
reached_from (begins ns t m es) = reached_after (at t m) es
reached_from (declines n p) = ended

unfoldable pub reached_by : List ℕ → Configuration
reached_by s = reached_from (beginning_of s)

unfoldable pub reads_from : Configuration → List (List ℕ) → List TraceLine
reads_from c [] = []
reads_from c (es ∷ ess) = read_lines c es ++ reads_from (reached_after c es) ess

-- the front, and the reads after it
unfoldable pub reads_of : List ℕ → List (List ℕ) → List TraceLine
reads_of s ess = trace_of s ++ reads_from (reached_by s) ess

-- the length number and the table are there, or the length number is wrong: only 3, for an input that ended within
-- them, could turn out otherwise
pub data Decided (s : List ℕ) : Type 0 where
  table_there : (bs es : List ℕ) → head_of s ≡ parts bs es → Decided s
  length_over : head_of s ≡ wrong 2 0 → Decided s
  length_loose : head_of s ≡ wrong 4 0 → Decided s
