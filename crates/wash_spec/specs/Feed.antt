-- A feeding call with wash hours: its whole outcome (02, W5).
--     timed_pairs    the events, each with its minute;  events_of, minutes_of: back
--     timed_ending   where the events end;  timed_refusing: a refusal that keeps the areas
--     timed_of       answer, areas and work words of a call
-- The laws are in `proofs/Feed/Laws.antt`. Assumes nothing.
use Rattle.std.specs.Prelude.{ℕ, List, [], ◌∷◌, map, length}
use Rattle.std.proofs.Math.Option.{none, some}
use Rattle.table.specs.Operations.{zeros}
use Rattle.monitor_spec.specs.Fold.{Ended, through}
use Rattle.wash_spec.specs.Timed.{TimedMonitor, given, refused, stopped, TimedOutcome}
use Rattle.wash_spec.specs.Taking.{take_timed}
use Rattle.wash_spec.specs.Entering.{TimedEntrance, shut, admits, timed_measured, timed_entrance}

-- "Each event brings an absolute minute"
unfoldable pub timed_pairs : List ℕ → List ℕ → List (ℕ × ℕ)
timed_pairs [] minutes = []
timed_pairs (e ∷ es) [] = []
timed_pairs (e ∷ es) (m ∷ ms) = (e, m) ∷ timed_pairs es ms

abbrev pub events_of : List (ℕ × ℕ) → List ℕ
events_of s = map (λ (p : ℕ × ℕ). p.0) s

abbrev pub minutes_of : List (ℕ × ℕ) → List ℕ
minutes_of s = map (λ (p : ℕ × ℕ). p.1) s

-- "placed and answered like 11": place: "events taken by this call"; the work area, of k words, is all zero
unfoldable pub timed_ending : ℕ → Ended TimedMonitor → TimedOutcome
timed_ending k x =
    record {
      answer = elim x.why [ none ↦ given x.at.state | some n ↦ stopped n x.taken x.at.state ];
      area0 = x.at.area0;
      area1 = x.at.area1;
      work = zeros k;
    }

-- "return and keep what 10 does"
unfoldable pub timed_refusing : TimedMonitor → ℕ → ℕ → List ℕ → TimedOutcome
timed_refusing m n p work = record { answer = refused n p; area0 = m.area0; area1 = m.area1; work = work }

unfoldable pub timed_going : List ℕ → TimedMonitor → List (ℕ × ℕ) → ℕ → TimedEntrance → TimedOutcome
timed_going windows m pairs k (shut n p work) = timed_refusing m n p work
timed_going windows m pairs k (admits t u) = timed_ending k (through (take_timed t u windows) m 0 pairs)

-- the everyday number list, that of the wash hours, the timetable, the monitor, events, their minutes, work words
unfoldable pub timed_of : List ℕ → List ℕ → List ℕ → TimedMonitor → List ℕ → List ℕ → List ℕ → TimedOutcome
timed_of everyday wash windows m events minutes work =
    timed_going windows m (timed_pairs events minutes) (length work)
    (timed_entrance everyday wash windows m (timed_measured m events minutes work) work)
