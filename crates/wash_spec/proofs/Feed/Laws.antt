-- A call by what stands before its events, and what the events' end answers.
--     timed_shut, timed_admits                a refusal before the first event; or the events
--     none_given, some_stopped                what an ending answers
--     pairs_back, events_back, minutes_back   events with their minutes, and back
-- Assumes nothing.
use Rattle.std.specs.Prelude.{ℕ, ◌≡◌, refl, List, [], ◌∷◌, length}
use Rattle.std.proofs.Common.{arith}
use Rattle.std.proofs.Math.Path.{ap}
use Rattle.std.proofs.Math.Option.{none, some}
use Rattle.table.specs.Table.{Table}
use Rattle.monitor_spec.specs.Fold.{Ended, through}
use Rattle.wash_spec.specs.Timed.{TimedMonitor, given, stopped}
use Rattle.wash_spec.specs.Taking.{take_timed}
use Rattle.wash_spec.specs.Entering.{shut, admits, timed_measured, timed_entrance}
use Rattle.wash_spec.specs.Feed.{timed_pairs, events_of, minutes_of, timed_ending, timed_refusing, timed_going, timed_of}

module _ (everyday wash windows : List ℕ) (m : TimedMonitor) (es ms w : List ℕ) where
  pub timed_shut : (n p : ℕ) (v : List ℕ)
      → timed_entrance everyday wash windows m (timed_measured m es ms w) w ≡ shut n p v
      → timed_of everyday wash windows m es ms w ≡ timed_refusing m n p v
  unfolding timed_of timed_going
  timed_shut n p v e = ap (timed_going windows m (timed_pairs es ms) (length w)) e

  pub timed_admits : (t u : Table)
      → timed_entrance everyday wash windows m (timed_measured m es ms w) w ≡ admits t u
      → timed_of everyday wash windows m es ms w
      ≡ timed_ending (length w) (through (take_timed t u windows) m 0 (timed_pairs es ms))
  unfolding timed_of timed_going
  timed_admits t u e = ap (timed_going windows m (timed_pairs es ms) (length w)) e

pub none_given : (k : ℕ) (x : Ended TimedMonitor) → x.why ≡ none → (timed_ending k x).answer ≡ given x.at.state
unfolding timed_ending
none_given k x e = rw (e, timed_ending)

pub some_stopped : (k : ℕ) (x : Ended TimedMonitor) (n : ℕ) → x.why ≡ some n
    → (timed_ending k x).answer ≡ stopped n x.taken x.at.state
unfolding timed_ending
some_stopped k x n e = rw (e, timed_ending)

-- ---- events and their minutes

pub pairs_back : (s : List (ℕ × ℕ)) → timed_pairs (events_of s) (minutes_of s) ≡ s
unfolding timed_pairs
pairs_back [] = refl
pairs_back (p ∷ s) = ap (p ∷◌) (pairs_back s)

pub events_back : (es ms : List ℕ) → length es ≡ length ms → es ≡ events_of (timed_pairs es ms)
unfolding timed_pairs
events_back [] ms h = refl
events_back (e ∷ es) [] h = absurd (omega arith)
events_back (e ∷ es) (m ∷ ms) h = ap (e ∷◌) (events_back es ms (omega arith))

pub minutes_back : (es ms : List ℕ) → length es ≡ length ms → ms ≡ minutes_of (timed_pairs es ms)
unfolding timed_pairs
minutes_back [] [] h = refl
minutes_back [] (m ∷ ms) h = absurd (omega arith)
minutes_back (e ∷ es) [] h = absurd (omega arith)
minutes_back (e ∷ es) (m ∷ ms) h = ap (m ∷◌) (minutes_back es ms (omega arith))
