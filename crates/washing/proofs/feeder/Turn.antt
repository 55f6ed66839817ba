-- The events one after the other, each with its minute: `take_all_timed`. At event i the fold over all events is the
-- fold over those left, from the monitor reached.
--     pairs_drop, pairs_cons         the events left, with their minutes
--     measured_kept                  lengths stay right
--     Head                           the invariant
--     head_first, head_next          it holds at first, and after an event that is taken
--     head_stopped, head_done        the outcome where an event is refused, and after the last
-- Assumes nothing.
use Rattle.std.specs.Prelude.{Ok, Err}
use Prim.Native.Nat.{ℕ, zero, suc, ◌+◌, ◌<◌, ◌≤◌}
use native.Mathlib.Omega.{arith}
use native.Mathlib.Numerals.{add-one}
use mathlib.Core.Path.{◌≡◌, refl, ap, sym, ◌∙◌}
use mathlib.Core.Bool.{true}
use mathlib.Core.List.{List, [], ◌∷◌}
use lib.ListN.{length, get_or, drop, drop_of_length-le}
use lib.Seq.{drop-cons}
use Rattle.table_index.specs.Index.{table_in}
use Rattle.monitor_spec.specs.State.{areas_measured}
use Rattle.monitor_spec.specs.Fold.{Ended, through}
use Rattle.monitor_spec.proofs.Fold.Laws.{through_went, through_stops}
use Rattle.state.specs.declared.record.State.{State}
use Rattle.taking.specs.Taking.{Taken}
use Rattle.wash_spec.specs.Timed.{TimedMonitor}
use Rattle.wash_spec.specs.Taking.{take_timed}
use Rattle.wash_spec.specs.Feed.{timed_pairs, timed_ending}
use Rattle.wash_state.specs.declared.answer.TimedState.{TimedState}
use Rattle.wash_state.specs.declared.answer.TimedState.TheVariants.{Started}
use Rattle.state.specs.declared.answer.Declined.TheVariants as answer
use Rattle.wash_state.specs.Answers.{timed_monitor_of}
use Rattle.wash_start.specs.Standing.{TimedReady}
use Rattle.wash_event.specs.Event.{TimedBy}
use Rattle.washing.specs.Washing.{TimedEndedBy}

-- ---- the events left
pairs_drop : (i : ℕ) (es ms : List ℕ) → drop i (timed_pairs es ms) ≡ timed_pairs (drop i es) (drop i ms)
unfolding timed_pairs
pairs_drop zero es ms = refl
pairs_drop (suc i) [] ms = refl
pairs_drop (suc i) (e ∷ es) [] = sym (none (drop i es))
  where
    none : (l : List ℕ) → timed_pairs l [] ≡ []
    none [] = refl
    none (x ∷ l) = refl
pairs_drop (suc i) (e ∷ es) (m ∷ ms) = pairs_drop i es ms

pairs_cons : (i : ℕ) (es ms : List ℕ) → i < length es → length es ≡ length ms
    → drop i (timed_pairs es ms) ≡ (get_or es i 0, get_or ms i 0) ∷ drop (suc i) (timed_pairs es ms)
unfolding timed_pairs
pairs_cons i es ms h k =
    pairs_drop i es ms ∙ rw (drop-cons es i 0 h, drop-cons ms i 0 (omega arith), pairs_drop (suc i) es ms)

pairs_done : (i : ℕ) (es ms : List ℕ) → length es ≤ i → drop i (timed_pairs es ms) ≡ []
unfolding timed_pairs
pairs_done i es ms h = pairs_drop i es ms ∙ rw (drop_of_length-le es h)

-- ---- areas that are as long
pub measured_kept : (a b a' b' : List ℕ) → areas_measured a b ≡ true → length a' ≡ length a → length b' ≡ length b
    → areas_measured a' b' ≡ true
unfolding areas_measured
measured_kept a b a' b' h p q = rw (p, q) h

-- ---- the loop
module _ (everyday wash windows : List ℕ) where
  abbrev folded : TimedMonitor → ℕ → List (ℕ × ℕ) → Ended TimedMonitor
  folded m k ps = through (take_timed (table_in everyday) (table_in wash) windows) m k ps

  -- m is the monitor that the call began with, x, a, b, w what is reached before event i
  pub record Head (m : TimedMonitor) (es ms : List ℕ) (x : TimedState) (a b w : List ℕ) (i : ℕ) : Type 0 where
    pub ready : TimedReady everyday wash windows x a b w
    pub rest : folded m 0 (timed_pairs es ms) ≡ folded (timed_monitor_of x a b) i (drop i (timed_pairs es ms))

  pub head_first : (es ms : List ℕ) (x : TimedState) (a b w : List ℕ) → TimedReady everyday wash windows x a b w
      → Head (timed_monitor_of x a b) es ms x a b w 0
  head_first es ms x a b w h = record { ready = h; rest = refl }

  module _ (m : TimedMonitor) (es ms : List ℕ) (same : length es ≡ length ms) (x : TimedState) (a b w : List ℕ) (i : ℕ)
      (h : Head m es ms x a b w i) where
    abbrev m' : TimedMonitor
    m' = timed_monitor_of x a b

    abbrev ps : List (ℕ × ℕ)
    ps = timed_pairs es ms

    module _ (l : i < length es) (r : Taken) (a' b' w' : List ℕ)
        (g : TimedBy everyday wash windows x (get_or es i 0) (get_or ms i 0) a b r a' b' w') where
      abbrev p : ℕ × ℕ
      p = (get_or es i 0, get_or ms i 0)

      split : folded m 0 ps ≡ folded m' i (p ∷ drop (suc i) ps)
      split = h.rest ∙ ap (folded m' i) (pairs_cons i es ms l same)

      pub head_next : (s : State) → r ≡ Ok s → areas_measured a' b' ≡ true → length w' ≡ 8192
          → Head m es ms (Started s (get_or ms i 0)) a' b' w' (i + 1)
      head_next s q ok k =
          let f : TimedBy everyday wash windows x (get_or es i 0) (get_or ms i 0) a b (Ok s) a' b' w' = rw q at g in
          record {
            ready =
                record {
                  first = h.ready.first;
                  second = h.ready.second;
                  good = h.ready.good;
                  measured = ok;
                  long = k;
                  stands = f.1;
                };
            rest = rw add-one (split
                ∙ through_went (take_timed (table_in everyday) (table_in wash) windows) m'
                (timed_monitor_of (Started s (get_or ms i 0)) a' b') i p (drop (suc i) ps) f.0);
          }

      pub head_stopped : (k : ℕ) → r ≡ Err k
          → TimedEndedBy everyday wash windows m es ms (Err (answer.Stopped (record { number = k; place = i }) x)) a' b'
      unfolding TimedEndedBy timed_ending
      head_stopped k q n =
          let f : TimedBy everyday wash windows x (get_or es i 0) (get_or ms i 0) a b (Err k) a' b' w' = rw q at g in
          rw (f.1, f.2) (sym (ap (timed_ending n) (split
          ∙ through_stops (take_timed (table_in everyday) (table_in wash) windows) m' i k p (drop (suc i) ps) f.0)))

    pub head_done : length es ≤ i → TimedEndedBy everyday wash windows m es ms (Ok x) a b
    unfolding TimedEndedBy timed_ending through
    head_done l n = sym (ap (timed_ending n) (h.rest ∙ ap (folded m' i) (pairs_done i es ms l)))
