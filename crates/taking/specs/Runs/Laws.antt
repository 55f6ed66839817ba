-- Events one after the other, and one run after another: at place j the fold over the events from place i on is the
-- fold over those left, from the monitor reached.
--     reached_start, reached_next       a monitor is reached at first, and after an event that is taken
--     reached_then                      one is reached from one that is reached
--     ended_refused, ended_done         what the events come to where one is refused, and after the last
--     ended_then                        the same from a monitor that is reached
--     run_ended, run_left, run_then     a run, by where it comes to; a run from a monitor that is reached
-- Assumes nothing.
use Rattle.std.specs.Prelude.{ℕ, suc, ◌+◌, ◌<◌, ◌≤◌, ◌≡◌, refl, List, ◌∷◌, length, get_or, drop, Ok, Err}
use Rattle.std.proofs.Common.{add-one, ◌∙◌, drop_of_length-le, drop-cons}
use Rattle.std.proofs.Math.Path.{ap, sym}
use Rattle.table.specs.Table.{Table}
use Rattle.monitor_spec.specs.Regular.{Regular}
use Rattle.monitor_spec.specs.State.{Monitor}
use Rattle.monitor_spec.specs.Fold.{went, stops, through}
use Rattle.monitor_spec.proofs.Fold.Laws.{through_went, through_stops}
use Rattle.monitor_spec.specs.Feed.{take_event, ending_of}
use Rattle.monitor_spec.proofs.Consistent.Laws.{take_laid}
use Rattle.state.specs.declared.record.State.{State}
use Rattle.state.specs.Answers.{Answer}
use Rattle.state.specs.declared.answer.Declined.TheVariants as answer
use Rattle.state.specs.Record.{monitor_of}
use Rattle.taking.specs.Taking.{Taken}
use Rattle.taking.specs.declared.run.Run.{Run}
use Rattle.taking.specs.declared.run.Run.TheVariants.{Ended, Left}
use Rattle.taking.specs.Taking.{Standing, TakenBy}
use Rattle.taking.specs.Runs.{EndedFrom, ReachedAt, RunBy}

module _ (t : Table) (m : Monitor) (es : List ℕ) (i : ℕ) where
  pub reached_start : Standing t m → ReachedAt t m es i m i
  reached_start h = record { standing = h; rest = refl }

  module _ (m' : Monitor) (j : ℕ) (h : ReachedAt t m es i m' j) where
    pub reached_then : (m'' : Monitor) (k : ℕ) → ReachedAt t m' es j m'' k → ReachedAt t m es i m'' k
    reached_then m'' k g = record { standing = g.standing; rest = h.rest ∙ g.rest }

    pub ended_then : (r : Answer) (a b : List ℕ) → EndedFrom t m' es j r a b → EndedFrom t m es i r a b
    unfolding EndedFrom
    ended_then r a b g n = g n ∙ sym (ap (ending_of n) h.rest)

  module _ (s : State) (a b : List ℕ) (j : ℕ) (h : ReachedAt t m es i (monitor_of s a b) j) where
    abbrev m' : Monitor
    m' = monitor_of s a b

    module _ (l : j < length es) (r : Taken) (a' b' : List ℕ) (g : TakenBy t m' (get_or es j 0) r a' b') where
      split : through (take_event t) m i (drop i es) ≡ through (take_event t) m' j (get_or es j 0 ∷ drop (suc j) es)
      split = h.rest ∙ ap (through (take_event t) m' j) (drop-cons es j 0 l)

      pub reached_next : Regular t → (s' : State) → r ≡ Ok s' → ReachedAt t m es i (monitor_of s' a' b') (j + 1)
      reached_next regular s' q =
          let e : take_event t m' (get_or es j 0) ≡ went (monitor_of s' a' b') = rw q at g in
          record {
            standing =
                record {
                  slots = h.standing.slots;
                  laid = take_laid t regular h.standing.slots m' (monitor_of s' a' b') (get_or es j 0)
                      h.standing.laid e;
                };
            rest = rw add-one (split
                ∙ through_went (take_event t) m' (monitor_of s' a' b') j (get_or es j 0) (drop (suc j) es) e);
          }

      pub ended_refused : (k : ℕ) → r ≡ Err k
          → EndedFrom t m es i (Err (answer.Stopped (record { number = k; place = j }) s)) a' b'
      unfolding EndedFrom ending_of
      ended_refused k q n =
          let e : (take_event t m' (get_or es j 0) ≡ stops k) × (a' ≡ a) × (b' ≡ b) = rw q at g in
          rw (e.1, e.2) (sym (ap (ending_of n) (split
          ∙ through_stops (take_event t) m' j k (get_or es j 0) (drop (suc j) es) e.0)))

    pub ended_done : length es ≤ j → EndedFrom t m es i (Ok s) a b
    unfolding EndedFrom ending_of through
    ended_done l n = sym (ap (ending_of n) (h.rest ∙ ap (through (take_event t) m' j) (drop_of_length-le es l)))

  module _ (to : ℕ) (r : Run) (a b : List ℕ) (h : RunBy t m es i to r a b) where
    pub run_ended : (x : Answer) → r ≡ Ended x → EndedFrom t m es i x a b
    unfolding RunBy
    run_ended x q = rw q at h

    pub run_left : (s : State) (j : ℕ) → r ≡ Left s j
        → ReachedAt t m es i (monitor_of s a b) j × (to ≤ j) × (j ≤ length es)
    unfolding RunBy
    run_left s j q = rw q at h

  module _ (m' : Monitor) (j : ℕ) (h : ReachedAt t m es i m' j) (to : ℕ) where
    pub run_then : (r : Run) (a b : List ℕ) → RunBy t m' es j to r a b → RunBy t m es i to r a b
    unfolding RunBy
    run_then (Ended x) a b g = ended_then m' j h x a b g
    run_then (Left s k) a b g = (reached_then m' j h (monitor_of s a b) k g.0, g.1, g.2)
