-- Try, by the further areas' lengths and by Feed's answer.
--     try_alike, try_unlike                        by the lengths
--     copy_given, copy_stopped, copy_refused       by Feed's answer;  copy_ending: by where its events end
--     try_shut, try_admits                         by what stands before Feed's events
-- Assumes nothing.
use Rattle.std.specs.Prelude.{ℕ, ◌≡◌, true, false, List, length}
use Rattle.std.proofs.Math.Path.{refl, ap}
use Rattle.std.proofs.Common.{◌∙◌}
use Rattle.std.proofs.Math.Option.{Option, none, some}
use Rattle.table.specs.Table.{Table}
use Rattle.monitor_spec.specs.Fold.{Ended, through}
use Rattle.monitor_spec.specs.State.{State, Monitor, Answer, given, refused, stopped, Outcome}
use Rattle.monitor_spec.specs.Entering.{shut, admits, entrance_on, refusing}
use Rattle.monitor_spec.specs.Feed.{take_event, ending_of, feed_of}
use Rattle.monitor_spec.proofs.Feed.Laws.{feed_shut, feed_admits}
use Rattle.monitor_spec.specs.Try.{further_measured, left_in, on_copy, try_of}

-- ---- by Feed's answer

module _ (c d : List ℕ) (o : Outcome) where
  by_answer : (x : Answer) → o.answer ≡ x
      → on_copy c d o ≡ record {
        answer = o.answer;
        area0 = left_in x c o.area0;
        area1 = left_in x d o.area1;
        work = o.work;
      }
  unfolding on_copy
  by_answer x e i =
      record {
        answer = o.answer;
        area0 = left_in (e i) c o.area0;
        area1 = left_in (e i) d o.area1;
        work = o.work;
      }

  pub copy_given : (s : State) → o.answer ≡ given s → on_copy c d o ≡ o
  unfolding left_in
  copy_given s e = by_answer (given s) e

  pub copy_stopped : (n p : ℕ) (s : State) → o.answer ≡ stopped n p s → on_copy c d o ≡ o
  unfolding left_in
  copy_stopped n p s e = by_answer (stopped n p s) e

  pub copy_refused : (n p : ℕ) → o.answer ≡ refused n p
      → on_copy c d o ≡ record { answer = o.answer; area0 = c; area1 = d; work = o.work }
  unfolding left_in
  copy_refused n p e = by_answer (refused n p) e

-- events taken, or one of them refused: as Feed leaves them
pub copy_ending : (c d : List ℕ) (n : ℕ) (x : Ended Monitor) → on_copy c d (ending_of n x) ≡ ending_of n x
unfolding ending_of
copy_ending c d n x = by x.why refl
  where
    by : (o : Option ℕ) → x.why ≡ o → on_copy c d (ending_of n x) ≡ ending_of n x
    by none e = copy_given c d (ending_of n x) x.at.state (rw (e, ending_of) refl)
    by (some k) e = copy_stopped c d (ending_of n x) k x.taken x.at.state (rw (e, ending_of) refl)

-- ---- by the further areas' lengths, and what stands before Feed's events

module _ (l : List ℕ) (m : Monitor) (c d es w : List ℕ) where
  pub try_alike : further_measured m c d ≡ true → try_of l m c d es w ≡ on_copy c d (feed_of l m es w)
  unfolding try_of
  try_alike h = rw (h, try_of) refl

  pub try_unlike : further_measured m c d ≡ false → try_of l m c d es w ≡ refusing c d 1 0 w
  unfolding try_of
  try_unlike h = rw (h, try_of) refl

  pub try_shut : further_measured m c d ≡ true → (n p : ℕ) (v : List ℕ) → entrance_on l m w ≡ shut n p v
      → try_of l m c d es w ≡ refusing c d n p v
  unfolding refusing on_copy left_in
  try_shut h n p v e = try_alike h ∙ ap (on_copy c d) (feed_shut l m es w n p v e)

  pub try_admits : further_measured m c d ≡ true → (t : Table) → entrance_on l m w ≡ admits t
      → try_of l m c d es w ≡ ending_of (length w) (through (take_event t) m 0 es)
  try_admits h t e =
      try_alike h ∙ ap (on_copy c d) (feed_admits l m es w t e)
      ∙ copy_ending c d (length w) (through (take_event t) m 0 es)
