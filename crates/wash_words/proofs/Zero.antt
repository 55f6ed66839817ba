-- The number returned is 0 exactly where the operation refused nothing: no refusal's number is 0. Assumes nothing.
use Prim.Native.Nat.{ℕ}
use native.Mathlib.Omega.{arith}
use mathlib.Core.Path.{◌≡◌, refl, subst}
use mathlib.Core.Bool.{Bool, true, false, ◌&&◌}
use mathlib.Core.List.{List, []}
use mathlib.Core.Option.{Option, none, some}
use lib.ListN.{length}
use lib.Dec.{T, eqb, ltb}
use borrow.Author.Tests.{ne_eqb}
use Rattle.table.specs.Table.{Table}
use Rattle.table.specs.Judge.{Judgement, accepted, declined, judge_list}
use Rattle.residuals.specs.Residual.{residuals_of}
use Rattle.residuals.specs.Slots.{slots_of}
use Rattle.monitor_spec.specs.State.{Monitor, slot_count}
use Rattle.monitor_spec.specs.Fold.{StepEnd, went, stops, Ended}
use Rattle.monitor_spec.specs.Entering.{measuring, judging, entrance, entering}
use Rattle.timetable_spec.specs.Timetable.{good_timetable}
use Rattle.words_spec.specs.Calls.{unmeasured}
use Rattle.words_spec.specs.Nonzero.{list_some, Why, Stop, event_stop, through_why}
use Rattle.wash_spec.specs.Timed.{TimedState, not_started, started, TimedMonitor, plain, TimedOutcome}
use Rattle.wash_spec.specs.Taking.{drawing_at, clock_back, start_due, take_fresh, take_on, at_minute, take_timed}
use Rattle.wash_spec.specs.Entering.{TimedEntrance, shut, admits, timed_measured, timed_consistent, scheduling}
use Rattle.wash_spec.specs.Entering.{timed_entrance}
use Rattle.wash_spec.specs.Feed.{timed_pairs, timed_ending, timed_refusing, timed_going, timed_of}
use Rattle.wash_words.specs.Words.{timed_record_measured}
use Rattle.wash_words.specs.Call.{timed_number, is_timed_given, call_of, timed_monitor_in, timed_call}

-- ---- one event: 17, 13, or as an event of the monitor stops

fresh_stop : (t : Table) (n e : ℕ) → Stop Monitor (take_fresh t n e)
unfolding take_fresh
fresh_stop t n e = go (ltb n (length (slots_of (residuals_of t [])))) refl
  where
    go : (x : Bool) → ltb n (length (slots_of (residuals_of t []))) ≡ x → Stop Monitor (take_fresh t n e)
    go true h = rw (h, take_fresh) (λ z. omega arith)
    go false h = rw (h, take_fresh) (event_stop t _ e)

on_stop : (t : Table) (due : Bool) (s : TimedState) (a b : List ℕ) (e : ℕ) → Stop Monitor (take_on t due s a b e)
unfolding take_on
on_stop t due not_started a b e = fresh_stop t (slot_count a) e
on_stop t true (started s last) a b e = fresh_stop t (slot_count a) e
on_stop t false (started s last) a b e = event_stop t (plain s a b) e

minute_stop : (now : ℕ) (x : StepEnd Monitor) → Stop Monitor x → Stop TimedMonitor (at_minute now x)
unfolding at_minute
minute_stop now (went m) h = tt
minute_stop now (stops n) h = h

timed_stop : (t u : Table) (ws : List ℕ) (m : TimedMonitor) (p : ℕ × ℕ) → Stop TimedMonitor (take_timed t u ws m p)
unfolding take_timed
timed_stop t u ws m p = go (clock_back m.state p.1) refl
  where
    go : (x : Bool) → clock_back m.state p.1 ≡ x → Stop TimedMonitor (take_timed t u ws m p)
    go true h = rw (h, take_timed) (λ z. omega arith)
    go false h =
        rw (h, take_timed)
        (minute_stop p.1 _ (on_stop (drawing_at t u ws p.1) (start_due ws m.state p.1) m.state m.area0
        m.area1 p.0))

-- ---- before the events: 1, the tables' refusals, 16 and 10

abbrev Shut : TimedEntrance → Type 0
Shut (shut n p v) = n ≡ 0 → ⊥
Shut (admits t u) = T true

schedule_shut : (ws : List ℕ) (m : TimedMonitor) (k : ℕ) (t u : Table) → Shut (scheduling ws m k t u)
unfolding scheduling
schedule_shut ws m k t u = go (good_timetable ws) refl (timed_consistent t u ws m) refl
  where
    go : (x : Bool) → good_timetable ws ≡ x → (y : Bool) → timed_consistent t u ws m ≡ y → Shut (scheduling ws m k t u)
    go false g y c = rw (g, scheduling) (λ z. omega arith)
    go true g false c = rw (g, c, scheduling) (λ z. omega arith)
    go true g true c = rw (g, c, scheduling) tt

judged_shut : (l : List ℕ) (k : ℕ) (f : Table → TimedEntrance) → ((t : Table) → Shut (f t))
    → Shut (entering shut f (judging (judge_list l) k))
unfolding entering judging
judged_shut l k f h = go (judge_list l) refl
  where
    go : (j : Judgement) → judge_list l ≡ j → Shut (entering shut f (judging j k))
    go (declined n p) e = list_some l n p e
    go (accepted ns t) e = h t

entrance_shut : (everyday wash ws : List ℕ) (m : TimedMonitor) (fits : Bool) (w : List ℕ)
    → Shut (timed_entrance everyday wash ws m fits w)
unfolding timed_entrance entrance measuring entering
entrance_shut everyday wash ws m false w = λ z. omega arith
entrance_shut everyday wash ws m true w =
    judged_shut everyday (length w) _ (λ t. judged_shut wash (length w) _ (schedule_shut ws m (length w) t))

-- ---- a call

abbrev Said : TimedOutcome → Type 0
Said o = eqb (timed_number o.answer) 0 ≡ is_timed_given o.answer

ending_said : (k : ℕ) (x : Ended TimedMonitor) → Why x.why → Said (timed_ending k x)
unfolding timed_ending timed_number is_timed_given
ending_said k x h = go x.why refl
  where
    go : (o : Option ℕ) → x.why ≡ o → Said (timed_ending k x)
    go none e = rw (e, timed_ending)
    go (some n) e = rw (e, timed_ending) (ne_eqb n 0 (subst Why e h))

going_said : (ws : List ℕ) (m : TimedMonitor) (ps : List (ℕ × ℕ)) (k : ℕ) (x : TimedEntrance) → Shut x
    → Said (timed_going ws m ps k x)
unfolding timed_going timed_refusing timed_number is_timed_given
going_said ws m ps k (shut n p v) h = ne_eqb n 0 h
going_said ws m ps k (admits t u) h = ending_said k _ (through_why (take_timed t u ws) (timed_stop t u ws) ps m 0)

timed_said : (everyday wash ws : List ℕ) (m : TimedMonitor) (es ms w : List ℕ)
    → Said (timed_of everyday wash ws m es ms w)
unfolding timed_of
timed_said everyday wash ws m es ms w =
    going_said ws m (timed_pairs es ms) (length w) _
    (entrance_shut everyday wash ws m (timed_measured m es ms w) w)

pub timed_zero : (everyday wash ws r a b es ms w : List ℕ)
    → eqb (timed_call everyday wash ws r a b es ms w).number 0
    ≡ (timed_record_measured r && is_timed_given (timed_of everyday wash ws (timed_monitor_in r a b) es ms w).answer)
unfolding timed_call call_of unmeasured
timed_zero everyday wash ws r a b es ms w = go (timed_record_measured r) refl
  where
    go : (x : Bool) → timed_record_measured r ≡ x
        → eqb (timed_call everyday wash ws r a b es ms w).number 0
        ≡ (timed_record_measured r && is_timed_given (timed_of everyday wash ws (timed_monitor_in r a b) es ms w).answer)
    go true e = rw (e, timed_call) (timed_said everyday wash ws (timed_monitor_in r a b) es ms w)
    go false e = rw (e, timed_call)
