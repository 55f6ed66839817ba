-- One event with its minute, by the tests.
--     drawing_regular, drawing_same          the table in force keeps the rules too; without a change it is the same
--     fresh_crowded, fresh_room              an event on a fresh start
--     take_back, take_afresh, take_onward    17; a fresh start; none
--     timed_range                            an event is refused with 11, 12, 13 or 17
-- Assumes nothing.
use Rattle.std.specs.Prelude.{ℕ, ◌≤◌, ◌≡◌, Bool, true, false, List, [], ◌⊎◌, length, T, ltb}
use Rattle.std.proofs.Common.{arith, sym, subst, ◌∙◌, inl, inr}
use Rattle.std.proofs.Math.Path.{refl, ap}
use Rattle.std.proofs.Math.Option.{Option}
use Rattle.table.specs.Table.{Table}
use Rattle.residuals.specs.Residual.{residuals_of}
use Rattle.residuals.specs.Slots.{slots_of}
use Rattle.monitor_spec.specs.Regular.{Regular}
use Rattle.monitor_spec.specs.State.{State, Monitor, slot_count, choose}
use Rattle.monitor_spec.specs.Fold.{StepEnd, went, stops}
use Rattle.monitor_spec.specs.Valid.{held}
use Rattle.monitor_spec.specs.Feed.{present_slots, next_slots, taking, take_event}
use Rattle.monitor_spec.proofs.Feed.Laws.{EventCase, meets, passes, event_case, met_by, take_refused, take_passes}
use Rattle.monitor_spec.specs.Open.{fresh_monitor}
use Rattle.monitor_spec.specs.Progress.{Meets, unknown, full, exceeded}
use Rattle.timetable_spec.specs.Timetable.{good_timetable, in_force, changes}
use Rattle.timetable_spec.proofs.Timetable.Exact.{unchanged_same}
use Rattle.wash_spec.specs.Timed.{TimedState, not_started, started, TimedMonitor, plain, stamped}
use Rattle.wash_spec.specs.Taking.{drawing_at, clock_back, start_due, take_fresh, take_on, at_minute, take_timed}

-- ---- the table in force

pub drawing_regular : (t u : Table) → Regular t → Regular u → (windows : List ℕ) (now : ℕ)
    → Regular (drawing_at t u windows now)
unfolding drawing_at choose
drawing_regular t u r q windows now = by (in_force windows now)
  where
    by : (b : Bool) → Regular (choose b u t)
    by true = q
    by false = r

pub drawing_same : (t u : Table) (windows : List ℕ) (last now : ℕ) → T (good_timetable windows) → last ≤ now
    → changes windows last now ≡ false → drawing_at t u windows last ≡ drawing_at t u windows now
unfolding drawing_at
drawing_same t u windows last now g h e =
    ap (λ (b : Bool). choose b u t) (sym (unchanged_same windows last now g h e))

-- ---- on a fresh start

module _ (t : Table) (n e : ℕ) where
  abbrev first : List (List ℕ)
  first = slots_of (residuals_of t [])

  pub fresh_crowded : ltb n (length first) ≡ true → take_fresh t n e ≡ stops 13
  unfolding take_fresh
  fresh_crowded h = rw (h, take_fresh)

  pub fresh_room : ltb n (length first) ≡ false → take_fresh t n e ≡ take_event t (fresh_monitor t n) e
  unfolding take_fresh
  fresh_room h = rw (h, take_fresh)

-- ---- by the tests

module _ (everyday wash : Table) (windows : List ℕ) (m : TimedMonitor) (p : ℕ × ℕ) where
  abbrev t : Table
  t = drawing_at everyday wash windows p.1

  abbrev took : StepEnd TimedMonitor
  took = take_timed everyday wash windows m p

  pub take_back : clock_back m.state p.1 ≡ true → took ≡ stops 17
  unfolding take_timed
  take_back h = rw (h, take_timed)

  in_time : clock_back m.state p.1 ≡ false
      → took ≡ at_minute p.1 (take_on t (start_due windows m.state p.1) m.state m.area0 m.area1 p.0)
  unfolding take_timed
  in_time h = rw (h, take_timed)

  on_due : (s : TimedState) → start_due windows s p.1 ≡ true
      → take_on t (start_due windows s p.1) s m.area0 m.area1 p.0 ≡ take_fresh t (slot_count m.area0) p.0
  unfolding take_on
  on_due not_started e = refl
  on_due (started s last) e = ap (λ (b : Bool). take_on t b (started s last) m.area0 m.area1 p.0) e

  pub take_afresh : clock_back m.state p.1 ≡ false → start_due windows m.state p.1 ≡ true
      → took ≡ at_minute p.1 (take_fresh t (slot_count m.area0) p.0)
  take_afresh h d = in_time h ∙ ap (at_minute p.1) (on_due m.state d)

  pub take_onward : (s : State) (last : ℕ) → m.state ≡ started s last → clock_back m.state p.1 ≡ false
      → changes windows last p.1 ≡ false
      → took ≡ at_minute p.1 (take_event t (plain s m.area0 m.area1) p.0)
  unfolding take_on start_due
  take_onward s last e h d =
      in_time h
      ∙ ap (λ (z : TimedState). at_minute p.1 (take_on t (start_due windows z p.1) z m.area0 m.area1 p.0)) e
      ∙ ap (λ (b : Bool). at_minute p.1 (take_on t b (started s last) m.area0 m.area1 p.0)) d

-- ---- the numbers

stops_same : {C : Type 0} (i j : ℕ) → ◌≡◌ {A = StepEnd C} (stops i) (stops j) → i ≡ j
stops_same i j e = cc

went_stops : {C X : Type 0} {x : StepEnd C} (c : C) (k : ℕ) → x ≡ went c → x ≡ stops k → X
went_stops c k e f = absurd (let z : ◌≡◌ {A = ℕ} 0 1 = cc in omega arith)

abbrev pub Numbered : ℕ → Type 0
Numbered k = ((11 ≤ k) × (k ≤ 13)) ⊎ (k ≡ 17)

numbered_13 : (k : ℕ) → k ≡ 13 → Numbered k
numbered_13 k e = inl (omega arith, omega arith)

event_range : (t : Table) (m : Monitor) (e k : ℕ) → take_event t m e ≡ stops k → Numbered k
event_range t m e k h =
    by (met_by t m e) refl (event_case t (slot_count m.area0) m.state.taken (held t (present_slots m)) e)
  where
    low : (n : ℕ) → Meets t (slot_count m.area0) m.state.taken (held t (present_slots m)) e n → Numbered n
    low n (unknown a) = inl (omega arith, omega arith)
    low n (full a b) = inl (omega arith, omega arith)
    low n (exceeded a b c) = inl (omega arith, omega arith)

    by : (o : Option ℕ) → met_by t m e ≡ o
        → EventCase t (slot_count m.area0) m.state.taken (held t (present_slots m)) e o → Numbered k
    by o p (meets n x) = subst Numbered (stops_same n k (sym (take_refused t m e n p) ∙ h)) (low n x)
    by o p (passes a b c) = went_stops (taking m (next_slots t m e)) k (take_passes t m e p) h

at_stops : (now : ℕ) (x : StepEnd Monitor) (k : ℕ) → at_minute now x ≡ stops k → x ≡ stops k
unfolding at_minute
at_stops now (went m) k e = went_stops (stamped now m) k refl e
at_stops now (stops j) k e = ap stops (stops_same j k e)

fresh_range : (t : Table) (n e k : ℕ) → take_fresh t n e ≡ stops k → Numbered k
fresh_range t n e k h = by (ltb n (length (slots_of (residuals_of t [])))) refl
  where
    by : (b : Bool) → ltb n (length (slots_of (residuals_of t []))) ≡ b → Numbered k
    by true c = numbered_13 k (sym (stops_same 13 k (sym (fresh_crowded t n e c) ∙ h)))
    by false c = event_range t (fresh_monitor t n) e k (sym (fresh_room t n e c) ∙ h)

pub timed_range : (everyday wash : Table) (windows : List ℕ) (m : TimedMonitor) (p : ℕ × ℕ) (k : ℕ)
    → take_timed everyday wash windows m p ≡ stops k → Numbered k
unfolding start_due
timed_range everyday wash windows m p k h = by (clock_back m.state p.1) refl m.state refl
  where
    d : Table
    d = drawing_at everyday wash windows p.1

    onward : clock_back m.state p.1 ≡ false → (s : State) (last : ℕ) → m.state ≡ started s last → (b : Bool)
        → changes windows last p.1 ≡ b → Numbered k
    onward c s last e true x =
        fresh_range d (slot_count m.area0) p.0 k (at_stops p.1 _ k
        (sym (take_afresh everyday wash windows m p c (ap (λ (z : TimedState). start_due windows z p.1) e ∙ x)) ∙ h))
    onward c s last e false x =
        event_range d (plain s m.area0 m.area1) p.0 k (at_stops p.1 _ k
        (sym (take_onward everyday wash windows m p s last e c x) ∙ h))

    by : (b : Bool) → clock_back m.state p.1 ≡ b → (s : TimedState) → m.state ≡ s → Numbered k
    by true c s e = inr (sym (stops_same 17 k (sym (take_back everyday wash windows m p c) ∙ h)))
    by false c not_started e =
        fresh_range d (slot_count m.area0) p.0 k (at_stops p.1 _ k
        (sym (take_afresh everyday wash windows m p c (ap (λ (z : TimedState). start_due windows z p.1) e)) ∙ h))
    by false c (started s last) e = onward c s last e (changes windows last p.1) refl
