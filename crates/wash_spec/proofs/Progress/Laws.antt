-- On a consistent monitor one event is taken or refused by the conditions. A list of them is in `Lists.antt`.
--     takes_went, meets_stops, takes_laid    what an event comes to, from its condition
--     Onward, onward_one                     it comes to one of these
-- Assumes nothing.
use Rattle.std.specs.Prelude.{ℕ, ◌≤◌, ◌≡◌, Bool, true, false, length, T, ltb}
use Rattle.std.proofs.Math.Path.{refl, ap, subst}
use Rattle.std.proofs.Common.{sym, ◌∙◌, ltb-true, ltb-false, lt-ltb, le-ltb}
use mathlib.Core.List.{List, [], ◌∷◌}
use Rattle.std.proofs.Math.Option.{Option}
use Rattle.numbers.specs.Choice.{true_T}
use Rattle.table.specs.Table.{Table}
use Rattle.residuals.specs.Residual.{Residual, after_all, run, residuals_of}
use Rattle.residuals.specs.Slots.{slots_of}
use Rattle.monitor_spec.specs.Regular.{Regular}
use Rattle.monitor_spec.specs.State.{State, holding, fresh_state, state_after, Monitor, slot_count, even, choose, laid}
use Rattle.monitor_spec.specs.Fold.{StepEnd, went, stops}
use Rattle.monitor_spec.specs.Feed.{take_event, event_refused}
use Rattle.monitor_spec.proofs.Feed.Laws.{EventCase, meets, passes, event_case}
use Rattle.monitor_spec.specs.Open.{fresh_monitor}
use Rattle.monitor_spec.specs.Joined.{residual_count}
use Rattle.monitor_spec.specs.Sensible.{Sensible, Laid}
use Rattle.monitor_spec.proofs.Consistent.Laws.{next_sensible}
use Rattle.monitor_spec.specs.Expected.{record_onward, monitor_onward}
use Rattle.monitor_spec.proofs.Expected.Records.{record_first}
use Rattle.monitor_spec.proofs.Expected.Laid.{laid_count}
use Rattle.monitor_spec.proofs.Expected.Steps.{fed_sensible}
use Rattle.monitor_spec.specs.Progress.{Passes}
use Rattle.monitor_spec.proofs.Progress.Laws as single
use Rattle.timetable_spec.specs.Timetable.{good_timetable, Changes, changes}
use Rattle.timetable_spec.proofs.Timetable.Exact.{changes_out}
use Rattle.wash_spec.specs.Timed.{TimedState, not_started, started, TimedMonitor, plain, stamped}
use Rattle.wash_spec.specs.Taking.{drawing_at, clock_back, at_minute, take_timed}
use Rattle.wash_spec.proofs.Taking.Laws.{drawing_regular, drawing_same, fresh_crowded, fresh_room, take_back}
use Rattle.wash_spec.proofs.Taking.Laws.{take_afresh, take_onward}
use Rattle.monitor_spec.proofs.History.Begun.{fresh_fed}
use Rattle.wash_spec.specs.Refusals.{LaidBy, TimedLaid}
use Rattle.wash_spec.specs.Progress.{ClockBack, Due, Reaches, afresh, onward, TimedMeets, clock_back_lem}
use Rattle.wash_spec.specs.Progress.{start_exceeded, met, TimedTakes}
use Rattle.wash_spec.proofs.Progress.Tests.{back_in, back_out, in_time_in, in_time_out, in_order, due_in}
use Rattle.wash_spec.proofs.Progress.Tests.{changed_in, changed_out}

module _ (t u : Table) (regular_t : Regular t) (regular_u : Regular u) (windows : List ℕ)
    (good : T (good_timetable windows)) where
  abbrev D : ℕ → Table
  D now = drawing_at t u windows now

  regular_at : (now : ℕ) → Regular (D now)
  regular_at now = drawing_regular t u regular_t regular_u windows now

  abbrev step : TimedMonitor → ℕ × ℕ → StepEnd TimedMonitor
  step m p = take_timed t u windows m p

  module _ (m : TimedMonitor) (e now : ℕ) where
    abbrev n : ℕ
    n = slot_count m.area0

    -- ---- what the event is met on

    record MetOn (s : State) (rs : List Residual) : Type 0 where
      sensible : Sensible (D now) n s rs
      takes : step m (e, now) ≡ at_minute now (take_event (D now) (laid n s (slots_of rs)) e)

    fresh_sensible : residual_count (D now) [] ≤ n
        → Sensible (D now) n (fresh_state (residual_count (D now) [])) (residuals_of (D now) [])
    unfolding residual_count
    fresh_sensible h =
        subst (λ (s : State). Sensible (D now) n s (residuals_of (D now) [])) (record_first (D now))
        (fed_sensible (D now) (regular_at now) n [] (fresh_fed (D now) n h))

    met_afresh : (ClockBack m.state now → ⊥) → Due windows m.state now → residual_count (D now) [] ≤ n
        → MetOn (fresh_state (residual_count (D now) [])) (residuals_of (D now) [])
    unfolding residual_count fresh_monitor laid fresh_state holding even choose
    met_afresh c d h =
        record {
          sensible = fresh_sensible h;
          takes = take_afresh t u windows m (e, now) (in_time_in m.state now c)
              (due_in windows good m.state now d)
              ∙ ap (at_minute now) (fresh_room (D now) n e (le-ltb n (residual_count (D now) []) h));
        }

    met_onward : (ClockBack m.state now → ⊥) → (s : State) (last : ℕ) → m.state ≡ started s last
        → (Changes windows last now → ⊥) → (h : Laid (D now) n (plain s m.area0 m.area1))
        → MetOn s h.residuals
    met_onward c s last i d h =
        record {
          sensible = h.sensible;
          takes = take_onward t u windows m (e, now) s last i (in_time_in m.state now c)
              (changed_in windows good last now d)
              ∙ ap (λ (x : Monitor). at_minute now (take_event (D now) x e)) h.same;
        }

    met_on : (ClockBack m.state now → ⊥) → (s : State) (rs : List Residual) → Reaches (D now) windows m now s rs
        → MetOn s rs
    met_on c s rs (afresh d h i j) = rw (i, j) (met_afresh c d h)
    met_on c s rs (onward last i d h j) = rw j (met_onward c s last i d h)

    -- ---- from the conditions

    one_onward : (s : State) (rs : List Residual) → Sensible (D now) n s rs
        → Passes (D now) n s.taken rs (e ∷ [])
        → take_event (D now) (laid n s (slots_of rs)) e ≡ went (monitor_onward (D now) n s rs (e ∷ []))
    one_onward s rs ok (a, b, c, z) =
        single.pass_went (D now) (regular_at now) n s rs e ok a b c
        ∙ ap went (single.now_onward (D now) (regular_at now) n
        (state_after s (length (slots_of (after_all (D now) e rs)))) (after_all (D now) e rs)
        (next_sensible (D now) (regular_at now) n s rs e ok a c)
        ∙ single.next_onward (D now) (regular_at now) n s rs e [] ok)

    pub takes_went : (left : TimedMonitor) → TimedTakes (D now) windows m e now left → step m (e, now) ≡ went left
    unfolding at_minute
    takes_went left k =
        let s = met_on k.in_time k.state k.residuals k.reaches in
        s.takes ∙ ap (at_minute now) (one_onward k.state k.residuals s.sensible k.passes)
        ∙ ap went (sym k.leaves)

    pub meets_stops : (number : ℕ) → TimedMeets (D now) windows m e now number → step m (e, now) ≡ stops number
    unfolding at_minute residual_count
    meets_stops number (clock_back_lem c i) = rw i (take_back t u windows m (e, now) (back_in m.state now c))
    meets_stops number (start_exceeded c d h i) =
        rw i (take_afresh t u windows m (e, now) (in_time_in m.state now c) (due_in windows good m.state now d)
        ∙ ap (at_minute now) (fresh_crowded (D now) n e (lt-ltb n (residual_count (D now) []) h)))
    meets_stops number (met c s rs r x) =
        let y = met_on c s rs r in
        y.takes ∙ ap (at_minute now) (single.meets_stops (D now) (regular_at now) n s rs e number y.sensible x)

    -- what is left is consistent again
    pub takes_laid : (left : TimedMonitor) → TimedTakes (D now) windows m e now left → TimedLaid t u windows left
    unfolding monitor_onward laid
    takes_laid left k =
        let y = met_on k.in_time k.state k.residuals k.reaches in
        let ok : Sensible (D now) n (record_onward (D now) k.state k.residuals (e ∷ []))
        (run (D now) k.residuals (e ∷ [])) =
        single.passes_sensible (D now) (regular_at now) n (e ∷ []) k.state k.residuals y.sensible
        k.passes in
        subst (TimedLaid t u windows) (sym k.leaves)
        (left_laid (record_onward (D now) k.state k.residuals (e ∷ [])) (run (D now) k.residuals (e ∷ [])) ok)
      where
        left_laid : (s : State) (rs : List Residual) → Sensible (D now) n s rs
            → Laid (D now) (slot_count (laid n s (slots_of rs)).area0) (laid n s (slots_of rs))
        left_laid s rs ok =
            rw (laid_count (D now) (regular_at now) n s rs ok)
            (record { residuals = rs; sensible = ok; same = refl })

    -- ---- one of the two

    pub data Onward : Type 0 where
      goes : (left : TimedMonitor) → TimedTakes (D now) windows m e now left → Onward
      halts : (number : ℕ) → TimedMeets (D now) windows m e now number → Onward

    on_reached : (ClockBack m.state now → ⊥) → (s : State) (rs : List Residual) → Reaches (D now) windows m now s rs
        → Onward
    on_reached c s rs r =
        by (event_refused (D now) n s.taken rs e) (event_case (D now) n s.taken rs e)
      where
        by : (o : Option ℕ) → EventCase (D now) n s.taken rs e o → Onward
        by o (meets k x) = halts k (met c s rs r x)
        by o (passes x y z) =
            goes (stamped now (monitor_onward (D now) n s rs (e ∷ []))) (record {
              in_time = c;
              state = s;
              residuals = rs;
              reaches = r;
              passes = (x, y, z, tt);
              leaves = refl;
            })

    on_fresh : (ClockBack m.state now → ⊥) → Due windows m.state now → Onward
    on_fresh c d = by (ltb n (residual_count (D now) [])) refl
      where
        by : (b : Bool) → ltb n (residual_count (D now) []) ≡ b → Onward
        by true h = halts 13 (start_exceeded c d (ltb-true n (residual_count (D now) []) h) refl)
        by false h =
            on_reached c (fresh_state (residual_count (D now) [])) (residuals_of (D now) [])
            (afresh d (ltb-false n (residual_count (D now) []) h) refl refl)

    on_started : (ClockBack m.state now → ⊥) → (s : State) (last : ℕ) → m.state ≡ started s last
        → Laid (D last) n (plain s m.area0 m.area1) → changes windows last now ≡ false → Onward
    on_started c s last i h d =
        let o : last ≤ now = in_order s last now (subst (λ (z : TimedState). ClockBack z now → ⊥) i c) in
        let g : Laid (D now) n (plain s m.area0 m.area1) =
        subst (λ (z : Table). Laid z n (plain s m.area0 m.area1))
        (drawing_same t u windows last now good o d) h in
        on_reached c s g.residuals (onward last i (changed_out windows good last now d) g refl)

    in_time_one : (ClockBack m.state now → ⊥) → (x : TimedState) → m.state ≡ x
        → LaidBy t u windows x m.area0 m.area1 → Onward
    in_time_one c not_started i h = on_fresh c (subst (λ (z : TimedState). Due windows z now) (sym i) tt)
    in_time_one c (started s last) i h = by (changes windows last now) refl
      where
        by : (b : Bool) → changes windows last now ≡ b → Onward
        by true d =
            on_fresh c (subst (λ (z : TimedState). Due windows z now) (sym i)
            (changes_out windows last now good (true_T (changes windows last now) d)))
        by false d = on_started c s last i h d

    pub onward_one : TimedLaid t u windows m → Onward
    onward_one h = by (clock_back m.state now) refl
      where
        by : (b : Bool) → clock_back m.state now ≡ b → Onward
        by true c = halts 17 (clock_back_lem (back_out m.state now c) refl)
        by false c = in_time_one (in_time_out m.state now c) m.state refl h
