-- `TimedHistories`: lists begin with the monitor that the empty list calls for, so after the calls it is the one that
-- the joined list calls for, and one call on a beginning of that list leaves the one that the beginning calls for. On
-- each stretch it is the one that Open leaves on the table in force. Assumes nothing.
use Prim.Native.Nat.{ℕ, suc, ◌≤◌}
use native.Mathlib.Omega.{arith}
use mathlib.Core.Path.{◌≡◌, refl, ap, sym, subst, ◌∙◌}
use mathlib.Core.Bool.{Bool, true, false, cond}
use mathlib.Core.List.{List, [], ◌∷◌, ◌++◌, map}
use mathlib.Core.Option.{Option, none, some}
use lib.ListN.{length, take}
use lib.Dec.{T}
use borrow.Author.Tests.{eq-eqb}
use Rattle.numbers.specs.Choice.{T_true}
use Rattle.table.specs.Table.{Table}
use Rattle.table.specs.Judge.{accepted, judge_list}
use Rattle.meaning.specs.Figure1.{Term}
use Rattle.meaning.specs.Figure2.{TraceSet, Model}
use Rattle.monitor_spec.specs.State.{Outcome, work_measured, slot_count, choose}
use Rattle.monitor_spec.proofs.State.Areas.{both_true}
use Rattle.monitor_spec.specs.Fold.{StepEnd, through, extend_by, extend_all}
use Rattle.monitor_spec.proofs.Fold.Joined.{Follows, extend_snoc, all_keeps, begins_keeps, one_fold, fold_begins}
use Rattle.monitor_spec.specs.Feed.{take_event, ending_of}
use Rattle.monitor_spec.specs.Open.{open_of}
use Rattle.monitor_spec.specs.Joined.{residual_count}
use Rattle.monitor_spec.specs.Expected.{record_of, monitor_after}
use Rattle.monitor_spec.proofs.Expected.Steps.{Fed}
use Rattle.monitor_spec.specs.History.{Leaves, AfterEvents}
use Rattle.monitor_spec.proofs.History.Begun.{open_goes}
use Rattle.monitor_spec.proofs.History.Peaks.{record_greatest}
use Rattle.monitor_spec.proofs.History.After.{after_events}
use Rattle.monitor_spec.specs.Refusals.{Measured}
use Rattle.monitor_spec.proofs.Refusals.Laws.{measured_in, accepts}
use Rattle.timetable_spec.specs.Timetable.{good_timetable, in_force}
use Rattle.wash_spec.specs.Timed.{TimedMonitor, stamped, TimedOutcome}
use Rattle.wash_spec.specs.Taking.{drawing_at, take_timed}
use Rattle.wash_spec.specs.Feed.{events_of, minutes_of, timed_ending, timed_of}
use Rattle.wash_spec.proofs.Feed.Laws.{pairs_back}
use Rattle.wash_spec.specs.Joined.{TimedCall, looked_at, Stretch, grown, stretch_from, stretch, timed_halts}
use Rattle.wash_spec.specs.Joined.{timed_joined}
use Rattle.wash_spec.proofs.Joined.Laws.{stretch_snoc}
use Rattle.wash_spec.specs.History.{unstarted, timed_history, TimedLeaves, TimedAlong, TimedJoins, AfterStart}
use Rattle.wash_spec.specs.History.{TimedAfter}
use Rattle.wash_spec.specs.Expected.{after_minute, after_stretch, timed_after}
use Rattle.wash_spec.proofs.Expected.Fresh.{Runs}
use Rattle.wash_spec.proofs.Expected.Steps.{FedAt}
use Rattle.wash_spec.proofs.Standing.{says_at}
use Rattle.wash_spec.proofs.Calls as calls-of

map_snoc : (calls : List TimedCall) (c : TimedCall)
    → map looked_at (calls ++ c ∷ []) ≡ map looked_at calls ++ looked_at c ∷ []
map_snoc [] c = refl
map_snoc (d ∷ calls) c = ap (looked_at d ∷◌) (map_snoc calls c)

-- ---- Open on one table

leaves_after : (t : Table) (n k : ℕ) (es : List ℕ) {o : Outcome}
    → o ≡ ending_of k (record { at = monitor_after t n es; taken = length es; why = none })
    → Leaves o (monitor_after t n es)
unfolding ending_of
leaves_after t n k es e =
    record {
      record_same = ap (λ (z : Outcome). z.answer) e;
      area0_same = ap (λ (z : Outcome). z.area0) e;
      area1_same = ap (λ (z : Outcome). z.area1) e;
    }

opened_alone : (l ns : List ℕ) (t : Table) → judge_list l ≡ accepted ns t → (n : ℕ) (es : List ℕ) → Fed t n es
    → Runs t n es → (a b w : List ℕ) → Measured a b w → slot_count a ≡ n
    → Leaves (open_of l a b es w) (monitor_after t n es)
opened_alone l ns t says n es f r a b w m i =
    let g : residual_count t [] ≤ (record_of t es).peak = (record_greatest t es).bounds 0 in
    let p : (record_of t es).peak ≤ n = f.peak in
    let h : residual_count t [] ≤ n = omega arith in
    leaves_after t n (length w) es
    (open_goes l ns t says a b es w (measured_in a b w m) (rw i h)
    ∙ ap (λ (k : ℕ). ending_of (length w) (through (take_event t) (monitor_after t k []) 0 es)) i
    ∙ ap (ending_of (length w)) r)

module _ (l k windows ns os : List ℕ) (t u : Table) (says : judge_list l ≡ accepted ns t)
    (tells : judge_list k ≡ accepted os u) (good : T (good_timetable windows)) (n : ℕ) (low : 1 ≤ n) (top : n ≤ 256) where
  abbrev D : ℕ → Table
  D now = drawing_at t u windows now

  abbrev M : List (ℕ × ℕ) → TimedMonitor
  M s = timed_after t u windows n s

  abbrev Ok : List (ℕ × ℕ) → Type 0
  Ok s = calls-of.Ok l k windows ns os t u says tells good n low top s

  abbrev halts : List (ℕ × ℕ) → ℕ × ℕ → Bool
  halts = timed_halts t u windows n

  abbrev step : TimedMonitor → ℕ × ℕ → StepEnd TimedMonitor
  step = take_timed t u windows

  abbrev F : Follows step halts M Ok
  F = calls-of.F l k windows ns os t u says tells good n low top

  -- what is kept along a list, by its last minute
  abbrev FedNow : Option ℕ → List ℕ → Type 0
  FedNow o es = FedAt t u (accepts l ns t says) (accepts k os u tells) windows good n o es

  -- ---- what the list calls for

  first : M [] ≡ unstarted n
  unfolding timed_after after_stretch after_minute stretch stretch_from
  first = refl

  none_fed : Ok []
  unfolding stretch stretch_from
  none_fed = tt

  history_whole : (calls : List TimedCall)
      → timed_history l k windows (unstarted n) calls ≡ M (extend_all halts [] (map looked_at calls))
  history_whole calls =
      ap (λ (m : TimedMonitor). timed_history l k windows m calls) (sym first)
      ∙ calls-of.history_joined l k windows ns os t u says tells good n low top calls [] none_fed

  -- "a call joins its events before the first one refused"
  pub joins_before : (calls : List TimedCall) (c : TimedCall)
      → TimedJoins (timed_joined t u windows n calls) (timed_joined t u windows n (calls ++ c ∷ [])) c
      (timed_of l k windows (timed_history l k windows (unstarted n) calls) c.events c.minutes c.work).answer
  unfolding timed_joined
  joins_before calls c =
      let J : List (ℕ × ℕ) = extend_all halts [] (map looked_at calls) in
      let e : extend_all halts [] (map looked_at (calls ++ c ∷ [])) ≡ extend_by halts J (looked_at c) =
      ap (extend_all halts []) (map_snoc calls c) ∙ extend_snoc halts (map looked_at calls) (looked_at c) [] in
      rw (history_whole calls, e)
      (calls-of.call_joins l k windows ns os t u says tells good n low top J c
      (all_keeps step halts M Ok F (map looked_at calls) [] none_fed))

  ending_leaves : (j : ℕ) (s : List (ℕ × ℕ)) {o : TimedOutcome}
      → o ≡ timed_ending j (record { at = M s; taken = length s; why = none }) → TimedLeaves o (M s)
  unfolding timed_ending
  ending_leaves j s e =
      record {
        record_same = ap (λ (z : TimedOutcome). z.answer) e;
        area0_same = ap (λ (z : TimedOutcome). z.area0) e;
        area1_same = ap (λ (z : TimedOutcome). z.area1) e;
      }

  module _ (H K : Term → TraceSet) (model_t : Model t H) (model_u : Model u K) where
    judged_at : (now : ℕ) (es : List ℕ)
        → AfterEvents (D now) (cond (in_force windows now) K H) n es (monitor_after (D now) n es)
    unfolding drawing_at choose
    judged_at now es = by (in_force windows now)
      where
        by : (b : Bool) → AfterEvents (choose b u t) (cond b K H) n es (monitor_after (choose b u t) n es)
        by true = after_events u n es (accepts k os u tells) K model_u
        by false = after_events t n es (accepts l ns t says) H model_t

    started_at : (s before : List (ℕ × ℕ)) (e now : ℕ) → Ok s → s ≡ before ++ (e, now) ∷ []
        → AfterStart l k windows t u H K n s now (M s)
    unfolding timed_after after_stretch after_minute grown
    started_at s before e now f i =
        let x : (stretch windows s).last ≡ some now =
        ap (λ (z : List (ℕ × ℕ)). (stretch windows z).last) i ∙ ap (λ (z : Stretch). z.last)
        (stretch_snoc windows before (e, now)) in
        let m : stamped now (monitor_after (D now) n (stretch windows s).events) ≡ M s =
        ap (λ (z : Option ℕ). after_minute t u windows n z (stretch windows s).events) (sym x) in
        let g : FedNow (some now) (stretch windows s).events =
        subst (λ (o : Option ℕ). FedNow o (stretch windows s).events) x f in
        subst (AfterStart l k windows t u H K n s now) m (record {
          state = (monitor_after (D now) n (stretch windows s).events).state;
          minute = refl;
          judged = judged_at now (stretch windows s).events;
          as_opened = opened_alone (cond (in_force windows now) k l) (cond (in_force windows now) os ns) (D now)
              (says_at l k windows ns os t u says tells good n low top now) n (stretch windows s).events g.0 g.1;
        })

    -- of a list that one call takes whole
    after_whole : (s : List (ℕ × ℕ)) → Ok s → through (take_timed t u windows) (M []) 0 s
        ≡ record { at = M s; taken = length s; why = none } → TimedAfter l k windows t u H K n s (M s)
    after_whole s f whole =
        record {
          one_call = λ work w. leaves work (T_true (work_measured work) w);
          none_joined = λ e. ap M e ∙ first;
          some_joined = λ before e now i. started_at s before e now f i;
        }
      where
        lengths : (z : List (ℕ × ℕ)) → length (events_of z) ≡ length (minutes_of z)
        lengths [] = refl
        lengths (p ∷ z) = ap suc (lengths z)

        leaves : (work : List ℕ) → work_measured work ≡ true
            → TimedLeaves (timed_of l k windows (unstarted n) (events_of s) (minutes_of s) work) (M s)
        leaves work w =
            let e : timed_of l k windows (unstarted n) (events_of s) (minutes_of s) work
            ≡ timed_ending (length work) (record { at = M s; taken = length s; why = none }) =
            ap (λ (m : TimedMonitor). timed_of l k windows m (events_of s) (minutes_of s) work) (sym first)
            ∙ calls-of.goes l k windows ns os t u says tells good n low top [] none_fed (events_of s) (minutes_of s) work
            (both_true w (eq-eqb (length (events_of s)) (length (minutes_of s)) (lengths s)))
            ∙ ap (λ (z : List (ℕ × ℕ)). timed_ending (length work) (through (take_timed t u windows) (M []) 0 z))
            (pairs_back s)
            ∙ ap (timed_ending (length work)) whole in
            ending_leaves (length work) s e

    pub timed_histories : (calls : List TimedCall)
        → TimedAlong l k windows (unstarted n) calls
        × TimedAfter l k windows t u H K n (timed_joined t u windows n calls)
        (timed_history l k windows (unstarted n) calls)
        × ((i : ℕ) → (m : TimedMonitor) × TimedAfter l k windows t u H K n (take i (timed_joined t u windows n calls)) m)
    unfolding timed_joined
    timed_histories calls =
        let ess : List (List (ℕ × ℕ)) = map looked_at calls in
        let J : List (ℕ × ℕ) = extend_all halts [] ess in
        let h : M J ≡ timed_history l k windows (unstarted n) calls = sym (history_whole calls) in (
          subst (λ (m : TimedMonitor). TimedAlong l k windows m calls) first
              (calls-of.along_joined l k windows ns os t u says tells good n low top calls [] none_fed),
          subst (TimedAfter l k windows t u H K n J) h
              (after_whole J (all_keeps step halts M Ok F ess [] none_fed) (one_fold step halts M Ok F none_fed ess)),
          λ i. (
            M (take i J),
            after_whole (take i J) (begins_keeps step halts M Ok F none_fed ess i)
                (fold_begins step halts M Ok F none_fed ess i),
          ),
        )
