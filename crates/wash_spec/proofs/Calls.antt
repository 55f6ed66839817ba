-- A call on the monitor that a joined list calls for leaves the one that the longer list calls for; it is not refused
-- with 2 to 10 or 16. So over a list of calls.
--     goes                                      with right lengths the call goes through its events
--     along_joined, history_joined, call_joins  over the calls; what one call joins
-- Assumes nothing.
use Prim.Native.Nat.{ℕ, ◌≤◌}
use native.Mathlib.Omega.{arith}
use mathlib.Core.Path.{◌≡◌, refl, ap, sym, subst, ◌∙◌}
use mathlib.Core.Bool.{Bool, true, false, ◌&&◌}
use mathlib.Core.List.{List, [], ◌∷◌, ◌++◌, map}
use mathlib.Core.Option.{Option, none, some}
use lib.ListN.{length, take}
use lib.Seq.{take_at}
use lib.Dec.{T, eqb}
use borrow.Author.Tests.{eq-eqb, eqb-true}
use Rattle.numbers.specs.Choice.{T_true, true_T}
use Rattle.table.specs.Table.{Table}
use Rattle.table.specs.Judge.{accepted, judge_list}
use Rattle.monitor_spec.specs.Regular.{Regular}
use Rattle.monitor_spec.proofs.Valid.Laws.{and_split}
use Rattle.monitor_spec.specs.State.{work_measured}
use Rattle.monitor_spec.proofs.State.Areas.{both_true}
use Rattle.monitor_spec.specs.Fold.{Ended, through, took, extend_by, extend_all}
use Rattle.monitor_spec.proofs.Fold.Laws as fold
use Rattle.monitor_spec.proofs.Fold.Joined.{Follows, extended}
use Rattle.monitor_spec.proofs.Refusals.Laws.{accepts, clash}
use Rattle.timetable_spec.specs.Timetable.{good_timetable}
use Rattle.wash_spec.specs.Timed.{TimedMonitor, TimedAnswer, given, stopped, TimedOutcome}
use Rattle.wash_spec.specs.Taking.{take_timed}
use Rattle.wash_spec.proofs.Taking.Laws.{timed_range}
use Rattle.wash_spec.specs.Entering.{timed_measured}
use Rattle.wash_spec.proofs.Entering.Laws.{timed_1, timed_open}
use Rattle.wash_spec.specs.Feed.{timed_pairs, timed_ending, timed_refusing, timed_of}
use Rattle.wash_spec.proofs.Feed.Laws.{timed_shut, timed_admits, none_given, some_stopped}
use Rattle.wash_spec.specs.Joined.{TimedCall, looked_at, timed_halts}
use Rattle.wash_spec.proofs.Joined.Laws.{looked, unlooked}
use Rattle.wash_spec.specs.History.{timed_standing, timed_call_on, timed_history, Paired, TimedEventful, TimedAlong}
use Rattle.wash_spec.specs.History.{TimedJoins}
use Rattle.wash_spec.specs.Expected.{timed_after}
use Rattle.wash_spec.proofs.Expected.Steps.{TimedFed, follows}
use Rattle.wash_spec.proofs.Standing.{areas_right, agrees_after}

-- ---- what the next call gets

afterwards : TimedMonitor → TimedOutcome → TimedMonitor
afterwards m o = record { state = timed_standing m.state o.answer; area0 = o.area0; area1 = o.area1 }

after_ending : (m : TimedMonitor) (k : ℕ) (x : Ended TimedMonitor) → afterwards m (timed_ending k x) ≡ x.at
unfolding afterwards timed_ending timed_standing
after_ending m k x = by x.why
  where
    by : (o : Option ℕ) → record {
      state = timed_standing m.state
          (elim o as (λ z. TimedAnswer)
          [ none ↦ given x.at.state | some j ↦ stopped j x.taken x.at.state ]);
      area0 = x.at.area0;
      area1 = x.at.area1;
    } ≡ x.at
    by none = refl
    by (some j) = refl

after_refusing : (m : TimedMonitor) (n p : ℕ) (w : List ℕ) → afterwards m (timed_refusing m n p w) ≡ m
unfolding afterwards timed_refusing timed_standing
after_refusing m n p w = refl

-- ---- lent lengths

paired : (c : TimedCall) → (work_measured c.work && eqb (length c.events) (length c.minutes)) ≡ true → Paired c
paired c e =
    let (a, b) = and_split (work_measured c.work) (eqb (length c.events) (length c.minutes)) e in
    record {
      work = true_T (work_measured c.work) a;
      minutes = eqb-true (length c.events) (length c.minutes) b;
    }

unpaired : (c : TimedCall) → (work_measured c.work && eqb (length c.events) (length c.minutes)) ≡ false
    → Paired c → ⊥
unpaired c e x =
    clash (both_true (T_true (work_measured c.work) x.work)
    (eq-eqb (length c.events) (length c.minutes) x.minutes)) e

module _ (l k windows ns os : List ℕ) (t u : Table) (says : judge_list l ≡ accepted ns t)
    (tells : judge_list k ≡ accepted os u) (good : T (good_timetable windows)) (n : ℕ) (low : 1 ≤ n) (top : n ≤ 256) where
  abbrev pub regular_t : Regular t
  regular_t = accepts l ns t says

  abbrev pub regular_u : Regular u
  regular_u = accepts k os u tells

  abbrev pub M : List (ℕ × ℕ) → TimedMonitor
  M s = timed_after t u windows n s

  abbrev pub Ok : List (ℕ × ℕ) → Type 0
  Ok s = TimedFed t u regular_t regular_u windows good n s

  abbrev pub halts : List (ℕ × ℕ) → ℕ × ℕ → Bool
  halts = timed_halts t u windows n

  pub F : Follows (take_timed t u windows) halts M Ok
  F = follows t u regular_t regular_u windows good n

  -- ---- one call

  module _ (s : List (ℕ × ℕ)) (f : Ok s) (es ms w : List ℕ) where
    abbrev lent : Bool
    lent = work_measured w && eqb (length es) (length ms)

    fits : timed_measured (M s) es ms w ≡ lent
    unfolding timed_measured
    fits =
        ap (λ (b : Bool). (b && work_measured w) && eqb (length es) (length ms))
        (areas_right l k windows ns os t u says tells good n low top s f)

    refuses : lent ≡ false → timed_of l k windows (M s) es ms w ≡ timed_refusing (M s) 1 0 w
    refuses e =
        timed_shut l k windows (M s) es ms w 1 0 w
        (timed_1 l k windows (M s) (timed_measured (M s) es ms w) w (fits ∙ e))

    pub goes : lent ≡ true → timed_of l k windows (M s) es ms w
        ≡ timed_ending (length w) (through (take_timed t u windows) (M s) 0 (timed_pairs es ms))
    goes e =
        timed_admits l k windows (M s) es ms w t u
        (timed_open l k windows (M s) (timed_measured (M s) es ms w) w ns t (fits ∙ e) says os u tells
        (T_true (good_timetable windows) good) (agrees_after l k windows ns os t u says tells good n low top s f))

  abbrev pub along : List (ℕ × ℕ) → TimedCall → List (ℕ × ℕ)
  along s c = extend_by halts s (looked_at c)

  call_join : (s : List (ℕ × ℕ)) (c : TimedCall) → Ok s → timed_call_on l k windows (M s) c ≡ M (along s c)
  unfolding timed_call_on afterwards looked_at extend_by
  call_join s c f = by (lent s f c.events c.minutes c.work) refl
    where
      by : (b : Bool) → lent s f c.events c.minutes c.work ≡ b
          → timed_call_on l k windows (M s) c ≡ M (along s c)
      by true e =
          ap (afterwards (M s)) (goes s f c.events c.minutes c.work e)
          ∙ after_ending (M s) (length c.work)
          (through (take_timed t u windows) (M s) 0 (timed_pairs c.events c.minutes))
          ∙ (extended (take_timed t u windows) halts M Ok F (timed_pairs c.events c.minutes) s f).ends 0
          ∙ ap (λ (ps : List (ℕ × ℕ)). M (extend_by halts s ps)) (sym (looked c e))
      by false e =
          ap (afterwards (M s)) (refuses s f c.events c.minutes c.work e)
          ∙ after_refusing (M s) 1 0 c.work
          ∙ ap (λ (ps : List (ℕ × ℕ)). M (extend_by halts s ps)) (sym (unlooked c e))

  call_keeps : (s : List (ℕ × ℕ)) (c : TimedCall) → Ok s → Ok (along s c)
  call_keeps s c f =
      (extended (take_timed t u windows) halts M Ok F (looked_at c) s f).keeps

  -- ---- no call is refused with 2 to 10 or 16

  eventful_ending : (s : List (ℕ × ℕ)) (c : TimedCall) → Paired c
      → TimedEventful c (timed_ending (length c.work)
      (through (take_timed t u windows) (M s) 0 (timed_pairs c.events c.minutes))).answer
  eventful_ending s c g = by x.why refl
    where
      x : Ended TimedMonitor
      x = through (take_timed t u windows) (M s) 0 (timed_pairs c.events c.minutes)

      by : (o : Option ℕ) → x.why ≡ o → TimedEventful c (timed_ending (length c.work) x).answer
      by none e = rw (none_given (length c.work) x e) g
      by (some j) e =
          let i = fold.some_stopped (take_timed t u windows) (timed_pairs c.events c.minutes) (M s) 0 j e in
          rw (some_stopped (length c.work) x j e) (g, timed_range t u windows x.at i.event j i.refusal)

  eventful : (s : List (ℕ × ℕ)) (c : TimedCall) → Ok s
      → TimedEventful c (timed_of l k windows (M s) c.events c.minutes c.work).answer
  unfolding timed_refusing
  eventful s c f = by (lent s f c.events c.minutes c.work) refl
    where
      by : (b : Bool) → lent s f c.events c.minutes c.work ≡ b
          → TimedEventful c (timed_of l k windows (M s) c.events c.minutes c.work).answer
      by true e = rw (goes s f c.events c.minutes c.work e) (eventful_ending s c (paired c e))
      by false e = rw (refuses s f c.events c.minutes c.work e) (unpaired c e, refl, refl)

  pub along_joined : (cs : List TimedCall) (s : List (ℕ × ℕ)) → Ok s → TimedAlong l k windows (M s) cs
  along_joined [] s f = tt
  along_joined (c ∷ cs) s f = (
    eventful s c f,
    subst (λ (m : TimedMonitor). TimedAlong l k windows m cs) (sym (call_join s c f))
        (along_joined cs (along s c) (call_keeps s c f)),
  )

  pub history_joined : (cs : List TimedCall) (s : List (ℕ × ℕ)) → Ok s
      → timed_history l k windows (M s) cs ≡ M (extend_all halts s (map looked_at cs))
  unfolding timed_history extend_all
  history_joined [] s f = refl
  history_joined (c ∷ cs) s f =
      ap (λ (m : TimedMonitor). timed_history l k windows m cs) (call_join s c f)
      ∙ history_joined cs (along s c) (call_keeps s c f)

  -- ---- what a call joins

  whole : (s : List (ℕ × ℕ)) (c : TimedCall) (f : Ok s) → lent s f c.events c.minutes c.work ≡ true
      → along s c ≡ s ++ took (take_timed t u windows) (M s) (timed_pairs c.events c.minutes)
  whole s c f e =
      ap (extend_by halts s) (looked c e)
      ∙ (extended (take_timed t u windows) halts M Ok F (timed_pairs c.events c.minutes) s f).takes

  pub call_joins : (s : List (ℕ × ℕ)) (c : TimedCall) → Ok s
      → TimedJoins s (along s c) c (timed_of l k windows (M s) c.events c.minutes c.work).answer
  unfolding timed_refusing extend_by
  call_joins s c f = by (lent s f c.events c.minutes c.work) refl
    where
      ps : List (ℕ × ℕ)
      ps = timed_pairs c.events c.minutes

      x : Ended TimedMonitor
      x = through (take_timed t u windows) (M s) 0 ps

      ending : along s c ≡ s ++ took (take_timed t u windows) (M s) ps → (o : Option ℕ) → x.why ≡ o
          → TimedJoins s (along s c) c (timed_ending (length c.work) x).answer
      ending w none e =
          rw (none_given (length c.work) x e)
          (w ∙ ap (s ++◌) (fold.none_took (take_timed t u windows) (M s) 0 ps e))
      ending w (some j) e =
          let i = fold.some_stopped (take_timed t u windows) ps (M s) 0 j e in
          let d : List (ℕ × ℕ) = took (take_timed t u windows) (M s) ps in
          let p : length d ≡ x.taken = omega (arith, i.place) in
          rw (some_stopped (length c.work) x j e)
          (w ∙ ap (s ++◌) (sym (ap (take x.taken) i.split
          ∙ take_at d (i.event ∷ i.rest) x.taken p)))

      by : (b : Bool) → lent s f c.events c.minutes c.work ≡ b
          → TimedJoins s (along s c) c (timed_of l k windows (M s) c.events c.minutes c.work).answer
      by true e = rw (goes s f c.events c.minutes c.work e) (ending (whole s c f e) x.why refl)
      by false e =
          rw (refuses s f c.events c.minutes c.work e) (ap (extend_by halts s) (unlooked c e))
