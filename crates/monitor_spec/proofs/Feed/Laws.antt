-- One event, case by case; Feed, by what stands before its events.
--     EventCase, event_case                                        which refusal an event meets, if any
--     event_unknown, event_full, event_exceeded, event_passes      by the tests
--     passes_counts                                                an event that is taken can be counted
--     take_refused, take_passes                                    on a monitor
--     feed_shut, feed_admits                                       a call
-- Assumes nothing.
use Rattle.std.specs.Prelude.{ℕ, ◌≤◌, ◌<◌, ◌≡◌, refl, Bool, true, false, List, length, eqb, ltb, leb}
use Rattle.std.proofs.Common.{arith}
use Rattle.std.proofs.Math.Option.{Option, none, some}
use borrow.Author.Tests.{leb-true, leb-false, le-leb, lt-leb, ltb-true, ltb-false, lt-ltb, le-ltb, eqb-true, eqb-false}
use borrow.Author.Tests.{eq-eqb, ne_eqb}
use Rattle.table.specs.Table.{Table}
use Rattle.residuals.specs.Residual.{Residual, after_all}
use Rattle.residuals.specs.Slots.{slots_of}
use Rattle.monitor_spec.specs.Valid.{held}
use Rattle.monitor_spec.specs.Fold.{went, stops, through}
use Rattle.monitor_spec.specs.State.{Monitor, slot_count}
use Rattle.monitor_spec.specs.Entering.{shut, admits, entrance_on, refusing}
use Rattle.monitor_spec.proofs.Entering.Laws.{entering_shut, entering_admits}
use Rattle.monitor_spec.specs.Feed.{counter_most, present_slots, next_slots, taking, event_refused, take_event}
use Rattle.monitor_spec.specs.Feed.{ending_of, feed_of}
use Rattle.monitor_spec.specs.Progress.{Meets, unknown, full, exceeded}

-- ---- one event

-- with room for cap residuals, k events taken and the residuals rs held
pub data EventCase (t : Table) (cap k : ℕ) (rs : List Residual) (e : ℕ) : Option ℕ → Type 0 where
  meets : (n : ℕ) → Meets t cap k rs e n → EventCase t cap k rs e (some n)
  passes : e < t.alphabet → (k ≡ counter_most → ⊥) → length (slots_of (after_all t e rs)) ≤ cap
      → EventCase t cap k rs e none

module _ (t : Table) (cap k : ℕ) (rs : List Residual) (e : ℕ) where
  abbrev tested : Option ℕ
  tested = event_refused t cap k rs e

  pub event_unknown : t.alphabet ≤ e → tested ≡ some 11
  unfolding event_refused
  event_unknown a = rw (le-leb t.alphabet e a, event_refused)

  module _ (a : e < t.alphabet) where
    pub event_full : k ≡ counter_most → tested ≡ some 12
    unfolding event_refused
    event_full b = rw (lt-leb t.alphabet e a, eq-eqb k counter_most b, event_refused)

    module _ (b : k ≡ counter_most → ⊥) where
      pub event_exceeded : cap < length (slots_of (after_all t e rs)) → tested ≡ some 13
      unfolding event_refused
      event_exceeded c =
          rw (
            lt-leb t.alphabet e a,
            ne_eqb k counter_most b,
            lt-ltb cap (length (slots_of (after_all t e rs))) c,
            event_refused,
          )

      pub event_passes : length (slots_of (after_all t e rs)) ≤ cap → tested ≡ none
      unfolding event_refused
      event_passes c =
          rw (
            lt-leb t.alphabet e a,
            ne_eqb k counter_most b,
            le-ltb cap (length (slots_of (after_all t e rs))) c,
            event_refused,
          )

  pub event_case : EventCase t cap k rs e tested
  event_case =
      by (leb t.alphabet e) refl (eqb k counter_most) refl (ltb cap (length (slots_of (after_all t e rs)))) refl
    where
      by : (x : Bool) → leb t.alphabet e ≡ x → (y : Bool) → eqb k counter_most ≡ y → (z : Bool)
          → ltb cap (length (slots_of (after_all t e rs))) ≡ z → EventCase t cap k rs e tested
      by true p y q z r =
          let a = leb-true t.alphabet e p in
          rw (event_unknown a) (meets 11 (unknown a))
      by false p true q z r =
          let a = leb-false t.alphabet e p in
          let b = eqb-true k counter_most q in
          rw (event_full a b) (meets 12 (full a b))
      by false p false q true r =
          let a = leb-false t.alphabet e p in
          let b = eqb-false k counter_most q in
          let c = ltb-true cap (length (slots_of (after_all t e rs))) r in
          rw (event_exceeded a b c) (meets 13 (exceeded a b c))
      by false p false q false r =
          let a = leb-false t.alphabet e p in
          let b = eqb-false k counter_most q in
          let c = ltb-false cap (length (slots_of (after_all t e rs))) r in
          rw (event_passes a b c) (passes a b c)

-- an event that is taken can be counted
pub passes_counts : {t : Table} {cap k : ℕ} {rs : List Residual} {e : ℕ} {o : Option ℕ} → EventCase t cap k rs e o
    → o ≡ none → k ≡ counter_most → ⊥
passes_counts (meets n x) h = absurd (let z : ◌≡◌ {A = ℕ} 0 1 = cc in omega arith)
passes_counts (passes a b c) h = b

-- ---- on a monitor

module _ (t : Table) (m : Monitor) (e : ℕ) where
  -- the refusal that an event meets there, if any
  abbrev pub met_by : Option ℕ
  met_by = event_refused t (slot_count m.area0) m.state.taken (held t (present_slots m)) e

  pub take_refused : (k : ℕ) → met_by ≡ some k → take_event t m e ≡ stops k
  unfolding take_event
  take_refused k h = rw (h, take_event)

  pub take_passes : met_by ≡ none → take_event t m e ≡ went (taking m (next_slots t m e))
  unfolding take_event
  take_passes h = rw (h, take_event)

-- ---- a call

module _ (l : List ℕ) (m : Monitor) (es w : List ℕ) where
  pub feed_shut : (n p : ℕ) (v : List ℕ) → entrance_on l m w ≡ shut n p v
      → feed_of l m es w ≡ refusing m.area0 m.area1 n p v
  unfolding feed_of
  feed_shut n p v e = entering_shut (refusing m.area0 m.area1) _ (entrance_on l m w) n p v e

  pub feed_admits : (t : Table) → entrance_on l m w ≡ admits t
      → feed_of l m es w ≡ ending_of (length w) (through (take_event t) m 0 es)
  unfolding feed_of
  feed_admits t e = entering_admits (refusing m.area0 m.area1) _ (entrance_on l m w) t e
