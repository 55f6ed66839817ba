-- What an Open's list comes to: 11, 12 or 13 at an event, or every event is taken; and which Opens gave a record.
--     open_stops, open_gives      by conditions, on every input
--     open_begins                 the Opens that gave a record
-- Assumes nothing.
use Prim.Native.Nat.{ℕ, ◌≤◌}
use mathlib.Core.Path.{◌≡◌, refl, ap, sym, subst, ◌∙◌}
use mathlib.Core.Bool.{true}
use mathlib.Core.List.{List, []}
use mathlib.Core.Logic.{◌↔◌, ◌⊎◌, inl, inr}
use lib.ListN.{length}
use Rattle.table.specs.Table.{Table}
use Rattle.table.specs.Judge.{accepted, judge_list}
use Rattle.residuals.specs.Residual.{run, from_definition, residuals_of}
use Rattle.residuals.specs.Slots.{slots_of}
use Rattle.monitor_spec.specs.Regular.{Regular}
use Rattle.monitor_spec.proofs.Valid.Laws.{some_same, none_some}
use Rattle.monitor_spec.specs.State.{State, fresh_state, holding, Monitor, Answer, given, refused, stopped}
use Rattle.monitor_spec.specs.State.{Outcome, slot_count, even, choose, laid}
use Rattle.monitor_spec.specs.Fold.{through}
use Rattle.monitor_spec.specs.Feed.{take_event, ending_of}
use Rattle.monitor_spec.specs.Open.{fresh_monitor, open_of}
use Rattle.monitor_spec.proofs.Open.Laws.{open_runs}
use Rattle.monitor_spec.specs.Joined.{Call, residual_count}
use Rattle.monitor_spec.specs.Expected.{record_of, monitor_onward, monitor_after}
use Rattle.monitor_spec.proofs.Expected.Records.{record_first}
use Rattle.monitor_spec.proofs.Expected.Steps.{fed_sensible}
use Rattle.monitor_spec.specs.Sensible.{Sensible}
use Rattle.monitor_spec.specs.History.{record_in, Opened, Leaves}
use Rattle.monitor_spec.proofs.History.Begun.{fresh_fed}
use Rattle.monitor_spec.specs.Progress.{LeavesAt, OpenStops, OpenGives}
use Rattle.monitor_spec.proofs.Forms.{refused_given, refused_stopped}
use Rattle.monitor_spec.proofs.Refusals.Laws.{lent, measured_out, measured_in, is_table_in, is_table_out, accepts}
use Rattle.monitor_spec.proofs.Onward.{passed_leaves, halted_leaves, run_stops, run_gives}
use Rattle.monitor_spec.proofs.Opens.{opens}

-- ---- the settled monitor

-- its record
abbrev pub first_state : Table → State
first_state t = fresh_state (length (slots_of (residuals_of t [])))

fresh_is_laid : (t : Table) (n : ℕ) → fresh_monitor t n ≡ laid n (first_state t) (slots_of (residuals_of t []))
unfolding fresh_monitor laid fresh_state holding even choose
fresh_is_laid t n = refl

first_sensible : (t : Table) → Regular t → (n : ℕ) → residual_count t [] ≤ n
    → Sensible t n (first_state t) (residuals_of t [])
first_sensible t regular n h =
    subst (λ (s : State). Sensible t n s (residuals_of t [])) (record_first t)
    (fed_sensible t regular n [] (fresh_fed t n h))

onward_after : (t : Table) (n : ℕ) (us : List ℕ)
    → monitor_onward t n (first_state t) (residuals_of t []) us ≡ monitor_after t n us
unfolding monitor_onward monitor_after record_of residuals_of from_definition run
onward_after t n us = refl

-- ---- the list

module _ (l a b es w : List ℕ) where
  abbrev out : Outcome
  out = open_of l a b es w

  abbrev n : ℕ
  n = slot_count a

  out_runs : lent a b w ≡ true → (ns : List ℕ) (t : Table) → judge_list l ≡ accepted ns t → residual_count t [] ≤ n
      → out ≡ ending_of (length w) (through (take_event t) (laid n (first_state t) (slots_of (residuals_of t []))) 0 es)
  out_runs x ns t d h =
      open_runs l a b es w x ns t d h
      ∙ ap (λ (z : Monitor). ending_of (length w) (through (take_event t) z 0 es)) (fresh_is_laid t n)

  stops_to : (k p : ℕ) (left : Monitor) → LeavesAt out k p left → OpenStops l a b es w k p left
  unfolding fresh_state holding
  stops_to k p left o =
      opens l a b es w (λ i j e. refused_stopped i j k p left.state e o.record_same)
      (λ x ns t d h. let (y, e) =
      run_stops t (accepts l ns t d) n (first_state t) (residuals_of t [])
      (first_sensible t (accepts l ns t d) n h) es (length w) out (out_runs x ns t d h) k p left o in
      record {
        measured = measured_out a b w x;
        table = t;
        is_table = is_table_out l ns t d;
        room = h;
        halts = y;
        leaves = e ∙ onward_after t n y.before;
      })

  stops_from : (k p : ℕ) (left : Monitor) → OpenStops l a b es w k p left → LeavesAt out k p left
  unfolding fresh_state holding
  stops_from k p left s =
      let t : Table = s.table in
      let d = is_table_in l t s.is_table in
      subst (LeavesAt out k p) (onward_after t n s.halts.before ∙ sym s.leaves)
      (halted_leaves t (accepts l l t d) n (first_state t) (residuals_of t [])
      (first_sensible t (accepts l l t d) n s.room) es (length w) out
      (out_runs (measured_in a b w s.measured) l t d s.room) k p s.halts)

  pub open_stops : (k p : ℕ) (left : Monitor) → LeavesAt out k p left ↔ OpenStops l a b es w k p left
  open_stops k p left = (stops_to k p left, stops_from k p left)

  gives_to : (left : Monitor) → Leaves out left → OpenGives l a b es w left
  unfolding fresh_state holding
  gives_to left o =
      opens l a b es w (λ i j e. refused_given i j left.state e o.record_same)
      (λ x ns t d h. let (y, e) =
      run_gives t (accepts l ns t d) n (first_state t) (residuals_of t [])
      (first_sensible t (accepts l ns t d) n h) es (length w) out (out_runs x ns t d h) left o in
      record {
        measured = measured_out a b w x;
        table = t;
        is_table = is_table_out l ns t d;
        room = h;
        passes = y;
        leaves = e ∙ onward_after t n es;
      })

  gives_from : (left : Monitor) → OpenGives l a b es w left → Leaves out left
  unfolding fresh_state holding
  gives_from left s =
      let t : Table = s.table in
      let d = is_table_in l t s.is_table in
      subst (Leaves out) (onward_after t n es ∙ sym s.leaves)
      (passed_leaves t (accepts l l t d) n (first_state t) (residuals_of t [])
      (first_sensible t (accepts l l t d) n s.room) es (length w) out
      (out_runs (measured_in a b w s.measured) l t d s.room) s.passes)

  pub open_gives : (left : Monitor) → Leaves out left ↔ OpenGives l a b es w left
  open_gives left = (gives_to left, gives_from left)

-- ---- the Opens that gave a record

module _ (l a b : List ℕ) (c : Call) (m : Monitor) where
  abbrev opened : Outcome
  opened = open_of l a b c.events c.work

  begins_to : Opened l a b c m
      → OpenGives l a b c.events c.work m ⊎ ((k : ℕ) × (p : ℕ) × OpenStops l a b c.events c.work k p m)
  unfolding record_in
  begins_to o = by opened.answer refl
    where
      by : (x : Answer) → opened.answer ≡ x
          → OpenGives l a b c.events c.work m ⊎ ((k : ℕ) × (p : ℕ) × OpenStops l a b c.events c.work k p m)
      by (given r) e =
          let s : r ≡ m.state = some_same r m.state (sym (ap record_in e) ∙ o.gave) in
          inl ((open_gives l a b c.events c.work m).0
          (record { record_same = e ∙ ap given s; area0_same = o.gave0; area1_same = o.gave1 }))
      by (refused k p) e = none_some m.state (sym (ap record_in e) ∙ o.gave)
      by (stopped k p r) e =
          let s : r ≡ m.state = some_same r m.state (sym (ap record_in e) ∙ o.gave) in
          inr (
            k,
            p,
            (open_stops l a b c.events c.work k p m).0
                (record { record_same = e ∙ ap (stopped k p) s; area0_same = o.gave0; area1_same = o.gave1 }),
          )

  begins_from : OpenGives l a b c.events c.work m
      ⊎ ((k : ℕ) × (p : ℕ) × OpenStops l a b c.events c.work k p m)
      → Opened l a b c m
  unfolding record_in
  begins_from (inl g) =
      let x = (open_gives l a b c.events c.work m).1 g in
      record { gave = ap record_in x.record_same; gave0 = x.area0_same; gave1 = x.area1_same }
  begins_from (inr (k, p, s)) =
      let x = (open_stops l a b c.events c.work k p m).1 s in
      record { gave = ap record_in x.record_same; gave0 = x.area0_same; gave1 = x.area1_same }

  pub open_begins : Opened l a b c m
      ↔ (OpenGives l a b c.events c.work m ⊎ ((k : ℕ) × (p : ℕ) × OpenStops l a b c.events c.work k p m))
  open_begins = (begins_to, begins_from)
