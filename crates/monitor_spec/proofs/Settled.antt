-- Open of an empty list gives the settled monitor, and Open of a list is Feed on that.
--     open_fresh      by conditions, on every input
--     open_feeds      Open of a list
-- Assumes nothing.
use Prim.Native.Nat.{ℕ, max, ◌≤◌}
use native.Mathlib.Omega.{arith}
use mathlib.Core.Path.{◌≡◌, ap, sym, ◌∙◌}
use mathlib.Core.Bool.{true}
use mathlib.Core.List.{List, []}
use mathlib.Core.Logic.{◌↔◌}
use lib.ListN.{length}
use borrow.Author.Tests.{eqb-true}
use Rattle.table.specs.Table.{Table}
use Rattle.table.specs.Judge.{accepted, judge_list}
use Rattle.residuals.specs.Residual.{residuals_of}
use Rattle.residuals.specs.Slots.{slots_of}
use Rattle.monitor_spec.proofs.Valid.Laws.{and_split}
use Rattle.monitor_spec.specs.State.{State, fresh_state, holding, Monitor, given, Outcome, areas_measured}
use Rattle.monitor_spec.specs.State.{work_measured, slot_count, fill}
use Rattle.monitor_spec.proofs.State.Records.{state_path}
use Rattle.monitor_spec.specs.Fold.{through}
use Rattle.monitor_spec.specs.Feed.{take_event, ending_of, feed_of}
use Rattle.monitor_spec.specs.Open.{fresh_monitor, open_of}
use Rattle.monitor_spec.proofs.Open.Laws.{open_runs}
use Rattle.monitor_spec.specs.Joined.{residual_count}
use Rattle.monitor_spec.specs.Expected.{monitor_after}
use Rattle.monitor_spec.proofs.Expected.Verdicts.{verdict_by}
use Rattle.monitor_spec.specs.History.{Leaves}
use Rattle.monitor_spec.proofs.History.Laws.{feed_goes}
use Rattle.monitor_spec.proofs.History.Begun.{fresh_after, fresh_fed, slots_range}
use Rattle.monitor_spec.specs.Refusals.{Fresh}
use Rattle.monitor_spec.proofs.Forms.{given_same, refused_given}
use Rattle.monitor_spec.proofs.Refusals.Laws.{lent, measured_out, measured_in, is_table_in, is_table_out, accepts}
use Rattle.monitor_spec.proofs.Opens.{opens}
use Rattle.monitor_spec.proofs.Runs.{first_state}

module _ (l a b w : List ℕ) where
  abbrev settled : Outcome
  settled = open_of l a b [] w

  record Given (t : Table) : Type 0 where
    pub answer : settled.answer ≡ given (first_state t)
    pub first : settled.area0 ≡ fill (slot_count a) (slots_of (residuals_of t []))
    pub second : settled.area1 ≡ fill (slot_count a) []

  gave : lent a b w ≡ true → (ns : List ℕ) (t : Table) → judge_list l ≡ accepted ns t
      → residual_count t [] ≤ slot_count a → Given t
  unfolding ending_of through fresh_monitor
  gave x ns t d h =
      let e = open_runs l a b [] w x ns t d h in
      record {
        answer = ap (λ (z : Outcome). z.answer) e;
        first = ap (λ (z : Outcome). z.area0) e;
        second = ap (λ (z : Outcome). z.area1) e;
      }

  zero_max : (k : ℕ) → max 0 k ≡ k
  zero_max k = omega arith

  fresh_to : (m : Monitor) → Leaves settled m → Fresh l a b w m
  unfolding residual_count fresh_state holding
  fresh_to m o =
      opens l a b [] w (λ i j e. refused_given i j m.state e o.record_same)
      (λ x ns t d h. let g = gave x ns t d h in let s : m.state ≡ first_state t =
      given_same m.state (first_state t) (sym o.record_same ∙ g.answer) in
      record {
        measured = measured_out a b w x;
        table = t;
        is_table = is_table_out l ns t d;
        room = h;
        taken = ap (λ (z : State). z.taken) s;
        count = ap (λ (z : State). z.count) s;
        peak = ap (λ (z : State). z.peak) s ∙ zero_max _;
        first = sym o.area0_same ∙ g.first;
        second = sym o.area1_same ∙ g.second;
        verdict = ap (λ (z : State). z.verdict) s ∙ verdict_by (residuals_of t []) 0;
      })

  fresh_from : (m : Monitor) → Fresh l a b w m → Leaves settled m
  unfolding residual_count fresh_state holding
  fresh_from m s =
      let t : Table = s.table in
      let g = gave (measured_in a b w s.measured) l t (is_table_in l t s.is_table) s.room in
      let q : first_state t ≡ m.state =
      state_path (first_state t) m.state (sym s.taken) (sym s.count)
      (zero_max _ ∙ sym s.peak)
      (verdict_by (residuals_of t []) 0 ∙ sym s.verdict) in
      record {
        record_same = g.answer ∙ ap given q;
        area0_same = g.first ∙ sym s.first;
        area1_same = g.second ∙ sym s.second;
      }

  pub open_fresh : (m : Monitor) → Leaves settled m ↔ Fresh l a b w m
  open_fresh m = (fresh_to m, fresh_from m)

  -- Open of a list is Feed on what Open of the empty one gave
  pub open_feeds : (m : Monitor) → Leaves settled m → (es work : List ℕ) → work_measured work ≡ true
      → open_of l a b es w ≡ feed_of l m es work
  unfolding fresh_monitor work_measured
  open_feeds m o es work v =
      opens l a b [] w (λ i j e. refused_given i j m.state e o.record_same)
      (λ x ns t d h. let k : ℕ = slot_count a in let g = gave x ns t d h in let s : m.state ≡ first_state t =
      given_same m.state (first_state t) (sym o.record_same ∙ g.answer) in
      let p : m.area0 ≡ fill k (slots_of (residuals_of t [])) = sym o.area0_same ∙ g.first in
      let q : m.area1 ≡ fill k [] = sym o.area1_same ∙ g.second in
      let e : m ≡ fresh_monitor t k = λ i. record { state = s i; area0 = p i; area1 = q i } in
      let (y, z) = and_split (areas_measured a b) (work_measured w) x in
      let (low, high) = slots_range a b y in
      open_runs l a b es w x ns t d h
      ∙ ap (λ (u : Monitor). ending_of (length w) (through (take_event t) u 0 es)) (fresh_after t k)
      ∙ ap (λ (j : ℕ). ending_of j (through (take_event t) (monitor_after t k []) 0 es)) (same_work z)
      ∙ sym (feed_goes t (accepts l ns t d) k l ns d low high [] es work (fresh_fed t k h) v)
      ∙ ap (λ (u : Monitor). feed_of l u es work) (sym (e ∙ fresh_after t k)))
    where
      same_work : work_measured w ≡ true → length w ≡ length work
      same_work z = eqb-true (length w) 8192 z ∙ sym (eqb-true (length work) 8192 v)
