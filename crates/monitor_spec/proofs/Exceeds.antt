-- Capacity exceeded while settling, exactly, on an accepted table: one of the refusals of `Opens.antt`. Assumes
-- nothing.
use Prim.Native.Nat.{ℕ, ◌<◌}
use native.Mathlib.Omega.{arith}
use mathlib.Core.Path.{◌≡◌, refl, subst}
use mathlib.Core.List.{List, []}
use mathlib.Core.Logic.{◌↔◌}
use lib.Dec.{T}
use Rattle.table.specs.Table.{Table}
use Rattle.table.specs.Judge.{accepted, judge_list}
use Rattle.monitor_spec.proofs.Valid.Laws.{and_split}
use Rattle.monitor_spec.specs.State.{refused, areas_measured, work_measured, slot_count}
use Rattle.monitor_spec.proofs.State.Areas.{both_true}
use Rattle.monitor_spec.specs.Open.{open_of}
use Rattle.monitor_spec.proofs.Open.Laws.{accepted_same}
use Rattle.monitor_spec.specs.Joined.{residual_count}
use Rattle.monitor_spec.specs.Refusals.{OpenRefused, wrong_length, bad_table, exceeded}
use Rattle.numbers.specs.Choice.{T_true, true_T}
use Rattle.monitor_spec.proofs.Refusals.Laws.{measured_in, measured_out, is_table_in, is_table_out}
use Rattle.monitor_spec.proofs.Opens.{refused_low, open_refused}

module _ (l ns : List ℕ) (t : Table) (says : judge_list l ≡ accepted ns t) (a b es w : List ℕ) (p : ℕ) where
  abbrev Excess : Type 0
  Excess = T (areas_measured a b) × T (work_measured w) × (slot_count a < residual_count t []) × (p ≡ 0)

  exceeds_to : OpenRefused l a b w 13 p → Excess
  exceeds_to (wrong_length x i j) = absurd (omega arith)
  exceeds_to (bad_table x r) = absurd (let k = refused_low l 13 p r in omega arith)
  exceeds_to (exceeded x s i h j k) =
      let (u, v) = and_split (areas_measured a b) (work_measured w) (measured_in a b w x) in
      let e : s ≡ t = accepted_same l l ns s t (is_table_in l s i) says in (
        true_T (areas_measured a b) u,
        true_T (work_measured w) v,
        subst (λ (z : Table). slot_count a < residual_count z []) e h,
        k,
      )

  exceeds_from : Excess → OpenRefused l a b w 13 p
  exceeds_from (u, v, h, k) =
      let x = measured_out a b w (both_true (T_true (areas_measured a b) u) (T_true (work_measured w) v)) in
      exceeded x t (is_table_out l ns t says) h refl k

  pub open_exceeds_exactly : ((open_of l a b es w).answer ≡ refused 13 p) ↔ Excess
  open_exceeds_exactly =
      let e = open_refused l a b es w 13 p in
      (λ h. exceeds_to (e.0 h), λ h. e.1 (exceeds_from h))
