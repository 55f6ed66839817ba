-- The monitor that a joined list calls for has areas of the right lengths, and is consistent on the table in force.
--     says_at                      the number list of the table in force
--     areas_right, agrees_after    1 for the areas, and 10, are not met
-- Assumes nothing.
use Prim.Native.Nat.{ℕ, ◌*◌, ◌%◌, ◌≤◌}
use native.Mathlib.Omega.{arith}
use mathlib.Core.Path.{◌≡◌, refl}
use mathlib.Core.Bool.{Bool, true, false, cond}
use mathlib.Core.List.{List}
use mathlib.Core.Option.{Option, none, some}
use lib.ListN.{length, length-replicate}
use lib.Dec.{T}
use borrow.Author.Tests.{eq-eqb, le-leb}
use Rattle.table.specs.Table.{Table}
use Rattle.table.specs.Judge.{accepted, judge_list}
use Rattle.table.specs.Operations.{zeros}
use Rattle.monitor_spec.specs.Regular.{Regular}
use Rattle.monitor_spec.specs.State.{areas_measured, choose}
use Rattle.monitor_spec.proofs.State.Areas.{both_true, zero_zeros}
use Rattle.monitor_spec.proofs.History.Laws.{after_measured, after_consistent}
use Rattle.monitor_spec.proofs.Refusals.Laws.{accepts}
use Rattle.timetable_spec.specs.Timetable.{good_timetable, in_force}
use Rattle.wash_spec.specs.Timed.{TimedMonitor}
use Rattle.wash_spec.specs.Taking.{drawing_at}
use Rattle.wash_spec.proofs.Taking.Laws.{drawing_regular}
use Rattle.wash_spec.specs.Entering.{agrees_by, timed_consistent}
use Rattle.wash_spec.specs.Joined.{stretch}
use Rattle.wash_spec.specs.History.{unstarted}
use Rattle.wash_spec.specs.Expected.{after_minute, after_stretch, timed_after}
use Rattle.wash_spec.proofs.Expected.Steps.{FedAt, TimedFed}

module _ (l k windows ns os : List ℕ) (t u : Table) (says : judge_list l ≡ accepted ns t)
    (tells : judge_list k ≡ accepted os u) (good : T (good_timetable windows)) (n : ℕ) (low : 1 ≤ n) (top : n ≤ 256) where
  abbrev regular_t : Regular t
  regular_t = accepts l ns t says

  abbrev regular_u : Regular u
  regular_u = accepts k os u tells

  abbrev D : ℕ → Table
  D now = drawing_at t u windows now

  abbrev M : List (ℕ × ℕ) → TimedMonitor
  M s = timed_after t u windows n s

  abbrev Ok : List (ℕ × ℕ) → Type 0
  Ok s = TimedFed t u regular_t regular_u windows good n s

  -- ---- the number list of the table in force

  abbrev L : ℕ → List ℕ
  L now = cond (in_force windows now) k l

  abbrev N : ℕ → List ℕ
  N now = cond (in_force windows now) os ns

  pub says_at : (now : ℕ) → judge_list (L now) ≡ accepted (N now) (D now)
  unfolding drawing_at choose
  says_at now = by (in_force windows now)
    where
      by : (b : Bool) → judge_list (cond b k l) ≡ accepted (cond b os ns) (choose b u t)
      by true = tells
      by false = says

  -- ---- 1 and 10 are not met

  zero_areas : areas_measured (zeros (n * 16)) (zeros (n * 16)) ≡ true
  unfolding areas_measured
  zero_areas =
      let e = length-replicate {A = ℕ} (n * 16) 0 in
      let z : ℕ = length (zeros (n * 16)) in
      both_true (eq-eqb z z refl)
      (both_true (eq-eqb (z % 16) 0 (omega arith))
      (both_true (le-leb 16 z (omega arith)) (le-leb z 4096 (omega arith))))

  pub areas_right : (s : List (ℕ × ℕ)) → Ok s → areas_measured (M s).area0 (M s).area1 ≡ true
  unfolding timed_after after_stretch after_minute unstarted
  areas_right s f = by (stretch windows s).last f
    where
      es : List ℕ
      es = (stretch windows s).events

      by : (o : Option ℕ) → FedAt t u regular_t regular_u windows good n o es
          → areas_measured (after_minute t u windows n o es).area0 (after_minute t u windows n o es).area1 ≡ true
      by none g = zero_areas
      by (some last) g =
          after_measured (D last) (drawing_regular t u regular_t regular_u windows last) n (L last) (N last)
          (says_at last) low top es g.0

  pub agrees_after : (s : List (ℕ × ℕ)) → Ok s → timed_consistent t u windows (M s) ≡ true
  unfolding timed_consistent agrees_by timed_after after_stretch after_minute unstarted
  agrees_after s f = by (stretch windows s).last f
    where
      es : List ℕ
      es = (stretch windows s).events

      by : (o : Option ℕ) → FedAt t u regular_t regular_u windows good n o es
          → agrees_by t u windows (after_minute t u windows n o es).state (after_minute t u windows n o es).area0
          (after_minute t u windows n o es).area1 ≡ true
      by none g = both_true (zero_zeros (n * 16)) (zero_zeros (n * 16))
      by (some last) g =
          after_consistent (D last) (drawing_regular t u regular_t regular_u windows last) n (L last) (N last)
          (says_at last) low top es g.0
