-- On a consistent monitor a list of events is taken whole, or up to the first that is refused, by the conditions.
--     runs_ends, stops_ends    a fold, from its conditions
--     Passed, passed           it comes to one of these
-- Assumes nothing.
use Rattle.std.specs.Prelude.{ℕ, suc, ◌+◌, ◌≡◌, refl, T}
use native.Mathlib.Omega.{arith}
use Rattle.std.proofs.Math.Path.{ap}
use Rattle.std.proofs.Common.{ap₂, sym, ◌∙◌}
use mathlib.Core.List.{List, [], ◌∷◌, ◌++◌, append-nil}
use Rattle.std.proofs.Math.Option.{Option, none, some}
use Rattle.std.proofs.Math.ListN.{length}
use Rattle.table.specs.Table.{Table}
use Rattle.monitor_spec.specs.Regular.{Regular}
use Rattle.monitor_spec.specs.Fold.{Ended, through}
use Rattle.monitor_spec.proofs.Fold.Laws.{through_went, through_stops}
use Rattle.timetable_spec.specs.Timetable.{good_timetable}
use Rattle.wash_spec.specs.Timed.{TimedMonitor}
use Rattle.wash_spec.specs.Taking.{drawing_at, take_timed}
use Rattle.wash_spec.specs.Refusals.{TimedLaid}
use Rattle.wash_spec.specs.Progress.{TimedMeets, TimedTakes, TimedRuns}
use Rattle.wash_spec.proofs.Progress.Laws as one

module _ (t u : Table) (regular_t : Regular t) (regular_u : Regular u) (windows : List ℕ)
    (good : T (good_timetable windows)) where
  abbrev D : ℕ → Table
  D now = drawing_at t u windows now

  abbrev ended : TimedMonitor → ℕ → Option ℕ → Ended TimedMonitor
  ended m j why = record { at = m; taken = j; why = why }

  pub runs_then : (ps rest : List (ℕ × ℕ)) (m left : TimedMonitor) (j : ℕ) → TimedRuns t u windows m ps left
      → through (take_timed t u windows) m j (ps ++ rest) ≡ through (take_timed t u windows) left (j + length ps) rest
  runs_then [] rest m left j r =
      let i : j ≡ j + 0 = omega arith in
      ap₂ (λ (x : TimedMonitor) (y : ℕ). through (take_timed t u windows) x y rest) (sym r) i
  runs_then (p ∷ ps) rest m left j (next, k, r) =
      let i : suc j + length ps ≡ j + suc (length ps) = omega arith in
      through_went (take_timed t u windows) m next j p (ps ++ rest)
      (one.takes_went t u regular_t regular_u windows good m p.0 p.1 next k)
      ∙ runs_then ps rest next left (suc j) r
      ∙ ap (λ (y : ℕ). through (take_timed t u windows) left y rest) i

  pub runs_ends : (ps : List (ℕ × ℕ)) (m left : TimedMonitor) → TimedRuns t u windows m ps left
      → through (take_timed t u windows) m 0 ps ≡ ended left (length ps) none
  unfolding through
  runs_ends ps m left r =
      let i : 0 + length ps ≡ length ps = omega arith in
      ap (through (take_timed t u windows) m 0) (sym (append-nil ps))
      ∙ runs_then ps [] m left 0 r
      ∙ ap (λ (j : ℕ). ended left j none) i

  pub stops_ends : (before rest : List (ℕ × ℕ)) (e now : ℕ) (m left : TimedMonitor) (number : ℕ)
      → TimedRuns t u windows m before left → TimedMeets (D now) windows left e now number
      → through (take_timed t u windows) m 0 (before ++ (e, now) ∷ rest) ≡ ended left (length before) (some number)
  stops_ends before rest e now m left number r x =
      let i : 0 + length before ≡ length before = omega arith in
      runs_then before ((e, now) ∷ rest) m left 0 r
      ∙ ap (λ (j : ℕ). through (take_timed t u windows) left j ((e, now) ∷ rest)) i
      ∙ through_stops (take_timed t u windows) left (length before) number (e, now) rest
      (one.meets_stops t u regular_t regular_u windows good left e now number x)

  -- it comes to one of these
  pub data Passed (m : TimedMonitor) (ps : List (ℕ × ℕ)) : Type 0 where
    all : (left : TimedMonitor) → TimedRuns t u windows m ps left → Passed m ps
    upto : (before rest : List (ℕ × ℕ)) (e now : ℕ) (left : TimedMonitor) (number : ℕ)
        → ps ≡ before ++ (e, now) ∷ rest → TimedRuns t u windows m before left
        → TimedMeets (D now) windows left e now number → Passed m ps

  further : (m next : TimedMonitor) (p : ℕ × ℕ) (ps : List (ℕ × ℕ))
      → TimedTakes (D p.1) windows m p.0 p.1 next → Passed next ps → Passed m (p ∷ ps)
  further m next p ps k (all left r) = all left (next, k, r)
  further m next p ps k (upto before rest e now left number i r x) =
      upto (p ∷ before) rest e now left number (ap (p ∷◌) i) (next, k, r) x

  pub passed : (ps : List (ℕ × ℕ)) (m : TimedMonitor) → TimedLaid t u windows m → Passed m ps
  passed [] m h = all m refl
  passed (p ∷ ps) m h = by (one.onward_one t u regular_t regular_u windows good m p.0 p.1 h) (passed ps)
    where
      by : one.Onward t u regular_t regular_u windows good m p.0 p.1
          → ((next : TimedMonitor) → TimedLaid t u windows next → Passed next ps)
          → Passed m (p ∷ ps)
      by (one.goes next k) ih =
          further m next p ps k (ih next (one.takes_laid t u regular_t regular_u windows good m p.0 p.1 next k))
      by (one.halts number x) ih = upto [] ps p.0 p.1 m number refl refl x
