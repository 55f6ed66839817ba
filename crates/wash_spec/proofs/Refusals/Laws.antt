-- The conditions of 1, 16 and 10, and the tests that the definitions make of them. Assumes nothing.
--     timed_in, timed_out, untimed_in, untimed_out    lent lengths
--     laid_in, laid_out                               the monitor
use Rattle.std.specs.Prelude.{ℕ, ◌≡◌, refl, Bool, true, false, List, length, eqb}
use Rattle.std.proofs.Common.{ap, ◌∙◌}
use borrow.Author.Tests.{eqb-true, eq-eqb}
use Rattle.table.specs.Table.{Table}
use Rattle.table.specs.Operations.{zeros}
use Rattle.monitor_spec.specs.Regular.{Regular}
use Rattle.monitor_spec.proofs.Valid.Laws.{and_split}
use Rattle.monitor_spec.specs.State.{areas_measured, slot_count}
use Rattle.monitor_spec.proofs.State.Areas.{both_true, zero_zeros}
use Rattle.monitor_spec.specs.Consistent.{all_zero}
use Rattle.monitor_spec.proofs.Consistent.Reading.{zero_split, consistent_laid}
use Rattle.monitor_spec.proofs.Consistent.Laws.{laid_still}
use Rattle.monitor_spec.proofs.Refusals.Laws.{lent, measured_in, measured_out, clash}
use Rattle.wash_spec.specs.Timed.{TimedState, not_started, started, TimedMonitor, plain}
use Rattle.wash_spec.specs.Taking.{drawing_at}
use Rattle.wash_spec.proofs.Taking.Laws.{drawing_regular}
use Rattle.wash_spec.specs.Entering.{timed_measured, agrees_by, timed_consistent}
use Rattle.wash_spec.specs.Refusals.{TimedMeasured, LaidBy, TimedLaid}

-- ---- lent lengths

module _ (m : TimedMonitor) (es ms w : List ℕ) where
  pub timed_out : timed_measured m es ms w ≡ true → TimedMeasured m es ms w
  unfolding timed_measured
  timed_out e =
      let (a, b) = and_split (lent m.area0 m.area1 w) (eqb (length es) (length ms)) e in
      record { lent = measured_out m.area0 m.area1 w a; paired = eqb-true (length es) (length ms) b }

  pub timed_in : TimedMeasured m es ms w → timed_measured m es ms w ≡ true
  unfolding timed_measured
  timed_in x =
      both_true (measured_in m.area0 m.area1 w x.lent) (eq-eqb (length es) (length ms) x.paired)

  pub untimed_in : (TimedMeasured m es ms w → ⊥) → timed_measured m es ms w ≡ false
  untimed_in h = by (timed_measured m es ms w) refl
    where
      by : (b : Bool) → timed_measured m es ms w ≡ b → timed_measured m es ms w ≡ false
      by true e = absurd (h (timed_out e))
      by false e = e

  pub untimed_out : timed_measured m es ms w ≡ false → TimedMeasured m es ms w → ⊥
  untimed_out e x = clash (timed_in x) e

-- ---- the monitor

zero_back : (a : List ℕ) → a ≡ zeros (length a) → all_zero a ≡ true
zero_back a e = ap all_zero e ∙ zero_zeros (length a)

module _ (t u : Table) (regular_t : Regular t) (regular_u : Regular u) (windows : List ℕ) where
  by_out : (s : TimedState) (a b : List ℕ) → areas_measured a b ≡ true → agrees_by t u windows s a b ≡ true
      → LaidBy t u windows s a b
  unfolding agrees_by
  by_out not_started a b x e =
      let (p, q) = and_split (all_zero a) (all_zero b) e in
      (zero_split a p, zero_split b q)
  by_out (started s last) a b x e =
      consistent_laid (drawing_at t u windows last) (drawing_regular t u regular_t regular_u windows last) (plain s a b)
      x e

  by_in : (s : TimedState) (a b : List ℕ) → LaidBy t u windows s a b → agrees_by t u windows s a b ≡ true
  unfolding agrees_by
  by_in not_started a b (p, q) = both_true (zero_back a p) (zero_back b q)
  by_in (started s last) a b h =
      laid_still (drawing_at t u windows last) (drawing_regular t u regular_t regular_u windows last) (slot_count a)
      (plain s a b) h

  pub laid_out : (m : TimedMonitor) → areas_measured m.area0 m.area1 ≡ true → timed_consistent t u windows m ≡ true
      → TimedLaid t u windows m
  unfolding timed_consistent
  laid_out m x e = by_out m.state m.area0 m.area1 x e

  pub laid_in : (m : TimedMonitor) → TimedLaid t u windows m → timed_consistent t u windows m ≡ true
  unfolding timed_consistent
  laid_in m h = by_in m.state m.area0 m.area1 h
