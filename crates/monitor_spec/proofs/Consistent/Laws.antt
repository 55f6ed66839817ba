-- From a consistent monitor, whatever the events, Feed leaves a consistent one (00, demand 1). Assumes nothing.
use Rattle.std.specs.Prelude.{ℕ, suc, ◌≤◌, ◌<◌, Bool, length, eqb, ltb, leb}
use Rattle.std.proofs.Common.{arith, ap, sym, ◌∙◌, ltb-false, leb-false}
use Rattle.std.proofs.Math.Path.{◌≡◌, refl, subst}
use Rattle.std.proofs.Math.Bool.{true, false}
use mathlib.Core.List.{List, [], ◌∷◌, flat_map}
use Rattle.table.specs.Table.{Table}
use Rattle.monitor_spec.specs.Regular.{Regular}
use Rattle.residuals.specs.Residual.{Residual, after_all}
use Rattle.slots.specs.Canon.{same}
use Rattle.residuals.specs.Slots.{slots_of}
use Rattle.monitor_spec.proofs.Proper.Laws.{after_all_proper}
use Rattle.monitor_spec.specs.Fold.{StepEnd, went, stops, Ended, through}
use Rattle.monitor_spec.proofs.Fold.Laws.{through_went, through_stops}
use Rattle.monitor_spec.specs.State.{Verdict, running, failed_at, State, next_verdict, state_after, Monitor}
use Rattle.monitor_spec.specs.State.{counted, holding}
use Rattle.monitor_spec.specs.State.{areas_measured, slot_count, laid}
use Rattle.monitor_spec.proofs.State.Records.{next_some, next_none, next_failed}
use Rattle.monitor_spec.specs.Consistent.{consistent}
use Rattle.monitor_spec.specs.Feed.{take_event}
use Rattle.monitor_spec.proofs.Expected.Verdicts.{none_length, some_length}
use Rattle.monitor_spec.proofs.Expected.Peaks.{max_least}
use Rattle.monitor_spec.specs.Sensible.{Agrees, Sensible, Laid}
use Rattle.monitor_spec.proofs.Expected.Laid.{laid_consistent}
use Rattle.monitor_spec.proofs.Expected.Steps.{sift, laid_sift}
use Rattle.monitor_spec.proofs.Consistent.Reading.{consistent_laid}

module _ (t : Table) (regular : Regular t) where
  -- ---- an event keeps it so
  next_agrees : (v : Verdict) (k : ℕ) (rs next : List Residual) → (rs ≡ [] → next ≡ []) → Agrees k rs v
      → Agrees (suc k) next (next_verdict v (suc k) (length (slots_of next)))
  next_agrees running k rs [] f h =
      rw (none_length [] refl, next_none (suc k)) (refl, omega arith)
  next_agrees running k rs (q ∷ qs) f h =
      rw (next_some (suc k) (length (slots_of (q ∷ qs))) (some_length (q ∷ qs) tt)) tt
  next_agrees (failed_at p) k rs next f (e, l) =
      rw (next_failed p (suc k) (length (slots_of next))) (f e, omega arith)

  none_after : (e : ℕ) (rs : List Residual) → rs ≡ [] → after_all t e rs ≡ []
  unfolding after_all flat_map
  none_after e rs h = rw h

  pub next_sensible : (n : ℕ) (s : State) (rs : List Residual) (e : ℕ) → Sensible t n s rs → e < t.alphabet
      → length (slots_of (after_all t e rs)) ≤ n
      → Sensible t n (state_after s (length (slots_of (after_all t e rs)))) (after_all t e rs)
  unfolding state_after counted holding
  next_sensible n s rs e ok known room =
      record {
        proper = after_all_proper t regular e known rs ok.proper;
        room = room;
        counted = refl;
        agrees = next_agrees s.verdict s.taken rs (after_all t e rs) (none_after e rs) ok.agrees;
        peak_low = omega arith;
        peak_high = max_least s.peak (length (slots_of (after_all t e rs))) n ok.peak_high room;
      }

  pub sift_out : (a b c : Bool) (x y : Monitor) → sift a b c x ≡ went y → (a ≡ false) × (c ≡ false) × (x ≡ y)
  unfolding sift
  sift_out true b c x y e = absurd (let z : ◌≡◌ {A = ℕ} 0 1 = cc in omega arith)
  sift_out false true c x y e = absurd (let z : ◌≡◌ {A = ℕ} 0 1 = cc in omega arith)
  sift_out false false true x y e = absurd (let z : ◌≡◌ {A = ℕ} 0 1 = cc in omega arith)
  sift_out false false false x y e = (refl, refl, inside x y e)
    where
      inside : (u v : Monitor) → went u ≡ went v → u ≡ v
      inside u v p = cc

  laid_out : (n : ℕ) (s : State) (rs : List Residual) → Sensible t n s rs → Laid t n (laid n s (slots_of rs))
  unfolding laid
  laid_out n s rs ok = record { residuals = rs; sensible = ok; same = refl }

  pub take_laid : (n : ℕ) (m m' : Monitor) (e : ℕ) → Laid t n m → take_event t m e ≡ went m' → Laid t n m'
  take_laid n m m' e l h =
      let rs : List Residual = l.residuals in
      let next : List (List ℕ) = slots_of (after_all t e rs) in
      let (a, c, x) = sift_out (leb t.alphabet e) (eqb m.state.taken 18446744073709551615)
      (ltb n (length next)) (laid n (state_after m.state (length next)) next) m'
      (sym (laid_sift t regular n m.state rs l.sensible e)
      ∙ ap (λ (z : Monitor). take_event t z e) (sym l.same) ∙ h) in
      subst (Laid t n) x (laid_out n (state_after m.state (length next)) (after_all t e rs)
      (next_sensible n m.state rs e l.sensible (leb-false t.alphabet e a) (ltb-false n (length next) c)))

  pub through_laid : (n : ℕ) (es : List ℕ) (m : Monitor) (k : ℕ) → Laid t n m
      → Laid t n (through (take_event t) m k es).at
  unfolding through
  through_laid n [] m k l = l
  through_laid n (e ∷ es) m k l = by (take_event t m e) refl (λ d. through_laid n es d (suc k))
    where
      by : (x : StepEnd Monitor) → take_event t m e ≡ x
          → ((d : Monitor) → Laid t n d → Laid t n (through (take_event t) d (suc k) es).at)
          → Laid t n (through (take_event t) m k (e ∷ es)).at
      by (went d) h ih = subst (Laid t n)
          (sym (ap (λ (x : Ended Monitor). x.at) (through_went (take_event t) m d k e es h)))
          (ih d (take_laid n m d e l h))
      by (stops j) h ih = subst (Laid t n)
          (sym (ap (λ (x : Ended Monitor). x.at) (through_stops (take_event t) m k j e es h))) l

  pub laid_still : (n : ℕ) (m : Monitor) → Laid t n m → consistent t m ≡ true
  laid_still n m l = ap (consistent t) l.same
      ∙ laid_consistent t regular n m.state l.residuals l.sensible

  -- From any consistent monitor, whatever the events, Feed leaves a consistent one.
  pub feed_keeps : (m : Monitor) → areas_measured m.area0 m.area1 ≡ true → consistent t m ≡ true → (es : List ℕ)
      → consistent t (through (take_event t) m 0 es).at ≡ true
  feed_keeps m a h es =
      let n : ℕ = slot_count m.area0 in
      laid_still n (through (take_event t) m 0 es).at (through_laid n es m 0 (consistent_laid t regular m a h))
