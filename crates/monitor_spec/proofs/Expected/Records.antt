-- The record that events call for: it is `state_after` over the counts of the beginnings.
--     onward_now, onward_then              no event; one event first
--     record_taken, record_count, record_peak, record_verdict   the record of a list, by its fields
--     record_first, record_next            of the empty list: `fresh_state`; with one event more: `state_after`
-- Assumes nothing.
use Prim.Native.Nat.{ℕ, suc, max, ◌+◌, ◌≤◌}
use native.Mathlib.Omega.{arith}
use Rattle.std.specs.Prelude.{◌≡◌}
use Rattle.std.proofs.Math.Path.{refl, ap, ap₂, sym}
use Rattle.std.proofs.Common.{◌∙◌, length-append}
use mathlib.Core.List.{List, [], ◌∷◌, ◌++◌}
use Rattle.std.proofs.Math.ListN.{length}
use Rattle.table.specs.Table.{Table}
use Rattle.residuals.specs.Residual.{Residual, after_all, run, from_definition, residuals_of}
use Rattle.residuals.specs.Slots.{slots_of}
use Rattle.monitor_spec.specs.State.{Verdict, running, failed_at, State, next_verdict, fresh_state, state_after}
use Rattle.monitor_spec.specs.State.{counted, holding}
use Rattle.monitor_spec.proofs.State.Records.{state_path, next_failed}
use Rattle.monitor_spec.specs.Sensible.{Agrees}
use Rattle.monitor_spec.specs.Expected.{if_none, verdict_from, verdict_after, verdict_onward, peak_onward}
use Rattle.monitor_spec.specs.Expected.{record_onward, record_of}
use Rattle.monitor_spec.proofs.Expected.Verdicts.{verdict_by, verdict_after_snoc}
use Rattle.monitor_spec.proofs.Expected.Peaks.{max_least, peak_snoc, peak_last}

pub length_snoc : (s : List ℕ) (e : ℕ) → length (s ++ e ∷ []) ≡ suc (length s)
length_snoc s e = omega (arith, length-append s (e ∷ []))

-- ---- the verdict, from any residuals

onward_none : (t : Table) (v : Verdict) (rs : List Residual) (k : ℕ) → Agrees k rs v → verdict_onward t v rs k [] ≡ v
unfolding verdict_onward verdict_from if_none
onward_none t running [] k h = absurd h
onward_none t running (r ∷ rs) k h = refl
onward_none t (failed_at p) rs k h = refl

-- the verdict of the residuals themselves is taken into account
from_next : (t : Table) (next : List Residual) (k : ℕ) (es : List ℕ)
    → verdict_from t next k es ≡ verdict_onward t (next_verdict running k (length (slots_of next))) next k es
unfolding verdict_onward verdict_from if_none
from_next t [] k [] = sym (ap (λ (v : Verdict). verdict_onward t v [] k []) (verdict_by [] k))
from_next t [] k (e ∷ es) = sym (ap (λ (v : Verdict). verdict_onward t v [] k (e ∷ es)) (verdict_by [] k))
from_next t (q ∷ qs) k es = sym (ap (λ (v : Verdict). verdict_onward t v (q ∷ qs) k es) (verdict_by (q ∷ qs) k))

onward_next : (t : Table) (v : Verdict) (rs : List Residual) (k e : ℕ) (es : List ℕ) → Agrees k rs v
    → verdict_onward t (next_verdict v (suc k) (length (slots_of (after_all t e rs)))) (after_all t e rs) (suc k) es
    ≡ verdict_onward t v rs k (e ∷ es)
unfolding verdict_onward verdict_from if_none
onward_next t running [] k e es h = absurd h
onward_next t running (r ∷ rs) k e es h = sym (from_next t (after_all t e (r ∷ rs)) (suc k) es)
onward_next t (failed_at p) rs k e es h = rw (next_failed p (suc k) (length (slots_of (after_all t e rs))))

-- ---- the record, from any record that agrees with the residuals

module _ (t : Table) (s : State) (rs : List Residual) (agrees : Agrees s.taken rs s.verdict) where
  pub onward_now : s.count ≡ length (slots_of rs) → record_onward t s rs [] ≡ s
  unfolding record_onward peak_onward run
  onward_now c =
      state_path (record_onward t s rs []) s (omega arith) (sym c) refl
      (onward_none t s.verdict rs s.taken agrees)

  pub onward_then : (e : ℕ) (es : List ℕ)
      → record_onward t (state_after s (length (slots_of (after_all t e rs)))) (after_all t e rs) es
      ≡ record_onward t s rs (e ∷ es)
  unfolding record_onward peak_onward state_after counted holding run
  onward_then e es =
      state_path (record_onward t (state_after s (length (slots_of (after_all t e rs)))) (after_all t e rs) es)
      (record_onward t s rs (e ∷ es)) (omega arith) refl refl
      (onward_next t s.verdict rs s.taken e es agrees)

-- ---- from the settled monitor

module _ (t : Table) where
  pub record_taken : (s : List ℕ) → (record_of t s).taken ≡ length s
  unfolding record_of record_onward fresh_state holding
  record_taken s = omega arith

  pub record_count : (s : List ℕ) → (record_of t s).count ≡ length (slots_of (residuals_of t s))
  unfolding record_of record_onward residuals_of from_definition run
  record_count s = refl

  pub record_peak : (s : List ℕ) → (record_of t s).peak
      ≡ peak_onward t (length (slots_of (residuals_of t []))) (residuals_of t []) s
  unfolding record_of record_onward fresh_state holding
  record_peak s = ap (λ (p : ℕ). peak_onward t p (residuals_of t []) s) (omega arith)

  pub record_verdict : (s : List ℕ) → (record_of t s).verdict ≡ verdict_after t s
  unfolding record_of record_onward fresh_state holding verdict_after residuals_of from_definition run
  record_verdict s = sym (from_next t (residuals_of t []) 0 s)

  pub record_first : record_of t [] ≡ fresh_state (length (slots_of (residuals_of t [])))
  unfolding record_of record_onward peak_onward fresh_state holding verdict_after verdict_from residuals_of from_definition run
  record_first =
      state_path (record_of t []) (fresh_state (length (slots_of (residuals_of t [])))) (record_taken []) (record_count [])
      refl (record_verdict [] ∙ sym (verdict_by (residuals_of t []) 0))

  pub record_low : (s : List ℕ) → (record_of t s).count ≤ (record_of t s).peak
  unfolding residuals_of from_definition run
  record_low s =
      rw (record_count s, record_peak s)
      (peak_last t s (length (slots_of (residuals_of t []))) (residuals_of t []) (omega arith))

  pub record_next : (s : List ℕ) (e : ℕ) → record_of t (s ++ e ∷ [])
      ≡ state_after (record_of t s) (length (slots_of (residuals_of t (s ++ e ∷ []))))
  unfolding state_after counted holding residuals_of from_definition run
  record_next s e =
      let u : List ℕ = s ++ e ∷ [] in
      let n : ℕ = length (slots_of (residuals_of t u)) in
      let p₀ : ℕ = length (slots_of (residuals_of t [])) in
      state_path (record_of t u) (state_after (record_of t s) n)
      (record_taken u ∙ length_snoc s e ∙ ap suc (sym (record_taken s)))
      (record_count u)
      (record_peak u ∙ peak_snoc t s e p₀ (residuals_of t [])
      ∙ ap (λ (p : ℕ). max p n) (sym (record_peak s)))
      (record_verdict u ∙ verdict_after_snoc t s e
      ∙ ap₂ (λ (v : Verdict) (k : ℕ). next_verdict v (suc k) n) (sym (record_verdict s)) (sym (record_taken s)))

  pub peak_next : (s : List ℕ) (e n : ℕ) → (record_of t s).peak ≤ n → length (slots_of (residuals_of t (s ++ e ∷ []))) ≤ n
      → (record_of t (s ++ e ∷ [])).peak ≤ n
  unfolding state_after counted holding
  peak_next s e n h k = rw (record_next s e) (max_least (record_of t s).peak _ n h k)

  pub first_peak : (n : ℕ) → length (slots_of (residuals_of t [])) ≤ n → (record_of t []).peak ≤ n
  unfolding fresh_state holding
  first_peak n h = rw record_first (max_least 0 (length (slots_of (residuals_of t []))) n (omega arith) h)
