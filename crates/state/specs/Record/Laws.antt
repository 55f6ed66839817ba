-- Residuals held and the record after an event, case by case; lent lengths are those of the lists. Assumes nothing.
use Rattle.std.specs.Prelude.{ℕ, max, ◌≡◌, refl, List, length}
use Rattle.std.proofs.Common.{arith, ap, sym, ◌∙◌, eq-eqb, ne_eqb}
use Rattle.monitor_spec.specs.State.{Verdict, running, failed_at, State, next_verdict, counted, holding, fresh_state}
use Rattle.monitor_spec.specs.State.{state_after, lengths_fit, areas_measured}
use Rattle.monitor_spec.proofs.State.Records.{state_path, next_some, next_none, next_failed}
use Rattle.monitor_spec.specs.Feed.{counter_most}
use Rattle.state.specs.declared.record.Verdict.{Verdict as VerdictCode}
use Rattle.state.specs.declared.record.Verdict.TheVariants.{Running, Failed}
use Rattle.state.specs.declared.record.State.{State as StateCode}
use Rattle.state.specs.Record.{verdict_of, state_of, succeeding}

-- ---- residuals are held

-- with none it fails
abbrev failed : StateCode → ℕ → StateCode
failed s p = record { taken = s.taken; count = 0; peak = s.peak; verdict = Failed p }

pub none_running : (s : StateCode) → s.verdict ≡ Running → state_of (failed s s.taken) ≡ holding (state_of s) 0
unfolding holding
none_running s e =
    state_path (state_of (failed s s.taken)) (holding (state_of s) 0) refl refl (omega arith)
    (sym (ap (λ (v : VerdictCode). next_verdict (verdict_of v) s.taken 0) e ∙ next_none s.taken))

pub none_failed : (s : StateCode) (p : ℕ) → s.verdict ≡ Failed p → state_of (failed s p) ≡ holding (state_of s) 0
unfolding holding
none_failed s p e =
    state_path (state_of (failed s p)) (holding (state_of s) 0) refl refl (omega arith)
    (sym (ap (λ (v : VerdictCode). next_verdict (verdict_of v) s.taken 0) e ∙ next_failed p s.taken 0))

pub none_held : (s r : State) (n : ℕ) → n ≡ 0 → r ≡ holding s 0 → r ≡ holding s n
none_held s r n z e = e ∙ ap (holding s) (sym z)

next_stays : (v : Verdict) (k n : ℕ) → (n ≡ 0 → ⊥) → v ≡ next_verdict v k n
next_stays running k n z = sym (next_some k n (omega arith))
next_stays (failed_at p) k n z = sym (next_failed p k n)

abbrev held : StateCode → ℕ → ℕ → StateCode
held s n p = record { taken = s.taken; count = n; peak = p; verdict = s.verdict }

pub some_held : (s : StateCode) (n p : ℕ) → (n ≡ 0 → ⊥) → p ≡ max s.peak n
    → state_of (held s n p) ≡ holding (state_of s) n
unfolding holding
some_held s n p z h =
    state_path (state_of (held s n p)) (holding (state_of s) n) refl refl h
    (next_stays (verdict_of s.verdict) s.taken n z)

-- ---- the record after an event

pub succeeding_full : (s : State) (n : ℕ) → s.taken ≡ counter_most → s ≡ succeeding s n
unfolding succeeding
succeeding_full s n h = rw (eq-eqb s.taken counter_most h, succeeding)

pub succeeding_counts : (s : State) (n : ℕ) → (s.taken ≡ counter_most → ⊥) → succeeding s n ≡ state_after s n
unfolding succeeding
succeeding_counts s n h = rw (ne_eqb s.taken counter_most h, succeeding)

pub fresh_held : (r : State) (n : ℕ) → r ≡ holding (record { taken = 0; count = 0; peak = 0; verdict = running }) n
    → r ≡ fresh_state n
unfolding fresh_state
fresh_held r n e = e

pub after_held : (s u r : State) (n : ℕ) → (s.taken ≡ counter_most → ⊥) → u ≡ counted s → r ≡ holding u n
    → r ≡ succeeding s n
unfolding state_after
after_held s u r n h c e = e ∙ ap (λ (x : State). holding x n) c ∙ sym (succeeding_counts s n h)

-- ---- lengths

pub lengths_measured : (a b : List ℕ) → lengths_fit (length a) (length b) ≡ areas_measured a b
unfolding areas_measured
lengths_measured a b = refl
