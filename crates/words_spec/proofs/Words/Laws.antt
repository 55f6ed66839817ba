-- Records and their words, case by case. Assumes nothing.
use Rattle.std.specs.Prelude.{ℕ, ◌≡◌, refl, List, [], ◌∷◌, ◌++◌, get_or}
use Rattle.std.proofs.Common.{eq-eqb, ne_eqb}
use Rattle.state.specs.declared.record.Verdict.{Verdict as VerdictCode}
use Rattle.state.specs.declared.record.Verdict.TheVariants.{Running, Failed}
use Rattle.state.specs.declared.record.State.{State as StateCode}
use Rattle.state.specs.Record.{verdict_of, state_of}
use Rattle.monitor_spec.specs.State.{Verdict, running, failed_at, State}
use Rattle.words_spec.specs.Words.{verdict_in, state_in, failure_words, words_of}

-- ---- the equations of verdict_in

pub verdict_running : (w p : ℕ) → w ≡ 0 → running ≡ verdict_in w p
unfolding verdict_in
verdict_running w p h = rw (eq-eqb w 0 h, verdict_in) refl

pub verdict_failed : (w p : ℕ) → (w ≡ 0 → ⊥) → failed_at p ≡ verdict_in w p
unfolding verdict_in
verdict_failed w p h = rw (ne_eqb w 0 h, verdict_in) refl

-- ---- a record's words are read back as the record

back : (v : Verdict) (l : List ℕ) → verdict_in (get_or (failure_words v ++ l) 0 0) (get_or (failure_words v ++ l) 1 0) ≡ v
unfolding verdict_in failure_words
back running l = refl
back (failed_at p) l = refl

behind : (v : Verdict) (p : ℕ) → get_or (failure_words v ++ p ∷ []) 2 0 ≡ p
unfolding failure_words
behind running p = refl
behind (failed_at q) p = refl

pub read_back : (s : State) → state_in (words_of s) ≡ s
unfolding state_in words_of
read_back s = λ i. record {
  taken = s.taken;
  count = s.count;
  peak = behind s.verdict s.peak i;
  verdict = back s.verdict (s.peak ∷ []) i;
}

-- ---- what `store` writes

pub words_running : (s : StateCode) (r : List ℕ) → s.verdict ≡ Running → r ≡ s.taken ∷ s.count ∷ 0 ∷ 0 ∷ s.peak ∷ []
    → r ≡ words_of (state_of s)
unfolding words_of failure_words
words_running s r e h = rw e h

pub words_failed : (s : StateCode) (p : ℕ) (r : List ℕ) → s.verdict ≡ Failed p
    → r ≡ s.taken ∷ s.count ∷ 1 ∷ p ∷ s.peak ∷ [] → r ≡ words_of (state_of s)
unfolding words_of failure_words
words_failed s p r e h = rw e h

-- ---- what `load` reads

pub loaded : (v : VerdictCode) (r : List ℕ) → verdict_of v ≡ verdict_in (get_or r 2 0) (get_or r 3 0)
    → state_of (record { taken = get_or r 0 0; count = get_or r 1 0; peak = get_or r 4 0; verdict = v }) ≡ state_in r
unfolding state_in
loaded v r e = λ i. record { taken = get_or r 0 0; count = get_or r 1 0; peak = get_or r 4 0; verdict = e i }
