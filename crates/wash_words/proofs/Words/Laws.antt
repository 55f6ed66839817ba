-- Records of wash hours and their words, case by case. Assumes nothing.
use Rattle.std.specs.Prelude.{ℕ, ◌<◌, ◌≡◌, refl, List, [], ◌∷◌, ◌++◌, length, get_or, set, take, drop, replicate}
use Rattle.std.proofs.Common.{arith, ap, sym, ◌∙◌, length-set, length-drop, length-take-le, eq-eqb, ne_eqb}
use Rattle.state.specs.declared.record.State.{State as StateCode}
use Rattle.wash_state.specs.declared.answer.TimedState as code
use Rattle.wash_state.specs.declared.answer.TimedState.TheVariants.{NotStarted, Started}
use Rattle.wash_state.specs.Answers.{timed_state_of}
use Rattle.state.specs.Record.{state_of}
use Rattle.monitor_spec.specs.State.{Verdict, running, failed_at, State}
use Rattle.words_spec.specs.Words.{state_in, failure_words, words_of}
use Rattle.words_spec.proofs.Words.Laws.{read_back}
use Rattle.wash_spec.specs.Timed.{TimedState, not_started, started}
use Rattle.wash_words.specs.Words.{timed_in, timed_words}

-- ---- the equations of timed_in

pub not_started_in : (r : List ℕ) → get_or r 5 0 ≡ 0 → timed_in r ≡ not_started
unfolding timed_in
not_started_in r h = rw (eq-eqb (get_or r 5 0) 0 h, timed_in) refl

pub started_in : (r : List ℕ) → (get_or r 5 0 ≡ 0 → ⊥) → timed_in r ≡ started (state_in r) (get_or r 6 0)
unfolding timed_in
started_in r h = rw (ne_eqb (get_or r 5 0) 0 h, timed_in) refl

-- ---- the words are read back

-- the words behind a record's are not read as the record
in_front : (s : State) (l : List ℕ) → state_in (words_of s ++ l) ≡ state_in (words_of s)
unfolding state_in words_of failure_words
in_front s l = go s.verdict
  where
    go : (v : Verdict)
        → state_in ((s.taken ∷ s.count ∷ (failure_words v ++ s.peak ∷ [])) ++ l)
        ≡ state_in (s.taken ∷ s.count ∷ (failure_words v ++ s.peak ∷ []))
    go running = refl
    go (failed_at p) = refl

behind : (s : State) (a b k : ℕ) → get_or (words_of s ++ a ∷ b ∷ []) 5 k ≡ a
unfolding words_of failure_words
behind s a b k = go s.verdict
  where
    go : (v : Verdict) → get_or ((s.taken ∷ s.count ∷ (failure_words v ++ s.peak ∷ [])) ++ a ∷ b ∷ []) 5 k ≡ a
    go running = refl
    go (failed_at p) = refl

last : (s : State) (a b k : ℕ) → get_or (words_of s ++ a ∷ b ∷ []) 6 k ≡ b
unfolding words_of failure_words
last s a b k = go s.verdict
  where
    go : (v : Verdict) → get_or ((s.taken ∷ s.count ∷ (failure_words v ++ s.peak ∷ [])) ++ a ∷ b ∷ []) 6 k ≡ b
    go running = refl
    go (failed_at p) = refl

pub timed_back : (s : TimedState) → timed_in (timed_words s) ≡ s
unfolding timed_words
timed_back not_started = not_started_in (replicate 7 0) refl
timed_back (started s minute) =
    started_in (words_of s ++ 1 ∷ minute ∷ []) (λ h. omega (arith, behind s 1 minute 0))
    ∙ (λ i. started ((in_front s (1 ∷ minute ∷ []) ∙ read_back s) i) (last s 1 minute 0 i))

-- ---- what `load_timed` reads

five : (r : List ℕ) → length r ≡ 7 → state_in (take 5 (drop 0 r)) ≡ state_in r
unfolding state_in
five [] h = absurd (omega arith)
five (_ ∷ []) h = absurd (omega arith)
five (_ ∷ _ ∷ []) h = absurd (omega arith)
five (_ ∷ _ ∷ _ ∷ []) h = absurd (omega arith)
five (_ ∷ _ ∷ _ ∷ _ ∷ []) h = absurd (omega arith)
five (_ ∷ _ ∷ _ ∷ _ ∷ _ ∷ r) h = refl

pub loaded_none : (r : List ℕ) → get_or r 5 0 ≡ 0 → not_started ≡ timed_in r
loaded_none r h = sym (not_started_in r h)

pub loaded : (s : StateCode) (r : List ℕ) → length r ≡ 7 → (get_or r 5 0 ≡ 0 → ⊥)
    → state_of s ≡ state_in (take 5 (drop 0 r)) → started (state_of s) (get_or r 6 0) ≡ timed_in r
loaded s r n h e = ap (λ (x : State). started x (get_or r 6 0)) (e ∙ five r n) ∙ sym (started_in r h)

-- ---- what `store_timed` writes

-- the first five of seven words
pub five_taken : (r : List ℕ) → length r ≡ 7 → length (take 5 r) ≡ 5
five_taken r n = length-take-le 5 r (omega arith)

-- five words stored in front of two, and then these
pub six_kept : (r ys : List ℕ) (x : State) (k : ℕ) → length r ≡ 7 → ys ≡ words_of x
    → 6 < length (set (ys ++ drop 5 r) 5 k)
unfolding words_of failure_words
six_kept r ys x k n e = rw e (go r x.verdict n)
  where
    go : (r : List ℕ) (v : Verdict) → length r ≡ 7
        → 6 < length (set ((x.taken ∷ x.count ∷ (failure_words v ++ x.peak ∷ [])) ++ drop 5 r) 5 k)
    go r running h = omega (arith, length-drop 5 r, length-set (drop 5 r) 0 k)
    go r (failed_at p) h = omega (arith, length-drop 5 r, length-set (drop 5 r) 0 k)

pub stored_at : (r ys : List ℕ) (x : State) (k m : ℕ) → length r ≡ 7 → ys ≡ words_of x
    → set (set (ys ++ drop 5 r) 5 k) 6 m ≡ words_of x ++ k ∷ m ∷ []
unfolding words_of failure_words
stored_at r ys x k m n e = rw e (go r x.verdict n)
  where
    words : Verdict → List ℕ
    words v = x.taken ∷ x.count ∷ (failure_words v ++ x.peak ∷ [])

    two : (l : List ℕ) (v : Verdict) → length l ≡ 2 → set (set (words v ++ l) 5 k) 6 m ≡ words v ++ k ∷ m ∷ []
    two [] v h = absurd (omega arith)
    two (_ ∷ []) v h = absurd (omega arith)
    two (_ ∷ _ ∷ []) running h = refl
    two (_ ∷ _ ∷ []) (failed_at p) h = refl
    two (_ ∷ _ ∷ _ ∷ l) v h = absurd (omega arith)

    go : (r : List ℕ) (v : Verdict) → length r ≡ 7 → set (set (words v ++ drop 5 r) 5 k) 6 m ≡ words v ++ k ∷ m ∷ []
    go r v h = two (drop 5 r) v (omega (arith, length-drop 5 r))

pub words_none : (x : code.TimedState) (s : StateCode) (r' : List ℕ) → x ≡ NotStarted
    → words_of (state_of s) ≡ replicate 5 0 → r' ≡ words_of (state_of s) ++ 0 ∷ 0 ∷ [] → r' ≡ timed_words (timed_state_of x)
unfolding timed_words
words_none x s r' e z h = rw e (h ∙ ap (λ (l : List ℕ). l ++ 0 ∷ 0 ∷ []) z)

pub words_started : (x : code.TimedState) (s : StateCode) (minute : ℕ) (r' : List ℕ) → x ≡ Started s minute
    → r' ≡ words_of (state_of s) ++ 1 ∷ minute ∷ [] → r' ≡ timed_words (timed_state_of x)
unfolding timed_words
words_started x s minute r' e h = rw e h
