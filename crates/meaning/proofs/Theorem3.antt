-- Theorem 3, Proposition 4 and Lemma 5 (000, 4) of `Holds`, with named definitions.
--     guarded_more, guarded_sub     a larger bound; [e/x]P has the calls of P
--     doomed_empty                  a doomed term holds no trace
--     silent_sound, visible_sound, visible_complete    what a step does to the traces
--     term_decided                  a term is doomed or holds the empty trace, where the bodies that it calls are or do
--     doomed_or_holds               a well formed term is doomed or holds the empty trace
--     step_formed, chain_formed     steps keep a term well formed
--     theorem3, lemma5              the theorem; the lemma
-- Not here: every model (`Models.antt`), silent steps and doom (`Doom.antt`). Assumes nothing.
use Rattle.std.specs.Prelude.{ℕ, zero, suc, ◌<◌, ◌≤◌, List, [], ◌∷◌, ◌++◌, ◌↔◌, ◌⊎◌}
use Rattle.std.proofs.Common.{arith, inl, inr, ⊎_elim}
use Rattle.table.specs.Table.{Table}
use Rattle.meaning.specs.Figure1.{SetRef, Term, stop, fail, prefix, choice, par, call, body, sub}
use Rattle.meaning.specs.Figure1.{Guarded, GuardedTable, WellFormed, body_count}
use Rattle.meaning.specs.Figure3.{Action, event, τ, Doomed, d_fail, d_choice, d_left, d_right, d_call, Viable}
use Rattle.meaning.specs.Figure3.{Step, prefix_step, choice_τ_left, choice_τ_right, choice_left, choice_right}
use Rattle.meaning.specs.Figure3.{par_left, par_right, par_both, doomed_left, doomed_right, choice_fail}
use Rattle.meaning.specs.Figure3.{fail_left, fail_right, call_step, Chain, chain_none, chain_event, chain_τ}
use Rattle.meaning.specs.Holds.{m_none, m_both, m_left, m_right}
use Rattle.meaning.specs.Holds.{Holds, h_stop, h_wait, h_prefix, h_left, h_right, h_par, h_call}

-- ---- Guarded

pub guarded_more : (n d d' : ℕ) → d ≤ d' → (P : Term) → Guarded n d P → Guarded n d' P
guarded_more n d d' h stop g = tt
guarded_more n d d' h fail g = tt
guarded_more n d d' h (prefix S P) g = g
guarded_more n d d' h (choice P Q) g = (guarded_more n d d' h P g.0, guarded_more n d d' h Q g.1)
guarded_more n d d' h (par S P Q) g = (guarded_more n d d' h P g.0, guarded_more n d d' h Q g.1)
guarded_more n d d' h (call c) g = omega arith

pub guarded_sub : (n d k e : ℕ) (P : Term) → Guarded n d P → Guarded n d (sub k e P)
unfolding sub
guarded_sub n d k e stop g = tt
guarded_sub n d k e fail g = tt
guarded_sub n d k e (prefix S P) g = guarded_sub n n _ e P g
guarded_sub n d k e (choice P Q) g = (guarded_sub n d k e P g.0, guarded_sub n d k e Q g.1)
guarded_sub n d k e (par S P Q) g = (guarded_sub n d k e P g.0, guarded_sub n d k e Q g.1)
guarded_sub n d k e (call c) g = g

module _ (t : Table) where
  -- ---- Doomed and Step

  -- 000, Proposition 4, from left to right
  pub doomed_empty : {P : Term} → Doomed t P → {s : List ℕ} → Holds t P s → ⊥
  doomed_empty d_fail h = elim h [ ]
  doomed_empty (d_choice p q) (h_left h) = doomed_empty p h
  doomed_empty (d_choice p q) (h_right h) = doomed_empty q h
  doomed_empty (d_left p) (h_par m h k) = doomed_empty p h
  doomed_empty (d_right q) (h_par m h k) = doomed_empty q k
  doomed_empty (d_call p) (h_call h) = doomed_empty p h

  -- a silent step adds no trace
  pub silent_sound : {P P' : Term} → Step t P τ P' → {s : List ℕ} → Holds t P' s → Holds t P s
  silent_sound (choice_τ_left p) (h_left h) = h_left (silent_sound p h)
  silent_sound (choice_τ_left p) (h_right h) = h_right h
  silent_sound (choice_τ_right p) (h_left h) = h_left h
  silent_sound (choice_τ_right p) (h_right h) = h_right (silent_sound p h)
  silent_sound (par_left p o v) (h_par m h k) = h_par m (silent_sound p h) k
  silent_sound (par_right p o v) (h_par m h k) = h_par m h (silent_sound p k)
  silent_sound (doomed_left a b p) (h_par m h k) = h_par m (silent_sound p h) k
  silent_sound (doomed_right a b p) (h_par m h k) = h_par m h (silent_sound p k)
  silent_sound choice_fail h = elim h [ ]
  silent_sound fail_left h = elim h [ ]
  silent_sound fail_right h = elim h [ ]
  silent_sound (call_step p) h = h_call (silent_sound p h)

  -- a visible step adds none but those that begin with its event
  pub visible_sound : {P P' : Term} {e : ℕ} → Step t P (event e) P' → {s : List ℕ} → Holds t P' s → Holds t P (e ∷ s)
  visible_sound (prefix_step i) h = h_prefix i h
  visible_sound (choice_left p) h = h_left (visible_sound p h)
  visible_sound (choice_right p) h = h_right (visible_sound p h)
  visible_sound (par_left p o v) (h_par m h k) = h_par (m_left o m) (visible_sound p h) k
  visible_sound (par_right p o v) (h_par m h k) = h_par (m_right o m) h (visible_sound p k)
  visible_sound (par_both v w p q i) (h_par m h k) = h_par (m_both i m) (visible_sound p h) (visible_sound q k)
  visible_sound (call_step p) h = h_call (visible_sound p h)

  -- each trace that begins with e goes on after a visible step
  pub visible_complete : {P : Term} {e : ℕ} {s : List ℕ}
      → Holds t P (e ∷ s) → (Q : Term) × Step t P (event e) Q × Holds t Q s
  visible_complete (h_prefix i h) = (_, prefix_step i, h)
  visible_complete (h_left h) = let (Q, p, k) = visible_complete h in (Q, choice_left p, k)
  visible_complete (h_right h) = let (Q, p, k) = visible_complete h in (Q, choice_right p, k)
  visible_complete (h_call h) = let (Q, p, k) = visible_complete h in (Q, call_step p, k)
  visible_complete (h_par (m_both i m) h k) =
      let (P', p, h') = visible_complete h in
      let (Q', q, k') = visible_complete k in
      (_, par_both (λ d. doomed_empty d h) (λ d. doomed_empty d k) p q i, h_par m h' k')
  visible_complete (h_par (m_left o m) h k) =
      let (P', p, h') = visible_complete h in
      (_, par_left p o (λ d. absurd (doomed_empty d k)), h_par m h' k)
  visible_complete (h_par (m_right o m) h k) =
      let (Q', q, k') = visible_complete k in
      (_, par_right q o (λ d. absurd (doomed_empty d h)), h_par m h k')

  -- ---- 000, Proposition 4, from right to left

  abbrev Decided : Term → Type 0
  Decided P = Doomed t P ⊎ Holds t P []

  choice_decided : {P Q : Term} → Decided P → Decided Q → Decided (choice P Q)
  choice_decided (inl p) (inl q) = inl (d_choice p q)
  choice_decided (inl p) (inr k) = inr (h_right k)
  choice_decided (inr h) o = inr (h_left h)

  par_decided : {S : SetRef} {P Q : Term} → Decided P → Decided Q → Decided (par S P Q)
  par_decided (inl p) o = inl (d_left p)
  par_decided (inr h) (inl q) = inl (d_right q)
  par_decided (inr h) (inr k) = inr (h_par m_none h k)

  -- of a term, from the same of the definitions that it calls with no prefix around
  pub term_decided : (n d : ℕ) → ((c : ℕ) → c < d → Decided (body t c)) → (P : Term) → Guarded n d P → Decided P
  term_decided n d below stop g = inr h_stop
  term_decided n d below fail g = inl d_fail
  term_decided n d below (prefix S P) g = inr h_wait
  term_decided n d below (choice P Q) g =
      choice_decided (term_decided n d below P g.0) (term_decided n d below Q g.1)
  term_decided n d below (par S P Q) g =
      par_decided (term_decided n d below P g.0) (term_decided n d below Q g.1)
  term_decided n d below (call c) g = ⊎_elim (λ p. inl (d_call p)) (λ h. inr (h_call h)) (below c g)

  module _ (w : GuardedTable t) where
    body_decided : (d : ℕ) → d ≤ body_count t → (c : ℕ) → c < d → Decided (body t c)
    body_decided zero b c h = absurd (omega arith)
    body_decided (suc d) b c h =
        term_decided (body_count t) c (λ c' k. body_decided d (omega arith) c' (omega arith)) (body t c)
        (w.bodies c (omega arith))

    pub doomed_or_holds : (P : Term) → WellFormed t P → Doomed t P ⊎ Holds t P []
    doomed_or_holds P g = term_decided (body_count t) (body_count t) (body_decided (body_count t) (omega arith)) P g

    -- ---- Chain

    pub step_formed : {P Q : Term} {a : Action} → Step t P a Q → WellFormed t P → WellFormed t Q
    step_formed (prefix_step {P = P} {e = e} i) g = guarded_sub _ _ 0 e P g
    step_formed (choice_τ_left p) g = (step_formed p g.0, g.1)
    step_formed (choice_τ_right p) g = (g.0, step_formed p g.1)
    step_formed (choice_left p) g = step_formed p g.0
    step_formed (choice_right p) g = step_formed p g.1
    step_formed (par_left p o v) g = (step_formed p g.0, g.1)
    step_formed (par_right p o v) g = (g.0, step_formed p g.1)
    step_formed (par_both v u p q i) g = (step_formed p g.0, step_formed q g.1)
    step_formed (doomed_left a b p) g = (step_formed p g.0, g.1)
    step_formed (doomed_right a b p) g = (g.0, step_formed p g.1)
    step_formed choice_fail g = tt
    step_formed fail_left g = tt
    step_formed fail_right g = tt
    step_formed (call_step {d = d} p) g =
        step_formed p (guarded_more _ d _ (omega arith) (body t d) (w.bodies d g))

    pub chain_formed : {P Q : Term} {s : List ℕ} → Chain t P s Q → WellFormed t P → WellFormed t Q
    chain_formed chain_none g = g
    chain_formed (chain_event p c) g = chain_formed c (step_formed p g)
    chain_formed (chain_τ p c) g = chain_formed c (step_formed p g)

    chain_sound : {P Q : Term} {s : List ℕ} → Chain t P s Q → WellFormed t P → Viable t Q → Holds t P s
    chain_sound (chain_none {P = P}) g v = ⊎_elim (λ d. absurd (v d)) (λ h. h) (doomed_or_holds P g)
    chain_sound (chain_event p c) g v = visible_sound p (chain_sound c (step_formed p g) v)
    chain_sound (chain_τ p c) g v = silent_sound p (chain_sound c (step_formed p g) v)

    chain_complete : (s : List ℕ) {P : Term} → Holds t P s → (Q : Term) × Chain t P s Q × Viable t Q
    chain_complete [] {P} h = (P, chain_none, λ d. doomed_empty d h)
    chain_complete (e ∷ s) h =
        let (P', p, k) = visible_complete h in
        let (Q, c, v) = chain_complete s k in
        (Q, chain_event p c, v)

    -- 000, Theorem 3
    pub theorem3 : (P : Term) → WellFormed t P → (s : List ℕ)
        → Holds t P s ↔ ((Q : Term) × Chain t P s Q × Viable t Q)
    theorem3 P g s = (chain_complete s, λ c. chain_sound c.1 g c.2)

  chain_holds : {P Q : Term} {s : List ℕ} → Chain t P s Q → {u : List ℕ} → Holds t Q u → Holds t P (s ++ u)
  chain_holds chain_none h = h
  chain_holds (chain_event p c) h = visible_sound p (chain_holds c h)
  chain_holds (chain_τ p c) h = silent_sound p (chain_holds c h)

  -- 000, Lemma 5
  pub lemma5 : (P : Term) (e : ℕ) (s : List ℕ)
      → Holds t P (e ∷ s) ↔ ((Q : Term) × Chain t P (e ∷ []) Q × Holds t Q s)
  lemma5 P e s = (
    λ h. let (Q, p, k) = visible_complete h in (Q, chain_event p chain_none, k),
    λ c. chain_holds c.1 c.2,
  )
