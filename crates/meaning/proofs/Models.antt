-- Figure 2 has a solution, `Holds`, and on well formed terms no other.
--     parallel→merge, merge→parallel    of prefix-closed sets the parallel is the merges
--     holds_model                       `Holds` solves the equations
--     holds_least, holds_only           every solution holds as much, and on well formed terms no more
--     theorem3_model, lemma5_model      Theorem 3 and Lemma 5 of every solution
-- Assumes nothing.
use Rattle.std.specs.Prelude.{ℕ, zero, suc, ◌<◌, ◌≤◌, Bool, List, [], ◌∷◌, ◌++◌, ◌↔◌, length}
use Rattle.std.proofs.Common.{arith, inl, inr, ⊎_elim}
use Rattle.table.specs.Table.{Table}
use Rattle.meaning.specs.Figure1.{Term, stop, fail, prefix, choice, par, call, body, sub}
use Rattle.meaning.specs.Figure1.{Guarded, GuardedTable, WellFormed, body_count}
use Rattle.meaning.specs.Figure2.{TraceSet, after, PrefixClosed, Parallel, traces, Model}
use Rattle.meaning.proofs.Figure2.Closed.{model_closed}
use Rattle.meaning.specs.Figure3.{Chain, Viable}
use Rattle.meaning.specs.Holds.{Merge, m_none, m_both, m_left, m_right}
use Rattle.meaning.specs.Holds.{Holds, h_stop, h_wait, h_prefix, h_left, h_right, h_par, h_call}
use Rattle.meaning.proofs.Theorem3.{guarded_more, guarded_sub, chain_formed, theorem3, lemma5}

-- ---- beginnings

data Pre : List ℕ → List ℕ → Type 0 where
  p_none : {s : List ℕ} → Pre [] s
  p_more : {e : ℕ} {r s : List ℕ} → Pre r s → Pre (e ∷ r) (e ∷ s)

pre_append : (s u : List ℕ) → Pre s (s ++ u)
pre_append [] u = p_none
pre_append (e ∷ s) u = p_more (pre_append s u)

-- ---- Merge

module _ {E : ℕ → Bool} where
  merge_pre : {a b u v : List ℕ} → Merge E a b u → Pre v u
      → (a' : List ℕ) × (b' : List ℕ) × Merge E a' b' v × Pre a' a × Pre b' b
  merge_pre m p_none = ([], [], m_none, p_none, p_none)
  merge_pre (m_both i m) (p_more p) =
      let (a', b', m', x, y) = merge_pre m p in
      (_, _, m_both i m', p_more x, p_more y)
  merge_pre (m_left i m) (p_more p) =
      let (a', b', m', x, y) = merge_pre m p in
      (_, _, m_left i m', p_more x, y)
  merge_pre (m_right i m) (p_more p) =
      let (a', b', m', x, y) = merge_pre m p in
      (_, _, m_right i m', x, p_more y)

  merge_length : {a b u : List ℕ} → Merge E a b u → (length a ≤ length u) × (length b ≤ length u)
  merge_length m_none = omega arith
  merge_length (m_both i m) = let h = merge_length m in omega arith
  merge_length (m_left i m) = let h = merge_length m in omega arith
  merge_length (m_right i m) = let h = merge_length m in omega arith

  pub parallel→merge : (X Y : TraceSet) → PrefixClosed X → PrefixClosed Y → (s : List ℕ)
      → Parallel E X Y s → (a : List ℕ) × (b : List ℕ) × Merge E a b s × X a × Y b
  parallel→merge X Y cx cy [] h = ([], [], m_none, cx [] h.0.0 h.0.1, cy [] h.1.0 h.1.1)
  parallel→merge X Y cx cy (e ∷ s) h =
      let dx : PrefixClosed (after X e) = λ r. cx (e ∷ r) in
      let dy : PrefixClosed (after Y e) = λ r. cy (e ∷ r) in
      ⊎_elim
      (λ p. let (a, b, m, x, y) = parallel→merge (after X e) (after Y e) dx dy s p.1 in
      (e ∷ a, e ∷ b, m_both p.0 m, x, y))
      (λ p. ⊎_elim
      (λ q. let (a, b, m, x, y) = parallel→merge (after X e) Y dx cy s q in (e ∷ a, b, m_left p.0 m, x, y))
      (λ q. let (a, b, m, x, y) = parallel→merge X (after Y e) cx dy s q in (a, e ∷ b, m_right p.0 m, x, y))
      p.1)
      h.2

  pub merge→parallel : {a b s : List ℕ} → Merge E a b s → (X Y : TraceSet) → X a → Y b → Parallel E X Y s
  merge→parallel m_none X Y x y = (([], x), ([], y))
  merge→parallel (m_both i m) X Y x y = ((_, x), (_, y), inl (i, merge→parallel m (after X _) (after Y _) x y))
  merge→parallel (m_left i m) X Y x y = ((_, x), (_, y), inr (i, inl (merge→parallel m (after X _) Y x y)))
  merge→parallel (m_right i m) X Y x y = ((_, x), (_, y), inr (i, inr (merge→parallel m X (after Y _) x y)))

module _ (t : Table) where
  -- ---- `Holds` is a solution

  holds_pre : {P : Term} {s r : List ℕ} → Holds t P s → Pre r s → Holds t P r
  holds_pre h_stop p_none = h_stop
  holds_pre h_wait p_none = h_wait
  holds_pre (h_prefix i h) p_none = h_wait
  holds_pre (h_prefix i h) (p_more p) = h_prefix i (holds_pre h p)
  holds_pre (h_left h) p = h_left (holds_pre h p)
  holds_pre (h_right h) p = h_right (holds_pre h p)
  holds_pre (h_par m h k) p =
      let (a, b, m', x, y) = merge_pre m p in
      h_par m' (holds_pre h x) (holds_pre k y)
  holds_pre (h_call h) p = h_call (holds_pre h p)

  holds_closed : (P : Term) → PrefixClosed (Holds t P)
  holds_closed P s u h = holds_pre h (pre_append s u)

  equations_out : (P : Term) (s : List ℕ) → Holds t P s → traces t (Holds t) P s
  equations_out stop [] h = tt
  equations_out stop (e ∷ s) h = elim h [ ]
  equations_out fail s h = elim h [ ]
  equations_out (prefix S P) [] h = tt
  equations_out (prefix S P) (e ∷ s) (h_prefix i h) = (i, h)
  equations_out (choice P Q) s (h_left h) = inl h
  equations_out (choice P Q) s (h_right h) = inr h
  equations_out (par S P Q) s (h_par m h k) = merge→parallel m (Holds t P) (Holds t Q) h k
  equations_out (call d) s (h_call h) = h

  equations_in : (P : Term) (s : List ℕ) → traces t (Holds t) P s → Holds t P s
  equations_in stop [] h = h_stop
  equations_in stop (e ∷ s) h = absurd h
  equations_in fail s h = absurd h
  equations_in (prefix S P) [] h = h_wait
  equations_in (prefix S P) (e ∷ s) h = h_prefix h.0 h.1
  equations_in (choice P Q) s h = ⊎_elim h_left h_right h
  equations_in (par S P Q) s h =
      let (a, b, m, x, y) = parallel→merge (Holds t P) (Holds t Q) (holds_closed P) (holds_closed Q) s h in
      h_par m x y
  equations_in (call d) s h = h_call h

  pub holds_model : Model t (Holds t)
  holds_model = record { equations = λ P s. (equations_out P s, equations_in P s) }

  module _ (H : Term → TraceSet) (model : Model t H) where
    -- ---- every solution holds what `Holds` does

    pub holds_least : {P : Term} {s : List ℕ} → Holds t P s → H P s
    holds_least h_stop = (model.equations stop []).1 tt
    holds_least (h_wait {E = E} {P = P}) = (model.equations (prefix E P) []).1 tt
    holds_least (h_prefix {E = E} {P = P} i h) = (model.equations (prefix E P) _).1 (i, holds_least h)
    holds_least (h_left {P = P} {Q = Q} h) = (model.equations (choice P Q) _).1 (inl (holds_least h))
    holds_least (h_right {P = P} {Q = Q} h) = (model.equations (choice P Q) _).1 (inr (holds_least h))
    holds_least (h_par {E = E} {P = P} {Q = Q} m h k) =
        (model.equations (par E P Q) _).1 (merge→parallel m (H P) (H Q) (holds_least h) (holds_least k))
    holds_least (h_call {d = d} h) = (model.equations (call d) _).1 (holds_least h)

    module _ (w : GuardedTable t) where
      -- ---- and on a well formed term no more: by the trace's length, the definition number and the term

      abbrev Agrees : ℕ → Term → Type 0
      Agrees n P = (s : List ℕ) → length s < n → H P s → Holds t P s

      term_agrees : (n d : ℕ) → d ≤ body_count t → ((P : Term) → WellFormed t P → Agrees n P)
          → ((c : ℕ) → c < d → Agrees (suc n) (body t c))
          → (P : Term) → Guarded (body_count t) d P → Agrees (suc n) P
      term_agrees n d b shorter below stop g [] l h = h_stop
      term_agrees n d b shorter below stop g (e ∷ s) l h = absurd ((model.equations stop (e ∷ s)).0 h)
      term_agrees n d b shorter below fail g s l h = absurd ((model.equations fail s).0 h)
      term_agrees n d b shorter below (prefix S P) g [] l h = h_wait
      term_agrees n d b shorter below (prefix S P) g (e ∷ s) l h =
          let (i, k) = (model.equations (prefix S P) (e ∷ s)).0 h in
          h_prefix i (shorter (sub 0 e P) (guarded_sub _ _ 0 e P g) s (omega arith) k)
      term_agrees n d b shorter below (choice P Q) g s l h =
          ⊎_elim
          (λ k. h_left (term_agrees n d b shorter below P g.0 s l k))
          (λ k. h_right (term_agrees n d b shorter below Q g.1 s l k))
          ((model.equations (choice P Q) s).0 h)
      term_agrees n d b shorter below (par S P Q) g s l h =
          let cp = model_closed t H model w P (guarded_more (body_count t) d (body_count t) b P g.0) in
          let cq = model_closed t H model w Q (guarded_more (body_count t) d (body_count t) b Q g.1) in
          let (r, u, m, x, y) = parallel→merge (H P) (H Q) cp cq s ((model.equations (par S P Q) s).0 h) in
          let le = merge_length m in
          h_par m
          (term_agrees n d b shorter below P g.0 r (omega arith) x)
          (term_agrees n d b shorter below Q g.1 u (omega arith) y)
      term_agrees n d b shorter below (call c) g s l h = h_call (below c g s l ((model.equations (call c) s).0 h))

      body_agrees : (n : ℕ) → ((P : Term) → WellFormed t P → Agrees n P)
          → (d : ℕ) → d ≤ body_count t → (c : ℕ) → c < d → Agrees (suc n) (body t c)
      body_agrees n shorter zero b c h = absurd (omega arith)
      body_agrees n shorter (suc d) b c h =
          term_agrees n c (omega arith) shorter (λ c' k. body_agrees n shorter d (omega arith) c' (omega arith))
          (body t c) (w.bodies c (omega arith))

      agrees_to : (n : ℕ) (P : Term) → WellFormed t P → Agrees n P
      agrees_to zero P g s l h = absurd (omega arith)
      agrees_to (suc n) P g s l h =
          term_agrees n (body_count t) (omega arith) (agrees_to n)
          (body_agrees n (agrees_to n) (body_count t) (omega arith))
          P g s l h

      pub holds_only : (P : Term) → WellFormed t P → (s : List ℕ) → H P s ↔ Holds t P s
      holds_only P g s = (agrees_to (suc (length s)) P g s (omega arith), holds_least)

      -- ---- Theorem 3 and Lemma 5

      pub theorem3_model : (P : Term) → WellFormed t P → (s : List ℕ)
          → H P s ↔ ((Q : Term) × Chain t P s Q × Viable t Q)
      theorem3_model P g s =
          let a = holds_only P g s in
          let b = theorem3 t w P g s in
          (λ h. b.0 (a.0 h), λ c. a.1 (b.1 c))

      pub lemma5_model : (P : Term) → WellFormed t P → (e : ℕ) (s : List ℕ)
          → after (H P) e s ↔ ((Q : Term) × Chain t P (e ∷ []) Q × H Q s)
      lemma5_model P g e s = (
        λ h. let (Q, c, k) = (lemma5 t P e s).0 ((holds_only P g (e ∷ s)).0 h) in (Q, c, holds_least k),
        λ x. let (Q, c, k) = x in
            holds_least ((lemma5 t P e s).1 (Q, c, (holds_only Q (chain_formed t w c g) s).0 k)),
      )
