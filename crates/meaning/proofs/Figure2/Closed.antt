-- Every model is prefix-closed on the well formed terms of a guarded table: by the length of the beginning, the
-- definition number and the term. Assumes nothing.
use Rattle.std.specs.Prelude.{ℕ, zero, suc, ◌<◌, ◌≤◌, List, [], ◌∷◌, ◌++◌, length}
use Rattle.std.proofs.Common.{arith, inl, inr, ⊎_elim}
use Rattle.table.specs.Table.{Table}
use Rattle.meaning.specs.Figure1.{Term, stop, fail, prefix, choice, par, call, body, member, sub}
use Rattle.meaning.specs.Figure1.{Guarded, GuardedTable, WellFormed, body_count}
use Rattle.meaning.specs.Figure2.{TraceSet, PrefixClosed, Model}
use Rattle.meaning.proofs.Figure2.Laws.{parallel_closed}
use Rattle.meaning.proofs.Theorem3.{guarded_sub}

module _ (t : Table) (H : Term → TraceSet) (model : Model t H) where
  -- of the beginnings shorter than n
  abbrev Closed : ℕ → Term → Type 0
  Closed n P = (s u : List ℕ) → length s < n → H P (s ++ u) → H P s

  term_closed : (n d : ℕ) → ((P : Term) → WellFormed t P → Closed n P) → ((c : ℕ) → c < d → Closed (suc n) (body t c))
      → (P : Term) → Guarded (body_count t) d P → Closed (suc n) P
  term_closed n d shorter below stop g [] u l h = (model.equations stop []).1 tt
  term_closed n d shorter below stop g (e ∷ s) u l h = absurd ((model.equations stop (e ∷ (s ++ u))).0 h)
  term_closed n d shorter below fail g s u l h = absurd ((model.equations fail (s ++ u)).0 h)
  term_closed n d shorter below (prefix S P) g [] u l h = (model.equations (prefix S P) []).1 tt
  term_closed n d shorter below (prefix S P) g (e ∷ s) u l h =
      let (i, k) = (model.equations (prefix S P) (e ∷ (s ++ u))).0 h in
      let g' = guarded_sub (body_count t) (body_count t) 0 e P g in
      (model.equations (prefix S P) (e ∷ s)).1 (i, shorter (sub 0 e P) g' s u (omega arith) k)
  term_closed n d shorter below (choice P Q) g s u l h =
      (model.equations (choice P Q) s).1
      (⊎_elim
      (λ k. inl (term_closed n d shorter below P g.0 s u l k))
      (λ k. inr (term_closed n d shorter below Q g.1 s u l k))
      ((model.equations (choice P Q) (s ++ u)).0 h))
  term_closed n d shorter below (par S P Q) g s u l h =
      (model.equations (par S P Q) s).1
      (parallel_closed (member t S) (H P) (H Q) s u ((model.equations (par S P Q) (s ++ u)).0 h))
  term_closed n d shorter below (call c) g s u l h =
      (model.equations (call c) s).1 (below c g s u l ((model.equations (call c) (s ++ u)).0 h))

  module _ (w : GuardedTable t) where
    body_closed : (n : ℕ) → ((P : Term) → WellFormed t P → Closed n P)
        → (d : ℕ) → d ≤ body_count t → (c : ℕ) → c < d → Closed (suc n) (body t c)
    body_closed n shorter zero b c h = absurd (omega arith)
    body_closed n shorter (suc d) b c h =
        term_closed n c shorter (λ c' k. body_closed n shorter d (omega arith) c' (omega arith)) (body t c)
        (w.bodies c (omega arith))

    closed_to : (n : ℕ) (P : Term) → WellFormed t P → Closed n P
    closed_to zero P g s u l h = absurd (omega arith)
    closed_to (suc n) P g s u l h =
        term_closed n (body_count t) (closed_to n) (body_closed n (closed_to n) (body_count t) (omega arith)) P g s u l h

    pub model_closed : (P : Term) → WellFormed t P → PrefixClosed (H P)
    model_closed P g s u h = closed_to (suc (length s)) P g s u (omega arith) h
