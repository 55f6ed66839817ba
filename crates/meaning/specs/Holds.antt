-- The trace sets as an inductive family, with a merge of two traces for the parallel (ours). It solves Figure 2's
-- equations and is the least solution: `proofs/Models.antt`.
--     Merge    a trace made of two
--     Holds    a term holds a trace
-- Assumes nothing.
use Rattle.std.specs.Prelude.{ℕ, Bool, not, List, [], ◌∷◌, T}
use Rattle.table.specs.Table.{Table}
use Rattle.meaning.specs.Figure1.{SetRef, Term, stop, prefix, choice, par, call, body, member, sub}

-- u is a merge of r and s: an event of E is taken from both, any other from one.
pub data Merge (E : ℕ → Bool) : List ℕ → List ℕ → List ℕ → Type 0 where
  m_none : Merge E [] [] []
  m_both : {e : ℕ} {r s u : List ℕ} → T (E e) → Merge E r s u → Merge E (e ∷ r) (e ∷ s) (e ∷ u)
  m_left : {e : ℕ} {r s u : List ℕ} → T (not (E e)) → Merge E r s u → Merge E (e ∷ r) s (e ∷ u)
  m_right : {e : ℕ} {r s u : List ℕ} → T (not (E e)) → Merge E r s u → Merge E r (e ∷ s) (e ∷ u)

module _ (t : Table) where
  pub data Holds : Term → List ℕ → Type 0 where
    h_stop : Holds stop []
    h_wait : {E : SetRef} {P : Term} → Holds (prefix E P) []
    h_prefix : {E : SetRef} {P : Term} {e : ℕ} {s : List ℕ}
        → T (member t E e) → Holds (sub 0 e P) s
        → Holds (prefix E P) (e ∷ s)
    h_left : {P Q : Term} {s : List ℕ} → Holds P s → Holds (choice P Q) s
    h_right : {P Q : Term} {s : List ℕ} → Holds Q s → Holds (choice P Q) s
    h_par : {E : SetRef} {P Q : Term} {r s u : List ℕ}
        → Merge (member t E) r s u → Holds P r → Holds Q s
        → Holds (par E P Q) u
    h_call : {d : ℕ} {s : List ℕ} → Holds (body t d) s → Holds (call d) s
