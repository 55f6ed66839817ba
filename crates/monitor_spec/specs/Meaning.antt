-- A residual stands for a closed term of Figure 1 (ours; 01, "Residuals").
--     denote      the closed term: each node's term, its parameters replaced by the events of its memory
--     Sound       the leaves are STOP and prefix terms of the table, the pairs its parallel terms
--     Some        a list is not empty
-- Assumes nothing.
use Rattle.std.specs.Prelude.{List, [], ◌∷◌, ◌≡◌}
use Rattle.std.proofs.Math.Option.{none, some}
use Rattle.table.specs.Table
use Rattle.table.specs.Table.{Table, term_at}
use Rattle.table.specs.Memory.{Memory}
use Rattle.meaning.specs.Figure1.{Term, fail, par}
use Rattle.meaning.specs.Closing.{close_ref, close}
use Rattle.residuals.specs.Residual.{Residual, leaf, pair}

-- a parallel's set, with two closed terms for its sides
unfoldable pub join_at : Table.Term → Memory → Term → Term → Term
join_at Table.stop m P Q = fail
join_at Table.fail m P Q = fail
join_at (Table.prefix r p) m P Q = fail
join_at (Table.choice p q) m P Q = fail
join_at (Table.par r p q) m P Q = par (close_ref 0 m r) P Q
join_at (Table.call d) m P Q = fail

unfoldable pub denote : Table → Residual → Term
denote t (leaf n m) = elim (term_at t n) [ none ↦ fail | some p ↦ close 0 m p ]
denote t (pair n m l r) = elim (term_at t n) [ none ↦ fail | some p ↦ join_at p m (denote t l) (denote t r) ]

abbrev pub IsLeaf : Table.Term → Type 0
IsLeaf Table.stop = Unit
IsLeaf Table.fail = ⊥
IsLeaf (Table.prefix r p) = Unit
IsLeaf (Table.choice p q) = ⊥
IsLeaf (Table.par r p q) = ⊥
IsLeaf (Table.call d) = ⊥

abbrev pub IsPar : Table.Term → Type 0
IsPar Table.stop = ⊥
IsPar Table.fail = ⊥
IsPar (Table.prefix r p) = ⊥
IsPar (Table.choice p q) = ⊥
IsPar (Table.par r p q) = Unit
IsPar (Table.call d) = ⊥

-- 01, "Disturbed": "one whole residual tree of known STOP, prefix and parallel terms"
abbrev pub Sound : Table → Residual → Type 0
Sound t (leaf n m) = (x : Table.Term) × (term_at t n ≡ some x) × IsLeaf x
Sound t (pair n m l r) = (x : Table.Term) × (term_at t n ≡ some x) × IsPar x × Sound t l × Sound t r

module _ {A : Type 0} where
  abbrev pub Some : List A → Type 0
  Some [] = ⊥
  Some (x ∷ xs) = Unit
