-- What a term by number resolves to, by its kind.
--     resolved_leaf, resolved_none                  STOP and a prefix; FAIL
--     TwoSides, resolved_choice, resolved_par       two sides
--     Calls, resolved_call                          a call
-- Assumes nothing.
use Rattle.std.specs.Prelude.{ℕ, suc, ◌+◌, ◌*◌, ◌<◌, ◌≤◌, ◌⊎◌, ◌≡◌, refl}
use Rattle.std.proofs.Common.{arith, inl, inr, ap, sym, ◌∙◌}
use Rattle.std.proofs.Math.Path.{ap₂}
use mathlib.Core.List.{List, [], ◌∷◌, ◌++◌}
use Rattle.table.specs.Table.{Term, stop, fail, prefix, choice, par, call, Table, size, term_count}
use Rattle.table.specs.Memory.{Memory}
use Rattle.table.specs.Fields.{depth_of}
use Rattle.table.specs.Branches.{branches_with, branches}
use Rattle.table.specs.Node.{Node, node_at, term_of, kind_of, left_size, called_of}
use Rattle.table.proofs.Node.Parts.{size_positive}
use Rattle.table.proofs.Node.Laws.{choice_nodes, par_nodes}
use Rattle.meaning.specs.Figure1.{body_count}
use Rattle.residuals.specs.Keep.{keep}
use Rattle.residuals.specs.Residual.{Residual, leaf, pairs, resolve_in, resolve_def, resolve}
use Rattle.resolving.specs.Lawful.{Below}
use Rattle.resolving.specs.ResidualWords.Resolved.{resolve_of}

resolve_leaf : (f : ℕ → List Residual) (n : ℕ) (m : Memory) (p : Term) → (kind_of p ≡ 0) ⊎ (kind_of p ≡ 2)
    → resolve_in f p n m ≡ leaf n (keep p m) ∷ []
unfolding kind_of resolve_in
resolve_leaf f n m stop h = refl
resolve_leaf f n m fail (inl e) = absurd (omega arith)
resolve_leaf f n m fail (inr e) = absurd (omega arith)
resolve_leaf f n m (prefix r p) h = refl
resolve_leaf f n m (choice p q) (inl e) = absurd (omega arith)
resolve_leaf f n m (choice p q) (inr e) = absurd (omega arith)
resolve_leaf f n m (par r p q) (inl e) = absurd (omega arith)
resolve_leaf f n m (par r p q) (inr e) = absurd (omega arith)
resolve_leaf f n m (call d) (inl e) = absurd (omega arith)
resolve_leaf f n m (call d) (inr e) = absurd (omega arith)

pub resolved_leaf : (t : Table) (n : ℕ) (m : Memory) → (kind_of (term_of t n) ≡ 0) ⊎ (kind_of (term_of t n) ≡ 2)
    → resolve t n m ≡ leaf n (keep (term_of t n) m) ∷ []
resolved_leaf t n m h = resolve_of t n m ∙ resolve_leaf _ n m (term_of t n) h

resolve_none : (f : ℕ → List Residual) (n : ℕ) (m : Memory) (p : Term) → (kind_of p ≡ 1) ⊎ (6 ≤ kind_of p)
    → resolve_in f p n m ≡ []
unfolding kind_of resolve_in
resolve_none f n m stop (inl e) = absurd (omega arith)
resolve_none f n m stop (inr e) = absurd (omega arith)
resolve_none f n m fail h = refl
resolve_none f n m (prefix r p) (inl e) = absurd (omega arith)
resolve_none f n m (prefix r p) (inr e) = absurd (omega arith)
resolve_none f n m (choice p q) (inl e) = absurd (omega arith)
resolve_none f n m (choice p q) (inr e) = absurd (omega arith)
resolve_none f n m (par r p q) (inl e) = absurd (omega arith)
resolve_none f n m (par r p q) (inr e) = absurd (omega arith)
resolve_none f n m (call d) (inl e) = absurd (omega arith)
resolve_none f n m (call d) (inr e) = absurd (omega arith)

pub resolved_none : (t : Table) (n : ℕ) (m : Memory) → (kind_of (term_of t n) ≡ 1) ⊎ (6 ≤ kind_of (term_of t n))
    → resolve t n m ≡ []
resolved_none t n m h = resolve_of t n m ∙ resolve_none _ n m (term_of t n) h

-- two sides: the left at n + 1, the right at r
pub record TwoSides (t : Table) (n r : ℕ) (total : ℕ → ℕ → ℕ) (join : Memory → List Residual → List Residual
    → List Residual) : Type 0 where
  pub left_in : n + 1 < term_count t
  pub right_in : r < term_count t
  pub left_lower : depth_of (term_of t (n + 1)) < depth_of (term_of t n)
  pub right_lower : depth_of (term_of t r) < depth_of (term_of t n)
  pub left_below : (b : ℕ) → Below b (term_of t n) → Below b (term_of t (n + 1))
  pub right_below : (b : ℕ) → Below b (term_of t n) → Below b (term_of t r)
  pub branching : branches t (term_of t n) ≡ total (branches t (term_of t (n + 1))) (branches t (term_of t r))
  pub list : (m : Memory) → resolve t n m ≡ join m (resolve t (n + 1) m) (resolve t r m)

node_term : (t : Table) (n : ℕ) (x : Node) → node_at t n ≡ x → term_of t n ≡ x.term
unfolding term_of
node_term t n x e = ap (λ (y : Node). y.term) e

-- the side p of number k, resolved
side : (t : Table) (k j : ℕ) (p : Term) (m : Memory) → j ≡ k → term_of t k ≡ p
    → resolve_in (resolve_def t (body_count t)) p j m ≡ resolve t k m
side t k j p m e q =
    ap (λ (i : ℕ). resolve_in (resolve_def t (body_count t)) p i m) e
    ∙ ap (λ (x : Term). resolve_in (resolve_def t (body_count t)) x k m) (sym q) ∙ sym (resolve_of t k m)

module _ (t : Table) (n : ℕ) (h : n < term_count t) where
  whole : (m : Memory) (p : Term) → term_of t n ≡ p → resolve t n m ≡ resolve_in (resolve_def t (body_count t)) p n m
  whole m p e = resolve_of t n m ∙ ap (λ (x : Term). resolve_in (resolve_def t (body_count t)) x n m) e

  choice_sides : (p : Term) → term_of t n ≡ p → kind_of p ≡ 3 → TwoSides t n (n + 1 + left_size p) ◌+◌ (λ m. ◌++◌)
  unfolding kind_of left_size depth_of branches branches_with resolve_in
  choice_sides stop e k = absurd (omega arith)
  choice_sides fail e k = absurd (omega arith)
  choice_sides (prefix r p) e k = absurd (omega arith)
  choice_sides (par r p q) e k = absurd (omega arith)
  choice_sides (call d) e k = absurd (omega arith)
  choice_sides (choice p q) e k =
      let s = choice_nodes t n p q h e in
      let l = node_term t (n + 1) _ s.left in
      let r' = node_term t (n + 1 + size p) _ s.right in
      record {
        left_in = omega (arith, s.inside, size_positive p, size_positive q);
        right_in = omega (arith, s.inside, size_positive q);
        left_lower = rw (l, e) (omega arith);
        right_lower = rw (r', e) (omega arith);
        left_below = λ b w. rw (l) (rw e at w).0;
        right_below = λ b w. rw (r') (rw e at w).1;
        branching = rw (l, r', e);
        list = λ m. whole m (choice p q) e
            ∙ ap₂ ◌++◌ (side t (n + 1) (suc n) p m (omega arith) l)
            (side t (n + 1 + size p) (suc (size p + n)) q m (omega arith) r');
      }

  pub resolved_choice : kind_of (term_of t n) ≡ 3 → (r : ℕ) → r ≡ n + 1 + left_size (term_of t n)
      → TwoSides t n r ◌+◌ (λ m. ◌++◌)
  resolved_choice k r e = rw e (choice_sides (term_of t n) refl k)

  par_sides : (p : Term) → term_of t n ≡ p → kind_of p ≡ 4 → TwoSides t n (n + 1 + left_size p) ◌*◌
      (λ m. pairs n (keep p m))
  unfolding kind_of left_size depth_of branches branches_with resolve_in
  par_sides stop e k = absurd (omega arith)
  par_sides fail e k = absurd (omega arith)
  par_sides (prefix r p) e k = absurd (omega arith)
  par_sides (choice p q) e k = absurd (omega arith)
  par_sides (call d) e k = absurd (omega arith)
  par_sides (par r p q) e k =
      let s = par_nodes t n r p q h e in
      let l = node_term t (n + 1) _ s.left in
      let r' = node_term t (n + 1 + size p) _ s.right in
      record {
        left_in = omega (arith, s.inside, size_positive p, size_positive q);
        right_in = omega (arith, s.inside, size_positive q);
        left_lower = rw (l, e) (omega arith);
        right_lower = rw (r', e) (omega arith);
        left_below = λ b w. rw (l) (rw e at w).0;
        right_below = λ b w. rw (r') (rw e at w).1;
        branching = rw (l, r', e);
        list = λ m. whole m (par r p q) e
            ∙ ap₂ (pairs n (keep (par r p q) m)) (side t (n + 1) (suc n) p m (omega arith) l)
            (side t (n + 1 + size p) (suc (size p + n)) q m (omega arith) r');
      }

  pub resolved_par : kind_of (term_of t n) ≡ 4 → (r : ℕ) → r ≡ n + 1 + left_size (term_of t n)
      → TwoSides t n r ◌*◌ (λ m. pairs n (keep (term_of t n) m))
  resolved_par k r e = rw e (par_sides (term_of t n) refl k)

-- a call of definition d
pub record Calls (t : Table) (n d : ℕ) : Type 0 where
  pub lower : (b : ℕ) → Below b (term_of t n) → d < b
  pub list : (m : Memory) → resolve t n m ≡ resolve_def t (body_count t) d

module _ (t : Table) (n : ℕ) where
  call_of : (p : Term) → term_of t n ≡ p → kind_of p ≡ 5 → Calls t n (called_of p)
  unfolding kind_of called_of resolve_in
  call_of stop e k = absurd (omega arith)
  call_of fail e k = absurd (omega arith)
  call_of (prefix r p) e k = absurd (omega arith)
  call_of (choice p q) e k = absurd (omega arith)
  call_of (par r p q) e k = absurd (omega arith)
  call_of (call d) e k = record { lower = λ b w. rw e at w; list = λ m. resolve_of t n m ∙ rw e }

  pub resolved_call : kind_of (term_of t n) ≡ 5 → (d : ℕ) → d ≡ called_of (term_of t n) → Calls t n d
  resolved_call k d e = rw e (call_of (term_of t n) refl k)
