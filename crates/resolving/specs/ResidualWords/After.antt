-- What is left of a residual after an event, by the kind of its term.
--     after_held, -not-held, -not-kind    a leaf: a prefix whose set has the event; has it not; no prefix
--     after_both, -either                 a pair: both sides move; one of them
-- Assumes nothing.
use Rattle.std.specs.Prelude.{ℕ, ◌+◌, ◌<◌, ◌≡◌, true, false, [], ◌∷◌, ◌++◌}
use Rattle.std.proofs.Common.{arith, ◌∙◌}
use Rattle.std.proofs.Math.Decide.{dec_lt}
use Rattle.std.proofs.Math.Numerals.{add-one}
use Rattle.std.proofs.Math.Path.{refl}
use Rattle.table.specs.Table.{Term, stop, fail, prefix, choice, par, call, Table, term_count}
use Rattle.table.specs.Memory.{Memory, remember}
use Rattle.table.specs.Member.{member}
use Rattle.table.specs.Node.{term_of, kind_of, ref_of}
use Rattle.table.proofs.Node.Numbers.{term_at_lem}
use Rattle.residuals.specs.Residual.{Residual, leaf, pair, pairs, resolve, after_leaf, after_pair, after}
use Rattle.resolving.specs.ResidualWords.Resolved.{term_beyond, term_none}

module _ (t : Table) (e n : ℕ) (m : Memory) where
  -- by the term of the number
  leaf_of : after t e (leaf n m) ≡ after_leaf t e n m (term_of t n)
  unfolding after after_leaf
  leaf_of = by (dec_lt n (term_count t))
    where
      by : Dec (n < term_count t) → after t e (leaf n m) ≡ after_leaf t e n m (term_of t n)
      by (yes h) = rw (term_at_lem t n h, after)
      by (no h) = rw (term_none t n (omega arith), term_beyond t n (omega arith), after)

  pair_of : (l r : Residual)
      → after t e (pair n m l r) ≡ after_pair t e n m l r (after t e l) (after t e r) (term_of t n)
  unfolding after after_pair
  pair_of l r = by (dec_lt n (term_count t))
    where
      by : Dec (n < term_count t)
          → after t e (pair n m l r) ≡ after_pair t e n m l r (after t e l) (after t e r) (term_of t n)
      by (yes h) = rw (term_at_lem t n h, after)
      by (no h) = rw (term_none t n (omega arith), term_beyond t n (omega arith), after)

  held : (p : Term) → kind_of p ≡ 2 → member t (ref_of p) m e ≡ true
      → after_leaf t e n m p ≡ resolve t (n + 1) (remember e m)
  unfolding kind_of ref_of after_leaf
  held stop k h = absurd (omega arith)
  held fail k h = absurd (omega arith)
  held (prefix r p) k h = rw (h, after_leaf, add-one n)
  held (choice p q) k h = absurd (omega arith)
  held (par r p q) k h = absurd (omega arith)
  held (call d) k h = absurd (omega arith)

  pub after_held : kind_of (term_of t n) ≡ 2 → member t (ref_of (term_of t n)) m e ≡ true
      → after t e (leaf n m) ≡ resolve t (n + 1) (remember e m)
  after_held k h = leaf_of ∙ held (term_of t n) k h

  not_held : (p : Term) → kind_of p ≡ 2 → member t (ref_of p) m e ≡ false → after_leaf t e n m p ≡ []
  unfolding kind_of ref_of after_leaf
  not_held stop k h = refl
  not_held fail k h = refl
  not_held (prefix r p) k h = rw (h, after_leaf)
  not_held (choice p q) k h = refl
  not_held (par r p q) k h = refl
  not_held (call d) k h = refl

  pub after_not_held : kind_of (term_of t n) ≡ 2 → member t (ref_of (term_of t n)) m e ≡ false → after t e (leaf n m) ≡ []
  after_not_held k h = leaf_of ∙ not_held (term_of t n) k h

  not_kind : (p : Term) → (kind_of p ≡ 2 → ⊥) → after_leaf t e n m p ≡ []
  unfolding kind_of after_leaf
  not_kind stop k = refl
  not_kind fail k = refl
  not_kind (prefix r p) k = absurd (k refl)
  not_kind (choice p q) k = refl
  not_kind (par r p q) k = refl
  not_kind (call d) k = refl

  pub after_not_kind : (kind_of (term_of t n) ≡ 2 → ⊥) → after t e (leaf n m) ≡ []
  after_not_kind k = leaf_of ∙ not_kind (term_of t n) k

  -- ---- pairs
  module _ (l r : Residual) where
    both : (p : Term) → kind_of p ≡ 4 → member t (ref_of p) m e ≡ true
        → after_pair t e n m l r (after t e l) (after t e r) p ≡ pairs n m (after t e l) (after t e r)
    unfolding kind_of ref_of after_pair
    both stop k h = absurd (omega arith)
    both fail k h = absurd (omega arith)
    both (prefix s p) k h = absurd (omega arith)
    both (choice p q) k h = absurd (omega arith)
    both (par s p q) k h = rw (h, after_pair)
    both (call d) k h = absurd (omega arith)

    pub after_both : kind_of (term_of t n) ≡ 4 → member t (ref_of (term_of t n)) m e ≡ true
        → after t e (pair n m l r) ≡ pairs n m (after t e l) (after t e r)
    after_both k h = pair_of l r ∙ both (term_of t n) k h

    either : (p : Term) → kind_of p ≡ 4 → member t (ref_of p) m e ≡ false
        → after_pair t e n m l r (after t e l) (after t e r) p
        ≡ pairs n m (after t e l) (r ∷ []) ++ pairs n m (l ∷ []) (after t e r)
    unfolding kind_of ref_of after_pair
    either stop k h = absurd (omega arith)
    either fail k h = absurd (omega arith)
    either (prefix s p) k h = absurd (omega arith)
    either (choice p q) k h = absurd (omega arith)
    either (par s p q) k h = rw (h, after_pair)
    either (call d) k h = absurd (omega arith)

    pub after_either : kind_of (term_of t n) ≡ 4 → member t (ref_of (term_of t n)) m e ≡ false
        → after t e (pair n m l r) ≡ pairs n m (after t e l) (r ∷ []) ++ pairs n m (l ∷ []) (after t e r)
    after_either k h = pair_of l r ∙ either (term_of t n) k h
