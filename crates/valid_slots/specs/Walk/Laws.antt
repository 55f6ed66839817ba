-- What a walk over node words keeps, case by case, and that the numbers stay small. Assumes nothing.
use Rattle.std.specs.Prelude.{ℕ, suc, ◌-◌, ◌≤◌, ◌<◌, ◌≡◌, refl, Bool, true, false, ◌⊎◌, Some, None, ltb}
use Rattle.std.proofs.Common.{arith, ap, sym, subst, ◌∙◌, inl, inr, ⊎_elim, lt-ltb, le-ltb, ltb-true}
use Rattle.table.specs.Table.{Table, Term, stop, fail, prefix, choice, par, call, term_count, enclosing}
use Rattle.table.specs.Node.{term_of as nodeTerm, kind_of}
use Rattle.table.specs.Width.{reach}
use Rattle.node_word.specs.Word.{term_of_word, memory_of}
use Rattle.monitor_spec.specs.Valid.{memory_fits}
use Rattle.monitor_spec.proofs.Valid.Laws.{and_split}
use Rattle.valid_slots.specs.Walk.{Forest, trees, Few, with_leaf, paired, word_fits, planted_by, planted}

-- ---- few trees

pub few_more : (f : Forest) (j k : ℕ) → j ≤ k → Few f j → Few f k
few_more None j k h x = tt
few_more (Some x) j k h (a, b) = (omega arith, omega arith)

few_leaf : (r : ℕ) (f : Forest) (k : ℕ) → r ≤ 8 → Few f k → Few (with_leaf r f) (suc k)
unfolding with_leaf
few_leaf r None k h x = tt
few_leaf r (Some x) k h (a, b) = (omega arith, omega arith)

few_paired : (f : Forest) (k : ℕ) → Few f k → Few (paired f) (suc k)
unfolding paired
few_paired None k x = tt
few_paired (Some x) k (a, b) = by (ltb x.count 2)
  where
    by : (z : Bool) → Few (elim z [ true ↦ None | false ↦ trees (x.count - 1) x.reach ]) (suc k)
    by true = tt
    by false = (omega arith, omega arith)

few_by : (r : ℕ) (f : Forest) (k : ℕ) (p : Term) → r ≤ 8 → Few f k → Few (planted_by r f p) (suc k)
unfolding planted_by
few_by r f k stop h x = few_leaf r f k h x
few_by r f k fail h x = tt
few_by r f k (prefix s p) h x = few_leaf r f k h x
few_by r f k (choice p q) h x = tt
few_by r f k (par s p q) h x = few_paired f k x
few_by r f k (call d) h x = tt

-- ---- joining

pub paired_few : (n s : ℕ) → n < 2 → None ≡ paired (trees n s)
unfolding paired
paired_few n s h = rw (lt-ltb n 2 h, paired)

pub paired_two : (n s : ℕ) → 2 ≤ n → trees (n - 1) s ≡ paired (trees n s)
unfolding paired
paired_two n s h = rw (le-ltb n 2 h, paired)

-- ---- a node word

pub unknown_term : (t : Table) (w n : ℕ) → n ≡ term_of_word w → term_count t ≤ n → false ≡ word_fits t w
unfolding word_fits
unknown_term t w n e h =
    let k : term_count t ≤ term_of_word w = omega arith in
    rw (le-ltb (term_of_word w) (term_count t) k)

pub known_term : (t : Table) (w n : ℕ) (r : Bool) → n ≡ term_of_word w → n < term_count t
    → r ≡ memory_fits t.alphabet (enclosing t n) (memory_of w) → r ≡ word_fits t w
unfolding word_fits
known_term t w n r e h q =
    let k : term_of_word w < term_count t = omega arith in
    rw (lt-ltb (term_of_word w) (term_count t) k)
    (q ∙ ap (λ (i : ℕ). memory_fits t.alphabet (enclosing t i) (memory_of w)) e)

pub term_known : (t : Table) (w n : ℕ) → n ≡ term_of_word w → word_fits t w ≡ true → n < term_count t
unfolding word_fits
term_known t w n e h =
    let k = ltb-true (term_of_word w) (term_count t)
    (and_split (ltb (term_of_word w) (term_count t)) (memory_fits t.alphabet (enclosing t (term_of_word w)) (memory_of w))
    h).0 in
    omega arith

by_leaf : (r : ℕ) (f : Forest) (p : Term) → (kind_of p ≡ 0) ⊎ (kind_of p ≡ 2) → with_leaf r f ≡ planted_by r f p
unfolding planted_by kind_of
by_leaf r f stop h = refl
by_leaf r f fail h = absurd (⊎_elim (λ e. omega arith) (λ e. omega arith) h)
by_leaf r f (prefix s p) h = refl
by_leaf r f (choice p q) h = absurd (⊎_elim (λ e. omega arith) (λ e. omega arith) h)
by_leaf r f (par s p q) h = absurd (⊎_elim (λ e. omega arith) (λ e. omega arith) h)
by_leaf r f (call d) h = absurd (⊎_elim (λ e. omega arith) (λ e. omega arith) h)

by_par : (r : ℕ) (f : Forest) (p : Term) → kind_of p ≡ 4 → paired f ≡ planted_by r f p
unfolding planted_by kind_of
by_par r f stop h = absurd (omega arith)
by_par r f fail h = absurd (omega arith)
by_par r f (prefix s p) h = absurd (omega arith)
by_par r f (choice p q) h = absurd (omega arith)
by_par r f (par s p q) h = refl
by_par r f (call d) h = absurd (omega arith)

by_none : (r : ℕ) (f : Forest) (p : Term) → ((kind_of p ≡ 0) ⊎ (kind_of p ≡ 2) → ⊥) → (kind_of p ≡ 4 → ⊥)
    → None ≡ planted_by r f p
unfolding planted_by kind_of
by_none r f stop g h = absurd (g (inl refl))
by_none r f fail g h = refl
by_none r f (prefix s p) g h = absurd (g (inr refl))
by_none r f (choice p q) g h = refl
by_none r f (par s p q) g h = absurd (h refl)
by_none r f (call d) g h = refl

module _ (t : Table) (w : ℕ) (f : Forest) where
  pub planted_unfit : word_fits t w ≡ false → None ≡ planted t w f
  unfolding planted
  planted_unfit e = rw (e, planted)

  pub planted_fit : word_fits t w ≡ true
      → planted t w f ≡ planted_by (reach t (nodeTerm t (term_of_word w))) f (nodeTerm t (term_of_word w))
  unfolding planted
  planted_fit e = rw (e, planted)

  pub few_planted : (k : ℕ) → ((n : ℕ) → n < term_count t → reach t (nodeTerm t n) ≤ 8) → Few f k
      → Few (planted t w f) (suc k)
  few_planted k g x = by (word_fits t w) refl
    where
      by : (z : Bool) → word_fits t w ≡ z → Few (planted t w f) (suc k)
      by true e = rw (planted_fit e)
          (few_by (reach t (nodeTerm t (term_of_word w))) f k (nodeTerm t (term_of_word w))
          (g (term_of_word w) (term_known t w (term_of_word w) refl e)) x)
      by false e = rw (← planted_unfit e) tt

  module _ (n k : ℕ) (r : Forest) (h : word_fits t w ≡ true) (e : n ≡ term_of_word w) (q : k ≡ kind_of (nodeTerm t n)) where
    same : planted t w f ≡ planted_by (reach t (nodeTerm t n)) f (nodeTerm t n)
    same = planted_fit h ∙ ap (λ (i : ℕ). planted_by (reach t (nodeTerm t i)) f (nodeTerm t i)) (sym e)

    pub planted_leaf : (k ≡ 0) ⊎ (k ≡ 2) → (v : ℕ) → v ≡ reach t (nodeTerm t n) → r ≡ with_leaf v f → r ≡ planted t w f
    planted_leaf o v z s =
        s ∙ ap (λ (i : ℕ). with_leaf i f) z
        ∙ by_leaf (reach t (nodeTerm t n)) f (nodeTerm t n) (subst (λ (i : ℕ). (i ≡ 0) ⊎ (i ≡ 2)) q o)
        ∙ sym same

    pub planted_par : k ≡ 4 → r ≡ paired f → r ≡ planted t w f
    planted_par o s = s ∙ by_par (reach t (nodeTerm t n)) f (nodeTerm t n) (sym q ∙ o) ∙ sym same

    pub planted_none : ((k ≡ 0) ⊎ (k ≡ 2) → ⊥) → (k ≡ 4 → ⊥) → None ≡ planted t w f
    planted_none o p =
        by_none (reach t (nodeTerm t n)) f (nodeTerm t n) (subst (λ (i : ℕ). (i ≡ 0) ⊎ (i ≡ 2) → ⊥) q o)
        (λ u. p (q ∙ u))
        ∙ sym same
