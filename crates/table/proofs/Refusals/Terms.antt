-- Refusal 9's place is a term number (01, "When the monitor declines": "lowest such term"): the term of that number is
-- a body or a prefix's follower, above 256.
--     many_at    where `few_terms` fails there is such a term (`ManyAt`)
-- Assumes nothing.
use Prim.Native.Nat.{ℕ, zero, suc, ◌+◌, ◌-◌, ◌<◌}
use Rattle.std.proofs.Common.{arith, sym, ap, ◌∙◌, get_or-append-add}
use Rattle.std.proofs.Math.Decide.{dec_lt}
use Rattle.std.specs.Prelude.{◌≡◌, length, get_or}
use Rattle.std.proofs.Math.Path.{refl}
use mathlib.Core.Bool.{Bool, true, false}
use mathlib.Core.List.{List, [], ◌∷◌, ◌++◌}
use Rattle.std.proofs.Math.Option.{some}
use Rattle.std.proofs.Math.ListN.{get_or-append}
use Rattle.std.proofs.Math.Dec.{leb}
use borrow.Author.Tests.{leb-false}
use Rattle.table.specs.Table.{SetRef, Term, stop, fail, prefix, choice, par, call, Definition, Table, size, sizes}
use Rattle.table.specs.Table.{term_in, term_of_defs}
use Rattle.table.proofs.Table.Laws.{term_in_here, term_in_prefix, term_in_choice_left, term_in_choice_right}
use Rattle.table.proofs.Table.Laws.{term_in_par_left, term_in_par_right}
use Rattle.table.proofs.Table.Laws.{defs_first, defs_later}
use Rattle.table.specs.Branches.{branches_with, branches_at, all_branches}
use Rattle.table.specs.Refusals.{few_in, few_from, few_terms, BodyOrFollower, a_body, a_follower, ManyAt}
use Rattle.table.proofs.Refusals.Laws.{length_few}

-- ---- a follower above 256, n terms into a term and one more
pub record FollowerAt (calls : ℕ → ℕ) (b : Term) (n : ℕ) : Type 0 where
  pub term : Term
  pub set : SetRef
  pub here : term_in b (suc n) ≡ some term
  pub many : 256 < branches_with calls term
  pub before : term_in b n ≡ some (prefix set term)

true_is : {X : Type 0} → ◌≡◌ {A = Bool} true false → X
true_is e = absurd (mathlib.Core.Bool.true≢false e)

module _ (calls : ℕ → ℕ) where
  pair_at : (b p q : Term) → ((m : ℕ) → m < size p → term_in b (suc m) ≡ term_in p m)
      → ((m : ℕ) → term_in b (suc (size p + m)) ≡ term_in q m)
      → ((m : ℕ) → get_or (few_in calls p) m true ≡ false → FollowerAt calls p m)
      → ((m : ℕ) → get_or (few_in calls q) m true ≡ false → FollowerAt calls q m)
      → (n : ℕ) → get_or ((true ∷ few_in calls p) ++ (true ∷ few_in calls q)) n true ≡ false → FollowerAt calls b n
  pair_at b p q left right f g n h = go (dec_lt n (size p))
    where
      A : List Bool
      A = true ∷ few_in calls p

      B : List Bool
      B = true ∷ few_in calls q

      on_left : (n : ℕ) → n < size p → get_or (true ∷ few_in calls p) n true ≡ false → FollowerAt calls b n
      on_left zero l e = true_is e
      on_left (suc m) l e =
          let x = f m e in
          record {
            term = x.term;
            set = x.set;
            here = left (suc m) l ∙ x.here;
            many = x.many;
            before = left m (omega arith) ∙ x.before;
          }

      on_right : (k n : ℕ) → n ≡ size p + k → get_or (true ∷ few_in calls q) k true ≡ false → FollowerAt calls b n
      on_right zero n j e = true_is e
      on_right (suc m) n j e =
          let x = g m e in
          let a : n ≡ suc (size p + m) = omega arith in
          record {
            term = x.term;
            set = x.set;
            many = x.many;
            here = ap (λ (i : ℕ). term_in b (suc i)) j ∙ right (suc m) ∙ x.here;
            before = ap (term_in b) a ∙ right m ∙ x.before;
          }

      go : Dec (n < size p) → FollowerAt calls b n
      go (yes l) = on_left n l (sym (get_or-append A B true n (omega (arith, length_few calls p))) ∙ h)
      go (no l) =
          let k = n - size p in
          let s = length_few calls p in
          let j : n ≡ size p + (n - size p) = omega arith in
          let i : n ≡ length (true ∷ few_in calls p) + (n - size p) = omega arith in
          on_right (n - size p) n j
          (sym (get_or-append-add A B (n - size p) true) ∙ ap (λ (m : ℕ). get_or (A ++ B) m true) (sym i) ∙ h)

  pub few_at : (p : Term) (n : ℕ) → get_or (few_in calls p) n true ≡ false → FollowerAt calls p n
  unfolding few_in
  few_at stop n h = true_is h
  few_at fail n h = true_is h
  few_at (prefix r p) zero h =
      record {
        term = p;
        set = r;
        here = term_in_prefix r p 0 ∙ term_in_here p;
        many = leb-false (branches_with calls p) 256 h;
        before = term_in_here (prefix r p);
      }
  few_at (prefix r p) (suc m) h =
      let x = few_at p m h in
      record {
        term = x.term;
        set = x.set;
        here = term_in_prefix r p (suc m) ∙ x.here;
        many = x.many;
        before = term_in_prefix r p m ∙ x.before;
      }
  few_at (choice p q) n h =
      pair_at (choice p q) p q (term_in_choice_left p q) (term_in_choice_right p q) (λ m e. few_at p m e)
      (λ m e. few_at q m e) n h
  few_at (par r p q) n h =
      pair_at (par r p q) p q (term_in_par_left r p q) (term_in_par_right r p q) (λ m e. few_at p m e)
      (λ m e. few_at q m e) n h
  few_at (call d) n h = true_is h

-- ---- over the definitions

module _ (calls : ℕ → ℕ) where
  from_at : (ds : List Definition) (n : ℕ) → get_or (few_from calls ds) n true ≡ false → ManyAt calls ds n
  unfolding few_from
  from_at [] n h = true_is h
  from_at (d ∷ ds) n h = go (λ k e. from_at ds k e) (dec_lt n (size d.body))
    where
      A : List Bool
      A = leb (branches_with calls d.body) 256 ∷ few_in calls d.body

      on_left : (n : ℕ) → n < size d.body
          → get_or (leb (branches_with calls d.body) 256 ∷ few_in calls d.body) n true ≡ false
          → ManyAt calls (d ∷ ds) n
      on_left zero l e =
          record {
            term = d.body;
            here = defs_first d ds 0 l ∙ term_in_here d.body;
            many = leb-false (branches_with calls d.body) 256 e;
            place = a_body 0 (omega arith) (unfold sizes in refl);
          }
      on_left (suc m) l e =
          let x = few_at calls d.body m e in
          record {
            term = x.term;
            here = defs_first d ds (suc m) l ∙ x.here;
            many = x.many;
            place = a_follower m x.set refl (defs_first d ds m (omega arith) ∙ x.before);
          }

      shift : (k n : ℕ) (p : Term) → n ≡ size d.body + k → BodyOrFollower ds k p → BodyOrFollower (d ∷ ds) n p
      shift k n p j (a_body i b e) = a_body (suc i) (omega arith) (unfold sizes in (omega arith))
      shift k n p j (a_follower m r e f) = a_follower (size d.body + m) r (omega arith) (defs_later d ds m ∙ f)

      on_right : (k n : ℕ) → n ≡ size d.body + k → ManyAt calls ds k → ManyAt calls (d ∷ ds) n
      on_right k n j x =
          record {
            term = x.term;
            here = ap (term_of_defs (d ∷ ds)) j ∙ defs_later d ds k ∙ x.here;
            many = x.many;
            place = shift k n x.term j x.place;
          }

      go : ((k : ℕ) → get_or (few_from calls ds) k true ≡ false → ManyAt calls ds k) → Dec (n < size d.body)
          → ManyAt calls (d ∷ ds) n
      go ih (yes l) =
          on_left n l (sym (get_or-append A (few_from calls ds) true n (omega (arith, length_few calls d.body)))
          ∙ h)
      go ih (no l) =
          let s = length_few calls d.body in
          let j : n ≡ size d.body + (n - size d.body) = omega arith in
          let i : n ≡ length (leb (branches_with calls d.body) 256 ∷ few_in calls d.body)
          + (n - size d.body) = omega arith in
          on_right (n - size d.body) n j
          (ih (n - size d.body)
          (sym (get_or-append-add A (few_from calls ds) (n - size d.body) true)
          ∙ ap (λ (m : ℕ). get_or (A ++ few_from calls ds) m true) (sym i) ∙ h))

-- a term number at which `few_terms` fails
pub many_at : (t : Table) (n : ℕ) → get_or (few_terms t) n true ≡ false
    → ManyAt (branches_at (all_branches t.definitions)) t.definitions n
unfolding few_terms
many_at t n h = from_at (branches_at (all_branches t.definitions)) t.definitions n h
