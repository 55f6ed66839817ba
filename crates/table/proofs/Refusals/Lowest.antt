-- A body or a prefix's follower above 256 is found: `few_terms` fails at its number. The other way is in `Terms.antt`.
--     follower_in, follower_from, body_from     what is tested at the number of a follower, of a body
--     many_in                                   where there is such a term, `few_terms` fails
-- Assumes nothing.
use Prim.Native.Nat.{ℕ, zero, suc, ◌+◌, ◌-◌, ◌<◌}
use Rattle.std.proofs.Common.{arith, sym, ◌∙◌}
use Rattle.std.proofs.Math.Decide.{dec_lt}
use Rattle.std.specs.Prelude.{◌≡◌, Bool, false, take}
use Rattle.std.proofs.Math.Path.{refl, ap}
use Rattle.std.proofs.Math.Bool.{true}
use mathlib.Core.List.{List, [], ◌∷◌, ◌++◌}
use Rattle.std.proofs.Math.Option.{Option, none, some}
use Rattle.std.proofs.Math.ListN.{length, get_or, get_or-append}
use Rattle.std.proofs.Math.Seq.{get_or-append-add}
use Rattle.std.proofs.Math.Dec.{leb}
use Rattle.std.proofs.lemmas.Bool.{lt-leb}
use Rattle.table.specs.Table.{SetRef, Term, stop, fail, prefix, choice, par, call, Definition, Table, size, sizes}
use Rattle.table.specs.Table.{term_in, term_of_defs}
use Rattle.table.specs.Node.{kind_of}
use Rattle.table.specs.Branches.{branches_with, branches_at, all_branches}
use Rattle.table.specs.Refusals.{few_in, few_from, few_terms, BodyOrFollower, a_body, a_follower, ManyAt}
use Rattle.table.proofs.Refusals.Laws.{length_few}
use Rattle.table.proofs.Table.Laws.{term_in_here, term_in_stop, term_in_fail, term_in_call, term_in_prefix}
use Rattle.table.proofs.Table.Laws.{term_in_choice_left, term_in_choice_right, term_in_par_left, term_in_par_right}
use Rattle.table.proofs.Table.Laws.{size_positive, defs_first, defs_later}

not_none : {X : Type 0} {o : Option Term} {q : Term} → o ≡ none → o ≡ some q → X
not_none e f = absurd (let z : ◌≡◌ {A = ℕ} 0 1 = cc in omega arith)

no_term : (m : ℕ) → term_of_defs [] m ≡ none
unfolding term_of_defs
no_term m = refl

same_some : {p q : Term} → some p ≡ some q → p ≡ q
same_some e = cc

-- a term that is no prefix
not_other : {X : Type 0} (b : Term) {r : SetRef} {q : Term} → (kind_of b ≡ 2 → ⊥) → term_in b 0 ≡ some (prefix r q) → X
unfolding kind_of
not_other b k f =
    let e : b ≡ prefix _ _ = same_some (sym (term_in_here b) ∙ f) in
    absurd (k (ap kind_of e))

same_follower : {o : Option Term} {r s : SetRef} {p q : Term} → o ≡ some (prefix r p) → o ≡ some (prefix s q) → p ≡ q
same_follower e f = cc

module _ (calls : ℕ → ℕ) where
  -- the follower's number is within the term, and the test there is of it
  pub record Tested (b : Term) (n : ℕ) (p : Term) : Type 0 where
    pub within : suc n < size b
    pub test : get_or (few_in calls b) n true ≡ leb (branches_with calls p) 256

  -- under a choice or a parallel b with sides x and y
  sides_in : (b x y : Term) → size b ≡ suc (size x + size y)
      → few_in calls b ≡ (true ∷ few_in calls x) ++ (true ∷ few_in calls y)
      → ((m : ℕ) → m < size x → term_in b (suc m) ≡ term_in x m)
      → ((m : ℕ) → term_in b (suc (size x + m)) ≡ term_in y m)
      → (r : SetRef) (p : Term)
      → ((m : ℕ) → term_in x m ≡ some (prefix r p) → Tested x m p)
      → ((m : ℕ) → term_in y m ≡ some (prefix r p) → Tested y m p)
      → (m : ℕ) → term_in b (suc m) ≡ some (prefix r p) → Tested b (suc m) p
  sides_in b x y whole tests left right r p f g m h = go (dec_lt m (size x))
    where
      A : List Bool
      A = true ∷ few_in calls x

      B : List Bool
      B = true ∷ few_in calls y

      go : Dec (m < size x) → Tested b (suc m) p
      go (yes l) =
          let t = f m (sym (left m l) ∙ h) in
          record {
            within = omega (arith, t.within);
            test =
                ap (λ (z : List Bool). get_or z (suc m) true) tests
                ∙ get_or-append A B true (suc m) (omega (arith, t.within, length_few calls x))
                ∙ t.test;
          }
      go (no l) =
          let e : m ≡ size x + (m - size x) = omega arith in
          let t = g (m - size x) (sym (right (m - size x)) ∙ ap (λ (k : ℕ). term_in b (suc k)) (sym e) ∙ h) in
          let i : suc m ≡ length (true ∷ few_in calls x) + suc (m - size x) = omega (arith, length_few calls x) in
          record {
            within = omega (arith, t.within);
            test =
                ap (λ (z : List Bool). get_or z (suc m) true) tests
                ∙ ap (λ (k : ℕ). get_or (A ++ B) k true) i
                ∙ get_or-append-add A B (suc (m - size x)) true
                ∙ t.test;
          }

  pub follower_in : (b : Term) (n : ℕ) (r : SetRef) (p : Term) → term_in b n ≡ some (prefix r p) → Tested b n p
  unfolding few_in size kind_of
  follower_in stop zero r p h = not_other stop (λ e. omega arith) h
  follower_in stop (suc m) r p h = not_none (term_in_stop m) h
  follower_in fail zero r p h = not_other fail (λ e. omega arith) h
  follower_in fail (suc m) r p h = not_none (term_in_fail m) h
  follower_in (call d) zero r p h = not_other (call d) (λ e. omega arith) h
  follower_in (call d) (suc m) r p h = not_none (term_in_call d m) h
  follower_in (prefix s q) zero r p h =
      let e = same_follower (term_in_here (prefix s q)) h in
      record {
        within = omega (arith, size_positive q);
        test = ap (λ (x : Term). leb (branches_with calls x) 256) e;
      }
  follower_in (prefix s q) (suc m) r p h =
      let t = follower_in q m r p (sym (term_in_prefix s q m) ∙ h) in
      record { within = omega (arith, t.within); test = t.test }
  follower_in (choice x y) zero r p h = not_other (choice x y) (λ e. omega arith) h
  follower_in (choice x y) (suc m) r p h =
      sides_in (choice x y) x y refl refl (term_in_choice_left x y) (term_in_choice_right x y) r p
      (λ k e. follower_in x k r p e) (λ k e. follower_in y k r p e) m h
  follower_in (par s x y) zero r p h = not_other (par s x y) (λ e. omega arith) h
  follower_in (par s x y) (suc m) r p h =
      sides_in (par s x y) x y refl refl (term_in_par_left s x y) (term_in_par_right s x y) r p
      (λ k e. follower_in x k r p e) (λ k e. follower_in y k r p e) m h

  -- ---- over the definitions

  abbrev tests_of : Definition → List Bool
  tests_of d = leb (branches_with calls d.body) 256 ∷ few_in calls d.body

  beyond : (d : Definition) (ds : List Definition) (n k : ℕ) → n ≡ size d.body + k
      → get_or (few_from calls (d ∷ ds)) n true ≡ get_or (few_from calls ds) k true
  unfolding few_from
  beyond d ds n k e =
      let i : n ≡ length (tests_of d) + k = omega (arith, length_few calls d.body) in
      ap (λ (j : ℕ). get_or (tests_of d ++ few_from calls ds) j true) i
      ∙ get_or-append-add (tests_of d) (few_from calls ds) k true

  first : (d : Definition) (ds : List Definition) (n : ℕ) → n < size d.body
      → get_or (few_from calls (d ∷ ds)) n true ≡ get_or (tests_of d) n true
  unfolding few_from
  first d ds n h = get_or-append (tests_of d) (few_from calls ds) true n (omega (arith, length_few calls d.body))

  follower_from : (ds : List Definition) (m : ℕ) (r : SetRef) (p : Term) → term_of_defs ds m ≡ some (prefix r p)
      → get_or (few_from calls ds) (suc m) true ≡ leb (branches_with calls p) 256
  follower_from [] m r p h = not_none (no_term m) h
  follower_from (d ∷ ds) m r p h = go (λ k e. follower_from ds k r p e) (dec_lt m (size d.body))
    where
      go : ((k : ℕ) → term_of_defs ds k ≡ some (prefix r p)
          → get_or (few_from calls ds) (suc k) true ≡ leb (branches_with calls p) 256)
          → Dec (m < size d.body) → get_or (few_from calls (d ∷ ds)) (suc m) true ≡ leb (branches_with calls p) 256
      go ih (yes l) =
          let t = follower_in d.body m r p (sym (defs_first d ds m l) ∙ h) in
          first d ds (suc m) t.within ∙ t.test
      go ih (no l) =
          let e : m ≡ size d.body + (m - size d.body) = omega arith in
          beyond d ds (suc m) (suc (m - size d.body)) (omega arith)
          ∙ ih (m - size d.body) (sym (defs_later d ds (m - size d.body)) ∙ ap (term_of_defs (d ∷ ds)) (sym e) ∙ h)

  body_from : (ds : List Definition) (d : ℕ) → d < length ds → (p : Term) → term_of_defs ds (sizes (take d ds)) ≡ some p
      → get_or (few_from calls ds) (sizes (take d ds)) true ≡ leb (branches_with calls p) 256
  unfolding sizes
  body_from [] d h p e = absurd (omega arith)
  body_from (x ∷ ds) zero h p e =
      let i : x.body ≡ p = same_some (sym (defs_first x ds 0 (size_positive x.body) ∙ term_in_here x.body) ∙ e) in
      first x ds 0 (size_positive x.body) ∙ ap (λ (y : Term). leb (branches_with calls y) 256) i
  body_from (x ∷ ds) (suc d) h p e =
      beyond x ds (size x.body + sizes (take d ds)) (sizes (take d ds)) refl
      ∙ body_from ds d (omega arith) p (sym (defs_later x ds (sizes (take d ds))) ∙ e)

  many_from : (ds : List Definition) (n : ℕ) → ManyAt calls ds n → get_or (few_from calls ds) n true ≡ false
  many_from ds n x = by x.place
    where
      above : leb (branches_with calls x.term) 256 ≡ false
      above = lt-leb (branches_with calls x.term) 256 x.many

      by : BodyOrFollower ds n x.term → get_or (few_from calls ds) n true ≡ false
      by (a_body d h e) =
          ap (λ (k : ℕ). get_or (few_from calls ds) k true) e
          ∙ body_from ds d h x.term (ap (term_of_defs ds) (sym e) ∙ x.here) ∙ above
      by (a_follower m r e f) =
          ap (λ (k : ℕ). get_or (few_from calls ds) k true) e ∙ follower_from ds m r x.term f ∙ above

pub many_in : (t : Table) (n : ℕ) → ManyAt (branches_at (all_branches t.definitions)) t.definitions n
    → get_or (few_terms t) n true ≡ false
unfolding few_terms
many_in t n x = many_from (branches_at (all_branches t.definitions)) t.definitions n x
