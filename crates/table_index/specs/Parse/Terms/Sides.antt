-- How terms with terms in them are read.
--     follower_read, follower_stop   a prefix, by what its follower gave
--     sides_read, sides_stop         a choice or a parallel, by what its sides gave
--     term_prefix, term_choice, term_par, term_no_ref    a term, from these
--     follower_fits, side_fits, beside_fits, sides_ready    what is asked at the calls
-- Assumes nothing.
use Prim.Native.Nat.{ℕ, suc, ◌+◌, ◌-◌, ◌<◌, ◌≤◌}
use native.Mathlib.Omega.{arith}
use Rattle.std.specs.Prelude.{◌≡◌, ◌⊎◌, List, ◌∷◌, ◌++◌, get_or}
use Rattle.std.proofs.Math.Path.{refl, ap}
use Rattle.std.proofs.Common.{◌∙◌, subst, inl, inr, get_or-set_other}
use Rattle.std.proofs.Math.ListN.{length, length-set}
use Rattle.table.specs.declared.answer.Refusal.{Refusal}
use Rattle.table.specs.declared.terms.Spot.{Spot}
use Rattle.table.specs.declared.terms.Head.{Head}
use Rattle.table.specs.declared.terms.TermEnd.{TermEnd}
use Rattle.std.specs.declared.result.Result.{Result}
use Rattle.std.specs.declared.result.Result.TheVariants.{Ok, Err}
use Rattle.table.specs.Table.{SetRef, Term, prefix, choice, par, SetDef, size}
use Rattle.table.specs.Tokens.{tokens_at}
use Rattle.table.specs.Parser.{pure}
use Rattle.table.proofs.Parser.Steps.{then_got, then_stop}
use Rattle.table.specs.Grammar.{set_ref, term_of_kind, term_with}
use Rattle.table.proofs.Grammar.Terms.{term_sound}
use Rattle.table.specs.Writing.{ref_numbers, term_numbers}
use Rattle.table.specs.Node.{node, nodes, kind_of, left_size, ref_of, follower_spot, side_spot, beside_spot}
use Rattle.table_index.specs.Layout.{terms_at}
use Rattle.table_index.specs.Index.{target_of, packed, word_of, sets_in}
use Rattle.table_index.specs.Parse.{SpotFits, HeadFits, Refuses, SetsReady, ReferenceFound, TermStored, TermFound}
use Rattle.table_index.specs.Parse.{WordStored, TermRead}
use Rattle.table_index.specs.Parse.Terms.{TermFoundBy, TermReadBy, Joint, before, either, beside, HeadOf, TwoSided}
use Rattle.table_index.specs.Parse.Terms.{joint_term, follower_of, sides_of}
use Rattle.table_index.specs.Parse.Terms.Stored.{Stored, stored_out, stored_in, stored_one, stored_front}
use Rattle.table.proofs.Node.Laws.{length_nodes}
use Rattle.table_index.specs.Parse.Terms.Stored.{stored_append, ready_kept, ready_stored}
use Rattle.table_index.specs.Parse.Terms.Reference.{follows_place, ref_place}
use Rattle.table_index.specs.Parse.Terms.Kind.{read_then, read_then_stop, term_kind, head_at, head_word}

-- ---- terms with terms in them

module _ (sets : List SetDef) (l : List ℕ) (n n₁ from deep : ℕ) (next : n₁ ≡ suc n) (f : Refusal)
    (x : Refuses (term_with sets deep n₁ (tokens_at l from)) f) where
  pub follower_stop : (r : SetRef) → Refuses (follower_of sets deep n r (tokens_at l from)) f
  unfolding follower_of
  follower_stop r = then_stop _ _ _ (rw next at x)

  pub sides_stop : (g : Joint) → Refuses (sides_of sets deep n g (tokens_at l from)) f
  unfolding sides_of
  sides_stop g = then_stop _ _ _ (rw next at x)

-- the first term in a joint's term was read, and then the term's own word was stored
module _ (sets : List SetDef) (l : List ℕ) (h : Head) (i : ℕ) (inner : Spot) (n n₁ from deep : ℕ) (w w₁ : List ℕ)
    (few : n < 1024) (long : length w ≡ 8192) (next : n₁ ≡ suc n) where
  module _ (j m : ℕ) (x : TermFound sets l inner deep n₁ from w w₁ j m) (right : ℕ) (w₂ : List ℕ)
      (e : WordStored h n right w₁ w₂) where
    -- p is the whole term, of which the first part stands now
    first_stored : (p : Term) → packed h.spot h.kind h.parameter right h.target
        ≡ word_of sets n (node h.spot i p)
        → Stored sets n (node h.spot i p ∷ nodes inner from x.term) w w₂
    first_stored p word =
        let t = stored_out sets inner n₁ from x.term w w₁ x.stored in
        let sized = length_nodes inner from x.term in
        let c = x.counted in
        let b = x.few in
        let same' = t.same in
        stored_front sets n (node h.spot i p) (nodes inner from x.term) w w₁ w₂ (omega arith)
        (subst (λ (k : ℕ). Stored sets k (nodes inner from x.term) w w₁) next t)
        (stored_one sets n right (node h.spot i p) h w₁ w₂ (same' ∙ long) few e word)

    pub follower_read : right ≡ n + 1 → inner ≡ follower_spot h.spot → (r : SetRef)
        → HeadOf sets h i (follower_spot h.spot) from (before r)
        → TermFoundBy (follower_of sets deep n r) sets l h.spot n i from w w₂ j m
    unfolding follower_of pure nodes size kind_of ref_of left_size target_of
    follower_read at_right is r o =
        let q = x.term in
        let c = x.counted in
        let word = head_word sets h n right i (prefix r q) o.kind o.parameter (omega arith) o.target in
        record {
          term = prefix r q;
          parsed = then_got _ _ _ (rw next at x.parsed) refl;
          counted = omega arith;
          few = x.few;
          stored = stored_in sets h.spot n i (prefix r q) w w₂
              (rw (← o.place, ← is) (first_stored (prefix r q) word));
          within = x.within;
        }

    -- the place after the first term
    first_place : j ≡ from + length (term_numbers x.term)
    first_place =
        follows_place l (term_numbers x.term) from j
        (term_sound sets deep n₁ (tokens_at l from) (tokens_at l j) x.term x.parsed).follows

    both_stored : (p q : Term) (w₃ : List ℕ) → m + size q ≤ 1024
        → packed h.spot h.kind h.parameter right h.target ≡ word_of sets n (node h.spot i p)
        → TermStored sets inner m j q w₂ w₃
        → Stored sets n
        (node h.spot i p
        ∷ (nodes inner from x.term ++ nodes inner (from + length (term_numbers x.term)) q)) w w₃
    both_stored p q w₃ b word t =
        let front = node h.spot i p ∷ nodes inner from x.term in
        let at' = from + length (term_numbers x.term) in
        let sized = length_nodes inner from x.term in
        let sized' = length_nodes inner at' q in
        let c = x.counted in
        let z : m ≡ n + suc (length (nodes inner from x.term)) = omega arith in
        let back = stored_out sets inner m j q w₂ w₃ t in
        stored_append sets n front (nodes inner at' q) w w₂ w₃ (omega arith) (first_stored p word)
        (subst (λ (k : ℕ). Stored sets k (nodes inner at' q) w₂ w₃) z
        (subst (λ (k : ℕ). Stored sets m (nodes inner k q) w₂ w₃) first_place back))

    module _ (at_right : right ≡ m) (w₃ : List ℕ) where
      sides_term : (g : Joint) → TwoSided g → HeadOf sets h i inner from g → (q : Term) → m + size q ≤ 1024
          → TermStored sets inner m j q w₂ w₃ → TermStored sets h.spot n i (joint_term g x.term q) w w₃
      unfolding nodes size kind_of ref_of left_size target_of
      sides_term (before r) y o q b t = absurd y
      sides_term either y o q b t =
          let c = x.counted in
          let z : suc i ≡ from = let f = o.place in omega arith in
          let word =
          head_word sets h n right i (choice x.term q) o.kind o.parameter (omega arith) o.target
          in
          stored_in sets h.spot n i (choice x.term q) w w₃
          (rw (z, ← o.spot) (both_stored (choice x.term q) q w₃ b word t))
      sides_term (beside r) y o q b t =
          let c = x.counted in
          let word =
          head_word sets h n right i (par r x.term q) o.kind o.parameter (omega arith) o.target
          in
          stored_in sets h.spot n i (par r x.term q) w w₃
          (rw (← o.place, ← o.spot) (both_stored (par r x.term q) q w₃ b word t))

      joint_size : (g : Joint) → TwoSided g → (p q : Term) → size (joint_term g p q) ≡ suc (size p + size q)
      unfolding size
      joint_size (before r) y p q = absurd y
      joint_size either y p q = refl
      joint_size (beside r) y p q = refl

      pub sides_read : (res : Result TermEnd Refusal) → TermRead sets l inner deep m j w₂ w₃ res → (g : Joint) → TwoSided g
          → HeadOf sets h i inner from g → TermReadBy (sides_of sets deep n g) sets l h.spot n i from w w₃ res
      unfolding sides_of pure
      sides_read (Ok _) t g y o =
          let c = x.counted in
          let z : m ≡ suc n + size x.term = omega arith in
          let c' = t.counted in
          let b' = t.few in
          let sized = joint_size g y x.term t.term in
          record {
            term = joint_term g x.term t.term;
            parsed = then_got _ _ _ (rw next at x.parsed) (then_got _ _ _ (rw z at t.parsed) refl);
            counted = omega arith;
            few = t.few;
            stored = sides_term g y o t.term (omega arith) t.stored;
            within = t.within;
          }
      sides_read (Err f) t g y o =
          let c = x.counted in
          let z : m ≡ suc n + size x.term = omega arith in (
            then_got _ _ _ (rw next at x.parsed) (then_stop _ _ _ (rw z at t.0)),
            t.1 ∙ ap length e.written ∙ simp length-set x.stored.same,
          )

-- ---- by kind, from what was read after it

module _ (sets : List SetDef) (l : List ℕ) (s : Spot) (n i deep : ℕ) (w w' : List ℕ) (few : n < 1024)
    (some : deep ≡ 0 → ⊥) (inside : i < length l) where
  pub term_choice : (at : ℕ) (inner : Spot) (res : Result TermEnd Refusal) → get_or l i 0 ≡ 3 → at ≡ i + 1 → inner ≡ side_spot s
      → ((g : Joint) → TwoSided g → HeadOf sets (head_at 3 0 0 s) i inner at g
      → TermReadBy (sides_of sets (deep - 1) n g) sets l s n i at w w' res)
      → TermRead sets l s deep n i w w' res
  unfolding term_of_kind sides_of
  term_choice at inner res k e is h =
      let head : HeadOf sets (head_at 3 0 0 s) i inner at either =
      record { kind = refl; parameter = refl; target = refl; spot = is; place = omega arith } in
      term_kind sets l s n i w deep (deep - 1) 3 w' res inside (omega arith) few k (omega arith)
      (rw (← e) (h either tt head))

  module _ (at : ℕ) (e : at ≡ i + 1) where
    pub term_no_ref : (r : Refusal) → (get_or l i 0 ≡ 2) ⊎ (get_or l i 0 ≡ 4) → Refuses (set_ref sets (tokens_at l at)) r
        → Refuses (term_with sets deep n (tokens_at l i)) r
    unfolding term_of_kind
    term_no_ref r (inl k) h =
        (term_kind sets l s n i w deep (deep - 1) 2 w (Err r) inside (omega arith) few k (omega arith)
        (rw (← e) (read_then_stop _ _ sets l s n i at w w r h refl))).0
    term_no_ref r (inr k) h =
        (term_kind sets l s n i w deep (deep - 1) 4 w (Err r) inside (omega arith) few k (omega arith)
        (rw (← e) (read_then_stop _ _ sets l s n i at w w r h refl))).0

    module _ (t p j : ℕ) (f : ReferenceFound sets l at t p j) (res : Result TermEnd Refusal) where
      ref_end : j ≡ suc i + length (ref_numbers f.reference)
      ref_end = let z = ref_place sets l at t p j f in omega arith

      pub term_prefix : get_or l i 0 ≡ 2
          → ((r : SetRef) → HeadOf sets (head_at 2 p t s) i (follower_spot s) j (before r)
          → TermReadBy (follower_of sets (deep - 1) n r) sets l s n i j w w' res)
          → TermRead sets l s deep n i w w' res
      unfolding term_of_kind follower_of
      term_prefix k h =
          let r = f.reference in
          let head : HeadOf sets (head_at 2 p t s) i (follower_spot s) j (before r) =
          record { kind = refl; parameter = f.digit; target = f.row; spot = refl; place = ref_end } in
          term_kind sets l s n i w deep (deep - 1) 2 w' res inside (omega arith) few k (omega arith)
          (rw (← e) (read_then _ _ sets l s n i at w w' res r j f.parsed (h r head)))

      pub term_par : (inner : Spot) → get_or l i 0 ≡ 4 → inner ≡ beside_spot s
          → ((g : Joint) → TwoSided g → HeadOf sets (head_at 4 p t s) i inner j g
          → TermReadBy (sides_of sets (deep - 1) n g) sets l s n i j w w' res)
          → TermRead sets l s deep n i w w' res
      unfolding term_of_kind sides_of
      term_par inner k is h =
          let r = f.reference in
          let head : HeadOf sets (head_at 4 p t s) i inner j (beside r) =
          record { kind = refl; parameter = f.digit; target = f.row; spot = is; place = ref_end } in
          term_kind sets l s n i w deep (deep - 1) 4 w' res inside (omega arith) few k (omega arith)
          (rw (← e) (read_then _ _ sets l s n i at w w' res r j f.parsed (h (beside r) tt head)))

-- ---- what is asked of the calls

pub follower_fits : (h : Head) (r : Spot) (deep : ℕ) → r ≡ follower_spot h.spot → HeadFits h
    → h.spot.prefixes + deep < 32 → SpotFits r deep
follower_fits h r deep e f b =
    rw e (record { shallow = omega arith; parallel = f.parallel; entry = omega arith; own = f.own })

pub side_fits : (s r : Spot) (deep : ℕ) → (deep ≡ 0 → ⊥) → r ≡ side_spot s → SpotFits s deep → SpotFits r (deep - 1)
side_fits s r deep d e f =
    let b = f.shallow in
    rw e (record { shallow = omega arith; parallel = f.parallel; entry = omega arith; own = f.own })

pub beside_fits : (s r : Spot) (deep : ℕ) → (deep ≡ 0 → ⊥) → r ≡ beside_spot s → SpotFits s deep
    → SpotFits r (deep - 1)
beside_fits s r deep d e f =
    let b = f.shallow in
    rw e (record { shallow = omega arith; parallel = omega arith; entry = omega arith; own = f.own })

-- the sets, after a side and the word of its term
pub sides_ready : (l w w₁ w₂ : List ℕ) (count : ℕ) (s : Spot) (deep n n₁ i j m : ℕ) (h : Head) → SetsReady l w count
    → n < 1024 → TermFound (sets_in l) l s deep n₁ i w w₁ j m
    → WordStored h n m w₁ w₂ → SetsReady l w₂ count
sides_ready l w w₁ w₂ count s deep n n₁ i j m h ready few x e =
    let t = stored_out (sets_in l) s n₁ i x.term w w₁ x.stored in
    let sized = length_nodes s i x.term in
    let c = x.counted in
    let f = x.few in
    let a = packed h.spot h.kind h.parameter m h.target in
    ready_kept l w₁ w₂ count (ready_stored l w w₁ count n₁ (nodes s i x.term) ready (omega arith) t)
    (ap length e.written ∙ simp length-set)
    (λ y p q. ap (λ (v : List ℕ). get_or v y 0) e.written
    ∙ get_or-set_other w₁ (terms_at + n) y a 0 (λ h. p (omega arith)))
