-- How a term is read by its kind, and terms without terms in them.
--     read_then, read_then_stop      a parser in two parts, at places of a list
--     term_short, term_deep, term_many, term_unknown    why there is no term
--     term_kind                      a term, from what stands after its kind
--     head_fits, head_word           a term's own word
--     term_stop, term_fail, term_call, call_read, call_short    terms without terms in them
-- Assumes nothing.
use Prim.Native.Nat.{ℕ, zero, suc, ◌+◌, ◌-◌, ◌<◌, ◌≤◌}
use native.Mathlib.Omega.{arith}
use Rattle.std.specs.Prelude.{◌≡◌, Bool, true, false, ◌&&◌, List, [], ◌∷◌, length, get_or, ltb}
use Rattle.std.proofs.Math.Path.{refl}
use Rattle.std.proofs.Common.{sym, ap, ◌∙◌, subst, lt-ltb, le-ltb}
use Rattle.table.specs.declared.answer.Refusal.{Refusal}
use Rattle.table.specs.declared.terms.Spot.{Spot}
use Rattle.table.specs.declared.terms.Head.{Head}
use Rattle.table.specs.declared.terms.TermEnd.{TermEnd}
use Rattle.std.specs.declared.result.Result.{Result}
use Rattle.std.specs.declared.result.Result.TheVariants.{Ok, Err}
use Rattle.table.specs.Table.{Term, stop, fail, call, SetDef}
use Rattle.table.specs.Tokens.{tokens_at}
use Rattle.table.specs.Parser.{Parser, got, number, pure, and_then}
use Rattle.table.proofs.Parser.Steps.{number_got, number_off, number_short, then_got, then_stop}
use Rattle.table.specs.Grammar.{term_of_kind, term_with}
use Rattle.table.specs.Node.{node, nodes, kind_of, left_size, ref_of, parameter_of}
use Rattle.table_index.specs.Index.{target_of, packed, word_of}
use Rattle.table_index.specs.Layout.{targets}
use Rattle.table_index.specs.Parse.{SpotFits, HeadFits, Refuses, WordStored, TermRead}
use Rattle.table_index.specs.Parse.Terms.{TermFoundBy, TermReadBy, LeafRead, call_rest}
use Rattle.table.proofs.Node.Laws.{length_nodes}
use Rattle.table_index.specs.Parse.Terms.Stored.{stored_in, stored_one}

-- ---- a parser in two parts

module _ {A : Type 0} (p : Parser A) (f : A → Parser Term) (sets : List SetDef) (l : List ℕ) (s : Spot) (n i from : ℕ)
    (w w' : List ℕ) where
  pub read_then : (r : Result TermEnd Refusal) (a : A) (mid : ℕ) → p (tokens_at l from) ≡ got a (tokens_at l mid)
      → TermReadBy (f a) sets l s n i mid w w' r → TermReadBy (and_then p f) sets l s n i from w w' r
  read_then (Ok _) a mid e h =
      record {
        term = h.term;
        parsed = then_got p f (tokens_at l from) e h.parsed;
        counted = h.counted;
        few = h.few;
        stored = h.stored;
        within = h.within;
      }
  read_then (Err r) a mid e h = (then_got p f (tokens_at l from) e h.0, h.1)

  pub read_then_stop : (r : Refusal) → Refuses (p (tokens_at l from)) r → length w' ≡ length w
      → TermReadBy (and_then p f) sets l s n i from w w' (Err r)
  read_then_stop r e h = (then_stop p f (tokens_at l from) e, h)

-- ---- a term, by its kind

module _ (sets : List SetDef) (l : List ℕ) (n i : ℕ) where
  pub term_short : (deep : ℕ) (r : Refusal) → length l ≤ i → i ≤ length l → r.number ≡ 3 → r.place ≡ length l
      → Refuses (term_with sets deep n (tokens_at l i)) r
  unfolding term_with
  term_short zero r a b e f =
      let g : r.place ≡ i = omega arith in
      rw (e, g) (then_stop _ _ _ (number_short _ l i (omega arith)))
  term_short (suc deep) r a b e f =
      let g : r.place ≡ i = omega arith in
      rw (e, g) (then_stop _ _ _ (number_short _ l i (omega arith)))

  pub term_deep : (deep : ℕ) (r : Refusal) → i < length l → deep ≡ 0 → r.number ≡ 5 → r.place ≡ i
      → Refuses (term_with sets deep n (tokens_at l i)) r
  unfolding term_with
  term_deep deep r a d e f = rw (d, e, f) (then_stop _ _ _ (number_off _ l i a refl))

  and_false : (x : Bool) → (x && false) ≡ false
  and_false true = refl
  and_false false = refl

  pub term_many : (deep : ℕ) (r : Refusal) → i < length l → (deep ≡ 0 → ⊥) → 1024 ≤ n → r.number ≡ 5 → r.place ≡ i
      → Refuses (term_with sets deep n (tokens_at l i)) r
  unfolding term_with
  term_many zero r a d h e f = absurd (d refl)
  term_many (suc deep) r a d h e f =
      rw (e, f) (then_stop _ _ _ (number_off _ l i a (rw (le-ltb n 1024 h) (and_false (ltb (get_or l i 0) 6)))))

  pub term_unknown : (deep : ℕ) (r : Refusal) → i < length l → (deep ≡ 0 → ⊥) → 6 ≤ get_or l i 0 → r.number ≡ 5
      → r.place ≡ i → Refuses (term_with sets deep n (tokens_at l i)) r
  unfolding term_with
  term_unknown zero r a d h e f = absurd (d refl)
  term_unknown (suc deep) r a d h e f =
      rw (e, f) (then_stop _ _ _ (number_off _ l i a (rw (le-ltb (get_or l i 0) 6 h) refl)))

kind_test : (k m : ℕ) → k < 6 → m < 1024 → (ltb k 6 && ltb m 1024) ≡ true
kind_test k m a b = rw (lt-ltb k 6 a, lt-ltb m 1024 b) refl

module _ (sets : List SetDef) (l : List ℕ) (s : Spot) (n i : ℕ) (w : List ℕ) where
  pub term_kind : (deep deep' k : ℕ) (w' : List ℕ) (r : Result TermEnd Refusal) → i < length l → deep ≡ suc deep' → n < 1024
      → get_or l i 0 ≡ k → k < 6
      → TermReadBy (term_of_kind sets n (λ m. term_with sets deep' m) k) sets l s n i (i + 1) w w' r
      → TermRead sets l s deep n i w w' r
  term_kind deep deep' k w' r a d few e b h = rw d (go r (read_then _ _ sets l s n i i w w' r k (i + 1) kind_got h))
    where
      kind_got : number (λ k. ltb k 6 && ltb n 1024) (tokens_at l i) ≡ got k (tokens_at l (i + 1))
      kind_got = rw (← e) (number_got _ l i a (kind_test (get_or l i 0) n (omega arith) few))

      go : (r : Result TermEnd Refusal)
          → TermReadBy (and_then (number (λ k. ltb k 6 && ltb n 1024)) (term_of_kind sets n (λ m. term_with sets deep' m)))
          sets l s n i i w w' r
          → TermRead sets l s (suc deep') n i w w' r
      go (Ok e) x =
          record {
            term = x.term;
            parsed = unfold term_with in x.parsed;
            counted = x.counted;
            few = x.few;
            stored = x.stored;
            within = x.within;
          }
      go (Err r) x = (unfold term_with in x.0, x.1)

-- ---- a term's own word

abbrev pub head_at : ℕ → ℕ → ℕ → Spot → Head
head_at kind p t s = record { kind = kind; parameter = p; target = t; spot = s }

pub head_fits : (kind p t : ℕ) (s : Spot) (deep : ℕ) → kind ≤ 5 → p ≤ 4 → t < targets → SpotFits s deep
    → HeadFits (head_at kind p t s)
head_fits kind p t s deep a b c f =
    let d = f.shallow in
    record {
      kind = a;
      parameter = b;
      target = c;
      parallel = f.parallel;
      entry = f.entry;
      prefixes = omega arith;
      own = f.own;
    }

pub head_word : (sets : List SetDef) (h : Head) (n right i : ℕ) (p : Term) → h.kind ≡ kind_of p
    → h.parameter ≡ parameter_of (ref_of p) → right ≡ n + 1 + left_size p → h.target ≡ target_of sets p
    → packed h.spot h.kind h.parameter right h.target ≡ word_of sets n (node h.spot i p)
unfolding word_of
head_word sets h n right i p a b c d = rw (a, b, c, d) refl

-- ---- terms without terms in them

module _ (sets : List SetDef) (l : List ℕ) (h : Head) (i n from next : ℕ) (w w' : List ℕ) (few : n < 1024)
    (long : length w ≡ 8192) (small : next ≤ length l) where
  leaf_found : (q : Parser Term) (p : Term) → q (tokens_at l from) ≡ got p (tokens_at l next)
      → nodes h.spot i p ≡ node h.spot i p ∷ []
      → packed h.spot h.kind h.parameter (n + 1) h.target ≡ word_of sets n (node h.spot i p)
      → WordStored h n (n + 1) w w'
      → TermFoundBy q sets l h.spot n i from w w' next (n + 1)
  leaf_found q p parsed' only word e =
      let sized = sym (length_nodes h.spot i p) ∙ ap length only in
      record {
        term = p;
        parsed = parsed';
        counted = omega arith;
        few = omega arith;
        stored = stored_in sets h.spot n i p w w'
            (rw only (stored_one sets n (n + 1) (node h.spot i p) h w w' long few e word));
        within = small;
      }

  leaf_read : (q : Parser Term) (p : Term) (r : Result TermEnd Refusal) → q (tokens_at l from) ≡ got p (tokens_at l next)
      → nodes h.spot i p ≡ node h.spot i p ∷ []
      → packed h.spot h.kind h.parameter (n + 1) h.target ≡ word_of sets n (node h.spot i p)
      → LeafRead h n next w w' r → TermReadBy q sets l h.spot n i from w w' r
  leaf_read q p r parsed' only word x =
      subst (λ (r : Result TermEnd Refusal). TermReadBy q sets l h.spot n i from w w' r) (sym x.answer)
      (leaf_found q p parsed' only word x.stored)

module _ (sets : List SetDef) (l : List ℕ) (s : Spot) (n i : ℕ) (w w' : List ℕ) (few : n < 1024)
    (long : length w ≡ 8192) (inside : i < length l) (r : Result TermEnd Refusal) where
  pub term_stop : (deep : ℕ) → (deep ≡ 0 → ⊥) → get_or l i 0 ≡ 0
      → LeafRead (head_at 0 0 0 s) n (i + 1) w w' r → TermRead sets l s deep n i w w' r
  unfolding term_of_kind pure nodes kind_of ref_of left_size target_of
  term_stop deep d e x =
      term_kind sets l s n i w deep (deep - 1) 0 w' r inside (omega arith) few e (omega arith)
      (leaf_read sets l (head_at 0 0 0 s) i n (i + 1) (i + 1) w w' few long (omega arith) _ stop r refl refl
      (head_word sets (head_at 0 0 0 s) n (n + 1) i stop refl refl (omega arith) refl) x)

  pub term_fail : (deep : ℕ) → (deep ≡ 0 → ⊥) → get_or l i 0 ≡ 1
      → LeafRead (head_at 1 0 0 s) n (i + 1) w w' r → TermRead sets l s deep n i w w' r
  unfolding term_of_kind pure nodes kind_of ref_of left_size target_of
  term_fail deep d e x =
      term_kind sets l s n i w deep (deep - 1) 1 w' r inside (omega arith) few e (omega arith)
      (leaf_read sets l (head_at 1 0 0 s) i n (i + 1) (i + 1) w w' few long (omega arith) _ fail r refl refl
      (head_word sets (head_at 1 0 0 s) n (n + 1) i fail refl refl (omega arith) refl) x)

  pub term_call : (deep : ℕ) → (deep ≡ 0 → ⊥) → get_or l i 0 ≡ 5
      → TermReadBy call_rest sets l s n i (i + 1) w w' r → TermRead sets l s deep n i w w' r
  unfolding term_of_kind call_rest
  term_call deep d e x =
      term_kind sets l s n i w deep (deep - 1) 5 w' r inside (omega arith) few e (omega arith) x

  pub call_read : (p d : ℕ) → p ≡ i + 1 → p < length l → d ≡ get_or l p 0
      → LeafRead (head_at 5 0 d s) n (p + 1) w w' r → TermReadBy call_rest sets l s n i (i + 1) w w' r
  unfolding call_rest pure nodes kind_of ref_of left_size target_of
  call_read p d e a f x =
      rw (← e)
      (leaf_read sets l (head_at 5 0 d s) i n p (p + 1) w w' few long (omega arith) _ (call d) r
      (rw f (then_got _ _ _ (number_got _ l p a refl) refl)) refl
      (head_word sets (head_at 5 0 d s) n (n + 1) i (call d) refl refl (omega arith) refl) x)

pub call_short : (l : List ℕ) (i : ℕ) (r : Refusal) → i < length l → length l ≤ i + 1 → r.number ≡ 3
    → r.place ≡ length l → Refuses (call_rest (tokens_at l (i + 1))) r
unfolding call_rest
call_short l i r a b e f =
    let g : r.place ≡ i + 1 = omega arith in
    rw (e, g) (then_stop _ _ _ (number_short _ l (i + 1) (omega arith)))
