-- Storing nodes one after another: what stands where, and what is kept.
--     Stored                     the words of nodes, from number n on, and nothing else, were stored
--     stored_one, stored_front, stored_append    one; one before others; some after others
--     stored_in, stored_out      of a term's nodes it is TermStored
--     ready_kept, ready_stored   the sets stay where they are
-- Assumes nothing.
use Rattle.std.specs.Prelude.{ℕ, zero, suc, ◌+◌, ◌-◌, ◌<◌, ◌≤◌, ◌≡◌, List, [], ◌∷◌, ◌++◌, length, get_or}
use Rattle.std.proofs.Common.{arith, sym, ap, ◌∙◌, length-append, length-set, get_or-append-add, get_or-set_same, get_or-set_other}
use Rattle.std.proofs.Math.Decide.{dec_lt}
use Rattle.std.proofs.Math.ListN.{get_or-append}
use Rattle.table.specs.declared.terms.Spot.{Spot}
use Rattle.table.specs.declared.terms.Head.{Head}
use Rattle.table.specs.Table.{Term, SetDef}
use Rattle.table.specs.Node.{Node, nodes, no_node}
use Rattle.table.proofs.Node.Laws.{length_nodes}
use Rattle.table_index.specs.Layout.{terms_at, sets_at, bodies_at, widths_at, structure_of}
use Rattle.table_index.specs.Layout.Laws.{structure_fits}
use Rattle.table_index.specs.Index.{packed, word_of, sets_in}
use Rattle.table_index.specs.Index.Sets.{indexed_kept}
use Rattle.table_index.specs.Parse.{WordStored, TermStored, SetsReady}

-- ---- nodes in the work area

pub right_node : (xs ys : List Node) (k : ℕ) → length xs ≤ k → get_or (xs ++ ys) k no_node ≡ get_or ys (k - length xs) no_node
right_node xs ys k h =
    let e : k ≡ length xs + (k - length xs) = omega arith in
    ap (λ (j : ℕ). get_or (xs ++ ys) j no_node) e ∙ get_or-append-add xs ys (k - length xs) no_node

pub record Stored (sets : List SetDef) (n : ℕ) (xs : List Node) (w w' : List ℕ) : Type 0 where
  pub same : length w' ≡ length w
  pub words : (k : ℕ) → k < length xs
      → structure_of (get_or w' (terms_at + (n + k)) 0) ≡ word_of sets (n + k) (get_or xs k no_node)
  pub kept : (x : ℕ) → ((terms_at + n ≤ x) × (x < terms_at + (n + length xs)) → ⊥) → get_or w' x 0 ≡ get_or w x 0

module _ (sets : List SetDef) where
  pub stored_out : (s : Spot) (n i : ℕ) (p : Term) (w w' : List ℕ) → TermStored sets s n i p w w'
      → Stored sets n (nodes s i p) w w'
  stored_out s n i p w w' t =
      let e = length_nodes s i p in
      record {
        same = t.same;
        words = λ k h. t.words k (omega arith);
        kept = λ x a. t.kept x (λ h. a (omega arith));
      }

  pub stored_in : (s : Spot) (n i : ℕ) (p : Term) (w w' : List ℕ) → Stored sets n (nodes s i p) w w'
      → TermStored sets s n i p w w'
  stored_in s n i p w w' t =
      let e = length_nodes s i p in
      record {
        same = t.same;
        words = λ k h. t.words k (omega arith);
        kept = λ x a. t.kept x (λ h. a (omega arith));
      }

  module _ (n right : ℕ) (x : Node) (h : Head) (w w' : List ℕ) (long : length w ≡ 8192) (few : n < 1024)
      (e : WordStored h n right w w')
      (is : packed h.spot h.kind h.parameter right h.target ≡ word_of sets n x) where
    abbrev New : ℕ
    New = packed h.spot h.kind h.parameter right h.target

    word : structure_of (get_or w' (terms_at + n) 0) ≡ word_of sets n x
    word =
        ap structure_of (ap (λ (l : List ℕ). get_or l (terms_at + n) 0) e.written
        ∙ get_or-set_same w (terms_at + n) New 0 (omega arith))
        ∙ structure_fits New e.small ∙ is

    pub stored_one : Stored sets n (x ∷ []) w w'
    stored_one =
        record {
          same = ap length e.written ∙ simp length-set;
          words = λ k b. let z : n + k ≡ n = omega arith in let z' : k ≡ 0 = omega arith in rw (z, z') word;
          kept = λ y a. ap (λ (l : List ℕ). get_or l y 0) e.written
              ∙ get_or-set_other w (terms_at + n) y New 0 (λ b. a (omega arith));
        }

  module _ (n : ℕ) (xs ys : List Node) (w w₁ w' : List ℕ) (few : n + (length xs + length ys) ≤ 1024)
      (a : Stored sets n xs w w₁) (b : Stored sets (n + length xs) ys w₁ w') where
    join_words : (k : ℕ) → k < length xs + length ys → Dec (k < length xs)
        → structure_of (get_or w' (terms_at + (n + k)) 0) ≡ word_of sets (n + k) (get_or (xs ++ ys) k no_node)
    join_words k h (yes c) =
        ap structure_of (b.kept (terms_at + (n + k)) (λ z. omega arith)) ∙ a.words k c
        ∙ ap (word_of sets (n + k)) (sym (get_or-append xs ys no_node k c))
    join_words k h (no c) =
        let le : length xs ≤ k = omega arith in
        let e : n + k ≡ n + length xs + (k - length xs) = omega arith in
        rw (right_node xs ys k le, e) (b.words (k - length xs) (omega arith))

    pub stored_append : Stored sets n (xs ++ ys) w w'
    stored_append =
        let e = length-append xs ys in
        record {
          same = b.same ∙ a.same;
          words = λ k h. join_words k (omega arith) (dec_lt k (length xs));
          kept = λ x p. b.kept x (λ h. p (omega arith)) ∙ a.kept x (λ h. p (omega arith));
        }

  -- the nodes in a term are stored before the term's own
  module _ (n : ℕ) (x : Node) (xs : List Node) (w w₁ w' : List ℕ) (few : n + suc (length xs) ≤ 1024)
      (a : Stored sets (suc n) xs w w₁) (b : Stored sets n (x ∷ []) w₁ w') where
    front_words : (k : ℕ) → k < suc (length xs)
        → structure_of (get_or w' (terms_at + (n + k)) 0) ≡ word_of sets (n + k) (get_or (x ∷ xs) k no_node)
    front_words zero h = b.words 0 (omega arith)
    front_words (suc k) h =
        let e : n + suc k ≡ suc n + k = omega arith in
        rw e (ap structure_of (b.kept (terms_at + (suc n + k)) (λ z. omega arith)) ∙ a.words k (omega arith))

    pub stored_front : Stored sets n (x ∷ xs) w w'
    stored_front =
        record {
          same = b.same ∙ a.same;
          words = front_words;
          kept = λ y p. b.kept y (λ h. p (omega arith)) ∙ a.kept y (λ h. p (omega arith));
        }

-- ---- the sets

module _ (l w w' : List ℕ) (count : ℕ) (ready : SetsReady l w count) (same : length w' ≡ length w)
    (kept : (x : ℕ) → ((terms_at ≤ x) × (x < sets_at) → ⊥) → ((bodies_at ≤ x) × (x < widths_at) → ⊥)
    → get_or w' x 0 ≡ get_or w x 0) where
  pub ready_kept : SetsReady l w' count
  ready_kept =
      record {
        whole = same ∙ ready.whole;
        counted = ready.counted;
        indexed =
            indexed_kept (get_or l 0 0) (sets_in l) w w' (λ i h. kept i (λ z. omega arith) (λ z. omega arith))
            (λ s h. kept (sets_at + s) (λ z. omega arith) (λ z. omega arith)) ready.indexed;
      }

pub ready_stored : (l w w' : List ℕ) (count n : ℕ) (xs : List Node) → SetsReady l w count
    → n + length xs ≤ 1024 → Stored (sets_in l) n xs w w' → SetsReady l w' count
ready_stored l w w' count n xs ready few t =
    ready_kept l w w' count ready t.same (λ x a b. t.kept x (λ h. a (omega arith)))
