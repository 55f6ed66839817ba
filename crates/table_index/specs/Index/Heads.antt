-- Where each term's kind stands among the numbers, from the terms before it: no word of the index holds a place.
--     head_length               how many numbers a term has before those of the terms in it
--     heads_before              where the definitions start, and that many numbers for each term before n
--     heads_first, heads_next   no term before; one more
--     place_is                  the place of term n: a level for each definition up to its own stands before it too
--     length_family, -leaf, -choice, -two    head_length, by what a term's word says
--     head_inside               a term's head is within its numbers
-- Assumes nothing.
use Rattle.std.specs.Prelude.{ℕ, zero, suc, ◌+◌, ◌<◌, ◌≤◌, ◌≡◌, refl, List, [], ◌∷◌, ◌++◌, length, get_or}
use Rattle.std.proofs.Common.{arith, add-one, sym, subst, length-append}
use Rattle.table.specs.declared.terms.Spot.{Spot}
use Rattle.table.specs.Table.{fixed, family, Term, stop, fail, prefix, choice, par, call}
use Rattle.table.specs.Table.{Definition, Table, term_count}
use Rattle.table.specs.Writing.{ref_numbers, term_numbers, definition_numbers}
use Rattle.table.specs.Node.{Node, nodes, definition_nodes, nodes_of, node_at, term_of, no_node, definitions_at, kind_of}
use Rattle.table.specs.Node.{ref_of, parameter_of, body_spot, follower_spot, side_spot, beside_spot}
use Rattle.table.proofs.Node.Laws.{length_nodes_of}

unfoldable pub head_length : Term → ℕ
head_length stop = 1
head_length fail = 1
head_length (prefix r p) = suc (length (ref_numbers r))
head_length (choice p q) = 1
head_length (par r p q) = suc (length (ref_numbers r))
head_length (call d) = 2

heads : ℕ → List Node → ℕ → ℕ
heads i xs zero = i
heads i [] (suc n) = i
heads i (x ∷ xs) (suc n) = heads (i + head_length x.term) xs n

pub heads_before : Table → ℕ → ℕ
heads_before t n = heads (definitions_at t) (nodes_of t) n

-- ---- the places of nodes one after another

-- i numbers of starts and heads stand before the first, j before what comes after them
abbrev Runs : ℕ → List Node → ℕ → Type 0
Runs i [] j = i ≡ j
Runs i (x ∷ xs) j = (x.place ≡ i + x.spot.own + 1) × Runs (i + head_length x.term) xs j

runs_append : (i j k : ℕ) (xs ys : List Node) → Runs i xs j → Runs j ys k → Runs i (xs ++ ys) k
runs_append i j k [] ys a b = subst (λ (m : ℕ). Runs m ys k) (sym a) b
runs_append i j k (x ∷ xs) ys a b = (a.0, runs_append (i + head_length x.term) j k xs ys a.1 b)

runs_nodes : (s : Spot) (i at j : ℕ) (p : Term) → at ≡ i + s.own + 1 → j ≡ i + length (term_numbers p)
    → Runs i (nodes s at p) j
unfolding nodes head_length term_numbers
runs_nodes s i at j stop e f = (e, sym f)
runs_nodes s i at j fail e f = (e, sym f)
runs_nodes s i at j (prefix r p) e f =
    let n = length-append (ref_numbers r) (term_numbers p) in
    let i' = i + suc (length (ref_numbers r)) in
    (e, runs_nodes (follower_spot s) i' (suc at + length (ref_numbers r)) j p (omega arith) (omega arith))
runs_nodes s i at j (choice p q) e f =
    let n = length-append (term_numbers p) (term_numbers q) in
    let at' = suc at + length (term_numbers p) in
    let k = i + 1 + length (term_numbers p) in (
      e,
      runs_append (i + 1) k j (nodes (side_spot s) (suc at) p) (nodes (side_spot s) at' q)
          (runs_nodes (side_spot s) (i + 1) (suc at) k p (omega arith) refl)
          (runs_nodes (side_spot s) k at' j q (omega arith) (omega arith)),
    )
runs_nodes s i at j (par r p q) e f =
    let n = length-append (term_numbers p) (term_numbers q) in
    let m = length-append (ref_numbers r) (term_numbers p ++ term_numbers q) in
    let i' = i + suc (length (ref_numbers r)) in
    let left = suc at + length (ref_numbers r) in
    let right = left + length (term_numbers p) in
    let k = i' + length (term_numbers p) in (
      e,
      runs_append i' k j (nodes (beside_spot s) left p) (nodes (beside_spot s) right q)
          (runs_nodes (beside_spot s) i' left k p (omega arith) refl)
          (runs_nodes (beside_spot s) k right j q (omega arith) (omega arith)),
    )
runs_nodes s i at j (call d) e f = (e, sym f)

runs_from : (own at i : ℕ) (ds : List Definition) → at ≡ i + own → (j : ℕ) × Runs i (definition_nodes own at ds) j
unfolding definition_nodes definition_numbers
runs_from own at i [] e = (i, refl)
runs_from own at i (d ∷ ds) e =
    let k = i + length (term_numbers d.body) in
    let (j, r) = runs_from (suc own) (at + length (definition_numbers d)) k ds (omega arith) in (
      j,
      runs_append i k j (nodes (body_spot own) (suc at) d.body)
          (definition_nodes (suc own) (at + length (definition_numbers d)) ds)
          (runs_nodes (body_spot own) i (suc at) k d.body (omega arith) refl) r,
    )

-- ---- one of them

place_run : (i j n : ℕ) (xs : List Node) → Runs i xs j → n < length xs
    → (get_or xs n no_node).place ≡ heads i xs n + (get_or xs n no_node).spot.own + 1
unfolding heads
place_run i j n [] r h = absurd (omega arith)
place_run i j zero (x ∷ xs) r h = r.0
place_run i j (suc n) (x ∷ xs) r h = place_run (i + head_length x.term) j n xs r.1 (omega arith)

heads_step : (i n : ℕ) (xs : List Node) → n < length xs
    → heads i xs (suc n) ≡ heads i xs n + head_length (get_or xs n no_node).term
unfolding heads
heads_step i n [] h = absurd (omega arith)
heads_step i zero (x ∷ xs) h = refl
heads_step i (suc n) (x ∷ xs) h = heads_step (i + head_length x.term) n xs (omega arith)

pub heads_first : (t : Table) → heads_before t 0 ≡ definitions_at t
unfolding heads_before heads
heads_first t = refl

module _ (t : Table) (n : ℕ) (h : n < term_count t) where
  pub heads_next : heads_before t (n + 1) ≡ heads_before t n + head_length (term_of t n)
  unfolding heads_before term_of node_at
  heads_next = rw (add-one n) (heads_step (definitions_at t) n (nodes_of t) (omega (arith, length_nodes_of t)))

  pub place_is : (node_at t n).place ≡ heads_before t n + (node_at t n).spot.own + 1
  unfolding heads_before node_at nodes_of
  place_is =
      let at = definitions_at t in
      let (j, r) = runs_from 0 at at t.definitions (omega arith) in
      place_run at j n (definition_nodes 0 at t.definitions) r (omega (arith, length_nodes_of t))

-- ---- by what the word says

pub length_family : (p : Term) → 0 < parameter_of (ref_of p) → 3 ≡ head_length p
unfolding ref_of head_length ref_numbers
length_family stop h = absurd (omega arith)
length_family fail h = absurd (omega arith)
length_family (prefix (fixed s) p) h = absurd (omega arith)
length_family (prefix (family s k) p) h = refl
length_family (choice p q) h = absurd (omega arith)
length_family (par (fixed s) p q) h = absurd (omega arith)
length_family (par (family s k) p q) h = refl
length_family (call d) h = absurd (omega arith)

pub length_leaf : (p : Term) → kind_of p < 2 → 1 ≡ head_length p
unfolding kind_of head_length
length_leaf stop h = refl
length_leaf fail h = refl
length_leaf (prefix r p) h = absurd (omega arith)
length_leaf (choice p q) h = absurd (omega arith)
length_leaf (par r p q) h = absurd (omega arith)
length_leaf (call d) h = absurd (omega arith)

pub length_choice : (p : Term) → kind_of p ≡ 3 → 1 ≡ head_length p
unfolding kind_of head_length
length_choice stop h = absurd (omega arith)
length_choice fail h = absurd (omega arith)
length_choice (prefix r p) h = absurd (omega arith)
length_choice (choice p q) h = refl
length_choice (par r p q) h = absurd (omega arith)
length_choice (call d) h = absurd (omega arith)

pub length_two : (p : Term) → parameter_of (ref_of p) ≤ 0 → 2 ≤ kind_of p → (kind_of p ≡ 3 → ⊥) → 2 ≡ head_length p
unfolding kind_of ref_of head_length ref_numbers
length_two stop h k o = absurd (omega arith)
length_two fail h k o = absurd (omega arith)
length_two (prefix (fixed s) p) h k o = refl
length_two (prefix (family s i) p) h k o = absurd (omega arith)
length_two (choice p q) h k o = absurd (o refl)
length_two (par (fixed s) p q) h k o = refl
length_two (par (family s i) p q) h k o = absurd (omega arith)
length_two (call d) h k o = refl

pub head_inside : (p : Term) → head_length p ≤ length (term_numbers p)
unfolding head_length term_numbers
head_inside stop = omega arith
head_inside fail = omega arith
head_inside (prefix r p) = let n = length-append (ref_numbers r) (term_numbers p) in omega arith
head_inside (choice p q) = omega arith
head_inside (par r p q) = let n = length-append (ref_numbers r) (term_numbers p ++ term_numbers q) in omega arith
head_inside (call d) = omega arith
