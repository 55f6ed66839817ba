-- The first body or follower with more than 256 branches is the first node that does not pass its test.
--     excess_entry, excess_other       the test, by the node's words
--     excess_first, excess_none        the first node that exceeds; none does
--     excess_broken, excess_nowhere    what `first_excess` answers
-- Assumes nothing.
use Prim.Native.Nat.{ℕ, suc, ◌+◌, ◌≤◌, ◌<◌, min}
use Rattle.std.proofs.Common.{arith, ◌∙◌}
use Rattle.std.proofs.Math.Decide.{dec_lt, dec_le}
use Rattle.std.specs.Prelude.{◌≡◌, Bool, true, false, not, get_or, leb}
use Rattle.std.proofs.Math.Path.{refl, sym, ap, ap₂}
use mathlib.Core.List.{List, [], ◌∷◌, ◌++◌, map, map-append}
use Rattle.std.proofs.Math.Option.{none, some}
use Rattle.std.proofs.Math.ListN.{length, get_or-map, get_or-eq_default}
use Rattle.std.proofs.lemmas.List.{length-map}
use Rattle.std.proofs.Math.Dec.{ltb}
use borrow.Author.Tests.{eq-eqb, ne_eqb, le-leb, lt-leb, lt-ltb, le-ltb, not-true, not-false}
use Rattle.std.specs.declared.option.Option.TheVariants.{Some, None}
use Rattle.table.specs.declared.terms.Spot.{Spot}
use Rattle.table.specs.First.{or_else, unless, first_false}
use Rattle.table.proofs.FirstLaws.{or_else_assoc, first_false_append, first_in, pass_in}
use Rattle.table.specs.Table.{Term, stop, fail, prefix, choice, par, call, Definition, Table, size, term_count}
use Rattle.table.specs.Fields.{Fields}
use Rattle.table.specs.Writing.{ref_numbers, term_numbers, definition_numbers}
use Rattle.table.specs.Branches.{branches_with, branches_at, all_branches, branches}
use Rattle.table.specs.Branches.{follower_above, body_above, too_many_branches}
use Rattle.table.specs.Branches.Capped.{capped}
use Rattle.table.specs.Node.{Node, node, nodes, definition_nodes, nodes_of, definitions_at, node_at, no_node, term_of}
use Rattle.table.specs.Node.{body_spot, follower_spot, side_spot, beside_spot}
use Rattle.table.proofs.Node.Laws.{length_nodes, length_nodes_of}
use Rattle.table_index.specs.Layout.{terms_at, term_count_at, entry_digit, branches_digit}
use Rattle.table_index.specs.Index.{Reaching, table_in}
use Rattle.table_index.specs.Index.Laws.{digits}
use Rattle.table_index.specs.Judging.{ExcessDone}
use Rattle.table_index.specs.Filling.{few, exceeds, ExcessAsked, AllDone}

-- ---- the test, by the words

capped_above : (b : ℕ) → ltb 256 (capped b) ≡ not (leb b 256)
unfolding capped
capped_above b = go (dec_le b 256)
  where
    go : Dec (b ≤ 256) → ltb 256 (min 257 b) ≡ not (leb b 256)
    go (yes h) = rw (le-ltb 256 (min 257 b) (omega arith), le-leb b 256 h) refl
    go (no h) = rw (lt-ltb 256 (min 257 b) (omega arith), lt-leb b 256 (omega arith)) refl

module _ (t : Table) (w : List ℕ) (n : ℕ) (a : ExcessAsked t w n) where
  pub excess_entry : entry_digit (get_or w (terms_at + n) 0) ≡ 1
      → ltb 256 (branches_digit (get_or w (terms_at + n) 0)) ≡ exceeds t n
  unfolding exceeds few term_of
  excess_entry h =
      let d = (digits t w a.fields a.structure n a.inside).entry in
      let e : (node_at t n).spot.entry ≡ 1 = sym d ∙ h in
      ap (λ (x : ℕ). ltb 256 x) (a.branching n a.inside)
      ∙ capped_above (branches t (node_at t n).term)
      ∙ rw (eq-eqb _ _ e) refl

  pub excess_other : (entry_digit (get_or w (terms_at + n) 0) ≡ 1 → ⊥) → false ≡ exceeds t n
  unfolding exceeds few
  excess_other h =
      let d = (digits t w a.fields a.structure n a.inside).entry in
      let e : ((node_at t n).spot.entry ≡ 1 → ⊥) = λ q. h (d ∙ q) in
      rw (ne_eqb _ _ e) refl

-- ---- the first node

module _ (t : Table) where
  abbrev Calls : ℕ → ℕ
  Calls = branches_at (all_branches t.definitions)

  abbrev Tests : List Node → List Bool
  Tests l = map (few t) l

  tests_append : (n k : ℕ) (a b : List Node) → length a ≡ k
      → first_false n (Tests (a ++ b)) ≡ or_else (first_false n (Tests a)) (first_false (n + k) (Tests b))
  tests_append n k a b e =
      ap (first_false n) (map-append (few t) a b)
      ∙ first_false_append n (Tests a) (Tests b)
      ∙ ap (λ (x : ℕ). or_else (first_false n (Tests a)) (first_false (n + x) (Tests b))) (length-map a (few t) ∙ e)

  -- those of a term: its own, and its followers
  first_in_term : (n : ℕ) (s : Spot) (i : ℕ) (p : Term)
      → first_false n (Tests (nodes s i p)) ≡ or_else (unless (few t (node s i p)) n) (follower_above Calls n p)
  unfolding first_false nodes follower_above
  first_in_term n s i stop = refl
  first_in_term n s i fail = refl
  first_in_term n s i (prefix r p) =
      ap (or_else (unless (few t (node s i (prefix r p))) n))
      (first_in_term (suc n) (follower_spot s) (suc i + length (ref_numbers r)) p ∙ unfold few branches in refl)
  first_in_term n s i (choice p q) =
      let j = suc i + length (term_numbers p) in
      ap (or_else (unless (few t (node s i (choice p q))) n))
      (tests_append (suc n) (size p) (nodes (side_spot s) (suc i) p) (nodes (side_spot s) j q)
      (length_nodes (side_spot s) (suc i) p)
      ∙ ap₂ or_else (first_in_term (suc n) (side_spot s) (suc i) p) (first_in_term (suc n + size p) (side_spot s) j q)
      ∙ unfold few unless or_else in refl)
  first_in_term n s i (par r p q) =
      let at = suc i + length (ref_numbers r) in
      let j = at + length (term_numbers p) in
      ap (or_else (unless (few t (node s i (par r p q))) n))
      (tests_append (suc n) (size p) (nodes (beside_spot s) at p) (nodes (beside_spot s) j q)
      (length_nodes (beside_spot s) at p)
      ∙ ap₂ or_else (first_in_term (suc n) (beside_spot s) at p) (first_in_term (suc n + size p) (beside_spot s) j q)
      ∙ unfold few unless or_else in refl)
  first_in_term n s i (call d) = refl

  first_in_bodies : (n own i : ℕ) (ds : List Definition)
      → first_false n (Tests (definition_nodes own i ds)) ≡ body_above Calls n ds
  unfolding first_false definition_nodes body_above
  first_in_bodies n own i [] = refl
  first_in_bodies n own i (d ∷ ds) =
      let j = i + length (definition_numbers d) in
      let p = d.body in
      tests_append n (size p) (nodes (body_spot own) (suc i) p) (definition_nodes (suc own) j ds)
      (length_nodes (body_spot own) (suc i) p)
      ∙ ap₂ or_else (first_in_term n (body_spot own) (suc i) p) (first_in_bodies (n + size p) (suc own) j ds)
      ∙ or_else_assoc (unless (few t (node (body_spot own) (suc i) p)) n) (follower_above Calls n p)
      (body_above Calls (n + size p) ds)
      ∙ unfold few branches in refl

  excess_nodes : too_many_branches t ≡ first_false 0 (Tests (nodes_of t))
  unfolding too_many_branches nodes_of
  excess_nodes = sym (first_in_bodies 0 0 (definitions_at t) t.definitions)

  -- a test by number; those past the end pass
  test_at : (n : ℕ) → get_or (Tests (nodes_of t)) n true ≡ few t (node_at t n)
  unfolding node_at few branches branches_with
  test_at n = get_or-map (few t) (nodes_of t) n no_node

  passes : (n : ℕ) → exceeds t n ≡ false → few t (node_at t n) ≡ true
  unfolding exceeds
  passes n h = not-false (few t (node_at t n)) h

  fails : (n : ℕ) → exceeds t n ≡ true → few t (node_at t n) ≡ false
  unfolding exceeds
  fails n h = not-true (few t (node_at t n)) h

  pub excess_first : (n : ℕ) → ((k : ℕ) → k < n → exceeds t k ≡ false) → exceeds t n ≡ true → too_many_branches t ≡ some n
  excess_first n b e =
      let z : 0 + n ≡ n = omega arith in
      excess_nodes
      ∙ first_in 0 n (Tests (nodes_of t))
      (record { fails = test_at n ∙ fails n e; before = λ k h. test_at k ∙ passes k (b k h) })
      ∙ ap some z

  pub excess_none : ((k : ℕ) → k < term_count t → exceeds t k ≡ false) → too_many_branches t ≡ none
  excess_none b =
      excess_nodes
      ∙ pass_in 0 (Tests (nodes_of t))
      (λ k.
      elim (dec_lt k (term_count t)) [
        | yes h ↦ test_at k ∙ passes k (b k h)
        | no h ↦
            let l = length_nodes_of t in
            let m = length-map (nodes_of t) (few t) in
            get_or-eq_default (Tests (nodes_of t)) true (omega arith)
      ])

-- ---- the answers

-- the reach of the terms is kept
reach_kept : (t : Table) (w v : List ℕ) → Fields t → Reaching t w → AllDone t w v → Reaching t v
reach_kept t w v f r d n h =
    let m = f.terms_most in
    d.reaches n (omega arith) ∙ r n h

module _ (l w v : List ℕ) (f : Fields (table_in l)) (r : Reaching (table_in l) w) (d : AllDone (table_in l) w v) where
  pub excess_asked : (n : ℕ) → n < get_or v term_count_at 0 → ExcessAsked (table_in l) v n
  excess_asked n h =
      let e = d.structure.terms in
      record { fields = f; structure = d.structure; branching = d.branching; inside = omega arith }

  pub excess_broken : (n : ℕ) → ((k : ℕ) → k < n → exceeds (table_in l) k ≡ false) → exceeds (table_in l) n ≡ true
      → ExcessDone l v (Some n)
  excess_broken n b e =
      record {
        answer = rw (excess_first (table_in l) n b e) refl;
        structure = d.structure;
        reaches = reach_kept (table_in l) w v f r d;
        branching = d.branching;
      }

  pub excess_nowhere : (n : ℕ) → ((k : ℕ) → k < n → exceeds (table_in l) k ≡ false) → get_or v term_count_at 0 ≤ n
      → ExcessDone l v None
  excess_nowhere n b h =
      let e = d.structure.terms in
      record {
        answer = rw (excess_none (table_in l) (λ k g. b k (omega arith))) refl;
        structure = d.structure;
        reaches = reach_kept (table_in l) w v f r d;
        branching = d.branching;
      }
