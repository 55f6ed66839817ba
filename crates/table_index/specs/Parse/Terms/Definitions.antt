-- How definitions are read one after another.
--     Defined                        some definitions, and where reading stands after them
--     defined_first, defined_next, defined_done, defined_stop    the turns of a loop over them
--     defined_ready                  the sets stay where they are
-- Assumes nothing.
use Rattle.std.specs.Prelude.{ℕ, suc, ◌+◌, ◌-◌, ◌<◌, ◌≤◌, ◌≡◌, length, get_or, take}
use Rattle.std.proofs.Common.{arith, sym, ap, ◌∙◌, subst, length-append}
use Rattle.std.proofs.Math.Decide.{dec_lt}
use Rattle.std.proofs.Math.Path.{refl}
use mathlib.Core.List.{List, [], ◌∷◌, ◌++◌, flat_map}
use Rattle.std.proofs.Math.ListN.{get_or-append}
use Rattle.std.proofs.Math.Seq.{take-length}
use Rattle.table.specs.declared.answer.Refusal.{Refusal}
use Rattle.table.specs.Table.{SetDef, size, Definition, sizes}
use Rattle.table.specs.Tokens.{tokens_at}
use Rattle.table.proofs.Parser.Steps.{Reads, none, reads_snoc, Repeats, all_done, all_stop}
use Rattle.table.specs.Grammar.{definition, definitions_of}
use Rattle.table.specs.References.{level_in}
use Rattle.table.specs.Writing.{definition_numbers}
use Rattle.table.specs.Node.{Node, nodes, definition_nodes, no_node, body_spot}
use Rattle.table_index.specs.Layout.{terms_at, sets_at, bodies_at, levels_at, widths_at, structure_of}
use Rattle.table_index.specs.Index.{word_of, sets_in}
use Rattle.table_index.specs.Parse.{Refuses, SetsReady, DefinitionsFound}
use Rattle.table.proofs.Node.Homes.{length_nodes_from}
use Rattle.table_index.specs.Parse.Terms.{DefinitionFound}
use Rattle.table_index.specs.Parse.Terms.Stored.{ready_kept, right_node}
use Rattle.table_index.specs.Parse.Terms.Appended.{sizes_snoc, numbers_snoc, nodes_snoc, levels_old}
use Rattle.table_index.specs.Parse.Terms.Appended.{levels_new, roots_old}

-- one definition moves the number of the next term on
abbrev next_term : ℕ → Definition → ℕ
next_term n v = n + size v.body

-- d definitions stand from place i to place p; the next term has number n; w₀ was the work area before them
pub record Defined (sets : List SetDef) (l : List ℕ) (i : ℕ) (w₀ w : List ℕ) (d p n : ℕ) : Type 0 where
  pub definitions : List Definition
  pub parsed : Reads (definition sets) next_term 0 (tokens_at l i) definitions n (tokens_at l p)
  pub counted : length definitions ≡ d
  pub terms : n ≡ sizes definitions
  pub few : n ≤ 1024
  pub ends : p ≡ i + length (flat_map definition_numbers definitions)
  pub same : length w ≡ length w₀
  pub words : (k : ℕ) → k < n
      → structure_of (get_or w (terms_at + k) 0) ≡ word_of sets k (get_or (definition_nodes 0 i definitions) k no_node)
  pub roots : (k : ℕ) → k < d → get_or w (bodies_at + k) 0 ≡ sizes (take k definitions)
  pub levels : (k : ℕ) → k < d → get_or w (levels_at + k) 0 ≡ level_in definitions k
  pub kept : (x : ℕ) → ((terms_at ≤ x) × (x < sets_at) → ⊥) → ((bodies_at ≤ x) × (x < widths_at) → ⊥)
      → get_or w x 0 ≡ get_or w₀ x 0
  pub within : p ≤ length l

module _ (sets : List SetDef) (l : List ℕ) (i : ℕ) (w₀ : List ℕ) where
  pub defined_first : i ≤ length l → Defined sets l i w₀ w₀ 0 i 0
  unfolding sizes flat_map
  defined_first h =
      record {
        definitions = [];
        parsed = none;
        counted = refl;
        terms = refl;
        few = omega arith;
        ends = omega arith;
        same = refl;
        words = λ k h. absurd (omega arith);
        roots = λ k h. absurd (omega arith);
        levels = λ k h. absurd (omega arith);
        kept = λ x a b. refl;
        within = h;
      }

  module _ (w w' : List ℕ) (d p n j m : ℕ) (small : d < 32) (a : Defined sets l i w₀ w d p n)
      (b : DefinitionFound sets l d n p w w' j m) where
    abbrev old : List Definition
    old = a.definitions

    abbrev more : List Definition
    more = old ++ (b.value ∷ [])

    split : definition_nodes 0 i more ≡ definition_nodes 0 i old ++ nodes (body_spot d) (suc p) b.value.body
    split =
        let at' = i + length (flat_map definition_numbers old) in
        let u = a.counted in
        let c : 0 + length old ≡ d = omega arith in
        nodes_snoc 0 i old b.value
        ∙ ap (λ (k : ℕ). definition_nodes 0 i old ++ nodes (body_spot k) (suc at') b.value.body) c
        ∙ ap (λ (k : ℕ). definition_nodes 0 i old ++ nodes (body_spot d) (suc k) b.value.body) (sym a.ends)

    here : length (definition_nodes 0 i old) ≡ n
    here = length_nodes_from 0 i old ∙ sym a.terms

    old_node : (k : ℕ) → k < n → get_or (definition_nodes 0 i more) k no_node ≡ get_or (definition_nodes 0 i old) k no_node
    old_node k h =
        let e = here in
        ap (λ (x : List Node). get_or x k no_node) split
        ∙ get_or-append (definition_nodes 0 i old) (nodes (body_spot d) (suc p) b.value.body) no_node k
        (omega arith)

    new_node : (k : ℕ) → n ≤ k
        → get_or (definition_nodes 0 i more) k no_node ≡ get_or (nodes (body_spot d) (suc p) b.value.body) (k - n) no_node
    new_node k h =
        let e = here in
        ap (λ (x : List Node). get_or x k no_node) split
        ∙ right_node (definition_nodes 0 i old) (nodes (body_spot d) (suc p) b.value.body) k (omega arith)
        ∙ ap (λ (x : ℕ). get_or (nodes (body_spot d) (suc p) b.value.body) (k - x) no_node) e

    next_words : (k : ℕ) → k < m → Dec (k < n)
        → structure_of (get_or w' (terms_at + k) 0) ≡ word_of sets k (get_or (definition_nodes 0 i more) k no_node)
    next_words k h (yes c) =
        let f = b.few in
        ap structure_of (b.stored.kept (terms_at + k) (λ z. omega arith) (λ z. omega arith) (λ z. omega arith))
        ∙ a.words k c ∙ ap (word_of sets k) (sym (old_node k c))
    next_words k h (no c) =
        let le : n ≤ k = omega arith in
        let z : n + (k - n) ≡ k = omega arith in
        let f = b.counted in
        rw (new_node k le) (rw z at (b.stored.words (k - n) (omega arith)))

    next_roots : (k : ℕ) → k < d + 1 → Dec (k < d) → get_or w' (bodies_at + k) 0 ≡ sizes (take k more)
    next_roots k h (yes c) =
        let e = a.counted in
        let f = b.few in
        let g = b.counted in
        b.stored.kept (bodies_at + k) (λ z. omega arith) (λ z. omega arith) (λ z. omega arith)
        ∙ a.roots k c ∙ sym (roots_old old b.value k (omega arith))
    next_roots k h (no c) =
        let e = a.counted in
        let z : k ≡ length old = omega arith in
        let y : d ≡ k = omega arith in
        (rw y at b.stored.root) ∙ a.terms
        ∙ sym (roots_old old b.value k (omega arith) ∙ ap (λ (x : ℕ). sizes (take x old)) z
        ∙ ap sizes (take-length old))

    next_levels : (k : ℕ) → k < d + 1 → Dec (k < d) → get_or w' (levels_at + k) 0 ≡ level_in more k
    next_levels k h (yes c) =
        let e = a.counted in
        let f = b.few in
        let g = b.counted in
        b.stored.kept (levels_at + k) (λ z. omega arith) (λ z. omega arith) (λ z. omega arith)
        ∙ a.levels k c ∙ sym (levels_old old b.value k (omega arith))
    next_levels k h (no c) =
        let e = a.counted in
        let y : d ≡ k = omega arith in
        (rw y at b.stored.level) ∙ sym (levels_new old b.value k (omega arith))

    pub defined_next : (d' : ℕ) → d' ≡ d + 1 → Defined sets l i w₀ w' d' j m
    defined_next d' e =
        let f = b.few in
        let g = b.counted in
        let t = a.terms in
        let u = a.counted in
        let q = a.ends in
        let r = b.ends in
        record {
          definitions = more;
          parsed = subst (λ (x : ℕ). Reads (definition sets) next_term 0 (tokens_at l i) more x (tokens_at l j)) (sym g)
              (reads_snoc (definition sets) next_term a.parsed b.parsed);
          counted = length-append old (b.value ∷ []) ∙ omega arith;
          terms = omega (arith, sizes_snoc old b.value);
          few = f;
          ends = omega (arith, numbers_snoc old b.value);
          same = b.stored.same ∙ a.same;
          words = λ k h. next_words k h (dec_lt k n);
          roots = λ k h. next_roots k (omega arith) (dec_lt k d);
          levels = λ k h. next_levels k (omega arith) (dec_lt k d);
          kept = λ x y z. b.stored.kept x (λ h. y (omega arith)) (λ h. z (omega arith)) (λ h. z (omega arith))
              ∙ a.kept x y z;
          within = b.within;
        }

  repeats : Repeats (definition sets) next_term (definitions_of sets)
  unfolding definitions_of
  repeats = record { nothing = λ s. refl; again = λ n s. refl }

  module _ (w : List ℕ) (d p n count : ℕ) (a : Defined sets l i w₀ w d p n) where
    pub defined_done : d ≡ count → DefinitionsFound sets l count i w₀ w p n
    defined_done e =
        record {
          definitions = a.definitions;
          parsed = rw (← e, ← a.counted)
              (all_done (definition sets) next_term (definitions_of sets) repeats a.parsed);
          counted = a.counted ∙ e;
          terms = a.terms;
          few = a.few;
          same = a.same;
          words = a.words;
          roots = λ k h. a.roots k (omega arith);
          levels = λ k h. a.levels k (omega arith);
          kept = a.kept;
          within = a.within;
        }

    pub defined_stop : (r : Refusal) → d < count → Refuses (definition sets n (tokens_at l p)) r
        → Refuses (definitions_of sets count 0 (tokens_at l i)) r
    defined_stop r h e =
        let c = a.counted in
        all_stop (definition sets) next_term (definitions_of sets) repeats count a.parsed (omega arith) e

pub defined_ready : (l w₀ w : List ℕ) (count i d p n : ℕ) → SetsReady l w₀ count → Defined (sets_in l) l i w₀ w d p n
    → SetsReady l w count
defined_ready l w₀ w count i d p n ready a = ready_kept l w₀ w count ready a.same a.kept
