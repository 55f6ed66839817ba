-- The work area once a whole table was read (ours): from the sets, the definitions and the counts stored last.
--     counted     the counts stored, where the definitions start, and the number after the last body
--     structured  then the table of the list stands in the work area
-- Assumes nothing.
use Rattle.std.specs.Prelude.{ℕ, ◌+◌, ◌<◌, ◌≤◌, ◌≡◌, refl, length, set, drop}
use native.Mathlib.Omega.{arith}
use Rattle.std.proofs.Math.Decide.{dec_lt}
use Rattle.std.proofs.Common.{sym, ◌∙◌, take_all}
use Rattle.std.proofs.Math.Path.{ap}
use mathlib.Core.List.{List, [], ◌∷◌, flat_map}
use Rattle.std.proofs.Math.ListN.{get_or, length-set}
use Rattle.std.proofs.Math.Seq.{get_or-set_same, get_or-set_other}
use Rattle.table.specs.Table.{SetDef, Table, sizes, term_count, body_number}
use Rattle.table.specs.Tokens.{list_tokens, tokens_at}
use Rattle.table.proofs.Tokens.Laws.{follows_list}
use Rattle.table.specs.Parser.{got, number}
use Rattle.table.specs.Grammar.{event_sets, table}
use Rattle.table.proofs.Grammar.Sets.{sets_sound}
use Rattle.table.specs.Writing.{set_numbers}
use Rattle.table.specs.Node.{definition_nodes, definitions_at, nodes_of, node_at, no_node}
use Rattle.table_index.specs.Layout.{terms_at, sets_at, bodies_at, levels_at, alphabet_at, definition_count_at, term_count_at}
use Rattle.table_index.specs.Layout.{start_at, structure_of}
use Rattle.table_index.specs.Index.{SetsIndexed, Structured, sets_in, table_in}
use Rattle.table_index.specs.Index.Sets.{indexed_kept}
use Rattle.table_index.specs.Parse.{DefinitionsFound, Parsed}
use Rattle.table_index.specs.Parse.Header.{Header, body_count_ok, whole, table_in_lem, ended_tokens}

-- the words with one store more each: the number after the last body, the alphabet size, the number of definitions,
-- the number of terms, and where the definitions start
abbrev rooted : List ℕ → ℕ → ℕ → List ℕ
rooted w d n = set w (bodies_at + d) n

abbrev sized_up : List ℕ → ℕ → ℕ → ℕ → List ℕ
sized_up w a d n = set (rooted w d n) alphabet_at a

abbrev numbered : List ℕ → ℕ → ℕ → ℕ → List ℕ
numbered w a d n = set (sized_up w a d n) definition_count_at d

abbrev termed : List ℕ → ℕ → ℕ → ℕ → List ℕ
termed w a d n = set (numbered w a d n) term_count_at n

unfoldable pub counted : List ℕ → ℕ → ℕ → ℕ → ℕ → List ℕ
counted w a d n at = set (termed w a d n) start_at at

module _ (w : List ℕ) (a d n at : ℕ) (h : length w ≡ 8192) (b : d ≤ 32) where
  abbrev Counted : List ℕ
  Counted = counted w a d n at

  pub length_counted : length Counted ≡ length w
  unfolding counted
  length_counted = simp length-set

  -- past the last store, the last two, three and four
  past_1 : (x : ℕ) → (x ≡ start_at → ⊥) → get_or Counted x 0 ≡ get_or (termed w a d n) x 0
  unfolding counted
  past_1 x q = get_or-set_other (termed w a d n) start_at x at 0 q

  past_2 : (x : ℕ) → ((term_count_at ≤ x) × (x ≤ start_at) → ⊥) → get_or Counted x 0 ≡ get_or (numbered w a d n) x 0
  past_2 x q =
      past_1 x (λ e. q (omega arith)) ∙ get_or-set_other (numbered w a d n) term_count_at x n 0 (λ e. q (omega arith))

  past_3 : (x : ℕ) → ((definition_count_at ≤ x) × (x ≤ start_at) → ⊥) → get_or Counted x 0 ≡ get_or (sized_up w a d n) x 0
  past_3 x q =
      past_2 x (λ e. q (omega arith))
      ∙ get_or-set_other (sized_up w a d n) definition_count_at x d 0 (λ e. q (omega arith))

  past_4 : (x : ℕ) → ((alphabet_at ≤ x) × (x ≤ start_at) → ⊥) → get_or Counted x 0 ≡ get_or (rooted w d n) x 0
  past_4 x q =
      past_3 x (λ e. q (omega arith)) ∙ get_or-set_other (rooted w d n) alphabet_at x a 0 (λ e. q (omega arith))

  pub counted_other : (x : ℕ) → (x ≡ bodies_at + d → ⊥) → ((alphabet_at ≤ x) × (x ≤ start_at) → ⊥)
      → get_or Counted x 0 ≡ get_or w x 0
  counted_other x p q = past_4 x q ∙ get_or-set_other w (bodies_at + d) x n 0 p

  pub counted_root : get_or Counted (bodies_at + d) 0 ≡ n
  counted_root = past_4 (bodies_at + d) (λ e. omega arith) ∙ get_or-set_same w (bodies_at + d) n 0 (omega arith)

  pub counted_alphabet : get_or Counted alphabet_at 0 ≡ a
  counted_alphabet =
      past_3 alphabet_at (λ e. omega arith)
      ∙ get_or-set_same (rooted w d n) alphabet_at a 0 (simp length-set (omega arith))

  pub counted_definitions : get_or Counted definition_count_at 0 ≡ d
  counted_definitions =
      past_2 definition_count_at (λ e. omega arith)
      ∙ get_or-set_same (sized_up w a d n) definition_count_at d 0 (simp length-set (omega arith))

  pub counted_terms : get_or Counted term_count_at 0 ≡ n
  counted_terms =
      past_1 term_count_at (λ e. omega arith)
      ∙ get_or-set_same (numbered w a d n) term_count_at n 0 (simp length-set (omega arith))

  pub counted_start : get_or Counted start_at 0 ≡ at
  unfolding counted
  counted_start = get_or-set_same (termed w a d n) start_at at 0 (simp length-set (omega arith))

-- two streams of lists that are the same begin at the same place
place_of : (i j : ℕ) (l m : List ℕ) → list_tokens i l ≡ list_tokens j m → i ≡ j
unfolding list_tokens
place_of i j [] [] e = cc
place_of i j [] (y ∷ m) e = let z : ◌≡◌ {A = ℕ} 0 1 = cc in absurd (omega arith)
place_of i j (x ∷ l) [] e = let z : ◌≡◌ {A = ℕ} 0 1 = cc in absurd (omega arith)
place_of i j (x ∷ l) (y ∷ m) e = cc

-- the sets end where their numbers do
sets_end : (l : List ℕ) (A c at : ℕ) (ss : List SetDef)
    → event_sets A c 0 (tokens_at l 2) ≡ got ss (tokens_at l at)
    → at ≡ 2 + length (flat_map set_numbers ss)
unfolding tokens_at
sets_end l A c at ss e =
    let r = sets_sound A c 0 (tokens_at l 2) (tokens_at l at) ss e in
    let k = follows_list (flat_map set_numbers ss) 2 (drop 2 l) (tokens_at l at) r.follows in
    place_of at (2 + length (flat_map set_numbers ss)) (drop at l) k.more k.stream

module _ (l w w' : List ℕ) (sets at count m end : ℕ) (h : Header l w sets at) (b : count ≤ 32)
    (e : number body_count_ok (tokens_at l at) ≡ got count (tokens_at l (at + 1)))
    (f : DefinitionsFound (sets_in l) l count (at + 1) w w' end m) (long : length l ≤ end) where
  abbrev read : Table
  read = record { alphabet = get_or l 0 0; sets = sets_in l; definitions = f.definitions }

  is_read : table_in l ≡ read
  is_read =
      table_in_lem l (get_or l 0 0) h.alphabet (get_or l 1 0) h.counts (sets_in l) at h.parsed count (at + 1) e
      f.definitions end f.parsed

  at_end : end ≡ length l
  at_end = let k = f.within in omega arith

  sized : length w' ≡ 8192
  sized = f.same ∙ h.ready.whole

  abbrev done : List ℕ
  done = counted w' (get_or l 0 0) count m (at + 1)

  kept : (x : ℕ) → (x ≡ bodies_at + count → ⊥) → ((alphabet_at ≤ x) × (x ≤ start_at) → ⊥) → get_or done x 0 ≡ get_or w' x 0
  kept = counted_other w' (get_or l 0 0) count m (at + 1) sized b

  sets_stay : SetsIndexed (get_or l 0 0) (sets_in l) done
  sets_stay =
      indexed_kept (get_or l 0 0) (sets_in l) w done
      (λ i k. kept i (λ q. omega arith) (λ q. omega arith) ∙ f.kept i (λ q. omega arith) (λ q. omega arith))
      (λ i k. kept (sets_at + i) (λ q. omega arith) (λ q. omega arith)
      ∙ f.kept (sets_at + i) (λ q. omega arith) (λ q. omega arith))
      h.ready.indexed

  starts : at + 1 ≡ definitions_at read
  unfolding definitions_at
  starts = let z = sets_end l (get_or l 0 0) (get_or l 1 0) at (sets_in l) h.parsed in omega arith

  terms : m ≡ term_count read
  unfolding term_count
  terms = f.terms

  abbrev node_path : ℕ → Type 0
  node_path n = get_or (definition_nodes 0 (at + 1) f.definitions) n no_node ≡ node_at read n

  node_is : (n : ℕ) → node_path n
  unfolding node_at nodes_of
  node_is n = ap (λ (i : ℕ). get_or (definition_nodes 0 i f.definitions) n no_node) starts

  root_is : (d : ℕ) → d ≤ length f.definitions → Dec (d < count) → get_or done (bodies_at + d) 0 ≡ body_number read d
  unfolding body_number
  root_is d k (yes q) = kept (bodies_at + d) (λ z. omega arith) (λ z. omega arith) ∙ f.roots d q
  root_is d k (no q) =
      let c = f.counted in
      let z : d ≡ count = omega arith in
      rw z (counted_root w' (get_or l 0 0) count m (at + 1) sized b ∙ f.terms
      ∙ ap sizes (sym (take_all count f.definitions (omega arith))))

  pub structured_read : Structured read done
  structured_read =
      let c = f.counted in
      let few' = f.few in
      record {
        whole = length_counted w' (get_or l 0 0) count m (at + 1) sized b ∙ sized;
        sets = sets_stay;
        words = λ n k. let k' : n < m = omega (arith, terms) in
            ap structure_of (kept (terms_at + n) (λ q. omega arith) (λ q. omega arith)) ∙ f.words n k'
            ∙ ap (λ x. Rattle.table_index.specs.Index.word_of (sets_in l) n x) (node_is n);
        roots = λ d k. root_is d k (dec_lt d count);
        levels = λ d k. kept (levels_at + d) (λ q. omega arith) (λ q. omega arith) ∙ f.levels d (omega arith);
        alphabet = counted_alphabet w' (get_or l 0 0) count m (at + 1) sized b;
        definitions = counted_definitions w' (get_or l 0 0) count m (at + 1) sized b ∙ sym c;
        terms = counted_terms w' (get_or l 0 0) count m (at + 1) sized b ∙ terms;
        start = counted_start w' (get_or l 0 0) count m (at + 1) sized b ∙ starts;
      }

  parsed_read : table (list_tokens 0 l) ≡ got (table_in l) (list_tokens (length l) [])
  parsed_read =
      whole l (get_or l 0 0) h.alphabet (get_or l 1 0) h.counts (sets_in l) at h.parsed count (at + 1) e
      f.definitions end f.parsed
      ∙ rw (at_end, ended_tokens l, is_read) refl

  pub structured : Parsed l done
  structured =
      record {
        parsed = parsed_read;
        structure = rw is_read structured_read;
      }
