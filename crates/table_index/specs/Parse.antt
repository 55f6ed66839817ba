-- What the reading functions promise: what the grammar's parsers give at a place of a number list, and what then stands
-- in the work area.
--     RowRead, RowsRead, SetRead, SetsRead               a row; rows; a set; the sets
--     ReferenceRead, WordStored, TermStored      a set reference; a term's own word; the words of a term
--     TermRead, DefinitionsRead                          a term; the definitions
--     ParseDone                                          the whole table
-- Assumes nothing.
use Rattle.std.specs.Prelude.{ℕ, ◌+◌, ◌<◌, ◌≤◌, ◌≡◌, List, [], map, cond, leb}
use lib.ListN.{length, get_or, set}
use Rattle.table.specs.declared.answer.Refusal.{Refusal}
use Rattle.std.specs.declared.result.Result.{Result}
use Rattle.std.specs.declared.result.Result.TheVariants.{Ok, Err}
use Rattle.table.specs.declared.rows.Row.{Row}
use Rattle.table.specs.declared.rows.SetEnd.{SetEnd}
use Rattle.table.specs.declared.terms.Spot.{Spot}
use Rattle.table.specs.declared.terms.Head.{Head}
use Rattle.table.specs.declared.terms.Reference.{Reference}
use Rattle.table.specs.declared.terms.TermEnd.{TermEnd}
use Rattle.table.specs.Table.{SetRef, Term, SetDef, Definition, size, sizes}
use Rattle.table.specs.Rows.{large_above, rows_of, RowsFit}
use Rattle.table.specs.Tokens.{list_tokens, tokens_at}
use Rattle.table.specs.Parser.{Result as Parsing, got, refused, times}
use Rattle.table.specs.Grammar.{row, event_set, event_sets, set_ref, term_with, definitions_of, table}
use Rattle.table.specs.References.{level_in}
use Rattle.table.specs.Judge.{declined, judge}
use Rattle.table.specs.Member.{set_of}
use Rattle.table.specs.Node.{nodes, definition_nodes, no_node, parameter_of}
use Rattle.table_index.specs.Layout.{rows_most, second_at, terms_at, sets_at, bodies_at, levels_at, widths_at}
use Rattle.table_index.specs.Layout.{width_unit, targets, structure_of}
use Rattle.table_index.specs.Index.{mask_of, first_word, second_word, set_masks, kind_of_set, first_row, packed, word_of}
use Rattle.table_index.specs.Index.{SetsIndexed, Structured, sets_in, table_in}
pub mod Rows
pub mod Terms
pub mod Header
pub mod Structure

-- a parser's refusal is the code's
abbrev pub Refuses : {A : Type 0} → Parsing A → Refusal → Type 0
Refuses x r = x ≡ refused r.number r.place

-- the sets of the list are known and stand in the work area
pub record SetsReady (l w : List ℕ) (count : ℕ) : Type 0 where
  pub whole : length w ≡ 8192
  pub counted : count ≡ length (sets_in l)
  pub indexed : SetsIndexed (get_or l 0 0) (sets_in l) w

-- what reading a term asks of where it stands
pub record SpotFits (s : Spot) (deep : ℕ) : Type 0 where
  pub shallow : s.prefixes + deep ≤ 32
  pub parallel : s.parallel ≤ 1
  pub entry : s.entry ≤ 1
  pub own : s.own ≤ 31

-- what storing a term's word asks of its digits
pub record HeadFits (h : Head) : Type 0 where
  pub kind : h.kind ≤ 5
  pub parameter : h.parameter ≤ 4
  pub target : h.target < targets
  pub parallel : h.spot.parallel ≤ 1
  pub entry : h.spot.entry ≤ 1
  pub prefixes : h.spot.prefixes ≤ 32
  pub own : h.spot.own ≤ 31

-- ---- sets

pub record RowFound (l : List ℕ) (A i low high j : ℕ) : Type 0 where
  pub events : List ℕ
  pub parsed : row A (tokens_at l i) ≡ got events (tokens_at l j)
  pub first : low ≡ first_word (mask_of events)
  pub second : high ≡ second_word (mask_of events)
  pub within : j ≤ length l

abbrev pub RowRead : List ℕ → ℕ → ℕ → Result Row Refusal → Type 0
RowRead l A i (Ok r) = RowFound l A i r.low r.high r.next
RowRead l A i (Err r) = Refuses (row A (tokens_at l i)) r

-- one row stored: its first word, and its second where the alphabet has more than 64 events
unfoldable pub row_stored : ℕ → ℕ → ℕ → ℕ → List ℕ → List ℕ
row_stored A row low high w = cond (leb A large_above) (set w row low) (set (set w row low) (second_at + row) high)

-- the words w' are w with the words of rows, given by their masks, from row `row₀` on
pub record RowsStored (A row₀ : ℕ) (ms w w' : List ℕ) : Type 0 where
  pub same : length w' ≡ length w
  pub firsts : (k : ℕ) → k < length ms → get_or w' (row₀ + k) 0 ≡ first_word (get_or ms k 0)
  pub seconds : large_above < A → (k : ℕ) → k < length ms
      → get_or w' (second_at + (row₀ + k)) 0 ≡ second_word (get_or ms k 0)
  pub kept : (x : ℕ) → ((row₀ ≤ x) × (x < row₀ + length ms) → ⊥)
      → (large_above < A → (second_at + row₀ ≤ x) × (x < second_at + (row₀ + length ms)) → ⊥)
      → get_or w' x 0 ≡ get_or w x 0

pub record RowsFound (l : List ℕ) (A count i row₀ : ℕ) (w w' : List ℕ) (j : ℕ) : Type 0 where
  pub rows : List (List ℕ)
  pub parsed : times count (row A) (tokens_at l i) ≡ got rows (tokens_at l j)
  pub counted : length rows ≡ count
  pub words : RowsStored A row₀ (map mask_of rows) w w'
  pub within : j ≤ length l

abbrev pub RowsRead : List ℕ → ℕ → ℕ → ℕ → ℕ → List ℕ → List ℕ → Result ℕ Refusal → Type 0
RowsRead l A count i row₀ w w' (Ok j) = RowsFound l A count i row₀ w w' j
RowsRead l A count i row₀ w w' (Err r) = Refuses (times count (row A) (tokens_at l i)) r × (length w' ≡ length w)

pub record SetFound (l : List ℕ) (A i row₀ : ℕ) (w w' : List ℕ) (j kind end : ℕ) : Type 0 where
  pub value : SetDef
  pub parsed : event_set A row₀ (tokens_at l i) ≡ got value (tokens_at l j)
  pub kinds : kind ≡ kind_of_set value
  pub counted : length (set_masks value) ≡ rows_of A value
  pub ends : end ≡ row₀ + length (set_masks value)
  pub few : length (set_masks value) ≤ A
  pub fit : RowsFit A end
  pub room : end ≤ rows_most
  pub words : RowsStored A row₀ (set_masks value) w w'
  pub within : j ≤ length l

abbrev pub SetRead : List ℕ → ℕ → ℕ → ℕ → List ℕ → List ℕ → Result SetEnd Refusal → Type 0
SetRead l A i row₀ w w' (Ok e) = SetFound l A i row₀ w w' e.next e.kind e.row
SetRead l A i row₀ w w' (Err r) = Refuses (event_set A row₀ (tokens_at l i)) r × (length w' ≡ length w)

pub record SetsFound (l : List ℕ) (A count i : ℕ) (w w' : List ℕ) (j : ℕ) : Type 0 where
  pub sets : List SetDef
  pub parsed : event_sets A count 0 (tokens_at l i) ≡ got sets (tokens_at l j)
  pub counted : length sets ≡ count
  pub indexed : SetsIndexed A sets w'
  pub same : length w' ≡ length w
  pub within : j ≤ length l

abbrev pub SetsRead : List ℕ → ℕ → ℕ → ℕ → List ℕ → List ℕ → Result ℕ Refusal → Type 0
SetsRead l A count i w w' (Ok j) = SetsFound l A count i w w' j
SetsRead l A count i w w' (Err r) = Refuses (event_sets A count 0 (tokens_at l i)) r × (length w' ≡ length w)

-- ---- terms

pub record ReferenceFound (sets : List SetDef) (l : List ℕ) (i target parameter j : ℕ) : Type 0 where
  pub reference : SetRef
  pub parsed : set_ref sets (tokens_at l i) ≡ got reference (tokens_at l j)
  pub row : target ≡ first_row sets (set_of reference)
  pub row_few : target ≤ rows_most
  pub digit : parameter ≡ parameter_of reference
  pub digit_few : parameter ≤ 4
  pub within : j ≤ length l

abbrev pub ReferenceRead : List SetDef → List ℕ → ℕ → Result Reference Refusal → Type 0
ReferenceRead sets l i (Ok f) = ReferenceFound sets l i f.target f.parameter f.next
ReferenceRead sets l i (Err r) = Refuses (set_ref sets (tokens_at l i)) r

-- the word of a term with this head and this right side, and nothing else, was stored; it is a structure
pub record WordStored (h : Head) (n right : ℕ) (w w' : List ℕ) : Type 0 where
  pub written : w' ≡ set w (terms_at + n) (packed h.spot h.kind h.parameter right h.target)
  pub small : packed h.spot h.kind h.parameter right h.target < width_unit

-- the words of the terms of p, from number n on, and nothing else, were stored
pub record TermStored (sets : List SetDef) (s : Spot) (n i : ℕ) (p : Term) (w w' : List ℕ) : Type 0 where
  pub same : length w' ≡ length w
  pub words : (k : ℕ) → k < size p
      → structure_of (get_or w' (terms_at + (n + k)) 0) ≡ word_of sets (n + k) (get_or (nodes s i p) k no_node)
  pub kept : (x : ℕ) → ((terms_at + n ≤ x) × (x < terms_at + (n + size p)) → ⊥) → get_or w' x 0 ≡ get_or w x 0

pub record TermFound (sets : List SetDef) (l : List ℕ) (s : Spot) (deep n i : ℕ) (w w' : List ℕ) (j m : ℕ)
    : Type 0 where
  pub term : Term
  pub parsed : term_with sets deep n (tokens_at l i) ≡ got term (tokens_at l j)
  pub counted : m ≡ n + size term
  pub few : m ≤ 1024
  pub stored : TermStored sets s n i term w w'
  pub within : j ≤ length l

abbrev pub TermRead : List SetDef → List ℕ → Spot → ℕ → ℕ → ℕ → List ℕ → List ℕ → Result TermEnd Refusal → Type 0
TermRead sets l s deep n i w w' (Ok e) = TermFound sets l s deep n i w w' e.next e.terms
TermRead sets l s deep n i w w' (Err r) =
    Refuses (term_with sets deep n (tokens_at l i)) r × (length w' ≡ length w)

pub record DefinitionsFound (sets : List SetDef) (l : List ℕ) (count i : ℕ) (w w' : List ℕ) (j m : ℕ) : Type 0 where
  pub definitions : List Definition
  pub parsed : definitions_of sets count 0 (tokens_at l i) ≡ got definitions (tokens_at l j)
  pub counted : length definitions ≡ count
  pub terms : m ≡ sizes definitions
  pub few : m ≤ 1024
  pub same : length w' ≡ length w
  pub words : (k : ℕ) → k < m
      → structure_of (get_or w' (terms_at + k) 0) ≡ word_of sets k (get_or (definition_nodes 0 i definitions) k no_node)
  pub roots : (d : ℕ) → d < count → get_or w' (bodies_at + d) 0 ≡ sizes (lib.ListN.take d definitions)
  pub levels : (d : ℕ) → d < count → get_or w' (levels_at + d) 0 ≡ level_in definitions d
  pub kept : (x : ℕ) → ((terms_at ≤ x) × (x < sets_at) → ⊥) → ((bodies_at ≤ x) × (x < widths_at) → ⊥)
      → get_or w' x 0 ≡ get_or w x 0
  pub within : j ≤ length l

abbrev pub DefinitionsRead : List SetDef → List ℕ → ℕ → ℕ → List ℕ → List ℕ → Result TermEnd Refusal → Type 0
DefinitionsRead sets l count i w w' (Ok e) = DefinitionsFound sets l count i w w' e.next e.terms
DefinitionsRead sets l count i w w' (Err r) =
    Refuses (definitions_of sets count 0 (tokens_at l i)) r × (length w' ≡ length w)

-- ---- the whole

pub record Parsed (l w : List ℕ) : Type 0 where
  pub parsed : table (list_tokens 0 l) ≡ got (table_in l) (list_tokens (length l) [])
  pub structure : Structured (table_in l) w

abbrev pub ParseDone : List ℕ → List ℕ → Result Unit Refusal → Type 0
ParseDone l w' (Ok _) = Parsed l w'
ParseDone l w' (Err r) = (judge (list_tokens 0 l) ≡ declined r.number r.place) × (length w' ≡ 8192)
