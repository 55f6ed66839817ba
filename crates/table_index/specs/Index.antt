-- The index of a table in the work area (ours; 01 leaves the work area's use open).
--     mask_of, first_word, second_word         a row as a mask; the two words of a mask
--     set_masks, first_row, set_word         a set's masks, first row and word
--     word_of                                 the structure of a term's word
--     SetsIndexed, Structured                the sets, and also the terms and definitions, stand in the work area
--     Reaching, Branching                    so do reach and branches of the terms
--     Indexed                                the index of an accepted number list
-- `Layout.antt` has where each part stands, and the digits of a word. The laws are in `Index/Laws.antt`,
-- `Index/Places.antt`, `Index/Heads.antt` and `Index/Sets.antt`. Assumes nothing.
use Rattle.std.specs.Prelude.{ℕ, ◌+◌, ◌*◌, ◌/◌, ◌%◌, ◌^◌, ◌<◌, ◌≤◌, ◌≡◌, length, get_or, take, leb, ◌&&◌}
use mathlib.Core.List.{List, [], ◌∷◌, flat_map, map}
use Rattle.table.specs.declared.terms.Spot.{Spot}
use Rattle.table.specs.Table.{Term, stop, fail, prefix, choice, par, call, SetDef, one, each}
use Rattle.table.specs.Table.{Table, term_count, body_number}
use Rattle.table.specs.Rows.{alphabet_most, large_above, RowsFit}
use Rattle.table.specs.Tokens.{list_tokens}
use Rattle.table.specs.Parser.{Result, got, refused, number, and_then}
use Rattle.table.specs.Grammar.{event_sets, table}
use Rattle.table.specs.References.{level_in}
use Rattle.table.specs.Width.{reach}
use Rattle.table.specs.Branches.{branches}
use Rattle.table.specs.Branches.Capped.{capped}
use Rattle.table.specs.Judge.{accepted, judge_list}
use Rattle.table.specs.Member.{set_of}
use Rattle.table.specs.Node.{Node, node_at, term_of, kind_of, left_size, ref_of, parameter_of, definitions_at}
use Rattle.table_index.specs.Layout.{rows_most, word_events, second_at, terms_at, sets_at, bodies_at, levels_at}
use Rattle.table_index.specs.Layout.{alphabet_at, definition_count_at, term_count_at, start_at, parameter_unit}
use Rattle.table_index.specs.Layout.{parallel_unit, entry_unit, prefixes_unit}
use Rattle.table_index.specs.Layout.{own_unit, right_unit, target_unit, structure_of, reach_digit, branches_digit}
pub mod Laws
pub mod Places
pub mod Heads
pub mod Sets

-- ---- sets

-- a row as a number: bit e is 1 where the row has e
unfoldable pub mask_of : List ℕ → ℕ
mask_of [] = 0
mask_of (e ∷ es) = 2 ^ e + mask_of es

-- its events below 64, and those from 64 on
unfoldable pub first_word : ℕ → ℕ
first_word m = m % 2 ^ word_events

unfoldable pub second_word : ℕ → ℕ
second_word m = m / 2 ^ word_events

unfoldable pub set_masks : SetDef → List ℕ
set_masks (one r) = mask_of r ∷ []
set_masks (each rs) = map mask_of rs

-- "A set is kind 0 and one row, or kind 1 and A rows"
unfoldable pub kind_of_set : SetDef → ℕ
kind_of_set (one r) = 0
kind_of_set (each rs) = 1

unfoldable pub first_row : List SetDef → ℕ → ℕ
first_row sets s = length (flat_map set_masks (take s sets))

unfoldable pub set_word : List SetDef → ℕ → ℕ
set_word sets s = first_row sets s * 2 + kind_of_set (get_or sets s (one []))

-- the sets of an alphabet of size A
pub record SetsIndexed (A : ℕ) (sets : List SetDef) (w : List ℕ) : Type 0 where
  pub few : length sets ≤ 64
  pub rows_few : length (flat_map set_masks sets) ≤ rows_most
  pub rows_fit : RowsFit A (length (flat_map set_masks sets))
  pub firsts : (i : ℕ) → i < length (flat_map set_masks sets)
      → get_or w i 0 ≡ first_word (get_or (flat_map set_masks sets) i 0)
  pub seconds : large_above < A → (i : ℕ) → i < length (flat_map set_masks sets)
      → get_or w (second_at + i) 0 ≡ second_word (get_or (flat_map set_masks sets) i 0)
  pub words : (s : ℕ) → s < length sets → get_or w (sets_at + s) 0 ≡ set_word sets s

-- ---- terms

unfoldable pub target_of : List SetDef → Term → ℕ
target_of sets stop = 0
target_of sets fail = 0
target_of sets (prefix r p) = first_row sets (set_of r)
target_of sets (choice p q) = 0
target_of sets (par r p q) = first_row sets (set_of r)
target_of sets (call d) = d

-- the digits of a term's structure
unfoldable pub packed : Spot → ℕ → ℕ → ℕ → ℕ → ℕ
packed s kind parameter right target =
    kind + parameter * parameter_unit + s.parallel * parallel_unit + s.entry * entry_unit + s.prefixes * prefixes_unit
    + s.own * own_unit + right * right_unit + target * target_unit

unfoldable pub word_of : List SetDef → ℕ → Node → ℕ
word_of sets n x =
    packed x.spot (kind_of x.term) (parameter_of (ref_of x.term)) (n + 1 + left_size x.term)
    (target_of sets x.term)

pub record Structured (t : Table) (w : List ℕ) : Type 0 where
  pub whole : length w ≡ 8192
  pub sets : SetsIndexed t.alphabet t.sets w
  pub words : (n : ℕ) → n < term_count t
      → structure_of (get_or w (terms_at + n) 0) ≡ word_of t.sets n (node_at t n)
  pub roots : (d : ℕ) → d ≤ length t.definitions → get_or w (bodies_at + d) 0 ≡ body_number t d
  pub levels : (d : ℕ) → d < length t.definitions → get_or w (levels_at + d) 0 ≡ level_in t.definitions d
  pub alphabet : get_or w alphabet_at 0 ≡ t.alphabet
  pub definitions : get_or w definition_count_at 0 ≡ length t.definitions
  pub terms : get_or w term_count_at 0 ≡ term_count t
  pub start : get_or w start_at 0 ≡ definitions_at t

abbrev pub Reaching : Table → List ℕ → Type 0
Reaching t w = (n : ℕ) → n < term_count t → reach_digit (get_or w (terms_at + n) 0) ≡ reach t (term_of t n)

abbrev pub Branching : Table → List ℕ → Type 0
Branching t w =
    (n : ℕ) → n < term_count t → branches_digit (get_or w (terms_at + n) 0) ≡ capped (branches t (term_of t n))

-- ---- the table of a number list

abbrev pub no_table : Table
no_table = record { alphabet = 0; sets = []; definitions = [] }

abbrev pub table_got : Result Table → Table
table_got (got t rest) = t
table_got (refused n at) = no_table

-- the table that a number list begins with; without meaning where it begins with none
unfoldable pub table_in : List ℕ → Table
table_in l = table_got (table (list_tokens 0 l))

abbrev pub sets_got : Result (List SetDef) → List SetDef
sets_got (got ss rest) = ss
sets_got (refused n at) = []

-- the sets that a number list begins with, after the alphabet size
unfoldable pub sets_in : List ℕ → List SetDef
sets_in l =
    sets_got (and_then (number (λ a. leb 1 a && leb a alphabet_most)) (λ a.
    and_then (number (λ c. leb c 64)) (λ c. event_sets a c 0)) (list_tokens 0 l))

-- the table of a number list is accepted, and its index stands in the work area
pub record Indexed (l w : List ℕ) : Type 0 where
  pub taken : judge_list l ≡ accepted l (table_in l)
  pub structure : Structured (table_in l) w
  pub reaches : Reaching (table_in l) w
  pub branching : Branching (table_in l) w
