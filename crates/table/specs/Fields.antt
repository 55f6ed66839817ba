-- The rules that a single number breaks (01, "Numbers and table"; refusal 5): bounds, order, terms.
--     Ascending, EachRow, RefExists, ParamSmall, depth_of   what the rules speak of
--     Fields                                               the rules
-- The laws are in `proofs/Fields/Laws.antt`. Assumes nothing.
use Rattle.std.specs.Prelude.{ℕ, suc, ◌≤◌, ◌<◌, max, ◌≡◌, List, [], ◌∷◌, length, get_or}
use Rattle.numbers.specs.Every.{All}
use Rattle.table.specs.Table.{SetRef, fixed, family, Term, stop, fail, prefix, choice, par, call, SetDef, one}
use Rattle.table.specs.Table.{each, Table, term_count}
use Rattle.table.specs.Rows.{alphabet_most, rows_in, RowsFit}
use Rattle.table.specs.Context.{Each}

-- each event is below all that come after it
abbrev pub Ascending : List ℕ → Type 0
Ascending [] = Unit
Ascending (e ∷ es) = All (λ f. e < f) es × Ascending es

abbrev pub EachRow : (List ℕ → Type 0) → SetDef → Type 0
EachRow X (one r) = X r
EachRow X (each rs) = All X rs

abbrev pub FamilyRows : ℕ → SetDef → Type 0
FamilyRows A (one r) = Unit
FamilyRows A (each rs) = length rs ≡ A

abbrev pub IsOne : SetDef → Type 0
IsOne (one r) = Unit
IsOne (each rs) = ⊥

abbrev pub IsEach : SetDef → Type 0
IsEach (one r) = ⊥
IsEach (each rs) = Unit

abbrev pub RefExists : List SetDef → SetRef → Type 0
RefExists sets (fixed s) = (s < length sets) × IsOne (get_or sets s (one []))
RefExists sets (family s k) = (s < length sets) × IsEach (get_or sets s (one []))

abbrev pub ParamSmall : SetRef → Type 0
ParamSmall (fixed s) = Unit
ParamSmall (family s k) = k ≤ 3

-- X of a term's own set reference; X of a call's definition number
abbrev pub OfRef : (SetRef → Type 0) → Term → Type 0
OfRef X stop = Unit
OfRef X fail = Unit
OfRef X (prefix r p) = X r
OfRef X (choice p q) = Unit
OfRef X (par r p q) = X r
OfRef X (call d) = Unit

abbrev pub OfCall : (ℕ → Type 0) → Term → Type 0
OfCall X stop = Unit
OfCall X fail = Unit
OfCall X (prefix r p) = Unit
OfCall X (choice p q) = Unit
OfCall X (par r p q) = Unit
OfCall X (call d) = X d

-- how deep a term is nested, itself at depth 1
unfoldable pub depth_of : Term → ℕ
depth_of stop = 1
depth_of fail = 1
depth_of (prefix r p) = suc (depth_of p)
depth_of (choice p q) = suc (max (depth_of p) (depth_of q))
depth_of (par r p q) = suc (max (depth_of p) (depth_of q))
depth_of (call d) = 1

pub record Fields (t : Table) : Type 0 where
  -- 02, W6: "A may be 1 to 128"
  pub alphabet_least : 1 ≤ t.alphabet
  pub alphabet_most_lem : t.alphabet ≤ alphabet_most
  -- "number of sets, 0 to 64"
  pub sets_most : length t.sets ≤ 64
  -- "or kind 1 and A rows"
  pub family_rows : All (FamilyRows t.alphabet) t.sets
  -- 02, W6: "With A above 64, all rows together number at most 3,072"
  pub rows_most : RowsFit t.alphabet (rows_in t.alphabet t.sets)
  -- "A row is a count, 0 to A"
  pub row_counts : All (EachRow (λ r. length r ≤ t.alphabet)) t.sets
  -- "events are 0 to A-1"
  pub row_events : All (EachRow (All (λ e. e < t.alphabet))) t.sets
  -- "strictly ascending"
  pub row_order : All (EachRow Ascending) t.sets
  -- "number of definitions, 1 to 32"
  pub definitions_least : 1 ≤ length t.definitions
  pub definitions_most : length t.definitions ≤ 32
  -- "a level, 0 to 7"
  pub levels : All (λ d. d.level ≤ 7) t.definitions
  -- "A set reference is a set number and, for a kind 1 set, a parameter"; "a set number that does not exist is 5"
  pub references : All (λ d. Each (OfRef (RefExists t.sets)) d.body) t.definitions
  -- "a parameter k, 0 to 3"
  pub parameters : All (λ d. Each (OfRef ParamSmall) d.body) t.definitions
  -- "Terms are numbered from 0 in reading order over the table, at most 1,024"
  pub terms_most : term_count t ≤ 1024
  -- "nested at most 32 deep (a body is at depth 1)"
  pub nesting : All (λ d. depth_of d.body ≤ 32) t.definitions
