-- A table's writing with, beside each number, whether it keeps its own bound (01, "Numbers and table"; refusal 5).
--     event_marks .. table_marks  the marked writings, beside `Writing`'s
--     Shape                      what no single number shows: how many rows a kind 1 set has, and that a set reference
--                                has a parameter just when its set is of kind 1
--     Open, Fits                 numbers that begin a writing, each within its bound. Open: and the writing goes on;
--                                Fits: it may also end there
-- That the grammar sees them so is in `proofs/Marks/Whole.antt`. Assumes nothing.
use Rattle.std.specs.Prelude.{ℕ, zero, suc, ◌+◌, ◌≡◌, Bool, true, false, ◌&&◌, length, get_or, ltb, leb}
use mathlib.Core.List.{List, [], ◌∷◌, ◌++◌, flat_map}
use Rattle.numbers.specs.Every.{All}
use Rattle.table.specs.Table.{SetRef, fixed, family, Term, stop, fail, prefix, choice, par, call, SetDef, one}
use Rattle.table.specs.Table.{each, Definition, Table, size}
use Rattle.table.specs.Rows.{alphabet_most, rows_of, rows_fit}
use Rattle.table.specs.Context.{Each}
use Rattle.table.specs.Fields.{FamilyRows, IsOne, IsEach, OfRef}
use Rattle.table.specs.Parser.Mark.{Mark, mark, numbers, Pass}

-- "events are 0 to A-1", "strictly ascending"
unfoldable pub event_marks : ℕ → ℕ → List ℕ → List Mark
event_marks A low [] = []
event_marks A low (e ∷ es) = mark e (leb low e && ltb e A) ∷ event_marks A (suc e) es

-- "A row is a count, 0 to A"
unfoldable pub row_marks : ℕ → List ℕ → List Mark
row_marks A r = mark (length r) (leb (length r) A) ∷ event_marks A 0 r

-- 02, W6: "else 5 at the kind of the set that passes it": of a set after n rows
unfoldable pub set_marks : ℕ → ℕ → SetDef → List Mark
set_marks A n (one r) = mark 0 (rows_fit A (n + 1)) ∷ row_marks A r
set_marks A n (each rs) = mark 1 (rows_fit A (n + A)) ∷ flat_map (row_marks A) rs

unfoldable pub sets_marks : ℕ → ℕ → List SetDef → List Mark
sets_marks A n [] = []
sets_marks A n (s ∷ ss) = set_marks A n s ++ sets_marks A (n + rows_of A s) ss

-- "a set number that does not exist is 5"; "a parameter k, 0 to 3"
unfoldable pub ref_marks : List SetDef → SetRef → List Mark
ref_marks sets (fixed s) = mark s (ltb s (length sets)) ∷ []
ref_marks sets (family s k) = mark s (ltb s (length sets)) ∷ mark k (leb k 3) ∷ []

-- "at most 1,024, nested at most 32 deep": of term n, with room for so many more levels
unfoldable pub kind_ok : ℕ → ℕ → Bool
kind_ok zero n = false
kind_ok (suc deep) n = ltb n 1024

unfoldable pub one_less : ℕ → ℕ
one_less zero = zero
one_less (suc deep) = deep

unfoldable pub term_marks : List SetDef → ℕ → ℕ → Term → List Mark
term_marks sets deep n stop = mark 0 (kind_ok deep n) ∷ []
term_marks sets deep n fail = mark 1 (kind_ok deep n) ∷ []
term_marks sets deep n (prefix r p) =
    mark 2 (kind_ok deep n) ∷ (ref_marks sets r ++ term_marks sets (one_less deep) (suc n) p)
term_marks sets deep n (choice p q) =
    mark 3 (kind_ok deep n)
    ∷ (term_marks sets (one_less deep) (suc n) p ++ term_marks sets (one_less deep) (suc n + size p) q)
term_marks sets deep n (par r p q) =
    mark 4 (kind_ok deep n)
    ∷ (ref_marks sets r ++ (term_marks sets (one_less deep) (suc n) p ++ term_marks sets (one_less deep) (suc n + size p) q))
term_marks sets deep n (call d) = mark 5 (kind_ok deep n) ∷ mark d true ∷ []

-- "a level, 0 to 7, and a term"
unfoldable pub definition_marks : List SetDef → ℕ → Definition → List Mark
definition_marks sets n d = mark d.level (leb d.level 7) ∷ term_marks sets 32 n d.body

unfoldable pub definitions_marks : List SetDef → ℕ → List Definition → List Mark
definitions_marks sets n [] = []
definitions_marks sets n (d ∷ ds) = definition_marks sets n d ++ definitions_marks sets (n + size d.body) ds

-- 02, W6: "A may be 1 to 128"; "number of sets, 0 to 64", "number of definitions, 1 to 32"
unfoldable pub table_marks : Table → List Mark
table_marks t =
    let A = t.alphabet in
    let c = length t.sets in
    let n = length t.definitions in
    mark A (leb 1 A && leb A alphabet_most) ∷ mark c (leb c 64)
    ∷ (sets_marks A 0 t.sets ++ (mark n (leb 1 n && leb n 32) ∷ definitions_marks t.sets 0 t.definitions))

abbrev pub RefShape : List SetDef → SetRef → Type 0
RefShape sets (fixed s) = IsOne (get_or sets s (one []))
RefShape sets (family s k) = IsEach (get_or sets s (one []))

abbrev pub BodyShape : List SetDef → Definition → Type 0
BodyShape sets d = Each (OfRef (RefShape sets)) d.body

pub record Shape (t : Table) : Type 0 where
  pub rows : All (FamilyRows t.alphabet) t.sets
  pub references : All (BodyShape t.sets) t.definitions

-- l is the beginning of a writing, and each of its numbers keeps its bound; the writing goes on
pub record Open (l : List ℕ) : Type 0 where
  pub table : Table
  pub front : List Mark
  pub at : Mark
  pub back : List Mark
  pub shape : Shape table
  pub marks : table_marks table ≡ front ++ (at ∷ back)
  pub pass : Pass front
  pub list : l ≡ numbers front

-- the same, and the writing may also end there
pub record Fits (l : List ℕ) : Type 0 where
  pub table : Table
  pub front : List Mark
  pub back : List Mark
  pub shape : Shape table
  pub marks : table_marks table ≡ front ++ back
  pub pass : Pass front
  pub list : l ≡ numbers front
