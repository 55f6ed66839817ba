-- The abstract table (01, "Numbers and table"): what an accepted list of numbers says.
--     SetRef, Term        a set reference; a term, as the table has it
--     SetDef, Table       a set; the alphabet, the sets and the definitions
--     size, body_number   terms are numbered in reading order: the number of each body
--     term_at             the term of a number
--     enclosing           of a term number: how many prefixes are around it
-- The laws are in `proofs/Table/Laws.antt`. Assumes nothing.
use Rattle.std.specs.Prelude.{ℕ, suc, ◌+◌, ◌-◌, true, false, List, [], ◌∷◌, get_or, take, eqb, ltb}
use Rattle.std.proofs.Math.Option.{Option, none, some}

-- "A set reference is a set number and, for a kind 1 set, a parameter k"
pub data SetRef : Type 0 where
  fixed : ℕ → SetRef
  family : ℕ → ℕ → SetRef

-- "Term kinds by number: 0 STOP, 1 FAIL, 2 prefix (set reference, term), 3 choice (two terms), 4 parallel (set
-- reference, two terms), 5 call (definition number)"
pub data Term : Type 0 where
  stop fail : Term
  prefix : SetRef → Term → Term
  choice : Term → Term → Term
  par : SetRef → Term → Term → Term
  call : ℕ → Term

-- "A set is kind 0 and one row, or kind 1 and A rows (row v is the set for parameter v)"
pub data SetDef : Type 0 where
  one : List ℕ → SetDef
  each : List (List ℕ) → SetDef

pub record Definition : Type 0 where
  pub level : ℕ
  pub body : Term

pub record Table : Type 0 where
  pub alphabet : ℕ
  pub sets : List SetDef
  pub definitions : List Definition

-- ---- the number of terms

-- the number of terms in a term, itself included
unfoldable pub size : Term → ℕ
size stop = 1
size fail = 1
size (prefix r p) = suc (size p)
size (choice p q) = suc (size p + size q)
size (par r p q) = suc (size p + size q)
size (call d) = 1

unfoldable pub sizes : List Definition → ℕ
sizes [] = 0
sizes (d ∷ ds) = size d.body + sizes ds

unfoldable pub term_count : Table → ℕ
term_count t = sizes t.definitions

unfoldable pub body_of : Table → ℕ → Term
body_of t d = (get_or t.definitions d (record { level = 0; body = fail })).body

-- "Terms are numbered from 0 in reading order over the table": the number of definition d's body
unfoldable pub body_number : Table → ℕ → ℕ
body_number t d = sizes (take d t.definitions)

-- ---- the term of a number

-- the term that stands n terms into a term, in reading order
unfoldable pub term_in : Term → ℕ → Option Term
term_in stop n = elim (eqb n 0) [ true ↦ some stop | false ↦ none ]
term_in fail n = elim (eqb n 0) [ true ↦ some fail | false ↦ none ]
term_in (prefix r p) n = elim (eqb n 0) [ true ↦ some (prefix r p) | false ↦ term_in p (n - 1) ]
term_in (choice p q) n =
    elim (eqb n 0) [
      | true ↦ some (choice p q)
      | false ↦ elim (ltb (n - 1) (size p)) [ true ↦ term_in p (n - 1) | false ↦ term_in q (n - 1 - size p) ]
    ]
term_in (par r p q) n =
    elim (eqb n 0) [
      | true ↦ some (par r p q)
      | false ↦ elim (ltb (n - 1) (size p)) [ true ↦ term_in p (n - 1) | false ↦ term_in q (n - 1 - size p) ]
    ]
term_in (call d) n = elim (eqb n 0) [ true ↦ some (call d) | false ↦ none ]

-- the term of a number; none from the term count on
unfoldable pub term_of_defs : List Definition → ℕ → Option Term
term_of_defs [] n = none
term_of_defs (d ∷ ds) n =
    elim (ltb n (size d.body)) [ true ↦ term_in d.body n | false ↦ term_of_defs ds (n - size d.body) ]

unfoldable pub term_at : Table → ℕ → Option Term
term_at t n = term_of_defs t.definitions n

-- ---- the prefixes around it

-- the number of prefixes around the term that stands n terms into a term, d of them outside it
unfoldable pub prefixes_in : Term → ℕ → ℕ → ℕ
prefixes_in stop d n = d
prefixes_in fail d n = d
prefixes_in (prefix r p) d n = elim (eqb n 0) [ true ↦ d | false ↦ prefixes_in p (suc d) (n - 1) ]
prefixes_in (choice p q) d n =
    elim (eqb n 0) [
      | true ↦ d
      | false ↦ elim (ltb (n - 1) (size p)) [ true ↦ prefixes_in p d (n - 1) | false ↦ prefixes_in q d (n - 1 - size p) ]
    ]
prefixes_in (par r p q) d n =
    elim (eqb n 0) [
      | true ↦ d
      | false ↦ elim (ltb (n - 1) (size p)) [ true ↦ prefixes_in p d (n - 1) | false ↦ prefixes_in q d (n - 1 - size p) ]
    ]
prefixes_in (call c) d n = d

unfoldable pub enclosing_in : List Definition → ℕ → ℕ
enclosing_in [] n = 0
enclosing_in (d ∷ ds) n =
    elim (ltb n (size d.body)) [ true ↦ prefixes_in d.body 0 n | false ↦ enclosing_in ds (n - size d.body) ]

unfoldable pub enclosing : Table → ℕ → ℕ
enclosing t n = enclosing_in t.definitions n
