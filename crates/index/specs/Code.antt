-- A code of the judgement of a number list: each part as numbers that give it back. It shows that an equation between
-- judgements has one proof at most, and so has `Indexed` (`Indexed-prop`), which `IndexedTable` holds as a ghost field.
-- Assumes nothing.
use Rattle.std.specs.Prelude.{ℕ, zero, suc, ◌≡◌, refl, List, [], ◌∷◌, ◌⊎◌}
use Rattle.std.proofs.Common.{ap}
use Rattle.std.proofs.Props.{props}
use Rattle.std.specs.Coded.{Coded, code_by, coded×, coded⊎, coded_ℕ, coded_list}
use mathlib.Core.Logic.{inl, inr}
use Rattle.table.specs.Table.{SetRef, fixed, family, Term, stop, fail, prefix, choice, par, call}
use Rattle.table.specs.Table.{SetDef, one, each, Definition, Table}
use Rattle.table.specs.Judge.{Judgement, accepted, declined}
use Rattle.table_index.specs.Index.{Indexed}

-- ---- set references

abbrev ref_numbers : SetRef → ℕ ⊎ (ℕ × ℕ)
ref_numbers (fixed s) = inl s
ref_numbers (family s k) = inr (s, k)

abbrev ref_back : ℕ ⊎ (ℕ × ℕ) → SetRef
ref_back (inl s) = fixed s
ref_back (inr p) = family p.0 p.1

ref_same : (r : SetRef) → ref_back (ref_numbers r) ≡ r
ref_same (fixed s) = refl
ref_same (family s k) = refl

ref_code : Coded SetRef
ref_code = code_by (ℕ ⊎ (ℕ × ℕ)) (coded⊎ coded_ℕ (coded× coded_ℕ coded_ℕ)) ref_numbers ref_back ref_same

-- ---- terms: a word for each, in reading order

-- a prefix; a parallel; a call; STOP, FAIL and a choice by 0, 1 and 2
abbrev Word : Type 0
Word = SetRef ⊎ (SetRef ⊎ (ℕ ⊎ ℕ))

abbrev written : Term → List Word → List Word
written stop ws = inr (inr (inr 0)) ∷ ws
written fail ws = inr (inr (inr 1)) ∷ ws
written (prefix r p) ws = inl r ∷ written p ws
written (choice p q) ws = inr (inr (inr 2)) ∷ written p (written q ws)
written (par r p q) ws = inr (inl r) ∷ written p (written q ws)
written (call d) ws = inr (inr (inl d)) ∷ ws

abbrev first_of : List Term → Term
first_of [] = stop
first_of (p ∷ ps) = p

abbrev rest_of : List Term → List Term
rest_of [] = []
rest_of (p ∷ ps) = ps

abbrev plain : ℕ → List Term → List Term
plain zero ps = stop ∷ ps
plain (suc zero) ps = fail ∷ ps
plain (suc (suc n)) ps = choice (first_of ps) (first_of (rest_of ps)) ∷ rest_of (rest_of ps)

abbrev built : Word → List Term → List Term
built (inl r) ps = prefix r (first_of ps) ∷ rest_of ps
built (inr (inl r)) ps = par r (first_of ps) (first_of (rest_of ps)) ∷ rest_of (rest_of ps)
built (inr (inr (inl d))) ps = call d ∷ ps
built (inr (inr (inr n))) ps = plain n ps

abbrev terms_back : List Word → List Term
terms_back [] = []
terms_back (w ∷ ws) = built w (terms_back ws)

terms_same : (p : Term) (ws : List Word) → terms_back (written p ws) ≡ p ∷ terms_back ws
terms_same stop ws = refl
terms_same fail ws = refl
terms_same (prefix r p) ws = rw (terms_same p ws)
terms_same (choice p q) ws = rw (terms_same p (written q ws), terms_same q ws)
terms_same (par r p q) ws = rw (terms_same p (written q ws), terms_same q ws)
terms_same (call d) ws = refl

term_code : Coded Term
term_code =
    code_by (List Word) (coded_list (coded⊎ ref_code (coded⊎ ref_code (coded⊎ coded_ℕ coded_ℕ))))
    (λ p. written p []) (λ ws. first_of (terms_back ws)) (λ p. ap first_of (terms_same p []))

-- ---- tables and judgements

abbrev rows_of : SetDef → List ℕ ⊎ List (List ℕ)
rows_of (one r) = inl r
rows_of (each rs) = inr rs

abbrev set_back : List ℕ ⊎ List (List ℕ) → SetDef
set_back (inl r) = one r
set_back (inr rs) = each rs

set_same : (s : SetDef) → set_back (rows_of s) ≡ s
set_same (one r) = refl
set_same (each rs) = refl

set_code : Coded SetDef
set_code =
    code_by (List ℕ ⊎ List (List ℕ)) (coded⊎ (coded_list coded_ℕ) (coded_list (coded_list coded_ℕ))) rows_of set_back
    set_same

definition_code : Coded Definition
definition_code =
    code_by (ℕ × Term) (coded× coded_ℕ term_code) (λ d. (d.level, d.body)) (λ p. record { level = p.0; body = p.1 })
    (λ _. refl)

table_code : Coded Table
table_code =
    code_by (ℕ × (List SetDef × List Definition))
    (coded× coded_ℕ (coded× (coded_list set_code) (coded_list definition_code)))
    (λ t. (t.alphabet, (t.sets, t.definitions)))
    (λ p. record { alphabet = p.0; sets = p.1.0; definitions = p.1.1 }) (λ _. refl)

abbrev judgement_parts : Judgement → (List ℕ × Table) ⊎ (ℕ × ℕ)
judgement_parts (accepted l t) = inl (l, t)
judgement_parts (declined n at) = inr (n, at)

abbrev judgement_back : (List ℕ × Table) ⊎ (ℕ × ℕ) → Judgement
judgement_back (inl p) = accepted p.0 p.1
judgement_back (inr p) = declined p.0 p.1

judgement_same : (j : Judgement) → judgement_back (judgement_parts j) ≡ j
judgement_same (accepted l t) = refl
judgement_same (declined n at) = refl

judgement_code : Coded Judgement
judgement_code =
    code_by ((List ℕ × Table) ⊎ (ℕ × ℕ))
    (coded⊎ (coded× (coded_list coded_ℕ) table_code) (coded× coded_ℕ coded_ℕ)) judgement_parts judgement_back
    judgement_same

pub Indexed-prop : (l w : List ℕ) → IsProp (Indexed l w)
Indexed-prop l w = Prim.hlevel (props, judgement_code)
