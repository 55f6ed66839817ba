-- The marked writing of a table is its writing: without the marks it is `numbers_of`.
--     table_numbers    the law
-- Assumes nothing.
use Rattle.std.specs.Prelude.{ℕ, suc, ◌+◌, ◌≡◌, refl, ◌&&◌, length, leb}
use Rattle.std.proofs.Common.{ap, ap₂, ◌∙◌}
use mathlib.Core.List.{List, [], ◌∷◌, ◌++◌, flat_map}
use Rattle.table.specs.Table.{SetRef, fixed, family, Term, stop, fail, prefix, choice, par, call, SetDef, one}
use Rattle.table.specs.Table.{each}
use Rattle.table.specs.Table.{Definition, Table, size}
use Rattle.table.specs.Writing.{row_numbers, set_numbers, ref_numbers, term_numbers, definition_numbers, numbers_of}
use Rattle.table.specs.Parser.Mark.{Mark, mark, numbers}
use Rattle.table.proofs.Parser.Mark.{numbers_append}
use Rattle.table.specs.Rows.{rows_of}
use Rattle.table.specs.Marks.{event_marks, row_marks, set_marks, sets_marks, ref_marks, one_less, term_marks}
use Rattle.table.specs.Marks.{definition_marks, definitions_marks, table_marks}

both : (a b : List Mark) (x y : List ℕ) → numbers a ≡ x → numbers b ≡ y → numbers (a ++ b) ≡ x ++ y
both a b x y p q = numbers_append a b ∙ ap₂ ◌++◌ p q

flat_numbers : {A : Type 0} (w : A → List Mark) (v : A → List ℕ) → ((a : A) → numbers (w a) ≡ v a) → (l : List A)
    → numbers (flat_map w l) ≡ flat_map v l
unfolding flat_map
flat_numbers w v f [] = refl
flat_numbers w v f (a ∷ l) = both (w a) (flat_map w l) (v a) (flat_map v l) (f a) (flat_numbers w v f l)

events_numbers : (A low : ℕ) (es : List ℕ) → numbers (event_marks A low es) ≡ es
unfolding event_marks
events_numbers A low [] = refl
events_numbers A low (e ∷ es) = ap (λ (l : List ℕ). e ∷ l) (events_numbers A (suc e) es)

row_numbers_lem : (A : ℕ) (r : List ℕ) → numbers (row_marks A r) ≡ row_numbers r
unfolding row_marks row_numbers
row_numbers_lem A r = ap (λ (l : List ℕ). length r ∷ l) (events_numbers A 0 r)

set_numbers_lem : (A n : ℕ) (s : SetDef) → numbers (set_marks A n s) ≡ set_numbers s
unfolding set_marks set_numbers
set_numbers_lem A n (one r) = ap (λ (l : List ℕ). 0 ∷ l) (row_numbers_lem A r)
set_numbers_lem A n (each rs) = ap (λ (l : List ℕ). 1 ∷ l) (flat_numbers (row_marks A) row_numbers (row_numbers_lem A) rs)

sets_numbers : (A n : ℕ) (ss : List SetDef) → numbers (sets_marks A n ss) ≡ flat_map set_numbers ss
unfolding sets_marks flat_map
sets_numbers A n [] = refl
sets_numbers A n (s ∷ ss) =
    both (set_marks A n s) (sets_marks A (n + rows_of A s) ss) (set_numbers s) (flat_map set_numbers ss) (set_numbers_lem A n s)
    (sets_numbers A (n + rows_of A s) ss)

ref_numbers_lem : (sets : List SetDef) (r : SetRef) → numbers (ref_marks sets r) ≡ ref_numbers r
unfolding ref_marks ref_numbers
ref_numbers_lem sets (fixed s) = refl
ref_numbers_lem sets (family s k) = refl

term_numbers_lem : (sets : List SetDef) (deep n : ℕ) (p : Term) → numbers (term_marks sets deep n p) ≡ term_numbers p
unfolding term_marks term_numbers
term_numbers_lem sets deep n stop = refl
term_numbers_lem sets deep n fail = refl
term_numbers_lem sets deep n (prefix r p) =
    ap (λ (l : List ℕ). 2 ∷ l)
    (both (ref_marks sets r) (term_marks sets (one_less deep) (suc n) p) (ref_numbers r) (term_numbers p)
    (ref_numbers_lem sets r) (term_numbers_lem sets (one_less deep) (suc n) p))
term_numbers_lem sets deep n (choice p q) =
    ap (λ (l : List ℕ). 3 ∷ l)
    (both (term_marks sets (one_less deep) (suc n) p) (term_marks sets (one_less deep) (suc n + size p) q) (term_numbers p)
    (term_numbers q)
    (term_numbers_lem sets (one_less deep) (suc n) p) (term_numbers_lem sets (one_less deep) (suc n + size p) q))
term_numbers_lem sets deep n (par r p q) =
    let P = term_marks sets (one_less deep) (suc n) p in
    let Q = term_marks sets (one_less deep) (suc n + size p) q in
    ap (λ (l : List ℕ). 4 ∷ l)
    (both (ref_marks sets r) (P ++ Q) (ref_numbers r) (term_numbers p ++ term_numbers q) (ref_numbers_lem sets r)
    (both P Q (term_numbers p) (term_numbers q) (term_numbers_lem sets (one_less deep) (suc n) p)
    (term_numbers_lem sets (one_less deep) (suc n + size p) q)))
term_numbers_lem sets deep n (call d) = refl

definitions_numbers : (sets : List SetDef) (n : ℕ) (ds : List Definition)
    → numbers (definitions_marks sets n ds) ≡ flat_map definition_numbers ds
unfolding definitions_marks definition_marks definition_numbers flat_map
definitions_numbers sets n [] = refl
definitions_numbers sets n (d ∷ ds) =
    both (definition_marks sets n d) (definitions_marks sets (n + size d.body) ds) (definition_numbers d)
    (flat_map definition_numbers ds)
    (ap (λ (l : List ℕ). d.level ∷ l) (term_numbers_lem sets 32 n d.body))
    (definitions_numbers sets (n + size d.body) ds)

pub table_numbers : (t : Table) → numbers (table_marks t) ≡ numbers_of t
unfolding table_marks numbers_of
table_numbers t =
    let n = length t.definitions in
    ap (λ (l : List ℕ). t.alphabet ∷ length t.sets ∷ l)
    (both (sets_marks t.alphabet 0 t.sets)
    (mark n (leb 1 n && leb n 32) ∷ definitions_marks t.sets 0 t.definitions)
    (flat_map set_numbers t.sets) (n ∷ flat_map definition_numbers t.definitions)
    (sets_numbers t.alphabet 0 t.sets)
    (ap (λ (l : List ℕ). n ∷ l) (definitions_numbers t.sets 0 t.definitions)))
