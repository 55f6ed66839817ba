-- Every number of a table that keeps the rules is small enough to be written (01, "Numbers and table": "is at most
-- 65,535").
--     numbers_small    the law
-- Assumes nothing.
use Rattle.std.specs.Prelude.{ℕ, suc, ◌+◌, ◌≤◌, ◌<◌, length}
use native.Mathlib.Omega.{arith}
use mathlib.Core.List.{List, [], ◌∷◌, ◌++◌, flat_map}
use Rattle.numbers.specs.Every.{All, AllFrom, all_imp, all_append}
use Rattle.table.specs.Table.{SetRef, fixed, family, Term, stop, fail, prefix, choice, par, call, SetDef, one}
use Rattle.table.specs.Table.{each, Definition, Table}
use Rattle.table.specs.Rows.{alphabet_most}
use Rattle.table.specs.Context.{Context, outermost, under_prefix, under_parallel, Each, Throughout}
use Rattle.table.specs.Fields.{OfRef, OfCall}
use Rattle.table.proofs.Fields.Laws.{fields_in, run_out}
use Rattle.table.proofs.Grammar.Sets.{RowOk, SetOk}
use Rattle.table.proofs.Grammar.Terms.{RefOk}
use Rattle.table.proofs.Grammar.Whole.{DefinitionOk}
use Rattle.table.specs.Writing.{row_numbers, set_numbers, ref_numbers, term_numbers, definition_numbers, numbers_of}
use Rattle.table.specs.Rules.{Rules}

abbrev pub Small : ℕ → Type 0
Small n = n ≤ 65535

all_flat : {A : Type 0} (X : A → Type 0) (w : A → List ℕ) → ((a : A) → X a → All Small (w a)) → (l : List A) → All X l
    → All Small (flat_map w l)
unfolding flat_map
all_flat X w f [] h = tt
all_flat X w f (a ∷ l) h = all_append Small (w a) (flat_map w l) (f a h.0) (all_flat X w f l h.1)

row_small : (A : ℕ) → A ≤ alphabet_most → (r : List ℕ) → RowOk A r → All Small (row_numbers r)
unfolding row_numbers
row_small A b r h =
    let c = h.0 in (omega arith, all_imp (λ (e : ℕ). e < A) Small (λ e k. omega arith) r (run_out A 0 r h.1).below)

set_small : (A : ℕ) → A ≤ alphabet_most → (s : SetDef) → SetOk A s → All Small (set_numbers s)
unfolding set_numbers
set_small A b (one r) h = (omega arith, row_small A b r h)
set_small A b (each rs) h = (omega arith, all_flat (RowOk A) row_numbers (row_small A b) rs h.1)

ref_small : (sets : List SetDef) → length sets ≤ 64 → (r : SetRef) → RefOk sets r → All Small (ref_numbers r)
unfolding ref_numbers
ref_small sets b (fixed s) h = let a = h.0.0 in (omega arith, tt)
ref_small sets b (family s k) h = let a = h.0.0 in let c = h.1 in (omega arith, (omega arith, tt))

module _ (sets : List SetDef) (n : ℕ) (b : length sets ≤ 64) (l : n ≤ 32) where
  term_small : (c : Context) (p : Term) → Each (OfRef (RefOk sets)) p → Throughout (λ c'. OfCall (λ e. e < n)) c p
      → All Small (term_numbers p)
  unfolding term_numbers
  term_small c stop h k = (omega arith, tt)
  term_small c fail h k = (omega arith, tt)
  term_small c (prefix r p) h k = (
    omega arith,
    all_append Small (ref_numbers r) (term_numbers p) (ref_small sets b r h.0)
        (term_small (under_prefix c) p h.1 k.1),
  )
  term_small c (choice p q) h k = (
    omega arith,
    all_append Small (term_numbers p) (term_numbers q) (term_small c p h.1 k.1) (term_small c q h.2 k.2),
  )
  term_small c (par r p q) h k = (
    omega arith,
    all_append Small (ref_numbers r) (term_numbers p ++ term_numbers q) (ref_small sets b r h.0)
        (all_append Small (term_numbers p) (term_numbers q) (term_small (under_parallel c) p h.1 k.1)
        (term_small (under_parallel c) q h.2 k.2)),
  )
  term_small c (call e) h k = (omega arith, (omega arith, tt))

  bodies_small : (i : ℕ) (ds : List Definition) → All (DefinitionOk sets) ds
      → AllFrom (λ own d. Throughout (λ c'. OfCall (λ e. e < n)) outermost d.body) i ds
      → All Small (flat_map definition_numbers ds)
  unfolding flat_map definition_numbers
  bodies_small i [] h k = tt
  bodies_small i (d ∷ ds) h k =
      let v = h.0.level in
      all_append Small (definition_numbers d) (flat_map definition_numbers ds)
      (omega arith, term_small outermost d.body h.0.references k.0) (bodies_small (suc i) ds h.1 k.1)

pub numbers_small : (t : Table) → Rules t → All Small (numbers_of t)
unfolding numbers_of
numbers_small t r =
    let w = fields_in t r.fields in
    let a = w.alphabet.1 in
    let b = w.sets_most in
    let c = w.definitions.1 in (
      omega arith,
      (
        omega arith,
        all_append Small (flat_map set_numbers t.sets)
            (length t.definitions ∷ flat_map definition_numbers t.definitions)
            (all_flat (SetOk t.alphabet) set_numbers (set_small t.alphabet a) t.sets w.sets) (
              omega arith,
              bodies_small t.sets (length t.definitions) b c 0 t.definitions w.bodies r.calls_exist,
            ),
      ),
    )
