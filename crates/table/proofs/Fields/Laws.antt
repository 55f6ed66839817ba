-- The field rules are the bounds that the parser has: `Fields` against `TableOk`.
--     of_ref_imp, of_ref_and, of_call_imp  of a term's own reference
--     run_out, run_in                     rows
--     set_ok_out, set_ok_in               sets
--     fields_out, fields_in               tables
-- Assumes nothing.
use Rattle.std.specs.Prelude.{ℕ, suc, ◌≤◌, ◌<◌, List, [], ◌∷◌, length}
use Rattle.std.proofs.Common.{arith}
use Rattle.numbers.specs.Every.{All, all_imp, all_and}
use Rattle.table.specs.Table.{SetRef, Term, stop, fail, prefix, choice, par, call, SetDef, one}
use Rattle.table.specs.Table.{each, Definition, Table}
use Rattle.table.specs.Context.{Each}
use Rattle.table.proofs.Context.Laws.{each_imp, each_and}
use Rattle.table.specs.Fields.{RefExists, ParamSmall, OfRef, OfCall, depth_of, Ascending, EachRow, FamilyRows}
use Rattle.table.specs.Fields.{Fields}
use Rattle.table.proofs.Grammar.Sets.{Run, RowOk, SetOk}
use Rattle.table.proofs.Grammar.Terms.{RefOk}
use Rattle.table.proofs.Grammar.Whole.{DefinitionOk, TableOk}

-- ---- references
module _ (X Y : SetRef → Type 0) where
  pub of_ref_imp : ((r : SetRef) → X r → Y r) → (p : Term) → OfRef X p → OfRef Y p
  of_ref_imp f stop h = tt
  of_ref_imp f fail h = tt
  of_ref_imp f (prefix r p) h = f r h
  of_ref_imp f (choice p q) h = tt
  of_ref_imp f (par r p q) h = f r h
  of_ref_imp f (call d) h = tt

  pub of_ref_and : (p : Term) → OfRef X p → OfRef Y p → OfRef (λ r. X r × Y r) p
  of_ref_and stop h k = tt
  of_ref_and fail h k = tt
  of_ref_and (prefix r p) h k = (h, k)
  of_ref_and (choice p q) h k = tt
  of_ref_and (par r p q) h k = (h, k)
  of_ref_and (call d) h k = tt

pub of_call_imp : (X Y : ℕ → Type 0) → ((d : ℕ) → X d → Y d) → (p : Term) → OfCall X p → OfCall Y p
of_call_imp X Y f stop h = tt
of_call_imp X Y f fail h = tt
of_call_imp X Y f (prefix r p) h = tt
of_call_imp X Y f (choice p q) h = tt
of_call_imp X Y f (par r p q) h = tt
of_call_imp X Y f (call d) h = f d h

-- ---- rows
pub record RunIs (A low : ℕ) (es : List ℕ) : Type 0 where
  pub above : All (λ e. low ≤ e) es
  pub below : All (λ e. e < A) es
  pub order : Ascending es

pub run_out : (A low : ℕ) (es : List ℕ) → Run A low es → RunIs A low es
run_out A low [] h = record { above = tt; below = tt; order = tt }
run_out A low (e ∷ es) h =
    let r = run_out A (suc e) es h.2 in
    let l = h.0 in
    record {
      above = (h.0, all_imp (λ (f : ℕ). suc e ≤ f) (λ (f : ℕ). low ≤ f) (λ f k. omega arith) es r.above);
      below = (h.1, r.below);
      order = (r.above, r.order);
    }

pub run_in : (A low : ℕ) (es : List ℕ) → RunIs A low es → Run A low es
run_in A low [] r = tt
run_in A low (e ∷ es) r = (
  r.above.0,
  r.below.0,
  run_in A (suc e) es (record {
    above = r.order.0;
    below = r.below.1;
    order = r.order.1;
  }),
)

all_least : (es : List ℕ) → All (λ e. 0 ≤ e) es
all_least [] = tt
all_least (e ∷ es) = (omega arith, all_least es)

-- ---- sets
pub record SetIs (A : ℕ) (s : SetDef) : Type 0 where
  pub family_rows : FamilyRows A s
  pub counts : EachRow (λ r. length r ≤ A) s
  pub events : EachRow (All (λ e. e < A)) s
  pub order : EachRow Ascending s

pub set_ok_out : (A : ℕ) (s : SetDef) → SetOk A s → SetIs A s
set_ok_out A (one r) h =
    let i = run_out A 0 r h.1 in record { family_rows = tt; counts = h.0; events = i.below; order = i.order }
set_ok_out A (each rs) h =
    record {
      family_rows = h.0;
      counts = all_imp (RowOk A) (λ r. length r ≤ A) (λ r k. k.0) rs h.1;
      events = all_imp (RowOk A) (All (λ e. e < A)) (λ r k. (run_out A 0 r k.1).below) rs h.1;
      order = all_imp (RowOk A) Ascending (λ r k. (run_out A 0 r k.1).order) rs h.1;
    }

row_in : (A : ℕ) (r : List ℕ) → length r ≤ A → All (λ e. e < A) r → Ascending r → RowOk A r
row_in A r c b o = (c, run_in A 0 r (record { above = all_least r; below = b; order = o }))

pub set_ok_in : (A : ℕ) (s : SetDef) → SetIs A s → SetOk A s
set_ok_in A (one r) i = row_in A r i.counts i.events i.order
set_ok_in A (each rs) i = (
  i.family_rows,
  all_imp (λ r. (length r ≤ A) × (All (λ e. e < A) r × Ascending r)) (RowOk A)
      (λ r k. row_in A r k.0 k.1.0 k.1.1) rs
      (all_and (λ r. length r ≤ A) (λ r. All (λ e. e < A) r × Ascending r) rs i.counts
      (all_and (All (λ e. e < A)) Ascending rs i.events i.order)),
)

-- ---- tables
of_sets : (t : Table) (w : TableOk t) (X : SetDef → Type 0) → ((s : SetDef) → SetIs t.alphabet s → X s)
    → All X t.sets
of_sets t w X f = all_imp (SetOk t.alphabet) X (λ s h. f s (set_ok_out t.alphabet s h)) t.sets w.sets

of_bodies : (t : Table) (w : TableOk t) (X : Definition → Type 0) → ((d : Definition) → DefinitionOk t.sets d → X d)
    → All X t.definitions
of_bodies t w X f = all_imp (DefinitionOk t.sets) X f t.definitions w.bodies

pub fields_out : (t : Table) → TableOk t → Fields t
fields_out t w =
    let A = t.alphabet in
    record {
      alphabet_least = w.alphabet.0;
      alphabet_most_lem = w.alphabet.1;
      sets_most = w.sets_most;
      rows_most = w.rows_most;
      family_rows = of_sets t w (FamilyRows A) (λ s i. i.family_rows);
      row_counts = of_sets t w (EachRow (λ r. length r ≤ A)) (λ s i. i.counts);
      row_events = of_sets t w (EachRow (All (λ e. e < A))) (λ s i. i.events);
      row_order = of_sets t w (EachRow Ascending) (λ s i. i.order);
      definitions_least = w.definitions.0;
      definitions_most = w.definitions.1;
      levels = of_bodies t w (λ d. d.level ≤ 7) (λ d k. k.level);
      references =
          of_bodies t w (λ d. Each (OfRef (RefExists t.sets)) d.body)
          (λ d k. each_imp (OfRef (RefOk t.sets)) (OfRef (RefExists t.sets))
          (of_ref_imp (RefOk t.sets) (RefExists t.sets) (λ r x. x.0)) d.body k.references);
      parameters =
          of_bodies t w (λ d. Each (OfRef ParamSmall) d.body)
          (λ d k. each_imp (OfRef (RefOk t.sets)) (OfRef ParamSmall)
          (of_ref_imp (RefOk t.sets) ParamSmall (λ r x. x.1)) d.body k.references);
      terms_most = w.terms_most;
      nesting = of_bodies t w (λ d. depth_of d.body ≤ 32) (λ d k. k.nesting);
    }

refs_in : (sets : List SetDef) (p : Term) → Each (OfRef (RefExists sets)) p → Each (OfRef ParamSmall) p
    → Each (OfRef (RefOk sets)) p
refs_in sets p h k =
    each_imp (λ q. OfRef (RefExists sets) q × OfRef ParamSmall q) (OfRef (RefOk sets))
    (λ q x. of_ref_and (RefExists sets) ParamSmall q x.0 x.1) p
    (each_and (OfRef (RefExists sets)) (OfRef ParamSmall) p h k)

sets_in_lem : (A : ℕ) (ss : List SetDef) → All (FamilyRows A) ss → All (EachRow (λ r. length r ≤ A)) ss
    → All (EachRow (All (λ e. e < A))) ss
    → All (EachRow Ascending) ss → All (SetOk A) ss
sets_in_lem A [] f c e o = tt
sets_in_lem A (s ∷ ss) f c e o = (
  set_ok_in A s (record {
    family_rows = f.0;
    counts = c.0;
    events = e.0;
    order = o.0;
  }),
  sets_in_lem A ss f.1 c.1 e.1 o.1,
)

bodies_in : (sets : List SetDef) (ds : List Definition) → All (λ d. d.level ≤ 7) ds
    → All (λ d. Each (OfRef (RefExists sets)) d.body) ds
    → All (λ d. Each (OfRef ParamSmall) d.body) ds → All (λ d. depth_of d.body ≤ 32) ds
    → All (DefinitionOk sets) ds
bodies_in sets [] l r k n = tt
bodies_in sets (d ∷ ds) l r k n = (
  record {
    level = l.0;
    references = refs_in sets d.body r.0 k.0;
    nesting = n.0;
  },
  bodies_in sets ds l.1 r.1 k.1 n.1,
)

pub fields_in : (t : Table) → Fields t → TableOk t
fields_in t f =
    record {
      alphabet = (f.alphabet_least, f.alphabet_most_lem);
      sets_most = f.sets_most;
      rows_most = f.rows_most;
      sets = sets_in_lem t.alphabet t.sets f.family_rows f.row_counts f.row_events f.row_order;
      definitions = (f.definitions_least, f.definitions_most);
      bodies = bodies_in t.sets t.definitions f.levels f.references f.parameters f.nesting;
      terms_most = f.terms_most;
    }
