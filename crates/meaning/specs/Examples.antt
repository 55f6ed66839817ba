-- Worked tables and what they mean: 01's K1 to K12 ("Drawings on the wall") and rows that read parameters.
--     Row, rows        a table, a list of events, and whether the last definition holds it
--     Meant            the table is accepted; every model of Figure 2 and the chains of Figure 3 say what the row says
--     EachMeant        it holds of each row
--     table_of, abstract_b  a table over five sets; 01's table B
-- "failed at n" is two rows: the events without the last are held, with it they are not. How many residuals there are
-- is a matter of crate monitor_spec. That each row is meant is in `proofs/Examples/Laws.antt`. Assumes nothing.
use Rattle.std.specs.Prelude.{ℕ, Bool, true, false, List, [], ◌∷◌, ◌↔◌, T}
use Rattle.table.specs.Table.{fixed, family, Term, stop, fail, prefix, choice, par, call, one, each, Definition, Table}
use Rattle.table.specs.Rules.{Rules}
use Rattle.meaning.specs.Figure1 as F
use Rattle.meaning.specs.Figure1.{last}
use Rattle.meaning.specs.Figure2.{TraceSet, Model}
use Rattle.meaning.specs.Figure3.{Viable, Chain}

-- A = 3; sets {0}, {1}, {}, {0, 1}, and the rows {1}, {0}, {} by parameter
unfoldable pub table_of : List Definition → Table
table_of ds =
    record {
      alphabet = 3;
      sets =
          one (0 ∷ []) ∷ one (1 ∷ []) ∷ one [] ∷ one (0 ∷ 1 ∷ []) ∷ each ((1 ∷ []) ∷ (0 ∷ []) ∷ [] ∷ []) ∷ [];
      definitions = ds;
    }

pub record Row : Type 0 where
  pub table : Table
  pub events : List ℕ
  pub held : Bool

pub record Meant (r : Row) : Type 1 where
  pub rules : Rules r.table
  pub traces : (H : F.Term → TraceSet) → Model r.table H → H (F.call (last r.table)) r.events ↔ T r.held
  pub steps : ((Q : F.Term) × Chain r.table (F.call (last r.table)) r.events Q × Viable r.table Q)
      ↔ T r.held

pub data EachMeant : List Row → Type 1 where
  no_row : EachMeant []
  one_row : {r : Row} {rs : List Row} → Meant r → EachMeant rs → EachMeant (r ∷ rs)

-- ---- rows

abbrev level : ℕ → Term → Definition
level l p = record { level = l; body = p }

abbrev of : List Definition → List ℕ → Bool → Row
of ds es b = record { table = table_of ds; events = es; held = b }

abbrev alone : Term → List ℕ → Bool → Row
alone p es b = of (level 0 p ∷ []) es b

-- "With a = prefix {0}, b = prefix {1}"; x in {0, 1}; the row of the k-th enclosing prefix's event
abbrev a : Term → Term
a p = prefix (fixed 0) p

abbrev b : Term → Term
b p = prefix (fixed 1) p

abbrev x : Term → Term
x p = prefix (fixed 3) p

abbrev by_row : ℕ → Term → Term
by_row k p = prefix (family 4 k) p

-- 01, "The program and its lines": "Table B, A = 3, sets {0} and {1}, prefix {0}, prefix {1}, call 0"
unfoldable pub abstract_b : Table
abstract_b =
    record {
      alphabet = 3;
      sets = one (0 ∷ []) ∷ one (1 ∷ []) ∷ [];
      definitions = level 0 (a (b (call 0))) ∷ [];
    }

abbrev on_b : List ℕ → Bool → Row
on_b es v = record { table = abstract_b; events = es; held = v }

-- x in {0, 1}, then two of 1 beside one of 1, over row x
abbrev beside : Term
beside = x (par (family 4 0) (b (b stop)) (b stop))

-- a definition that reads a parameter, called under a prefix
abbrev called : List Definition
called = level 0 (x (by_row 0 stop)) ∷ level 0 (x (call 0)) ∷ []

-- 0 for ever, twice over {}
abbrev twice : List Definition
twice = level 0 (a (call 0)) ∷ level 1 (par (fixed 2) (call 0) (call 0)) ∷ []

abbrev pub rows : List Row
rows =
    -- K1, K2, K3
    on_b (0 ∷ []) true
    ∷ on_b (0 ∷ 0 ∷ []) false
    ∷ on_b [] true
    ∷ on_b (2 ∷ []) false
    ∷ on_b (0 ∷ 1 ∷ 0 ∷ []) true
    -- K4
    ∷ alone (a fail) [] true
    ∷ alone (a fail) (0 ∷ []) false
    -- K5, K6
    ∷ alone (par (fixed 2) stop fail) [] false
    ∷ alone (choice fail (a stop)) (0 ∷ []) true
    -- K7
    ∷ alone (choice (a stop) (a (b stop))) (0 ∷ []) true
    ∷ alone (choice (a stop) (a (b stop))) (0 ∷ 1 ∷ []) true
    -- K8
    ∷ alone (par (fixed 2) (a stop) (a stop)) (0 ∷ []) true
    ∷ alone (par (fixed 2) (a stop) (a stop)) (0 ∷ 0 ∷ []) true
    -- K9
    ∷ alone (par (fixed 0) (a stop) (a stop)) (0 ∷ []) true
    ∷ alone (par (fixed 0) (a stop) (a stop)) (0 ∷ 0 ∷ []) false
    -- K10
    ∷ alone (par (fixed 2) (a fail) (b stop)) (1 ∷ []) true
    ∷ alone (par (fixed 2) (a fail) (b stop)) (1 ∷ 0 ∷ []) false
    -- K11, K12
    ∷ alone (x (by_row 0 stop)) (0 ∷ 1 ∷ []) true
    ∷ alone (x (by_row 0 stop)) (0 ∷ []) true
    ∷ alone (x (by_row 0 stop)) (0 ∷ 0 ∷ []) false
    -- older parameters
    ∷ alone (x (x (by_row 1 stop))) (0 ∷ 1 ∷ 1 ∷ []) true
    ∷ alone (x (x (by_row 1 stop))) (0 ∷ 1 ∷ 0 ∷ []) false
    ∷ alone (x (x (x (by_row 2 stop)))) (0 ∷ 1 ∷ 1 ∷ 1 ∷ []) true
    ∷ alone (x (x (x (by_row 2 stop)))) (0 ∷ 1 ∷ 1 ∷ 0 ∷ []) false
    ∷ alone (x (x (x (x (by_row 3 stop))))) (0 ∷ 1 ∷ 1 ∷ 1 ∷ 1 ∷ []) true
    ∷ alone (x (x (x (x (by_row 3 stop))))) (0 ∷ 1 ∷ 1 ∷ 1 ∷ 0 ∷ []) false
    -- parameters within a choice and within a parallel
    ∷ alone (x (choice (by_row 0 stop) (b fail))) (1 ∷ 0 ∷ []) true
    ∷ alone (x (choice (by_row 0 stop) (b fail))) (1 ∷ 1 ∷ []) false
    ∷ alone (x (choice (b fail) (by_row 0 stop))) (1 ∷ 0 ∷ []) true
    ∷ alone (x (par (fixed 2) (by_row 0 stop) (by_row 0 stop))) (1 ∷ 0 ∷ 0 ∷ []) true
    ∷ alone (x (par (fixed 2) (by_row 0 stop) (by_row 0 stop))) (1 ∷ 0 ∷ 1 ∷ []) false
    -- a parallel keeps its set through later events
    ∷ alone beside (0 ∷ 1 ∷ []) true
    ∷ alone beside (0 ∷ 1 ∷ 1 ∷ []) false
    ∷ alone beside (1 ∷ 1 ∷ 1 ∷ 1 ∷ []) true
    -- calls
    ∷ of called (1 ∷ 0 ∷ 1 ∷ []) true
    ∷ of called (1 ∷ 0 ∷ 0 ∷ []) false
    ∷ of twice (0 ∷ 0 ∷ 0 ∷ []) true
    ∷ of twice (0 ∷ 1 ∷ []) false
    ∷ []
