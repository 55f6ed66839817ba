-- Residuals of small tables after lists of events, and their slots, as rows (01, "Residuals"; ours).
--     Row, rows, RowsHold          a body, its events and the residuals; the rows; that each has them
--     CallForgets                  a call begins with no memory
--     SlotsAscend                  the slots of residuals, in order and each once
-- Assumes nothing.
use Rattle.std.specs.Prelude.{ℕ, ◌≡◌, List, [], ◌∷◌, map}
use Rattle.table.specs.Table.{fixed, family, Term, stop, fail, prefix, choice, par, call, one, each, Definition, Table}
use Rattle.table.specs.Memory.{Memory, no_memory}
use Rattle.residuals.specs.Residual.{Residual, leaf, pair, residuals_of}
use Rattle.residuals.specs.Slots.{slots_of}

-- A = 3; sets {0}, {1}, {}, {0,1}, and the rows {1}, {0}, {}
abbrev pub table_of : List Definition → Table
table_of ds =
    record {
      alphabet = 3;
      sets = one (0 ∷ []) ∷ one (1 ∷ []) ∷ one [] ∷ one (0 ∷ 1 ∷ []) ∷ each ((1 ∷ []) ∷ (0 ∷ []) ∷ [] ∷ []) ∷ [];
      definitions = ds;
    }

abbrev pub define : Term → Definition
define p = record { level = 0; body = p }

-- the memory after events, the last one first
abbrev pub memory : ℕ → ℕ → Memory
memory x y = record { m0 = x; m1 = y; m2 = 0; m3 = 0 }

pub record Row : Type 0 where
  pub body : Term
  pub events : List ℕ
  pub residuals : List Residual

abbrev pub rows : List Row
rows =
    -- "STOP and a prefix give themselves with their memory; FAIL nothing"
    record { body = stop; events = []; residuals = leaf 0 no_memory ∷ [] }
    ∷ record { body = fail; events = []; residuals = [] }
    ∷ record { body = prefix (fixed 0) stop; events = []; residuals = leaf 0 no_memory ∷ [] }
    -- "choice the union": both branches go on after 0
    ∷ record {
      body = choice (prefix (fixed 0) stop) (prefix (fixed 3) fail);
      events = [];
      residuals = leaf 1 no_memory ∷ leaf 3 no_memory ∷ [];
    }
    ∷ record {
      body = choice (prefix (fixed 0) (prefix (fixed 0) stop)) (prefix (fixed 3) (prefix (fixed 1) stop));
      events = 0 ∷ [];
      residuals = leaf 2 (memory 0 0) ∷ leaf 5 (memory 0 0) ∷ [];
    }
    -- "parallel itself, with its memory, over every pair"; beside FAIL there is none
    ∷ record {
      body = par (fixed 2) (choice (prefix (fixed 0) stop) stop) stop;
      events = [];
      residuals =
          pair 0 no_memory (leaf 2 no_memory) (leaf 5 no_memory) ∷ pair 0 no_memory (leaf 4 no_memory) (leaf 5 no_memory) ∷ [];
    }
    ∷ record { body = par (fixed 2) (prefix (fixed 0) stop) fail; events = []; residuals = [] }
    -- "a prefix whose set holds e settles its follower with memory (e, m0, m1, m2), otherwise nothing"; "STOP gives
    -- nothing"
    ∷ record {
      body = prefix (fixed 3) (prefix (fixed 3) stop);
      events = 1 ∷ 0 ∷ [];
      residuals = leaf 2 (memory 0 1) ∷ [];
    }
    ∷ record { body = prefix (fixed 3) stop; events = 2 ∷ []; residuals = [] }
    ∷ record { body = stop; events = 0 ∷ []; residuals = [] }
    -- "row v is the set for parameter v", "the nearest being 0": after 1, the set is {0}
    ∷ record { body = prefix (fixed 3) (prefix (family 4 0) stop); events = 1 ∷ 1 ∷ []; residuals = [] }
    ∷ record {
      body = prefix (fixed 3) (prefix (family 4 0) stop);
      events = 1 ∷ 0 ∷ [];
      residuals = leaf 2 (memory 0 1) ∷ [];
    }
    -- "A pair whose set holds e gives every pair of the sides' results, otherwise one side's results with the other
    -- side kept"
    ∷ record {
      body = par (fixed 0) (prefix (fixed 0) stop) (prefix (fixed 0) stop);
      events = 0 ∷ [];
      residuals = pair 0 no_memory (leaf 2 (memory 0 0)) (leaf 4 (memory 0 0)) ∷ [];
    }
    ∷ record {
      body = par (fixed 2) (prefix (fixed 1) stop) (prefix (fixed 1) stop);
      events = 1 ∷ [];
      residuals =
          pair 0 no_memory (leaf 2 (memory 1 0)) (leaf 3 no_memory)
          ∷ pair 0 no_memory (leaf 1 no_memory) (leaf 4 (memory 1 0)) ∷ [];
    }
    ∷ []

unfoldable pub residuals_after : Row → List Residual
residuals_after r = residuals_of (table_of (define r.body ∷ [])) r.events

unfoldable pub RowsHold : Type 0
RowsHold = map residuals_after rows ≡ map (λ (r : Row). r.residuals) rows

-- "call the settled body", "all 0 at a body's start": 1 is not remembered behind the call
unfoldable pub CallForgets : Type 0
CallForgets =
    residuals_of (table_of (define (prefix (fixed 0) stop) ∷ define (prefix (fixed 3) (call 0)) ∷ [])) (1 ∷ [])
    ≡ leaf 0 no_memory ∷ []

-- "An area holds slots ascending by first differing word"; "A residual already held is not held twice"
unfoldable pub SlotsAscend : Type 0
SlotsAscend =
    slots_of (leaf 3 (memory 1 0) ∷ leaf 2 (memory 1 2) ∷ leaf 3 (memory 1 0)
    ∷ pair 0 no_memory (leaf 2 no_memory) (leaf 1 no_memory) ∷ [])
    ≡ (1 ∷ 539000832 ∷ 0 ∷ 0 ∷ 0 ∷ 0 ∷ 0 ∷ 0 ∷ 0 ∷ 0 ∷ 0 ∷ 0 ∷ 0 ∷ 0 ∷ 0 ∷ 0 ∷ [])
    ∷ (1 ∷ 807403520 ∷ 0 ∷ 0 ∷ 0 ∷ 0 ∷ 0 ∷ 0 ∷ 0 ∷ 0 ∷ 0 ∷ 0 ∷ 0 ∷ 0 ∷ 0 ∷ 0 ∷ [])
    ∷ (3 ∷ 0 ∷ 536870912 ∷ 268435456 ∷ 0 ∷ 0 ∷ 0 ∷ 0 ∷ 0 ∷ 0 ∷ 0 ∷ 0 ∷ 0 ∷ 0 ∷ 0 ∷ 0 ∷ []) ∷ []
