-- 01, "Drawings on the wall": K1 to K12 as rows of one statement, each through one Open on a number list.
--     Row, rows, says_all   a list, its events and what is answered; the rows; that each is answered so
--     opening               the answer of an Open with so many slots
-- Assumes nothing.
use Rattle.std.specs.Prelude.{ℕ, ◌*◌, ◌≡◌, List, [], ◌∷◌, map}
use Rattle.table.specs.Table.{fixed, family, Term, stop, fail, prefix, choice, par, one, each}
use Rattle.table.specs.Writing.{numbers_of}
use Rattle.table.specs.Operations.{zeros}
use Rattle.table.specs.Examples.{table_b}
use Rattle.monitor_spec.specs.State.{Verdict, running, failed_at, Answer, given, refused}
use Rattle.monitor_spec.specs.Open.{open_of}

-- A = 3; sets {0}, {1}, {}, {0,1}, and the rows {1}, {0}, {}; one definition
unfoldable pub drawn : Term → List ℕ
drawn p =
    numbers_of (record {
      alphabet = 3;
      sets = one (0 ∷ []) ∷ one (1 ∷ []) ∷ one [] ∷ one (0 ∷ 1 ∷ []) ∷ each ((1 ∷ []) ∷ (0 ∷ []) ∷ [] ∷ []) ∷ [];
      definitions = record { level = 0; body = p } ∷ [];
    })

-- "With a = prefix {0}, b = prefix {1}"
abbrev pub a : Term → Term
a p = prefix (fixed 0) p

abbrev pub b : Term → Term
b p = prefix (fixed 1) p

unfoldable pub opening : ℕ → List ℕ → List ℕ → Answer
opening n l es = (open_of l (zeros (n * 16)) (zeros (n * 16)) es (zeros 8192)).answer

pub record Row : Type 0 where
  pub list : List ℕ
  pub slots : ℕ
  pub events : List ℕ
  pub answer : Answer

-- the record after so many events, with so many residuals, and so many at most since it was opened
abbrev pub ends : ℕ → ℕ → ℕ → Verdict → Answer
ends n c p v = given (record { taken = n; count = c; peak = p; verdict = v })

abbrev pub rows : List Row
rows =
    -- "B on 0,0 failed at 2 (K1), on 2 failed at 1 (K2), on 0,1,0 running (K3)"
    record { list = table_b; slots = 2; events = 0 ∷ 0 ∷ []; answer = ends 2 0 1 (failed_at 2) }
    ∷ record { list = table_b; slots = 2; events = 2 ∷ []; answer = ends 1 0 1 (failed_at 1) }
    ∷ record { list = table_b; slots = 2; events = 0 ∷ 1 ∷ 0 ∷ []; answer = ends 3 1 1 running }
    -- "a to FAIL on 0 failed at 1 (K4)"
    ∷ record { list = drawn (a fail); slots = 2; events = 0 ∷ []; answer = ends 1 0 1 (failed_at 1) }
    -- "STOP parallel over {} FAIL failed at 0 (K5)"
    ∷ record { list = drawn (par (fixed 2) stop fail); slots = 2; events = []; answer = ends 0 0 0 (failed_at 0) }
    -- "FAIL choice a to STOP, on 0, running (K6)"
    ∷ record { list = drawn (choice fail (a stop)); slots = 2; events = 0 ∷ []; answer = ends 1 1 1 running }
    -- "(a to STOP) choice (a to b to STOP) holds 2 after 0, 1 after 0,1 (K7)"
    ∷ record { list = drawn (choice (a stop) (a (b stop))); slots = 2; events = 0 ∷ []; answer = ends 1 2 2 running }
    ∷ record {
      list = drawn (choice (a stop) (a (b stop)));
      slots = 2;
      events = 0 ∷ 1 ∷ [];
      answer = ends 2 1 2 running;
    }
    -- "(a to STOP) parallel over {} itself holds 2 after 0, 1 after 0,0 (K8)"
    ∷ record { list = drawn (par (fixed 2) (a stop) (a stop)); slots = 2; events = 0 ∷ []; answer = ends 1 2 2 running }
    ∷ record {
      list = drawn (par (fixed 2) (a stop) (a stop));
      slots = 2;
      events = 0 ∷ 0 ∷ [];
      answer = ends 2 1 2 running;
    }
    -- "The same over {0} holds 1 after 0, failed at 2 on 0,0 (K9)"
    ∷ record { list = drawn (par (fixed 0) (a stop) (a stop)); slots = 2; events = 0 ∷ []; answer = ends 1 1 1 running }
    ∷ record {
      list = drawn (par (fixed 0) (a stop) (a stop));
      slots = 2;
      events = 0 ∷ 0 ∷ [];
      answer = ends 2 0 1 (failed_at 2);
    }
    -- "(a to FAIL) parallel over {} (b to STOP), on 1,0, failed at 2 (K10)"
    ∷ record {
      list = drawn (par (fixed 2) (a fail) (b stop));
      slots = 2;
      events = 1 ∷ 0 ∷ [];
      answer = ends 2 0 1 (failed_at 2);
    }
    -- "x in {0,1}, then row x of ({1},{0},{}), to STOP: 0,1 running, 0,0 failed at 2 (K11, K12)"
    ∷ record {
      list = drawn (prefix (fixed 3) (prefix (family 4 0) stop));
      slots = 2;
      events = 0 ∷ 1 ∷ [];
      answer = ends 2 1 1 running;
    }
    ∷ record {
      list = drawn (prefix (fixed 3) (prefix (family 4 0) stop));
      slots = 2;
      events = 0 ∷ 0 ∷ [];
      answer = ends 2 0 1 (failed_at 2);
    }
    -- "K7 with one slot is crowded, place 0", while settling
    ∷ record { list = drawn (choice (a stop) (a (b stop))); slots = 1; events = []; answer = refused 13 0 }
    ∷ []

abbrev pub says_all : List Row → Type 0
says_all rs =
    map (λ (r : Row). opening r.slots r.list r.events) rs ≡ map (λ (r : Row). r.answer) rs
