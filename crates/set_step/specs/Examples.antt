-- Worked tables on the definitions: how many residuals stand at the start and after each of two events; the way of the
-- first residual at an event. Rows of one statement each, by computing. Assumes nothing.
use Rattle.std.specs.Prelude.{ℕ, Bool, true, false, ◌&&◌, List, [], ◌∷◌, length, T}
use Rattle.table.specs.Table.{fixed, family, Term, stop, fail, prefix, choice, par, call, one, each, Definition}
use Rattle.table.specs.Table.{Table}
use Rattle.table.specs.Memory.{no_memory}
use Rattle.residuals.specs.Residual.{resolve, after_all}
use Rattle.residuals.specs.Slots.{slots_of}
use Rattle.resolving.specs.Distinct.{same_words}
use Rattle.resolving.specs.ResidualWords.{nth}
use Rattle.tree_ways.specs.declared.only.Way.{Way}
use Rattle.tree_ways.specs.declared.only.Way.TheVariants.{Still, Moving, Many}
use Rattle.tree_ways.specs.Only.{way_of}

-- {0}, {}, {1}, {0, 1}, and the family with row 0 {1}, row 1 {0}, row 2 {}
abbrev pub table_with : List Definition → Table
table_with ds = record {
  alphabet = 3;
  sets =
      one (0 ∷ []) ∷ one [] ∷ one (1 ∷ []) ∷ one (0 ∷ 1 ∷ []) ∷ each ((1 ∷ []) ∷ (0 ∷ []) ∷ [] ∷ []) ∷ [];
  definitions = ds;
}

abbrev pub alone : Term → Table
alone p = table_with (record { level = 0; body = p } ∷ [])

-- 0, then a term; 1, then a term; 0 or 1, then a term; the family at the nearest event, then a term
abbrev pub a : Term → Term
a p = prefix (fixed 0) p

abbrev pub b : Term → Term
b p = prefix (fixed 2) p

abbrev pub x : Term → Term
x p = prefix (fixed 3) p

abbrev pub y : Term → Term
y p = prefix (family 4 0) p

-- how many residuals of term n stand at the start, after e, and after e and f
unfoldable pub standing : Table → ℕ → ℕ → ℕ → List ℕ
standing t n e f =
    length (slots_of (resolve t n no_memory)) ∷ length (slots_of (after_all t e (resolve t n no_memory)))
    ∷ length (slots_of (after_all t f (after_all t e (resolve t n no_memory)))) ∷ []

pub record Row : Type 0 where
  pub table : Table
  pub term : ℕ
  pub first : ℕ
  pub second : ℕ
  pub counts : List ℕ

unfoldable pub holds : Row → Bool
holds r = same_words (standing r.table r.term r.first r.second) r.counts

abbrev pub every : List Row → Bool
every [] = true
every (r ∷ rs) = holds r && every rs

abbrev pub rows : List Row
rows =
    -- K7: a choice between sides that begin alike: both stand after a, one after b
    record { table = alone (choice (a stop) (a (b stop))); term = 0; first = 0; second = 1; counts = 2 ∷ 2 ∷ 1 ∷ [] }
    -- K8: one side at a time
    ∷ record {
      table = alone (par (fixed 1) (a stop) (a stop));
      term = 0;
      first = 0;
      second = 0;
      counts = 1 ∷ 2 ∷ 1 ∷ [];
    }
    -- K9: both sides together
    ∷ record {
      table = alone (par (fixed 0) (a stop) (a stop));
      term = 0;
      first = 0;
      second = 0;
      counts = 1 ∷ 1 ∷ 0 ∷ [];
    }
    -- a set picked by the event before
    ∷ record { table = alone (x (y stop)); term = 0; first = 0; second = 1; counts = 1 ∷ 1 ∷ 1 ∷ [] }
    ∷ record { table = alone (x (y stop)); term = 0; first = 0; second = 0; counts = 1 ∷ 1 ∷ 0 ∷ [] }
    -- STOP after 0 and STOP after 1 are two residuals
    ∷ record {
      table = alone (par (fixed 1) (x stop) (x stop));
      term = 0;
      first = 0;
      second = 1;
      counts = 1 ∷ 2 ∷ 2 ∷ [];
    }
    -- a pair of two calls of 0, then itself: one residual, from both sides
    ∷ record {
      table = table_with (record { level = 0; body = a (call 0) }
          ∷ record { level = 1; body = par (fixed 1) (call 0) (call 0) } ∷ []);
      term = 2;
      first = 0;
      second = 0;
      counts = 1 ∷ 1 ∷ 1 ∷ [];
    }
    -- FAIL beside anything
    ∷ record { table = alone (par (fixed 1) (a stop) fail); term = 0; first = 0; second = 0; counts = 0 ∷ 0 ∷ 0 ∷ [] }
    ∷ []

unfoldable pub Examples : Type 0
Examples = T (every rows)

-- ---- ways

-- a way in numbers: 0 no result; 1 moves, with their bits and whether it is one result; 2 perhaps others
abbrev pub way_numbers : Way → List ℕ
way_numbers Still = 0 ∷ []
way_numbers (Moving m) = 1 ∷ m.each ∷ m.also ∷ elim m.lone [ true ↦ 1 | false ↦ 0 ] ∷ []
way_numbers Many = 2 ∷ []

pub record WayRow : Type 0 where
  pub table : Table
  pub event : ℕ
  pub way : List ℕ

unfoldable pub way_holds : WayRow → Bool
way_holds r = same_words (way_numbers (way_of r.table r.event (nth (resolve r.table 0 no_memory) 0))) r.way

abbrev pub every_way : List WayRow → Bool
every_way [] = true
every_way (r ∷ rs) = way_holds r && every_way rs

-- 0, then one of two
abbrev pub two : Term
two = a (choice (b stop) (a stop))

abbrev pub way_rows : List WayRow
way_rows =
    -- a leaf: not this event; one result; two
    record { table = alone (b stop); event = 0; way = 0 ∷ [] }
    ∷ record { table = alone (a stop); event = 0; way = 1 ∷ 1 ∷ 0 ∷ 1 ∷ [] }
    ∷ record { table = alone two; event = 0; way = 1 ∷ 1 ∷ 0 ∷ 0 ∷ [] }
    -- one side at a time: either leaf
    ∷ record { table = alone (par (fixed 1) (a stop) two); event = 0; way = 1 ∷ 6 ∷ 0 ∷ 0 ∷ [] }
    -- both sides together: the right leaf, the left with it
    ∷ record { table = alone (par (fixed 0) (a stop) (a stop)); event = 0; way = 1 ∷ 4 ∷ 2 ∷ 1 ∷ [] }
    ∷ record { table = alone (par (fixed 0) (a stop) two); event = 0; way = 1 ∷ 4 ∷ 2 ∷ 0 ∷ [] }
    ∷ record { table = alone (par (fixed 0) two (a stop)); event = 0; way = 1 ∷ 2 ∷ 4 ∷ 0 ∷ [] }
    -- each pair of two and two
    ∷ record { table = alone (par (fixed 0) two two); event = 0; way = 2 ∷ [] }
    ∷ []

unfoldable pub WayExamples : Type 0
WayExamples = T (every_way way_rows)
