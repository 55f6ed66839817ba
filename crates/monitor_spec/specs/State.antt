-- The state record, the lent areas and what an operation answers (01, "Operations", "When the monitor declines").
--     Verdict, State, Monitor          running or failed at a place; the record; the record with both areas
--     counted, holding                 one event more is taken; so many residuals are held
--     fresh_state, state_after         the record before any event; the record after one event more
--     Answer, Outcome                  a result, a refusal, a refusal with a record; the answer with all lent words
--     lengths_fit, areas_measured      the lengths of both areas, as numbers; of the areas
--     work_measured, slot_count        the length of the work area; how many slots an area has
--     even, choose                     which area is present
--     chunks, fill, laid               an area's slots; slots and then zeros; a record with its slots laid out
-- The laws are in `proofs/State/`: `Records`, `Areas`. Assumes nothing.
use Rattle.std.specs.Prelude.{ℕ, zero, suc, max, ◌/◌, ◌%◌, Bool, true, false, ◌&&◌, List, [], ◌∷◌, length, take, drop, eqb, leb}
unfoldable pub use Rattle.slots.specs.Canon.{fill}

-- "running or failed at a place"
pub data Verdict : Type 0 where
  running : Verdict
  failed_at : ℕ → Verdict

-- "The record holds taken, residual count, and running or failed at a place."; 02, W1: "The state record gains the
-- largest residual count since Start, the present one included"
pub record State : Type 0 where
  pub taken : ℕ
  pub count : ℕ
  pub peak : ℕ
  pub verdict : Verdict

-- "An empty set means failed, at taken with that event counted (0 at Start)."; "Later events are taken; the place
-- stays.": of k events taken and n residuals after them
unfoldable pub next_verdict : Verdict → ℕ → ℕ → Verdict
next_verdict (failed_at p) k n = failed_at p
next_verdict running k zero = failed_at k
next_verdict running k (suc n) = running

-- one event more is taken
unfoldable pub counted : State → State
counted s = record { taken = suc s.taken; count = s.count; peak = s.peak; verdict = s.verdict }

-- n residuals are held: 02, W1: "the largest .., the present one included"
unfoldable pub holding : State → ℕ → State
holding s n =
    record {
      taken = s.taken;
      count = n;
      peak = max s.peak n;
      verdict = next_verdict s.verdict s.taken n;
    }

-- "taken 0": with n residuals
unfoldable pub fresh_state : ℕ → State
fresh_state n = holding (record { taken = 0; count = 0; peak = 0; verdict = running }) n

-- one event more is taken, and leaves n residuals
unfoldable pub state_after : State → ℕ → State
state_after s n = holding (counted s) n

pub record Monitor : Type 0 where
  pub state : State
  pub area0 : List ℕ
  pub area1 : List ℕ

-- "Refusals 1 to 10 return number and place only"; "Refusals 11 to 13 also return the record after the events already
-- taken"
pub data Answer : Type 0 where
  given : State → Answer
  refused : ℕ → ℕ → Answer
  stopped : ℕ → ℕ → State → Answer

pub record Outcome : Type 0 where
  pub answer : Answer
  pub area0 : List ℕ
  pub area1 : List ℕ
  pub work : List ℕ

-- "Lent areas 0 and 1: u64 words, equal lengths, a multiple of 16 from 16 to 4,096."
unfoldable pub lengths_fit : ℕ → ℕ → Bool
lengths_fit a b = eqb a b && (eqb (a % 16) 0 && (leb 16 a && leb a 4096))

unfoldable pub areas_measured : List ℕ → List ℕ → Bool
unfolding lengths_fit
areas_measured a b = lengths_fit (length a) (length b)

-- "The work area, lent to all but View, is 8,192 u64 words"
unfoldable pub work_measured : List ℕ → Bool
work_measured w = eqb (length w) 8192

-- "slots (a sixteenth of one area's length)"
unfoldable pub slot_count : List ℕ → ℕ
slot_count a = length a / 16

-- "The present area is taken mod 2"
unfoldable pub even : ℕ → Bool
even n = eqb (n % 2) 0

unfoldable pub choose : {A : Type 0} → Bool → A → A → A
choose true a b = a
choose false a b = b

-- the first n slots of an area
unfoldable pub chunks : ℕ → List ℕ → List (List ℕ)
chunks zero a = []
chunks (suc n) a = take 16 a ∷ chunks n (drop 16 a)

-- "the present area has their slots and then zeros, the other area zeros": a record with areas of n slots
unfoldable pub laid : ℕ → State → List (List ℕ) → Monitor
laid n s ss =
    record {
      state = s;
      area0 = choose (even s.taken) (fill n ss) (fill n []);
      area1 = choose (even s.taken) (fill n []) (fill n ss);
    }
