-- Each refusal of Open, Feed and Offer by its condition, on every input (00, demand 1; 01, "When the monitor
-- declines"), and what is given where none is met.
--     Measured         the lent lengths are as they should be
--     IsTable          a number list meets none of 2 to 9
--     OpenRefused      Open's refusals without a record: 1, 2 to 9, 13 while settling
--     Fresh            the settled monitor: what it gives with an empty list
--     CallRefused      the refusals of Feed and Offer before an event: 1, 2 to 9, 10
--     Offers           the two words that Offer gives
--     WorkLeft         what stands in the work area after a call
-- The laws are in `proofs/Refusals/Laws.antt`. What Open and Feed do with events is in `Progress.antt`. Assumes
-- nothing.
use Rattle.std.specs.Prelude.{ℕ, ◌%◌, ◌≤◌, ◌<◌, ◌≡◌, List, [], length}
use Rattle.numbers.specs.Number.{list_bytes}
use Rattle.table.specs.Table.{Table}
use Rattle.table.specs.Writing.{numbers_of}
use Rattle.table.specs.Rules.{Rules}
use Rattle.table.specs.Refusals.{Refused}
use Rattle.table.specs.Operations.{zeros}
use Rattle.residuals.specs.Residual.{after_all, residuals_of}
use Rattle.residuals.specs.Slots.{slots_of}
use Rattle.monitor_spec.specs.Meaning.{Some}
use Rattle.monitor_spec.specs.State.{running, failed_at, Monitor, slot_count, fill}
use Rattle.monitor_spec.specs.Joined.{residual_count}
use Rattle.monitor_spec.specs.Offer.{EventBits}
use Rattle.monitor_spec.specs.Offers.{WordsJust}
use Rattle.monitor_spec.specs.Expected.{if_none}
use Rattle.monitor_spec.specs.Sensible.{Laid}

-- 01, "Operations": "Lent areas 0 and 1: u64 words, equal lengths, a multiple of 16 from 16 to 4,096. The work area,
-- .., is 8,192 u64 words"
pub record Measured (a b w : List ℕ) : Type 0 where
  pub equal : length a ≡ length b
  pub multiple : length a % 16 ≡ 0
  pub least : 16 ≤ length a
  pub most : length a ≤ 4096
  pub work : length w ≡ 8192

-- "accepted table (it meets none of 2 to 9)": the list is the writing of a table that keeps the rules
-- (`AcceptedExactly` of the table layer)
pub record IsTable (l : List ℕ) (t : Table) : Type 0 where
  pub written : l ≡ numbers_of t
  pub rules : Rules t
  pub short : length (list_bytes l) ≤ 16384

-- ---- Open

pub data OpenRefused (l a b w : List ℕ) (n p : ℕ) : Type 0 where
  -- 1, "wrong measure: a lent length is not as above", place 0
  wrong_length : (Measured a b w → ⊥) → n ≡ 1 → p ≡ 0 → OpenRefused l a b w n p
  -- 2 to 9, by the conditions of the table layer
  bad_table : Measured a b w → Refused l n p → OpenRefused l a b w n p
  -- 13, "crowded: residuals .. at Start, exceed the slots", place 0; 02, W7: "crowded while settling"
  exceeded : Measured a b w → (t : Table) → IsTable l t → slot_count a < residual_count t [] → n ≡ 13 → p ≡ 0
      → OpenRefused l a b w n p

-- 02, W7: "with an empty list it gives what Start gave": a record and both areas
pub record Fresh (l a b w : List ℕ) (m : Monitor) : Type 0 where
  pub measured : Measured a b w
  pub table : Table
  pub is_table : IsTable l table
  pub room : residual_count table [] ≤ slot_count a
  -- "Start settles the last definition into area 0, zeroes area 1, taken 0."
  pub taken : m.state.taken ≡ 0
  pub count : m.state.count ≡ residual_count table []
  -- 02, W1: "the largest residual count since Start, the present one included"
  pub peak : m.state.peak ≡ residual_count table []
  pub first : m.area0 ≡ fill (slot_count a) (slots_of (residuals_of table []))
  pub second : m.area1 ≡ fill (slot_count a) []
  -- "An empty set means failed, at .. (0 at Start)"
  pub verdict : m.state.verdict ≡ if_none (residuals_of table []) (failed_at 0) running

-- ---- Feed and Offer

pub data CallRefused (l : List ℕ) (m : Monitor) (w : List ℕ) (n p : ℕ) : Type 0 where
  wrong_length : (Measured m.area0 m.area1 w → ⊥) → n ≡ 1 → p ≡ 0 → CallRefused l m w n p
  bad_table : Measured m.area0 m.area1 w → Refused l n p → CallRefused l m w n p
  -- 10, "disturbed: state and area disagree", place 0: they are not those of any residuals
  inconsistent : Measured m.area0 m.area1 w → (t : Table) → IsTable l t
      → (Laid t (slot_count m.area0) m → ⊥) → n ≡ 10 → p ≡ 0 → CallRefused l m w n p

-- Offer's words, of a monitor that holds residuals
pub record Offers (l : List ℕ) (m : Monitor) (w : List ℕ) (bits : EventBits) : Type 0 where
  pub measured : Measured m.area0 m.area1 w
  pub table : Table
  pub is_table : IsTable l table
  pub laid : Laid table (slot_count m.area0) m
  -- "bit e is set exactly when the residuals after e, crowded or not, are not empty"; 02, W6: "two words, events 0 to
  -- 63 in the first"
  pub exact : WordsJust table.alphabet (λ (e : ℕ). Some (after_all table e laid.residuals)) bits
  -- where no event is from 64 on, the second word is 0
  pub one_word : table.alphabet ≤ 64 → bits.second ≡ 0
  -- "0 after failure"
  pub failed : (p : ℕ) → m.state.verdict ≡ failed_at p → bits ≡ record { first = 0; second = 0 }

-- ---- the work area

-- "all zero after each call, but kept on refusal 1": lent a, b and w, there stands v
pub record WorkLeft (a b w v : List ℕ) : Type 0 where
  pub zeroed : Measured a b w → v ≡ zeros 8192
  pub kept : (Measured a b w → ⊥) → v ≡ w
