-- What a feeding call does with its events on any consistent monitor, reached or not, and what Open does with its
-- list (00, demand 1; 01, "When the monitor declines"; 02, W7).
--     Meets, Passes    an event meets 11, 12 or 13; the events of a list meet none
--     HaltsAt          the first event that meets one, at its place
--     LeavesAt         a refusal with a record: number, place, record and areas
--     PeakOnward       the peak after a list of events, from any before it
--     FeedStops        the call stops at an event;  FeedGives: it takes all events
--     OpenStops, OpenGives     so of Open, from the settled monitor
-- The laws are in `proofs/Progress/Laws.antt`. Assumes nothing.
use Rattle.std.specs.Prelude.{ℕ, suc, ◌+◌, ◌≤◌, ◌<◌, ◌≡◌, List, [], ◌∷◌, ◌++◌, ◌⊎◌, length, take}
use Rattle.table.specs.Table.{Table}
use Rattle.residuals.specs.Residual.{Residual, after_all, run, residuals_of}
use Rattle.residuals.specs.Slots.{slots_of}
use Rattle.monitor_spec.specs.State.{Monitor, stopped, Outcome, slot_count}
use Rattle.monitor_spec.specs.Feed.{counter_most}
use Rattle.monitor_spec.specs.Joined.{residual_count}
use Rattle.monitor_spec.specs.Expected.{monitor_onward, monitor_after}
use Rattle.monitor_spec.specs.Sensible.{Laid}
use Rattle.monitor_spec.specs.Refusals.{Measured, IsTable}

-- with n slots, k events taken and the residuals rs held: "per event 11, 12, 13"
pub data Meets (t : Table) (n k : ℕ) (rs : List Residual) (e : ℕ) : ℕ → Type 0 where
  -- "strange event: event A or more"
  unknown : t.alphabet ≤ e → Meets t n k rs e 11
  -- "counter full: taken is 2^64-1"
  full : e < t.alphabet → k ≡ counter_most → Meets t n k rs e 12
  -- "crowded: residuals after the event .. exceed the slots"
  exceeded : e < t.alphabet → (k ≡ counter_most → ⊥) → n < length (slots_of (after_all t e rs)) → Meets t n k rs e 13

abbrev pub Passes : Table → ℕ → ℕ → List Residual → List ℕ → Type 0
Passes t n k rs [] = Unit
Passes t n k rs (e ∷ es) =
    (e < t.alphabet)
    × (k ≡ counter_most → ⊥)
    × (length (slots_of (after_all t e rs)) ≤ n)
    × Passes t n (suc k) (after_all t e rs) es

-- a call with the events es
pub record HaltsAt (t : Table) (n k : ℕ) (rs : List Residual) (es : List ℕ) (number place : ℕ) : Type 0 where
  pub before : List ℕ
  pub event : ℕ
  pub rest : List ℕ
  pub split : es ≡ before ++ event ∷ rest
  -- "events taken by this call"
  pub placed : length before ≡ place
  pub passes : Passes t n k rs before
  pub meets : Meets t n (k + place) (run t rs before) event number

-- "Refusals 11 to 13 also return the record after the events already taken, areas as then"
pub record LeavesAt (o : Outcome) (number place : ℕ) (m : Monitor) : Type 0 where
  pub record_same : o.answer ≡ stopped number place m.state
  pub area0_same : o.area0 ≡ m.area0
  pub area1_same : o.area1 ≡ m.area1

-- 02, W1: "the largest residual count since Start, the present one included": from a peak p and residuals rs, after the
-- events es it is q
pub record PeakOnward (t : Table) (p : ℕ) (rs : List Residual) (es : List ℕ) (q : ℕ) : Type 0 where
  pub before : p ≤ q
  pub bounds : (k : ℕ) → length (slots_of (run t rs (take k es))) ≤ q
  pub reached : (q ≡ p) ⊎ ((k : ℕ) × (length (slots_of (run t rs (take k es))) ≡ q))

-- the call on m stops at an event, and leaves the monitor that the events before it call for
pub record FeedStops (l : List ℕ) (m : Monitor) (es w : List ℕ) (number place : ℕ) (left : Monitor) : Type 0 where
  pub measured : Measured m.area0 m.area1 w
  pub table : Table
  pub is_table : IsTable l table
  pub laid : Laid table (slot_count m.area0) m
  pub halts : HaltsAt table (slot_count m.area0) m.state.taken laid.residuals es number place
  pub leaves : left ≡ monitor_onward table (slot_count m.area0) m.state laid.residuals halts.before

-- the call on m takes all events, and leaves the monitor that they call for
pub record FeedGives (l : List ℕ) (m : Monitor) (es w : List ℕ) (left : Monitor) : Type 0 where
  pub measured : Measured m.area0 m.area1 w
  pub table : Table
  pub is_table : IsTable l table
  pub laid : Laid table (slot_count m.area0) m
  pub passes : Passes table (slot_count m.area0) m.state.taken laid.residuals es
  pub leaves : left ≡ monitor_onward table (slot_count m.area0) m.state laid.residuals es

-- 02, W7: "Refusals 11 to 13 during the list answer as Feed's": the settled residuals fit the slots, and an event of
-- the list meets a refusal, at its place; record and areas are as after the events before it
pub record OpenStops (l a b es w : List ℕ) (number place : ℕ) (left : Monitor) : Type 0 where
  pub measured : Measured a b w
  pub table : Table
  pub is_table : IsTable l table
  pub room : residual_count table [] ≤ slot_count a
  pub halts : HaltsAt table (slot_count a) 0 (residuals_of table []) es number place
  pub leaves : left ≡ monitor_after table (slot_count a) halts.before

-- it takes all events of the list
pub record OpenGives (l a b es w : List ℕ) (left : Monitor) : Type 0 where
  pub measured : Measured a b w
  pub table : Table
  pub is_table : IsTable l table
  pub room : residual_count table [] ≤ slot_count a
  pub passes : Passes table (slot_count a) 0 (residuals_of table []) es
  pub leaves : left ≡ monitor_after table (slot_count a) es
