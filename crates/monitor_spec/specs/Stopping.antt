-- When and where a feeding call stops (01, "When the monitor declines"), and demand 2 for one list (00, demand 2).
--     EventStops    refusal 11, 12 or 13 is met at an event, after a list
--     StoppedAt     so at a place of a call's events, and at none before it
--     AnswersOne    the answers of a call along a history, exactly
--     JudgesOne     running, failed at n and capacity exceeded, exactly, of an Open; the peak
-- Assumes nothing.
use Rattle.std.specs.Prelude.{ℕ, ◌≤◌, ◌<◌, ◌≡◌, List, [], ◌∷◌, ◌++◌, ◌↔◌, length, T}
use Rattle.table.specs.Table.{Table}
use Rattle.meaning.specs.Figure1.{Term}
use Rattle.meaning.specs.Figure2.{TraceSet}
use Rattle.monitor_spec.specs.State.{running, failed_at, State, Monitor, given, refused, stopped, areas_measured}
use Rattle.monitor_spec.specs.State.{work_measured, slot_count}
use Rattle.monitor_spec.specs.Feed.{counter_most, feed_of}
use Rattle.monitor_spec.specs.Open.{open_of}
use Rattle.monitor_spec.specs.Joined.{residual_count, extend}
use Rattle.monitor_spec.specs.History.{start, ShortestOutside, GreatestOver, Leaves}

-- after the joined events s, with n slots: "per event 11, 12, 13"
pub data EventStops (t : Table) (n : ℕ) (s : List ℕ) (e : ℕ) : ℕ → Type 0 where
  -- "strange event: event A or more"
  unknown : t.alphabet ≤ e → EventStops t n s e 11
  -- "counter full: taken is 2^64-1"
  full : e < t.alphabet → length s ≡ counter_most → EventStops t n s e 12
  -- "crowded: residuals after the event .. exceed the slots"; 00, demand 2: "with nothing earlier .. to refuse"
  exceeded : e < t.alphabet → (length s ≡ counter_most → ⊥) → n < residual_count t (s ++ e ∷ []) → EventStops t n s e 13

-- a call with the events es, where s were joined before it: the events before the place are joined whole
pub record StoppedAt (t : Table) (n : ℕ) (s es : List ℕ) (number place : ℕ) : Type 0 where
  pub before : List ℕ
  pub event : ℕ
  pub rest : List ℕ
  pub split : es ≡ before ++ event ∷ rest
  -- "events taken by this call"
  pub placed : length before ≡ place
  pub unrefused : extend t n s before ≡ s ++ before
  pub stops : EventStops t n (s ++ before) event number

-- a call on the monitor m, which s were joined to
pub record AnswersOne (l : List ℕ) (t : Table) (n : ℕ) (s : List ℕ) (m : Monitor) (es w : List ℕ) : Type 0 where
  -- a lent length that is not right
  pub unmeasured : (T (work_measured w) → ⊥) → (feed_of l m es w).answer ≡ refused 1 0
  -- a refusal is 1, for the work area
  pub refuses : (number place : ℕ) → (feed_of l m es w).answer ≡ refused number place
      → (T (work_measured w) → ⊥) × (number ≡ 1) × (place ≡ 0)
  -- 11, 12 and 13
  pub stops : (number place : ℕ) → ((r : State) × ((feed_of l m es w).answer ≡ stopped number place r))
      ↔ (T (work_measured w) × StoppedAt t n s es number place)
  -- "Refusals 11 to 13 also return the record after the events already taken, areas as then": as a call on those
  -- leaves them
  pub taken : (number place : ℕ) (r : State) → (feed_of l m es w).answer ≡ stopped number place r
      → (a : StoppedAt t n s es number place)
      → Leaves (feed_of l m a.before w)
      (record { state = r; area0 = (feed_of l m es w).area0; area1 = (feed_of l m es w).area1 })
  -- not refused: every event is joined
  pub gives : ((r : State) × ((feed_of l m es w).answer ≡ given r)) ↔ (T (work_measured w) × (extend t n s es ≡ s ++ es))

-- one list, given to Open: 02, W7, "Start and the first Feed become one operation"
pub record JudgesOne (l : List ℕ) (t : Table) (H : Term → TraceSet) (a b s work : List ℕ) : Type 0 where
  -- "One list fed to a fresh monitor and not refused gives running exactly when the trace set .. holds it"
  pub runs : (r : State) → (open_of l a b s work).answer ≡ given r → (r.verdict ≡ running) ↔ H (start t) s
  -- "and failed at n exactly when n is the length of its shortest beginning outside that set"
  pub fails : (r : State) → (open_of l a b s work).answer ≡ given r → (p : ℕ)
      → (r.verdict ≡ failed_at p) ↔ ShortestOutside (H (start t)) s p
  -- 02, W1: "the greatest count over all beginnings"
  pub peaks : (r : State) → (open_of l a b s work).answer ≡ given r → GreatestOver (residual_count t) s r.peak
  -- "Crowded is said exactly when, with nothing earlier in document 01's order to refuse, its residuals, .. after an
  -- event, outnumber the slots lent"; of the start, OpenExceeds
  pub exceeds : (place : ℕ) → ((r : State) × ((open_of l a b s work).answer ≡ stopped 13 place r))
      ↔ (T (areas_measured a b) × T (work_measured work) × (residual_count t [] ≤ slot_count a)
      × StoppedAt t (slot_count a) [] s 13 place)
