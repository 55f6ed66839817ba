-- What a trace is, by its input (ours).
--     TraceWay        a refusal; or a line at the start, one for each event taken, and a refusal or nothing
--     OffersThere     what a line's record and words are
-- The laws are in `proofs/Ways/`: `Each`, `Offers`. Assumes nothing.
use Rattle.std.specs.Prelude.{ℕ, ◌≡◌, List, [], ◌∷◌, ◌++◌, length}
use Rattle.table.specs.Table.{Table}
use Rattle.table.specs.Judge.{accepted, judge_bytes}
use Rattle.table.specs.Operations.{zeros}
use Rattle.monitor_spec.specs.State.{State, given}
use Rattle.monitor_spec.specs.Open.{open_of}
use Rattle.monitor_spec.specs.Offer.{EventBits, offers, offer_of}
use Rattle.monitor_spec.specs.Joined.{extend}
use Rattle.line_spec.specs.Line.{parts, head_of, refused, line_of, monitor_left}
use Rattle.trace_spec.specs.TraceLine.{TraceLine, starts, refuses, OneFor}
use Rattle.trace_spec.specs.Trace.{Begins}

-- "prints a line at the start and after each event"; "A refusal is its last line": the events taken are 01's, "Every
-- event before that goes to the list's end"
pub data TraceWay (s : List ℕ) : List TraceLine → Type 0 where
  -- no monitor is opened
  only_refusal : (n p : ℕ) → ((ns : List ℕ) (t : Table) (es : List ℕ) → Begins s ns t es → ⊥)
      → line_of s ≡ refused n p → TraceWay s (refuses n p ∷ [])
  -- all events are taken
  takes_all : (ns : List ℕ) (t : Table) (es : List ℕ) → Begins s ns t es → extend t 256 [] es ≡ es
      → (st : State) (bits : EventBits) (xs : List TraceLine) → OneFor es xs → TraceWay s (starts st bits ∷ xs)
  -- those before an event that is refused
  takes_some : (ns : List ℕ) (t : Table) (es fs : List ℕ) (e : ℕ) (rest : List ℕ) → Begins s ns t es
      → es ≡ fs ++ e ∷ rest → extend t 256 [] es ≡ fs → (st : State) (bits : EventBits) (xs : List TraceLine)
      → OneFor fs xs → (n : ℕ) → TraceWay s (starts st bits ∷ (xs ++ refuses n (length fs) ∷ []))

-- the input s has a table, of the numbers ns; before the line so many of its events came. Open, lent 256 slots, gives
-- of them the line's record, and Offer on what Open left gives the line's words
pub record OffersThere (s : List ℕ) (k : ℕ) (st : State) (permitted : EventBits) : Type 0 where
  pub bytes : List ℕ
  pub events : List ℕ
  pub head : head_of s ≡ parts bytes events
  pub numbers : List ℕ
  pub table : Table
  pub read : judge_bytes bytes ≡ accepted numbers table
  pub before : List ℕ
  pub rest : List ℕ
  pub split : events ≡ before ++ rest
  pub place : length before ≡ k
  pub opened : (open_of numbers (zeros 4096) (zeros 4096) before (zeros 8192)).answer ≡ given st
  pub offered : (offer_of numbers (monitor_left (open_of numbers (zeros 4096) (zeros 4096) before (zeros 8192)) st)
      (zeros 8192)).answer ≡ offers permitted
