-- What this crate proves of the definitions: statements only. The proof of each is in `proofs/Theorems.antt`, under
-- the same name.
--     LastIsLine         the last line of a trace says what `line_monitor` prints of the input
--     LinesAreOffers     each line but a refusal has the record that Open gives of the events so far, and Offer's words
--     OneEach            a line at the start and one for each event taken, in order; then a refusal, or nothing
--     RefusalIsLast      nothing follows a refusal, whatever else comes
--     ReadsJoin          an input in reads has the lines of the whole
--     FrontsStand        what the beginning of an input decides, whatever follows it
--     TableIsRead        the table of a trace is the one that Read gave
--     EventsAreBits      the events of two words: those whose bits are set, ascending
--     Rows               the worked examples
-- Assumes nothing.
use Rattle.std.specs.Prelude.{ℕ, ◌-◌, ◌/◌, ◌%◌, ◌^◌, ◌≤◌, ◌<◌, ◌≡◌, true, ◌⊎◌, ◌↔◌}
use mathlib.Core.List.{List, [], ◌∷◌, ◌++◌, flatten}
use Rattle.numbers.specs.Number.{Bytes}
use Rattle.table.specs.Fields.{Ascending}
use Rattle.table.specs.Member.{elem}
use Rattle.table.specs.Table.{fail, Table}
use Rattle.table.specs.Judge.{accepted, judge_bytes, judge_list}
use Rattle.table.specs.Examples.{table_b}
use Rattle.monitor_spec.specs.State.{running, failed_at, State}
use Rattle.monitor_spec.specs.Offer.{EventBits}
use Rattle.line_spec.specs.Line.{parts, wrong, head_of, line_of}
use Rattle.line_spec.specs.Claims.{one_event_table}
use Rattle.trace_spec.specs.TraceLine.{TraceLine, starts, takes, refuses, LineAt, events_in}
use Rattle.trace_spec.specs.Trace.{trace_of, line_by}
use Rattle.trace_spec.specs.Reads.{ended, read_lines, reached_by, reads_of, Decided}
use Rattle.trace_spec.specs.Ways.{TraceWay, OffersThere}

-- "its last verdict is `line_monitor`'s line of the same input"
unfoldable pub LastIsLine : Type 0
LastIsLine =
    (s : List ℕ)
    → (before : List TraceLine) × (x : TraceLine) × (trace_of s ≡ before ++ x ∷ []) × (line_by x ≡ line_of s)

-- "each line's permitted events are Offer's"
unfoldable pub LinesAreOffers : Type 0
LinesAreOffers =
    (s : List ℕ) (k : ℕ) (st : State) (permitted : EventBits) → LineAt (trace_of s) k st permitted
    → OffersThere s k st permitted

-- "a line at the start and after each event"
unfoldable pub OneEach : Type 0
OneEach = (s : List ℕ) → TraceWay s (trace_of s)

-- "A refusal is its last line."
pub record RefusalIsLast : Type 0 where
  pub last : (s : List ℕ) (before after : List TraceLine) (n p : ℕ) → trace_of s ≡ before ++ refuses n p ∷ after
      → after ≡ []
  pub stands : (s : List ℕ) (before : List TraceLine) (n p : ℕ) → Decided s → trace_of s ≡ before ++ refuses n p ∷ []
      → (rest : List ℕ) → trace_of (s ++ rest) ≡ trace_of s

-- "It judges what has arrived": the head is there before the first read, or is all that there is
unfoldable pub ReadsJoin : Type 0
ReadsJoin =
    (s : List ℕ) (reads : List (List ℕ)) → Decided s ⊎ (reads ≡ []) → reads_of s reads ≡ trace_of (s ++ flatten reads)

-- a table that is there stays, and so does a wrong length number; the lines that were said stay, and the rest are those
-- of the events that follow
pub record FrontsStand : Type 0 where
  pub parts_stand : (s bs es rest : List ℕ) → head_of s ≡ parts bs es → head_of (s ++ rest) ≡ parts bs (es ++ rest)
  pub over_stands : (s rest : List ℕ) → head_of s ≡ wrong 2 0 → head_of (s ++ rest) ≡ wrong 2 0
  pub loose_stands : (s rest : List ℕ) → head_of s ≡ wrong 4 0 → head_of (s ++ rest) ≡ wrong 4 0
  pub lines_stand : (s rest : List ℕ) → Decided s → trace_of (s ++ rest) ≡ trace_of s ++ read_lines (reached_by s) rest
  pub ended_stands : (s rest : List ℕ) → Decided s → reached_by s ≡ ended → trace_of (s ++ rest) ≡ trace_of s

-- the operations judge the list themselves: of bytes, as Read judged them
unfoldable pub TableIsRead : Type 0
TableIsRead =
    (bs ns : List ℕ) (t : Table) → Bytes bs → judge_bytes bs ≡ accepted ns t → judge_list ns ≡ accepted ns t

-- 02, W6: "two words, events 0 to 63 in the first"
pub record EventsAreBits : Type 0 where
  pub ascending : (bits : EventBits) → Ascending (events_in bits)
  pub exact : (bits : EventBits) (e : ℕ) → (elem e (events_in bits) ≡ true)
      ↔ (((e < 64) × (bits.first / 2 ^ e % 2 ≡ 1)) ⊎ ((64 ≤ e) × (e < 128) × (bits.second / 2 ^ (e - 64) % 2 ≡ 1)))

-- ---- the worked examples

-- one residual is held after k events
abbrev ran : ℕ → State
ran k = record { taken = k; count = 1; peak = 1; verdict = running }

-- none is, after k events; it failed at p
abbrev failed : ℕ → ℕ → ℕ → State
failed k p peak = record { taken = k; count = 0; peak = peak; verdict = failed_at p }

-- events 0 to 63
abbrev words : ℕ → EventBits
words w = record { first = w; second = 0 }

-- 01's table B, events 0 and 1 in turn: nothing but the start; its run, whole and in reads; a failure, and an event
-- after it; 11, and what follows is not looked at; the head cut short, loose and over 16,384; the table cut short; a
-- table that failed at 0; the events of two words
unfoldable pub Rows : Type 0
Rows =
    (trace_of (16 ∷ table_b) ≡ starts (ran 0) (words 1) ∷ [])
    × (trace_of (16 ∷ table_b ++ (0 ∷ 1 ∷ 0 ∷ []))
    ≡ starts (ran 0) (words 1) ∷ takes 0 (ran 1) (words 2) ∷ takes 1 (ran 2) (words 1) ∷ takes 0 (ran 3) (words 2) ∷ [])
    × (reads_of (16 ∷ table_b) ((0 ∷ []) ∷ [] ∷ (1 ∷ 0 ∷ []) ∷ [])
    ≡ starts (ran 0) (words 1) ∷ takes 0 (ran 1) (words 2) ∷ takes 1 (ran 2) (words 1) ∷ takes 0 (ran 3) (words 2) ∷ [])
    × (trace_of (16 ∷ table_b ++ (0 ∷ 0 ∷ 1 ∷ []))
    ≡ starts (ran 0) (words 1) ∷ takes 0 (ran 1) (words 2) ∷ takes 0 (failed 2 2 1) (words 0)
    ∷ takes 1 (failed 3 2 1) (words 0) ∷ [])
    × (trace_of (16 ∷ table_b ++ (0 ∷ 3 ∷ 1 ∷ []))
    ≡ starts (ran 0) (words 1) ∷ takes 0 (ran 1) (words 2) ∷ refuses 11 1 ∷ [])
    × (trace_of [] ≡ refuses 3 0 ∷ [])
    × (trace_of (128 ∷ 0 ∷ []) ≡ refuses 4 0 ∷ [])
    × (trace_of (129 ∷ 128 ∷ 1 ∷ []) ≡ refuses 2 0 ∷ [])
    × (trace_of (16 ∷ 3 ∷ 2 ∷ []) ≡ refuses 3 2 ∷ [])
    × (trace_of (10 ∷ one_event_table fail ++ (0 ∷ []))
    ≡ starts (failed 0 0 0) (words 0) ∷ takes 0 (failed 1 0 0) (words 0) ∷ [])
    × (events_in (record { first = 5; second = 2 }) ≡ 0 ∷ 2 ∷ 65 ∷ [])
