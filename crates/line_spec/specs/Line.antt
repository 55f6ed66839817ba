-- The line that the program prints for an input (01, "The program and its lines").
--     Head, head_of                  an input's table bytes and events, or what is wrong with its length number
--     HeadWay                       what a head is, by the bytes of the input
--     Line                          what is printed
--     state_line, answer_line       of a record; of an answer of Open or Feed
--     fresh_on, fresh               Open of an empty list; of 256 slots
--     started_line, line_of          of a number list and events; of a whole input
-- The laws are in `proofs/Line/`: `Laws`; `Heads`, of an input that goes on; `Opened`, of one Open with all events.
-- Assumes nothing.
use Rattle.std.specs.Prelude.{ℕ, ◌≤◌, ◌<◌, ◌≡◌, true, false, List, [], ◌++◌, length, take, drop, ltb}
use Rattle.numbers.specs.Number.{Scan, value, truncated, malformed, read_number, bytes_of, Incomplete, IllWritten}
use Rattle.table.specs.Judge.{Judgement, accepted, declined, judge_bytes}
use Rattle.table.specs.Operations.{zeros}
use Rattle.monitor_spec.specs.State.{Verdict, running, failed_at, State, Monitor, Answer, given, stopped, Outcome}
use Rattle.monitor_spec.specs.State as state
use Rattle.monitor_spec.specs.Feed.{feed_of}
use Rattle.monitor_spec.specs.Open.{open_of}

pub data Head : Type 0 where
  parts : List ℕ → List ℕ → Head
  wrong : ℕ → ℕ → Head

-- "a length over 16,384 is 2; input ending within the table is 3, at the number of table bytes there": a length, and
-- what follows it
unfoldable pub cut : ℕ → List ℕ → Head
cut n s =
    elim (ltb 16384 n) [
      | true ↦ wrong 2 0
      | false ↦ elim (ltb (length s) n) [ true ↦ wrong 3 (length s) | false ↦ parts (take n s) (drop n s) ]
    ]

-- "The length number uses 3 and 4 with place 0"
unfoldable pub head_by : Scan → Head
head_by (value n k s) = cut n s
head_by truncated = wrong 3 0
head_by malformed = wrong 4 0

-- "Standard input: a number, that many table bytes, then events, one byte each."
unfoldable pub head_of : List ℕ → Head
head_of s = head_by (read_number s)

-- what the head of an input of bytes is, by the bytes
pub data HeadWay (s : List ℕ) : Head → Type 0 where
  -- "a number, that many table bytes, then events"
  input_parts : (bs es : List ℕ) → s ≡ bytes_of (length bs) ++ (bs ++ es) → length bs ≤ 16384 → HeadWay s (parts bs es)
  -- "a length over 16,384 is 2"
  length_over : (v : ℕ) (rest : List ℕ) → s ≡ bytes_of v ++ rest → 16384 < v → v ≤ 65535 → HeadWay s (wrong 2 0)
  -- "input ending within the table is 3, at the number of table bytes there"
  table_cut : (v : ℕ) (rest : List ℕ) → s ≡ bytes_of v ++ rest → v ≤ 16384 → length rest < v
      → HeadWay s (wrong 3 (length rest))
  -- "The length number uses 3 and 4 with place 0"
  length_cut : Incomplete s → HeadWay s (wrong 3 0)
  length_loose : IllWritten s → HeadWay s (wrong 4 0)

-- "`running TAKEN RESIDUALS`, `failed PLACE TAKEN`, or `refused NUMBER PLACE`"
pub data Line : Type 0 where
  runs fails refused : ℕ → ℕ → Line

unfoldable pub verdict_line : Verdict → ℕ → ℕ → Line
verdict_line running taken count = runs taken count
verdict_line (failed_at place) taken count = fails place taken

unfoldable pub state_line : State → Line
state_line s = verdict_line s.verdict s.taken s.count

-- "Events are placed from the input's first": they are all one call's, whose place is "events taken by this call"
unfoldable pub answer_line : Answer → Line
answer_line (given s) = state_line s
answer_line (state.refused n p) = refused n p
answer_line (stopped n p s) = refused n p

-- 02, W7: "the program .. use Open": with an empty list, on lent areas a and b
abbrev pub fresh_on : List ℕ → List ℕ → List ℕ → List ℕ → Outcome
fresh_on l a b w = open_of l a b [] w

-- "256 slots": 4,096 words
unfoldable pub fresh : List ℕ → Outcome
fresh l = fresh_on l (zeros 4096) (zeros 4096) (zeros 8192)

-- the monitor that an outcome leaves: a record with its areas
unfoldable pub monitor_left : Outcome → State → Monitor
monitor_left o s = record { state = s; area0 = o.area0; area1 = o.area1 }

-- Open's answer, with its outcome o, and then Feed's; of an empty list there is none of the third form
unfoldable pub started_by : List ℕ → List ℕ → Outcome → Answer → Line
started_by l es o (given s) = answer_line (feed_of l (monitor_left o s) es (zeros 8192)).answer
started_by l es o (state.refused n p) = refused n p
started_by l es o (stopped n p s) = refused n p

unfoldable pub started_line : List ℕ → List ℕ → Line
started_line l es = started_by l es (fresh l) (fresh l).answer

-- Read's judgement
unfoldable pub read_line : List ℕ → Judgement → Line
read_line es (accepted ns t) = started_line ns es
read_line es (declined n p) = refused n p

-- "all before Read"
unfoldable pub head_line : Head → Line
head_line (parts bs es) = read_line es (judge_bytes bs)
head_line (wrong n p) = refused n p

unfoldable pub line_of : List ℕ → Line
line_of s = head_line (head_of s)
