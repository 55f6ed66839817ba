-- The text of a line of a trace (ours; docs/DECISIONS.md, "A line for each event, as it arrives"): `start - TAKEN
-- VERDICT PLACE RESIDUALS PEAK PERMITTED..`, `event EVENT TAKEN VERDICT PLACE RESIDUALS PEAK PERMITTED..` or `refused
-- NUMBER PLACE`, each with a line feed; bytes in ASCII.
--     number_text, numbers_text   a number after a space; some, one after the other
--     verdict_text, record_text   the verdict with its place; taken, verdict, residuals and peak
--     trace_text_of               the text of a line
-- A number's digits are those of crate `decimal`, the text of a refusal is that of crate `format`. The laws are in
-- `TraceText/Laws.antt`. Assumes nothing.
use Rattle.std.specs.Prelude.{ℕ, List, [], ◌∷◌, ◌++◌}
use Rattle.decimal.specs.Decimal.{decimal}
use Rattle.monitor_spec.specs.State.{Verdict, running, failed_at, State}
use Rattle.monitor_spec.specs.Offer.{EventBits}
use Rattle.line_spec.specs.Line.{refused}
use Rattle.format.specs.Text.{text_of}
use Rattle.trace_spec.specs.TraceLine.{TraceLine, starts, takes, refuses, events_in}
pub mod Laws

-- a space is 32
unfoldable pub number_text : ℕ → List ℕ
number_text n = 32 ∷ decimal n

unfoldable pub numbers_text : List ℕ → List ℕ
numbers_text [] = []
numbers_text (n ∷ ns) = number_text n ++ numbers_text ns

-- ` running` and place 0, or ` failed` and its place
unfoldable pub verdict_text : Verdict → List ℕ
verdict_text running = (32 ∷ 114 ∷ 117 ∷ 110 ∷ 110 ∷ 105 ∷ 110 ∷ 103 ∷ []) ++ number_text 0
verdict_text (failed_at place) = (32 ∷ 102 ∷ 97 ∷ 105 ∷ 108 ∷ 101 ∷ 100 ∷ []) ++ number_text place

-- "events taken, verdict with its place, residuals, peak"
unfoldable pub record_text : State → List ℕ
record_text s = number_text s.taken ++ (verdict_text s.verdict ++ (number_text s.count ++ number_text s.peak))

-- "and the events permitted next"; a line feed is 10
unfoldable pub rest_text : State → EventBits → List ℕ
rest_text s bits = record_text s ++ (numbers_text (events_in bits) ++ (10 ∷ []))

-- `start -`; `event` and its number; "A refusal is its last line": as `line_monitor` prints it
unfoldable pub trace_text_of : TraceLine → List ℕ
trace_text_of (starts s bits) = (115 ∷ 116 ∷ 97 ∷ 114 ∷ 116 ∷ 32 ∷ 45 ∷ []) ++ rest_text s bits
trace_text_of (takes e s bits) = (101 ∷ 118 ∷ 101 ∷ 110 ∷ 116 ∷ []) ++ (number_text e ++ rest_text s bits)
trace_text_of (refuses number place) = text_of (refused number place)
