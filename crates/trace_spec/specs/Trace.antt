-- The lines of a whole input (ours; docs/DECISIONS.md, "A trace has a line for each event"): "a line at the start and
-- after each event".
--     Beginning, beginning_of    what stands before the first event, with the events; or a refusal
--     Begins                     an input with which a monitor is opened
--     permitted_by               what Offer says of a monitor
--     event_lines                the lines of events, from a monitor on
--     trace_of                   the lines of an input
--     line_by                    what `line_monitor` would print in a line's place
-- The laws are in `proofs/Trace/`: `Begun`, what a beginning is, by the input; `Lines`, of the lines of events; `Last`,
-- of the last one. Assumes nothing.
use Rattle.std.specs.Prelude.{ℕ, ◌≤◌, ◌≡◌, List, [], ◌∷◌}
use Rattle.table.specs.Table.{Table}
use Rattle.table.specs.Judge.{Judgement, accepted, declined, judge_bytes, judge_list}
use Rattle.monitor_spec.specs.State.{Monitor, Answer, given, refused, stopped, Outcome}
use Rattle.monitor_spec.specs.Fold.{went, stops}
use Rattle.monitor_spec.specs.Feed.{take_event}
use Rattle.monitor_spec.specs.Joined.{residual_count}
use Rattle.monitor_spec.specs.Offer.{EventBits, offer_bits}
use Rattle.line_spec.specs.Line.{Head, parts, wrong, head_of, Line, state_line, fresh, monitor_left}
use Rattle.line_spec.specs.Line as line
use Rattle.trace_spec.specs.TraceLine.{TraceLine, starts, takes, refuses}

-- ---- before the first event

-- the table's numbers, the table, the monitor that Open gives and the events of the input; or number and place
pub data Beginning : Type 0 where
  begins : List ℕ → Table → Monitor → List ℕ → Beginning
  declines : ℕ → ℕ → Beginning

-- Open's answer to an empty list, with its outcome o; there is none of the third form
unfoldable pub begin_open : List ℕ → Table → List ℕ → Outcome → Answer → Beginning
begin_open ns t es o (given s) = begins ns t (monitor_left o s) es
begin_open ns t es o (refused n p) = declines n p
begin_open ns t es o (stopped n p s) = declines n p

-- the operations "take that list too": what they judge it to be; 256 slots, as `line_monitor` has
unfoldable pub begin_list : List ℕ → List ℕ → Judgement → Beginning
begin_list ns es (accepted ks t) = begin_open ns t es (fresh ns) (fresh ns).answer
begin_list ns es (declined n p) = declines n p

-- Read's judgement
unfoldable pub begin_table : List ℕ → Judgement → Beginning
begin_table es (accepted ns t) = begin_list ns es (judge_list ns)
begin_table es (declined n p) = declines n p

unfoldable pub begin_head : Head → Beginning
begin_head (parts bs es) = begin_table es (judge_bytes bs)
begin_head (wrong n p) = declines n p

-- "The same input": 01, "a number, that many table bytes, then events, one byte each"
unfoldable pub beginning_of : List ℕ → Beginning
beginning_of s = begin_head (head_of s)

-- the input s has a table whose numbers are ns, judged as t, and the events es; its residuals fit 256 slots
pub record Begins (s ns : List ℕ) (t : Table) (es : List ℕ) : Type 0 where
  pub bytes : List ℕ
  pub head : head_of s ≡ parts bytes es
  pub table : Table
  pub read : judge_bytes bytes ≡ accepted ns table
  pub numbers : List ℕ
  pub says : judge_list ns ≡ accepted numbers t
  pub room : residual_count t [] ≤ 256

-- ---- the lines

-- "the events permitted next": Offer's words of a monitor on the table t, "0 after failure"
unfoldable pub permitted_by : Table → Monitor → EventBits
permitted_by t m = offer_bits t m m.state.verdict

-- "after each event"; a refusal's place is the events taken: "Events are placed from the input's first"
unfoldable pub event_lines : Table → Monitor → List ℕ → List TraceLine
event_lines t m [] = []
event_lines t m (e ∷ es) =
    elim (take_event t m e) [
      | went d ↦ takes e d.state (permitted_by t d) ∷ event_lines t d es
      | stops n ↦ refuses n m.state.taken ∷ []
    ]

-- "at the start"
unfoldable pub start_line : Table → Monitor → TraceLine
start_line t m = starts m.state (permitted_by t m)

unfoldable pub trace_from : Beginning → List TraceLine
trace_from (begins ns t m es) = start_line t m ∷ event_lines t m es
trace_from (declines n p) = refuses n p ∷ []

unfoldable pub trace_of : List ℕ → List TraceLine
trace_of s = trace_from (beginning_of s)

-- 01: "`running TAKEN RESIDUALS`, `failed PLACE TAKEN`, or `refused NUMBER PLACE`"
unfoldable pub line_by : TraceLine → Line
line_by (starts s bits) = state_line s
line_by (takes e s bits) = state_line s
line_by (refuses n p) = line.refused n p
