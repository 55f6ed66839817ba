-- The same, of an input in pieces (ours): its front, which has the whole table, and any number of pieces after it.
--     Course                         a running monitor on a number list, or a line that stands
--     piece_of, conclude_of           after one piece more; the line at the input's end
--     after_piece                    a course where the input ended, or did not
--     Front, front_of, feed_front    what Open leaves, with the events of the front; these fed
--     pieces_of                       all of it
-- The laws are in `proofs/Pieces/`: `Laws`, `Joined`. Assumes nothing.
use Rattle.std.specs.Prelude.{ℕ, Bool, cond, List, [], ◌∷◌}
use Rattle.table.specs.Judge.{Judgement, accepted, declined, judge_bytes}
use Rattle.table.specs.Operations.{zeros}
use Rattle.monitor_spec.specs.State.{Monitor, Answer, given, stopped, Outcome}
use Rattle.monitor_spec.specs.State as state
use Rattle.monitor_spec.specs.Feed.{feed_of}
use Rattle.line_spec.specs.Line.{Head, parts, wrong, head_of, Line, refused, state_line, fresh, monitor_left}

pub data Course : Type 0 where
  going : List ℕ → Monitor → Course
  over : Line → Course

-- an answer of Feed: the record goes on; "Events are placed from the input's first", and all before were taken
unfoldable pub fed_by : List ℕ → Outcome → Answer → Course
fed_by l o (given s) = going l (monitor_left o s)
fed_by l o (state.refused n p) = over (refused n p)
fed_by l o (stopped n p s) = over (refused n s.taken)

unfoldable pub fed : List ℕ → Outcome → Course
fed l o = fed_by l o o.answer

unfoldable pub piece_of : Course → List ℕ → Course
piece_of (going l m) es = fed l (feed_of l m es (zeros 8192))
piece_of (over x) es = over x

-- the front: what Open leaves, and the events that are there already
pub record Front : Type 0 where
  pub course : Course
  pub events : List ℕ

unfoldable pub front_by : List ℕ → Judgement → Front
front_by es (accepted ns t) = record { course = fed ns (fresh ns); events = es }
front_by es (declined n p) = record { course = over (refused n p); events = es }

unfoldable pub front_head : Head → Front
front_head (parts bs es) = front_by es (judge_bytes bs)
front_head (wrong n p) = record { course = over (refused n p); events = [] }

unfoldable pub front_of : List ℕ → Front
front_of s = front_head (head_of s)

unfoldable pub feed_front : Front → Course
feed_front f = piece_of f.course f.events

unfoldable pub conclude_of : Course → Line
conclude_of (going l m) = state_line m.state
conclude_of (over x) = x

-- a course after a piece that was the input's last, or was not
unfoldable pub after_piece : Bool → Course → Course
after_piece last c = cond last (over (conclude_of c)) c

unfoldable pub through_pieces : Course → List (List ℕ) → Course
through_pieces c [] = c
through_pieces c (es ∷ ess) = through_pieces (piece_of c es) ess

unfoldable pub pieces_of : List ℕ → List (List ℕ) → Line
pieces_of front pieces = conclude_of (through_pieces (feed_front (front_of front)) pieces)
