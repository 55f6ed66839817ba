-- What the program says of an input (ours; docs/DECISIONS.md, "A line for each event, as it arrives"): the lines of its
-- trace, each as soon as its event is read.
--     Ending, Course           how an input came to its end; whether it has
--     LastLine                 a line is the last of the trace of some bytes
--     Rooms                    the lengths of the store and of the text's buffer
--     WentOn, StopSaid, Turned     the promise of `turn`: of one event
--     LineEach                  the trace has a line for each event
--     Onward, RefusedIn        through some events; an event among them was refused
--     ReadOn                   the promise of `take_read`: of the events of a read
--     AfterArrived             the promise of `after_arrived`: by what arrived
--     Gone, Followed           some reads, one after the other; the promise of `follow` and `begin`
--     ToldRefusal              the promise of `say_refusal`
--     Says                     the promise of `open_front` and `run`: of an input, by its front
-- A write that failed promises nothing: `Unsaid` is the evidence. The laws are in `Course/`: `Steps`, of some events;
-- `Laws`, of the functions; those of the front in crate `course`. Assumes nothing.
use Rattle.std.specs.Prelude.{ℕ, ◌+◌, ◌≤◌, ◌<◌, ◌≡◌, length, take, Result, Ok, Err}
use Rattle.std.specs.declared.ops.ControlFlow.{ControlFlow}
use Rattle.std.specs.declared.ops.ControlFlow.TheVariants.{Continue, Break}
use mathlib.Core.List.{List, [], ◌∷◌, ◌++◌, flatten}
use Rattle.table.specs.Table.{Table}
use Rattle.table_index.specs.Index.{table_in}
use Rattle.monitor_spec.specs.State.{Monitor}
use Rattle.state.specs.declared.record.State.{State}
use Rattle.state.specs.declared.answer.EventBits.{EventBits}
use Rattle.state.specs.Record.{state_of, monitor_of}
use Rattle.state.specs.Answers.{bits_of}
use Rattle.line_spec.specs.Judged.{Took}
use Rattle.input.specs.Arrival.{Arrived}
use Rattle.trace_spec.specs.TraceLine.{TraceLine, takes, refuses}
use Rattle.trace_spec.specs.Trace.{Beginning, begins, declines, beginning_of, start_line, trace_of}
use Rattle.trace_spec.specs.Reads.{at, reached_by}
use Rattle.feeding.specs.Feeding.{step_words}
use Rattle.tracing.specs.Tracing.{Tracing, TracedOn, RefusedEvent}
use Rattle.saying.specs.declared.print.Said.{Said}
use Rattle.course_spec.specs.declared.answer.Told.{Told}
use Rattle.course_spec.specs.declared.answer.Told.TheVariants.{Ended, Refused}
use Rattle.course_spec.specs.declared.answer.Trouble.{Trouble}
use Rattle.course_spec.specs.declared.answer.Trouble.TheVariants.{Unread, Unwritten}
use Rattle.saying.specs.Spoken.{said_line, Counted, Utterance, said_of, first_said}
pub mod Steps
pub mod Laws

-- how an input came to its end, or why the program stopped before
abbrev pub Ending : Type 0
Ending = Result Told Trouble

-- a monitor that goes on, with the last line that was said; or the end
abbrev pub Course : Type 0
Course = ControlFlow Ending (State × Said)

pub record LastLine (s : List ℕ) (x : TraceLine) : Type 0 where
  pub before : List TraceLine
  pub split : trace_of s ≡ before ++ x ∷ []

-- a step's store, as crate `tracing` asks; room for the longest line
abbrev pub Rooms : List ℕ → List ℕ → Type 0
Rooms store text = (length store ≡ step_words) × (2816 ≤ length text)

-- ---- one event

-- c lines were said; the event e was taken, and its line x said after them: the record after it, and the events
-- permitted next
pub record WentOn (l w : List ℕ) (m : Monitor) (c e : ℕ) (next : State) (x : Utterance) (a b : List ℕ) : Type 0 where
  pub bits : EventBits
  pub traced : TracedOn l w m e next bits a b
  pub line : x.line ≡ takes e (state_of next) (bits_of bits)
  pub count : Counted c 1 x.lines

-- the event e was refused, and its line x said: "Events are placed from the input's first"
pub record StopSaid (l : List ℕ) (m : Monitor) (c e : ℕ) (x : Utterance) (a b : List ℕ) : Type 0 where
  pub number : ℕ
  pub place : ℕ
  pub stopped : RefusedEvent l m e number place a b
  pub line : x.line ≡ refuses number place
  pub count : Counted c 1 x.lines

unfoldable pub Turned : List ℕ → List ℕ → Monitor → ℕ → ℕ → Course → List ℕ → List ℕ → Type 0
Turned l w m c e (Continue (next, y)) a b = WentOn l w m c e next (said_of y) a b
Turned l w m c e (Break (Ok (Refused y))) a b = StopSaid l m c e (said_of y) a b
Turned l w m c e (Break (Err (Unwritten u))) a b = Unit
Turned l w m c e (Break (Ok (Ended end y))) a b = ⊥
Turned l w m c e (Break (Err (Unread f))) a b = ⊥

-- ---- the events of a read

-- the trace of some bytes, with which the monitor m on the table t stands, has a line more for each event of es
abbrev pub LineEach : Table → Monitor → List ℕ → Type 0
LineEach t m es =
    (s : List ℕ) → reached_by s ≡ at t m → length (trace_of (s ++ es)) ≡ length (trace_of s) + length es

-- from the monitor m on the table t, with x as the last line, through just the events es to d, with y as the last; a
-- line was said for each
pub record Onward (t : Table) (m : Monitor) (x : Utterance) (es : List ℕ) (d : Monitor) (y : Utterance) : Type 0 where
  pub took : Took m.state (length es) d.state
  pub here : (s : List ℕ) → reached_by s ≡ at t m → reached_by (s ++ es) ≡ at t d
  pub last : (s : List ℕ) → reached_by s ≡ at t m → LastLine s x.line → LastLine (s ++ es) y.line
  pub each : LineEach t m es
  pub count : Counted x.lines (length es) y.lines

-- from m, an event of es is refused: with it and whatever follows, the trace has the line y more, and that is its last;
-- a line was said for each event before it, and then y
pub record RefusedIn (t : Table) (m : Monitor) (x : Utterance) (es : List ℕ) (y : Utterance) : Type 0 where
  pub before : List ℕ
  pub event : ℕ
  pub after : List ℕ
  pub split : es ≡ before ++ event ∷ after
  pub number : ℕ
  pub place : ℕ
  pub line : y.line ≡ refuses number place
  pub last : (s rest : List ℕ) → reached_by s ≡ at t m
      → trace_of (s ++ (before ++ event ∷ rest)) ≡ trace_of (s ++ before) ++ y.line ∷ []
  pub each : LineEach t m before
  pub count : Counted x.lines (length before + 1) y.lines

unfoldable pub ReadOver : Table → Monitor → Utterance → List ℕ → Ending → Type 0
ReadOver t m x es (Ok (Refused y)) = RefusedIn t m x es (said_of y)
ReadOver t m x es (Err (Unwritten u)) = Unit
ReadOver t m x es (Ok (Ended end y)) = ⊥
ReadOver t m x es (Err (Unread f)) = ⊥

unfoldable pub ReadOn : List ℕ → List ℕ → Monitor → Utterance → List ℕ → Course → List ℕ → List ℕ → Type 0
ReadOn l w m x es (Continue (next, y)) a b =
    Tracing l w (monitor_of next a b) × Onward (table_in l) m x es (monitor_of next a b) (said_of y)
ReadOn l w m x es (Break told) a b = ReadOver (table_in l) m x es told

-- ---- what arrived

-- so many bytes of the piece are the read's events; the end comes with the last line that was said
unfoldable pub AfterArrived : List ℕ → List ℕ → Monitor → Said → List ℕ → Arrived → Course → List ℕ → List ℕ → Type 0
AfterArrived l w m said piece (Ok (Continue n)) r a b = ReadOn l w m (said_of said) (take n piece) r a b
AfterArrived l w m said piece (Ok (Break end)) r a b = r ≡ Break (Ok (Ended end said))
AfterArrived l w m said piece (Err f) r a b = r ≡ Break (Err (Unread f))

-- ---- some reads

-- each brought an event at least
abbrev pub EachSome : List (List ℕ) → Type 0
EachSome [] = Unit
EachSome (es ∷ ess) = (0 < length es) × EachSome ess

pub record Gone (t : Table) (m : Monitor) (x : Utterance) (d : Monitor) (y : Utterance) : Type 0 where
  pub reads : List (List ℕ)
  pub some : EachSome reads
  pub onward : Onward t m x (flatten reads) d y

-- the input ended after some reads, with y as the last line
pub record EndsAfter (t : Table) (m : Monitor) (x y : Utterance) : Type 0 where
  pub monitor : Monitor
  pub gone : Gone t m x monitor y

-- an event of some reads was refused
pub record RefusedAfter (t : Table) (m : Monitor) (x y : Utterance) : Type 0 where
  pub reads : List (List ℕ)
  pub some : EachSome reads
  pub refused : RefusedIn t m x (flatten reads) y

unfoldable pub Followed : Table → Monitor → Utterance → Ending → Type 0
Followed t m x (Ok (Ended end y)) = EndsAfter t m x (said_of y)
Followed t m x (Ok (Refused y)) = RefusedAfter t m x (said_of y)
Followed t m x (Err (Unread f)) = Unit
Followed t m x (Err (Unwritten u)) = Unit

-- ---- the front

-- after c lines
abbrev pub ToldRefusal : ℕ → ℕ → ℕ → Ending → Type 0
ToldRefusal number place c (Ok (Ended end y)) = ⊥
ToldRefusal number place c (Ok (Refused y)) = (said_line y ≡ refuses number place) × Counted c 1 y.count.lines
ToldRefusal number place c (Err (Unread f)) = ⊥
ToldRefusal number place c (Err (Unwritten u)) = Unit

-- a refusal is said; a monitor is opened before any event, and from the line at the start on the input is followed
unfoldable pub SaysBy : Beginning → Ending → Type 0
SaysBy (begins ns t m es) r = (es ≡ []) × Followed t m (first_said (start_line t m)) r
SaysBy (declines number place) r = ToldRefusal number place 0 r

abbrev pub Says : List ℕ → Ending → Type 0
Says s r = SaysBy (beginning_of s) r
