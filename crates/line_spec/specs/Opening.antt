-- What `open` gives, with every lent word (ours): the front of an input read into lent buffers, and started.
--     lent_fit, lent              whether lent lengths are the program's
--     OpenAnswer, OpenOutcome     a record with two numbers, or a refusal; with what stands in the lent buffers
--     started_on, open_table      of a list that was opened; of a table's bytes
--     open_input_of               of an input
--     OpenWay                     its ways, with every lent word of each
--     open_course, Began          what it leaves, as a course; what holds where there is a record
-- The laws are in `Opening/`: `Laws`, `Front`. Assumes nothing.
use Rattle.std.specs.Prelude.{ℕ, ◌-◌, ◌≤◌, ◌≡◌, Bool, true, false, ◌&&◌, List, ◌++◌, length, take, drop, eqb}
use Rattle.table.specs.Table.{Table}
use Rattle.table.specs.Judge.{accepted, declined, judge_bytes}
use Rattle.table.specs.Operations.{done, refusal, zeros, read_of}
use Rattle.table.specs.Operations as read
use Rattle.monitor_spec.specs.State.{State, Answer, given, stopped, Outcome}
use Rattle.monitor_spec.specs.State as state
use Rattle.line_spec.specs.Line.{Head, parts, wrong, head_of, refused, fresh_on}
use Rattle.line_spec.specs.Pieces.{Course, going, over, front_of}
pub mod Front

-- "a lent u16 buffer of 16,384", "256 slots", a work area of "8,192 u64 words"
unfoldable pub lent_fit : ℕ → ℕ → ℕ → ℕ → Bool
lent_fit l a b w = eqb l 16384 && (eqb a 4096 && (eqb b 4096 && eqb w 8192))

-- the lists of lent buffers
abbrev pub lent : List ℕ → List ℕ → List ℕ → List ℕ → Bool
lent l a b w = lent_fit (length l) (length a) (length b) (length w)

-- a record, how many numbers of the list are the table's, and the place of the first event; or number and place
pub data OpenAnswer : Type 0 where
  started : State → ℕ → ℕ → OpenAnswer
  refuses : ℕ → ℕ → OpenAnswer

pub record OpenOutcome : Type 0 where
  pub answer : OpenAnswer
  pub list : List ℕ
  pub area0 : List ℕ
  pub area1 : List ℕ
  pub work : List ℕ

-- a refusal, with what stands in the list, the areas and the work area
unfoldable pub open_refused : ℕ → ℕ → List ℕ → List ℕ → List ℕ → List ℕ → OpenOutcome
open_refused n p l a b w = record { answer = refuses n p; list = l; area0 = a; area1 = b; work = w }

-- the answer of Open with an empty list, on so many numbers; there is none of the third form
unfoldable pub start_answer : ℕ → ℕ → Answer → OpenAnswer
start_answer count next (given s) = started s count next
start_answer count next (state.refused n p) = refuses n p
start_answer count next (stopped n p s) = refuses n p

-- its outcome; the list l is only read
unfoldable pub started_on : ℕ → ℕ → List ℕ → Outcome → OpenOutcome
started_on count next l o =
    record {
      answer = start_answer count next o.answer;
      list = l;
      area0 = o.area0;
      area1 = o.area1;
      work = o.work;
    }

-- by Read's answer, with the list and the work words that it left: the operations "take that list too", "without the
-- zeros"
unfoldable pub read_then : ℕ → read.Answer → List ℕ → List ℕ → List ℕ → List ℕ → OpenOutcome
read_then next (done count) l a b w = started_on count next l (fresh_on (take count l) a b w)
read_then next (refusal n p) l a b w = open_refused n p l a b w

-- Read of the table's bytes; the events begin at a place
unfoldable pub open_table : List ℕ → ℕ → List ℕ → List ℕ → List ℕ → List ℕ → OpenOutcome
open_table bs next l a b w = let o = read_of bs l w in read_then next o.answer o.output a b o.work

-- "that many table bytes, then events": they end an input of that size; "all before Read": all that is lent is kept
unfoldable pub open_head : ℕ → Head → List ℕ → List ℕ → List ℕ → List ℕ → OpenOutcome
open_head size (parts bs es) l a b w = open_table bs (size - length es) l a b w
open_head size (wrong n p) l a b w = open_refused n p l a b w

-- input, list, areas, work words; "wrong measure", place 0, all kept
unfoldable pub open_input_of : List ℕ → List ℕ → List ℕ → List ℕ → List ℕ → OpenOutcome
open_input_of s l a b w =
    elim (lent l a b w) [
      | true ↦ open_head (length s) (head_of s) l a b w
      | false ↦ open_refused 1 0 l a b w
    ]

-- ---- what it leaves

-- a monitor on the table's numbers, with the areas, or the line of a refusal
unfoldable pub course_by : List ℕ → List ℕ → List ℕ → OpenAnswer → Course
course_by l a b (started s count next) = going (take count l) (record { state = s; area0 = a; area1 = b })
course_by l a b (refuses n p) = over (refused n p)

unfoldable pub open_course : OpenOutcome → Course
open_course o = course_by o.list o.area0 o.area1 o.answer

-- its ways, with every lent word of each
pub data OpenWay (s l a b w : List ℕ) : OpenOutcome → Type 0 where
  -- a lent length is wrong
  lengths_wrong : lent l a b w ≡ false
      → OpenWay s l a b w (record { answer = refuses 1 0; list = l; area0 = a; area1 = b; work = w })
  -- the head is wrong
  head_wrong : (n p : ℕ) → lent l a b w ≡ true → head_of s ≡ wrong n p
      → OpenWay s l a b w (record { answer = refuses n p; list = l; area0 = a; area1 = b; work = w })
  -- "Read's output is zeroed on 2 to 9", and no monitor is opened
  table_declined : (bs es : List ℕ) (n p : ℕ) → lent l a b w ≡ true → head_of s ≡ parts bs es
      → judge_bytes bs ≡ declined n p
      → OpenWay s l a b w (record {
        answer = refuses n p;
        list = zeros 16384;
        area0 = a;
        area1 = b;
        work = zeros 8192;
      })
  -- Read gave the table's numbers, "zeros after", and a monitor was opened on them
  table_accepted : (bs es ns : List ℕ) (t : Table) → lent l a b w ≡ true → head_of s ≡ parts bs es
      → judge_bytes bs ≡ accepted ns t
      → OpenWay s l a b w (record {
        answer = start_answer (length ns) (length s - length es) (fresh_on ns a b (zeros 8192)).answer;
        list = ns ++ zeros (16384 - length ns);
        area0 = (fresh_on ns a b (zeros 8192)).area0;
        area1 = (fresh_on ns a b (zeros 8192)).area1;
        work = (fresh_on ns a b (zeros 8192)).work;
      })

-- of a record: lent lengths were right, and the events of the input s are there from a place on
pub record Began (s l a b w : List ℕ) (o : OpenOutcome) (count next : ℕ) : Type 0 where
  pub fit : lent l a b w ≡ true
  pub events : (front_of s).events ≡ drop next s
  pub within : next ≤ length s
  pub few : count ≤ length o.list
  pub work : o.work ≡ zeros 8192
