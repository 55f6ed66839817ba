-- The line that was said last (ours; docs/DECISIONS.md, "A line for each event, as it arrives"): "its last verdict is
-- `line_monitor`'s line of the same input".
--     LastSaid      a line is the last of the trace of some bytes, and `line_monitor`'s line of them says the same
--     AfterReads    it is so of a front and some reads, and as many lines were said as their trace has;
--                   WhateverFollows: and of all that goes on with these
-- The laws are in `LastSaid/Laws.antt`. Assumes nothing.
use Rattle.std.specs.Prelude.{ℕ, ◌≡◌, length}
use mathlib.Core.List.{List, ◌++◌, flatten}
use Rattle.line_spec.specs.Line.{line_of}
use Rattle.trace_spec.specs.TraceLine.{TraceLine}
use Rattle.trace_spec.specs.Trace.{trace_of, line_by}
use Rattle.saying.specs.Spoken.{Counted, Utterance}
use Rattle.course_spec.specs.Course.{LastLine, EachSome}
pub mod Laws

pub record LastSaid (s : List ℕ) (x : TraceLine) : Type 0 where
  pub last : LastLine s x
  pub line : line_by x ≡ line_of s

-- the input is the front s and the reads, each of an event at least; as many lines were said as its trace has
pub record AfterReads (s : List ℕ) (x : Utterance) : Type 0 where
  pub reads : List (List ℕ)
  pub some : EachSome reads
  pub said : LastSaid (s ++ flatten reads) x.line
  pub count : Counted 0 (length (trace_of (s ++ flatten reads))) x.lines

-- "A refusal is its last line"
pub record WhateverFollows (s : List ℕ) (x : Utterance) : Type 0 where
  pub reads : List (List ℕ)
  pub some : EachSome reads
  pub said : (rest : List ℕ) → LastSaid (s ++ (flatten reads ++ rest)) x.line
  pub count : (rest : List ℕ) → Counted 0 (length (trace_of (s ++ (flatten reads ++ rest)))) x.lines
