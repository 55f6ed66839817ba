-- The code's answers as 01 has them (01, "Which form goes where": "Where an answer is an enum, the promises use a
-- definition"), with what stands in the lent buffers.
--     open_said, whole_said    an answer of `open`, `line` with every lent word
-- A head and a line are said in crate `format`, an answer of `resume` in crate `resuming`. The laws are in `Answers/`,
-- by the ways out of the code: `Opening` and `Whole`. Assumes nothing.
use Rattle.std.specs.Prelude.{ℕ, List, Result, Ok, Err}
use Rattle.table.specs.declared.answer.Refusal.{Refusal}
use Rattle.state.specs.Record.{state_of}
use Rattle.format.specs.declared.answer.Line as code
use Rattle.format.specs.Line.{line_said}
use Rattle.line.specs.declared.answer.Started.{Started}
use Rattle.line_spec.specs.Opening.{OpenAnswer, started, refuses, OpenOutcome}
use Rattle.line_spec.specs.Whole.{LineOutcome}
pub mod Opening
pub mod Whole

-- the type of what `open` answers
abbrev pub Opened : Type 0
Opened = Result Started Refusal

abbrev pub opened_said : Opened → OpenAnswer
opened_said (Ok y) = started (state_of y.state) y.count y.next
opened_said (Err q) = refuses q.number q.place

-- ---- with the lent words: the list, the areas, the work area

abbrev pub open_said : Opened → List ℕ → List ℕ → List ℕ → List ℕ → OpenOutcome
open_said r l a b w = record { answer = opened_said r; list = l; area0 = a; area1 = b; work = w }

abbrev pub whole_said : code.Line → List ℕ → List ℕ → List ℕ → List ℕ → LineOutcome
whole_said x l a b w = record { line = line_said x; list = l; area0 = a; area1 = b; work = w }
