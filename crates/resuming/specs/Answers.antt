-- The code's answers as 01 has them (01, "Which form goes where": "Where an answer is an enum, the promises use a
-- definition"), with what stands in the lent buffers.
--     Way                      the type of the answers
--     course_said              a monitor that goes on, on a number list with both areas, or a line that stands
--     resume_said              an answer of `resume` with every lent word
--     AfterPiece               the promise of `after_piece`
-- A line is said in crate `format`. The laws are in `Answers/`: `Laws`; of `resume`, by the ways out of its code,
-- `Pieces`. Assumes nothing.
use Rattle.std.specs.Prelude.{ℕ, ◌≡◌, Bool, List}
use Rattle.std.specs.declared.ops.ControlFlow.{ControlFlow}
use Rattle.std.specs.declared.ops.ControlFlow.TheVariants.{Continue, Break}
use Rattle.state.specs.declared.record.State.{State}
use Rattle.state.specs.Record.{monitor_of}
use Rattle.format.specs.declared.answer.Line.{Line}
use Rattle.format.specs.Line.{line_said}
use Rattle.line_spec.specs.Pieces.{Course, going, over, after_piece}
use Rattle.line_spec.specs.Whole.{ResumeOutcome}
pub mod Laws
pub mod Pieces

-- a monitor that goes on, or a line that stands
abbrev pub Way : Type 0
Way = ControlFlow Line State

abbrev pub course_said : List ℕ → Way → List ℕ → List ℕ → Course
course_said l (Continue s) a b = going l (monitor_of s a b)
course_said l (Break x) a b = over (line_said x)

-- with the lent words: the areas, the work area
abbrev pub resume_said : List ℕ → Way → List ℕ → List ℕ → List ℕ → ResumeOutcome
resume_said l r a b w = record { course = course_said l r a b; area0 = a; area1 = b; work = w }

-- ---- a piece's end

-- the promise of `after_piece`
abbrev pub AfterPiece : Way → Bool → Way → Type 0
AfterPiece c last r = (l a b : List ℕ) → course_said l r a b ≡ after_piece last (course_said l c a b)
