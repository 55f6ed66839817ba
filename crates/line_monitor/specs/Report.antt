-- What the program says of an input: a line, or that the input could not be read (ours; docs/DECISIONS.md, "An input
-- that cannot be read gets no line"). A buffer of 65,536 bytes is filled again and again with what follows the front.
--     Report       the type of what is said
--     Says         the promise of `run`: of an input, by its front
--     Followed     of `follow`: from an outcome on
--     FrontFed     of `feed_front`: from the events of the front on
-- The laws are in `Report/`: of a turn, `Laws`; of the front, `Front`. Assumes nothing.
use Rattle.std.specs.Prelude.{ℕ, ◌≡◌, Bool, true, false, List, Result, Ok, Err}
use Rattle.input.specs.declared.reading.Failure.{Failure}
use Rattle.line_spec.specs.Line.{line_of}
use Rattle.line_spec.specs.Pieces.{conclude_of}
use Rattle.line_spec.specs.Whole.{ResumeOutcome}
use Rattle.line_spec.specs.Judged.{ComesTo, Judged}
use Rattle.format.specs.declared.answer.Line.{Line}
use Rattle.format.specs.Line.{line_said}
pub mod Laws
pub mod Front

-- the line of an input, or why it could not be read
abbrev pub Report : Type 0
Report = Result Line Failure

-- an input that ended with its front s gets its line; one that did not, the line of its bytes, or none
abbrev pub Says : Bool → List ℕ → Report → Type 0
Says true s (Ok x) = line_of s ≡ line_said x
Says true s (Err f) = ⊥
Says false s (Ok x) = Judged 65536 s (line_said x)
Says false s (Err f) = Unit

-- by pieces of n bytes
abbrev pub Followed : ℕ → ResumeOutcome → Report → Type 0
Followed n o (Ok x) = ComesTo n o (line_said x)
Followed n o (Err f) = Unit

-- by whether the input ended with the front, which left an outcome
abbrev pub FrontFed : Bool → ResumeOutcome → Report → Type 0
FrontFed true o (Ok x) = conclude_of o.course ≡ line_said x
FrontFed true o (Err f) = ⊥
FrontFed false o r = Followed 65536 o r
