-- The code's line as 01 has it (01, "Which form goes where": "Where an answer is an enum, the promises use a
-- definition"). The laws are in `Line/Laws.antt`. Assumes nothing.
use Rattle.line_spec.specs.Line.{Line, runs, fails, refused}
use Rattle.format.specs.declared.answer.Line as code
use Rattle.format.specs.declared.answer.Line.TheVariants.{Running, Failed, Refused}
pub mod Laws

-- "`running TAKEN RESIDUALS`, `failed PLACE TAKEN`, or `refused NUMBER PLACE`"
abbrev pub line_said : code.Line → Line
line_said (Running taken count) = runs taken count
line_said (Failed place taken) = fails place taken
line_said (Refused number place) = refused number place
