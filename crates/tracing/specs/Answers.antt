-- The code's answers as crate `trace_spec` has them (01, "Which form goes where": "Where an answer is an enum, the
-- promises use a definition").
--     trace_line_said   a line
-- Assumes nothing.
use Rattle.trace_spec.specs.TraceLine.{TraceLine, starts, takes, refuses}
use Rattle.state.specs.Record.{state_of}
use Rattle.state.specs.Answers.{bits_of}
use Rattle.tracing.specs.declared.answer.TraceLine as code
use Rattle.tracing.specs.declared.answer.TraceLine.TheVariants.{Starts, Takes, Refuses}

abbrev pub trace_line_said : code.TraceLine → TraceLine
trace_line_said (Starts s bits) = starts (state_of s) (bits_of bits)
trace_line_said (Takes e s bits) = takes e (state_of s) (bits_of bits)
trace_line_said (Refuses number place) = refuses number place
