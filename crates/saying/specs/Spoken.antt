-- What a line that was said is (ours; docs/DECISIONS.md, "A line for each event, as it arrives").
--     said_line    the line
--     Counted      a number of lines with so many more
--     Utterance    a line with how many were said with it;  said_of: by the token, first_said: the first
--     Spoken       the promise of `say`: of its answer
--     TextStands   and of its buffer: the text of a line stands there, from its first byte on
--     text_put     a buffer that has room has the text of a line
-- Assumes nothing.
use Rattle.std.specs.Prelude.{ℕ, ◌+◌, ◌≤◌, ◌<◌, ◌≡◌, List, length, take, Result, Ok, Err}
use Rattle.io.specs.Counts.{IsPrefixLen}
use Rattle.trace_text.specs.TraceText.{trace_text_of}
use Rattle.trace_text.specs.Put.{PutsText}
use Rattle.trace_spec.specs.TraceLine.{TraceLine}
use Rattle.tracing.specs.declared.answer.TraceLine as code
use Rattle.tracing.specs.Answers.{trace_line_said}
use Rattle.saying.specs.declared.print.Count.{Count}
use Rattle.saying.specs.declared.print.Said.{Said}
use Rattle.saying.specs.declared.print.Unsaid.{Unsaid}

abbrev pub said_line : Said → TraceLine
said_line y = trace_line_said y.line

-- c lines, and k more: where that fits 64 bits
abbrev pub Counted : ℕ → ℕ → ℕ → Type 0
Counted c k n = c + k < 18446744073709551616 → n ≡ c + k

pub record Utterance : Type 0 where
  pub line : TraceLine
  pub lines : ℕ

abbrev pub said_of : Said → Utterance
said_of y = record { line = said_line y; lines = y.count.lines }

abbrev pub first_said : TraceLine → Utterance
first_said x = record { line = x; lines = 1 }

-- after the lines that were said before
abbrev pub Spoken : code.TraceLine → Count → Result Said Unsaid → Type 0
Spoken line before (Ok y) = (y.line ≡ line) × Counted before.lines 1 y.count.lines
Spoken line before (Err u) = Unit

pub record TextStands (x : TraceLine) (out : List ℕ) : Type 0 where
  pub count : ℕ
  pub within : count ≤ length out
  pub text : take count out ≡ trace_text_of x

pub text_put : (out : List ℕ) (r : ℕ) (text : List ℕ) → PutsText out r text → 2816 ≤ length out
    → (take r out ≡ text) × IsPrefixLen r out
text_put out r text h room = (h.bytes room, h.counts)
