-- What is claimed of the line that the program said last: statements only. The proof of each is in
-- `proofs/Theorems.antt`, under the same name.
--     EndIsLine          the input ended: it is the last line of the trace, and `line_monitor`'s line; it counts as
--                        many lines as the trace has
--     RefusalIsLine      it is a refusal: so it is, whatever follows
--     CutShortIsLine     the input ended within its front: it is the one line of the trace, and `line_monitor`'s line
-- Assumes nothing.
use Rattle.std.specs.Prelude.{ℕ, ◌≡◌, List, [], ◌∷◌, take, Ok}
use Rattle.line_spec.specs.Line.{line_of}
use Rattle.input.specs.declared.reading.End.{End}
use Rattle.trace_spec.specs.Trace.{trace_of, line_by}
use Rattle.trace_spec.specs.Reads.{Decided}
use Rattle.trace_front.specs.declared.reader.Front.TheVariants as read
use Rattle.saying.specs.declared.print.Said.{Said}
use Rattle.course_spec.specs.declared.answer.Told.TheVariants.{Ended, Refused}
use Rattle.saying.specs.Spoken.{said_line, said_of}
use Rattle.course_spec.specs.Course.{Says}
use Rattle.trace_monitor.specs.FrontTold.{FrontTold}
use Rattle.trace_monitor.specs.LastSaid.{AfterReads, WhateverFollows}

-- "its last verdict is `line_monitor`'s line of the same input": of the front s and the reads until the end
unfoldable pub EndIsLine : Type 0
EndIsLine = (s : List ℕ) (end : End) (y : Said) → Says s (Ok (Ended end y)) → AfterReads s (said_of y)

-- "its last verdict is `line_monitor`'s line of the same input", and "A refusal is its last line": of the front s, the
-- reads and whatever follows them; the head of s is decided, as `FrontRead` has it of a whole front
unfoldable pub RefusalIsLine : Type 0
RefusalIsLine = (s : List ℕ) → Decided s → (y : Said) → Says s (Ok (Refused y)) → WhateverFollows s (said_of y)

-- "its last verdict is `line_monitor`'s line of the same input": of n bytes, which are all
unfoldable pub CutShortIsLine : Type 0
CutShortIsLine =
    (buffer : List ℕ) (n : ℕ) (end : End) (y : Said) → FrontTold buffer (Ok (read.Ended n end)) (Ok (Refused y))
    → (trace_of (take n buffer) ≡ said_line y ∷ []) × (line_by (said_line y) ≡ line_of (take n buffer))
    × (y.count.lines ≡ 1)
