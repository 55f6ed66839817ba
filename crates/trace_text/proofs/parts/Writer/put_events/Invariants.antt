-- The invariant of `parts.Writer.put_events`.
use Rattle.std.proofs.Common.{◌+◌, ◌-◌, ◌≡◌}
use Rattle.trace_spec.specs.TraceLine.{events_from}
use Rattle.trace_text.specs.TraceText.{numbers_text}
use Rattle.trace_text.specs.Put.Laws.{Putting}
use Rattle.trace_text.proofs.parts.Writer.put_events.Given as goal

abbrev pub invariant-loop-i : goal.invariant-loop-i
invariant-loop-i l =
    (l.self.out.ghost_name ≡ l.initial.self.out.ghost_name)
    × Putting l.initial.self (numbers_text (events_from l.word l.b 64)) l.self
    (numbers_text (events_from l.left (l.b + l.i) (64 - l.i))) l.i
