-- The line that was said last, by how the input came to its end.
--     last_said          the last line of a trace says what `line_monitor` prints
--     ended_said         the input ended
--     refused_said       a refusal was said
--     cut_short_said     the input ended within its front
-- Assumes nothing.
use Rattle.std.specs.Prelude.{ℕ, ◌≡◌, refl, Ok}
use Rattle.std.proofs.Common.{arith, sym, ◌∙◌, length-append}
use Rattle.std.proofs.Math.Path.{ap}
use mathlib.Core.List.{List, [], ◌∷◌, ◌++◌, append_assoc, flatten}
use Rattle.std.proofs.Math.ListN.{length}
use Rattle.table.specs.Table.{Table}
use Rattle.monitor_spec.specs.State.{Monitor}
use Rattle.monitor_spec.specs.Fold.{through}
use Rattle.line_spec.specs.Line.{line_of}
use Rattle.input.specs.declared.reading.End.{End}
use Rattle.trace_spec.specs.TraceLine.{TraceLine, refuses}
use Rattle.trace_spec.specs.Trace.{Beginning, begins, declines, beginning_of, event_lines, start_line, trace_from, trace_of}
use Rattle.trace_spec.specs.Trace.{line_by}
use Rattle.trace_spec.proofs.Trace.Last.{last_same, last_line}
use Rattle.trace_spec.specs.Reads.{at, ended, reached_in, reached_at, reached_after, reached_from, reached_by, Decided}
use Rattle.trace_spec.proofs.ReadLaws.{ended_stands}
use Rattle.saying.specs.declared.print.Said.{Said}
use Rattle.course_spec.specs.declared.answer.Told.TheVariants.{Ended, Refused}
use Rattle.saying.specs.Spoken.{said_line, Counted, Utterance, said_of, first_said}
use Rattle.course_spec.specs.Course.{LastLine, RefusedAfter, Followed, SaysBy, Says}
use Rattle.trace_monitor.specs.FrontTold.{EndSaid}
use Rattle.trace_monitor.specs.LastSaid.{LastSaid, AfterReads, WhateverFollows}

-- ---- the last line of a trace

pub last_said : (s : List ℕ) (x : TraceLine) → LastLine s x → LastSaid s x
last_said s x h =
    let o = last_line s in
    let q : x ≡ o.last = last_same x o.last h.before o.before (sym h.split ∙ o.split) in
    record { last = h; line = ap line_by q ∙ o.says }

one_line : (s : List ℕ) (x : TraceLine) → trace_of s ≡ x ∷ [] → LastSaid s x
one_line s x h = last_said s x (record { before = []; split = h })

-- ---- a front with which a monitor is opened, and no event

module _ (s ns : List ℕ) (t : Table) (m : Monitor) (h : beginning_of s ≡ begins ns t m []) where
  begun_reached : reached_by s ≡ at t m
  unfolding reached_by reached_from reached_after reached_at reached_in through
  begun_reached = ap reached_from h

  begun_line : LastLine s (start_line t m)
  unfolding trace_of trace_from event_lines
  begun_line = record { before = []; split = ap trace_from h }

  begun_one : length (trace_of s) ≡ 1
  unfolding trace_of trace_from event_lines
  begun_one = ap (λ (b : Beginning). length (trace_from b)) h

  -- an event of some reads is refused
  begun_refused : (y : Utterance) → RefusedAfter t m (first_said (start_line t m)) y → WhateverFollows s y
  begun_refused y f = record { reads = f.reads; some = f.some; said = said; count = count }
    where
      same : (rest : List ℕ) → flatten f.reads ++ rest
          ≡ f.refused.before ++ f.refused.event ∷ (f.refused.after ++ rest)
      same rest =
          ap (λ (v : List ℕ). v ++ rest) f.refused.split
          ∙ append_assoc f.refused.before (f.refused.event ∷ f.refused.after) rest

      lines : (rest : List ℕ) → trace_of (s ++ (flatten f.reads ++ rest))
          ≡ trace_of (s ++ f.refused.before) ++ y.line ∷ []
      lines rest =
          ap (λ (v : List ℕ). trace_of (s ++ v)) (same rest)
          ∙ f.refused.last s (f.refused.after ++ rest) begun_reached

      said : (rest : List ℕ) → LastSaid (s ++ (flatten f.reads ++ rest)) y.line
      said rest =
          last_said (s ++ (flatten f.reads ++ rest)) y.line
          (record { before = trace_of (s ++ f.refused.before); split = lines rest })

      count : (rest : List ℕ) → Counted 0 (length (trace_of (s ++ (flatten f.reads ++ rest)))) y.lines
      count rest i =
          let n = ap length (lines rest) ∙ length-append (trace_of (s ++ f.refused.before)) (y.line ∷ []) in
          let k = f.refused.each s begun_reached in
          let j = f.refused.count (omega (arith, begun_one)) in
          omega (arith, begun_one)

-- ---- a front that is refused

module _ (s : List ℕ) (n p : ℕ) (h : beginning_of s ≡ declines n p) where
  declined_line : trace_of s ≡ refuses n p ∷ []
  unfolding trace_of trace_from
  declined_line = ap trace_from h

  declined_ended : reached_by s ≡ ended
  unfolding reached_by reached_from
  declined_ended = ap reached_from h

  declined_said : Decided s → (y : Utterance) → y.line ≡ refuses n p → Counted 0 1 y.lines → WhateverFollows s y
  unfolding flatten
  declined_said d y e c =
      record {
        reads = [];
        some = tt;
        said = λ rest. one_line (s ++ rest) y.line (ended_stands s rest d declined_ended ∙ declined_line
            ∙ ap (λ (x : TraceLine). x ∷ []) (sym e));
        count = λ rest i.
            let k = ap length (ended_stands s rest d declined_ended ∙ declined_line) in
            let j = c (omega arith) in
            omega arith;
      }

-- ---- what is told

module _ (s : List ℕ) where
  ended_by : (b : Beginning) → beginning_of s ≡ b → (end : End) (y : Said) → SaysBy b (Ok (Ended end y))
      → AfterReads s (said_of y)
  unfolding SaysBy Followed
  ended_by (declines n p) h end y f = absurd f
  ended_by (begins ns t m es) h end y (none_yet, f) =
      let b : beginning_of s ≡ begins ns t m [] = h ∙ ap (begins ns t m) none_yet in
      let g = f.gone in
      record {
        reads = g.reads;
        some = g.some;
        said = last_said (s ++ flatten g.reads) (said_line y)
            (g.onward.last s (begun_reached s ns t m b) (begun_line s ns t m b));
        count = λ i.
            let n = begun_one s ns t m b in
            let k = g.onward.each s (begun_reached s ns t m b) in
            let j = g.onward.count (omega arith) in
            omega arith;
      }

  pub ended_said : (end : End) (y : Said) → Says s (Ok (Ended end y)) → AfterReads s (said_of y)
  ended_said = ended_by (beginning_of s) refl

  refused_by : (b : Beginning) → beginning_of s ≡ b → Decided s → (y : Said) → SaysBy b (Ok (Refused y))
      → WhateverFollows s (said_of y)
  unfolding SaysBy Followed
  refused_by (declines n p) h d y f = declined_said s n p h d (said_of y) f.0 f.1
  refused_by (begins ns t m es) h d y (none_yet, f) =
      begun_refused s ns t m (h ∙ ap (begins ns t m) none_yet) (said_of y) f

  pub refused_said : Decided s → (y : Said) → Says s (Ok (Refused y)) → WhateverFollows s (said_of y)
  refused_said = refused_by (beginning_of s) refl

  pub cut_short_said : (y : Said) → EndSaid s (Ok (Refused y))
      → (trace_of s ≡ said_line y ∷ []) × (line_by (said_line y) ≡ line_of s) × (y.count.lines ≡ 1)
  cut_short_said y e =
      let g : trace_of s ≡ said_line y ∷ [] = e.trace ∙ ap (λ (x : TraceLine). x ∷ []) (sym e.told.0) in
      (g, (one_line s (said_line y) g).line, e.told.1 (omega arith))
