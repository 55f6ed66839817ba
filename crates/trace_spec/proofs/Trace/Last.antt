-- The last line of a trace says what `line_monitor` prints of the input.
--     last_same      a list has one last line
--     Ends           a list of lines by its last
--     events_last    of events, from a monitor on;  last_line: of an input
-- Assumes nothing.
use Rattle.std.specs.Prelude.{ℕ, suc, ◌≤◌, ◌<◌, ◌≡◌}
use Rattle.std.proofs.Common.{arith, ◌∙◌}
use Rattle.std.proofs.Math.Path.{refl, ap, sym, subst}
use mathlib.Core.List.{List, [], ◌∷◌, ◌++◌}
use Rattle.table.specs.Table.{Table}
use Rattle.table.specs.Judge.{accepted, declined, judge_bytes, judge_list}
use Rattle.table.specs.Operations.{zeros}
use Rattle.monitor_spec.specs.State.{fresh_state, holding, Monitor, Outcome}
use Rattle.monitor_spec.specs.Fold.{StepEnd, went, stops, Ended, through}
use Rattle.monitor_spec.proofs.Fold.Laws.{through_went, through_stops}
use Rattle.monitor_spec.specs.Entering.{refusing}
use Rattle.monitor_spec.specs.Feed.{take_event, ending_of}
use Rattle.monitor_spec.specs.Open.{fresh_monitor, open_of}
use Rattle.monitor_spec.proofs.Open.Laws.{exceeded_of, open_declined, open_exceeded, open_runs}
use Rattle.monitor_spec.specs.Joined.{residual_count}
use Rattle.line_spec.specs.Line.{parts, wrong, head_of, Line, state_line, answer_line, read_line, head_line, line_of}
use Rattle.line_spec.specs.Line as line
use Rattle.line_spec.proofs.Line.Laws.{slots_256}
use Rattle.line_spec.proofs.Line.Opened.{whole_opened}
use Rattle.line_spec.proofs.Judged.Taken.{event_took}
use Rattle.trace_spec.specs.TraceLine.{TraceLine, takes, refuses}
use Rattle.trace_spec.specs.Trace.{Beginning, beginning_of, permitted_by, event_lines, start_line, trace_from, trace_of}
use Rattle.trace_spec.specs.Trace.{Begins, line_by}
use Rattle.trace_spec.proofs.Trace.Begun.{BeginWay, bad_head, bad_table, bad_list, exceeds, opens, begin_ways}
use Rattle.trace_spec.proofs.Trace.Begun.{lent_256}
use Rattle.trace_spec.proofs.Trace.Lines.{lines_went, lines_stops}

-- the last of x and then the lines xs
last_in : TraceLine → List TraceLine → TraceLine
last_in x [] = x
last_in x (y ∷ ys) = last_in y ys

last_in_lem : (x y : TraceLine) (xs : List TraceLine) → last_in x (xs ++ y ∷ []) ≡ y
unfolding last_in
last_in_lem x y [] = refl
last_in_lem x y (z ∷ xs) = last_in_lem z y xs

pub last_same : (x y : TraceLine) (xs ys : List TraceLine) → xs ++ x ∷ [] ≡ ys ++ y ∷ [] → x ≡ y
last_same x y xs ys e = sym (last_in_lem x x xs) ∙ ap (last_in x) e ∙ last_in_lem x y ys

-- the last of the lines xs says x
pub record Ends (xs : List TraceLine) (x : Line) : Type 0 where
  pub before : List TraceLine
  pub last : TraceLine
  pub split : xs ≡ before ++ last ∷ []
  pub says : line_by last ≡ x

-- ---- of events

-- the answer of a run of events
unfoldable end_line : Ended Monitor → Line
end_line x = answer_line (ending_of 0 x).answer

-- from a line that reports the monitor m, which has taken k events
events_last : (t : Table) (es : List ℕ) (m : Monitor) (k : ℕ) (x : TraceLine) → k ≡ m.state.taken
    → line_by x ≡ state_line m.state → Ends (x ∷ event_lines t m es) (end_line (through (take_event t) m k es))
unfolding event_lines through end_line ending_of answer_line line_by
events_last t [] m k x i s = record { before = []; last = x; split = refl; says = s }
events_last t (e ∷ es) m k x i s =
    by (take_event t m e) refl
    (λ d j. events_last t es d (suc k) (takes e d.state (permitted_by t d)) j refl)
  where
    S : Monitor → ℕ → StepEnd Monitor
    S = take_event t

    by : (y : StepEnd Monitor) → take_event t m e ≡ y
        → ((d : Monitor) → suc k ≡ d.state.taken
        → Ends (takes e d.state (permitted_by t d) ∷ event_lines t d es) (end_line (through S d (suc k) es)))
        → Ends (x ∷ event_lines t m (e ∷ es)) (end_line (through S m k (e ∷ es)))
    by (went d) g ih =
        let o = ih d (omega (arith, (event_took t m d e g).all)) in
        record {
          before = x ∷ o.before;
          last = o.last;
          split = ap (x ∷◌) (lines_went t m e d es g ∙ o.split);
          says = o.says ∙ sym (ap end_line (through_went S m d k e es g));
        }
    by (stops n) g ih =
        record {
          before = x ∷ [];
          last = refuses n m.state.taken;
          split = ap (x ∷◌) (lines_stops t m e n es g);
          says = ap (line.refused n) (sym i) ∙ sym (ap end_line (through_stops S m k n e es g));
        }

-- ---- of an input

one_refusal : (n p : ℕ) (x : Line) → line.refused n p ≡ x → Ends (refuses n p ∷ []) x
unfolding line_by
one_refusal n p x h = record { before = []; last = refuses n p; split = refl; says = h }

module _ (s : List ℕ) where
  -- Open of all events
  abbrev opened : List ℕ → List ℕ → Outcome
  opened ns es = open_of ns (zeros 4096) (zeros 4096) es (zeros 8192)

  line_wrong : (n p : ℕ) → head_of s ≡ wrong n p → line.refused n p ≡ line_of s
  unfolding line_of head_line
  line_wrong n p h = sym (ap head_line h)

  line_declined : (bs es : List ℕ) (n p : ℕ) → head_of s ≡ parts bs es → judge_bytes bs ≡ declined n p
      → line.refused n p ≡ line_of s
  unfolding line_of head_line read_line
  line_declined bs es n p h j = sym (ap head_line h ∙ ap (read_line es) j)

  -- Open's answer is the line
  line_opened : (bs es ns : List ℕ) (u : Table) → head_of s ≡ parts bs es → judge_bytes bs ≡ accepted ns u
      → (o : Outcome) → opened ns es ≡ o → answer_line o.answer ≡ line_of s
  line_opened bs es ns u h r o e =
      sym (whole_opened s bs es ns u h r ∙ ap (λ (x : Outcome). answer_line x.answer) e)

  line_list : (bs es ns : List ℕ) (u : Table) (n p : ℕ) → head_of s ≡ parts bs es → judge_bytes bs ≡ accepted ns u
      → judge_list ns ≡ declined n p → line.refused n p ≡ line_of s
  unfolding refusing answer_line
  line_list bs es ns u n p h r j =
      line_opened bs es ns u h r _
      (open_declined ns (zeros 4096) (zeros 4096) es (zeros 8192) lent_256 n p j)

  line_exceeds : (bs es ns ks : List ℕ) (u t : Table) → head_of s ≡ parts bs es → judge_bytes bs ≡ accepted ns u
      → judge_list ns ≡ accepted ks t → 256 < residual_count t [] → line.refused 13 0 ≡ line_of s
  unfolding exceeded_of answer_line
  line_exceeds bs es ns ks u t h r j f =
      line_opened bs es ns u h r _
      (open_exceeded ns (zeros 4096) (zeros 4096) es (zeros 8192) lent_256 ks t j
      (subst (λ (n : ℕ). n < residual_count t []) (sym slots_256) f))

  line_runs : (ns : List ℕ) (t : Table) (es : List ℕ) → Begins s ns t es
      → end_line (through (take_event t) (fresh_monitor t 256) 0 es) ≡ line_of s
  unfolding end_line ending_of
  line_runs ns t es g =
      ap (λ (n : ℕ). end_line (through (take_event t) (fresh_monitor t n) 0 es)) (sym slots_256)
      ∙ line_opened g.bytes es ns g.table g.head g.read _
      (open_runs ns (zeros 4096) (zeros 4096) es (zeros 8192) lent_256 g.numbers t g.says
      (subst (λ (n : ℕ). residual_count t [] ≤ n) (sym slots_256) g.room))

  begun_said : (ns : List ℕ) (t : Table) (es : List ℕ) → Begins s ns t es
      → Ends (start_line t (fresh_monitor t 256) ∷ event_lines t (fresh_monitor t 256) es) (line_of s)
  unfolding start_line fresh_monitor fresh_state holding line_by
  begun_said ns t es g =
      let m : Monitor = fresh_monitor t 256 in
      subst (Ends (start_line t m ∷ event_lines t m es)) (line_runs ns t es g)
      (events_last t es m 0 (start_line t m) refl refl)

  pub last_line : Ends (trace_of s) (line_of s)
  unfolding trace_of trace_from
  last_line = by (beginning_of s) (begin_ways s)
    where
      by : (b : Beginning) → BeginWay s b → Ends (trace_from b) (line_of s)
      by b (bad_head n p h) = one_refusal n p (line_of s) (line_wrong n p h)
      by b (bad_table bs es n p h j) = one_refusal n p (line_of s) (line_declined bs es n p h j)
      by b (bad_list bs es ns u n p h r j) = one_refusal n p (line_of s) (line_list bs es ns u n p h r j)
      by b (exceeds bs es ns ks u t h r j f) = one_refusal 13 0 (line_of s) (line_exceeds bs es ns ks u t h r j f)
      by b (opens ns t es g) = begun_said ns t es g
