-- An input in reads has the lines of the whole.
--     read_more, after_more     two reads are one
--     reached_went, trace_went, trace_stops, reached_stops     one event more, on what stands
--     trace_more, reached_more  an input that goes on;  ended_stands: where it ended
--     reads_join                all reads
--     reached_last              the last line reports the monitor that stands
-- Assumes nothing.
use Rattle.std.specs.Prelude.{ℕ, ◌≡◌, ◌⊎◌}
use Rattle.std.proofs.Common.{arith, sym, subst, ◌∙◌, inl, inr}
use Rattle.std.proofs.Math.Path.{refl, ap}
use mathlib.Core.List.{List, [], ◌∷◌, ◌++◌, append-nil, flatten}
use Rattle.std.proofs.Math.Option.{Option, none, some}
use Rattle.table.specs.Table.{Table}
use Rattle.table.specs.Judge.{Judgement, accepted, declined, judge_bytes, judge_list}
use Rattle.monitor_spec.specs.State.{Monitor, Answer, given, refused, stopped, Outcome}
use Rattle.monitor_spec.specs.Fold.{StepEnd, went, stops, through}
use Rattle.monitor_spec.proofs.Fold.Laws.{through_went, through_stops, through_at}
use Rattle.monitor_spec.specs.Feed.{take_event}
use Rattle.line_spec.specs.Line.{Head, parts, wrong, head_of, fresh}
use Rattle.line_spec.proofs.Line.Heads.{parts_more, over_more, loose_more}
use Rattle.line_spec.proofs.Pieces.Laws.{fold_why}
use Rattle.trace_spec.specs.TraceLine.{TraceLine, takes, refuses, Reports}
use Rattle.trace_spec.specs.Trace.{Beginning, begins, declines, begin_open, begin_list, begin_table, begin_head}
use Rattle.trace_spec.specs.Trace.{beginning_of, permitted_by, event_lines, start_line, trace_from, trace_of}
use Rattle.trace_spec.proofs.Trace.Lines.{lines_went, lines_stops, lines_to}
use Rattle.trace_spec.specs.Reads.{Configuration, at, ended, read_lines, reached_in, reached_at, reached_after}
use Rattle.trace_spec.specs.Reads.{reached_from, reached_by, reads_from, reads_of, Decided, table_there, length_over}
use Rattle.trace_spec.specs.Reads.{length_loose}

-- ---- one event

module _ (t : Table) (m : Monitor) (e : ℕ) where
  abbrev S : Monitor → ℕ → StepEnd Monitor
  S = take_event t

  after_went : (d : Monitor) (es : List ℕ) → take_event t m e ≡ went d
      → reached_after (at t m) (e ∷ es) ≡ reached_after (at t d) es
  unfolding reached_after reached_at
  after_went d es h =
      ap (reached_at t) (through_went S m d 0 e es h)
      ∙ (λ i. reached_in t (through_at S d 1 0 es i) (fold_why S d 1 0 es i))

  after_stops : (n : ℕ) (es : List ℕ) → take_event t m e ≡ stops n → reached_after (at t m) (e ∷ es) ≡ ended
  unfolding reached_after reached_at reached_in
  after_stops n es h = ap (reached_at t) (through_stops S m 0 n e es h)

-- ---- two reads

pub after_more : (c : Configuration) (es fs : List ℕ) → reached_after (reached_after c es) fs ≡ reached_after c (es ++ fs)
unfolding reached_after through reached_at reached_in
after_more ended es fs = refl
after_more (at t m) es fs = from es m
  where
    by : (m : Monitor) (e : ℕ) (es : List ℕ) (y : StepEnd Monitor) → take_event t m e ≡ y
        → ((d : Monitor) → reached_after (reached_after (at t d) es) fs ≡ reached_after (at t d) (es ++ fs))
        → reached_after (reached_after (at t m) (e ∷ es)) fs ≡ reached_after (at t m) (e ∷ (es ++ fs))
    by m e es (went d) h ih =
        ap (λ (c : Configuration). reached_after c fs) (after_went t m e d es h) ∙ ih d
        ∙ sym (after_went t m e d (es ++ fs) h)
    by m e es (stops n) h ih =
        ap (λ (c : Configuration). reached_after c fs) (after_stops t m e n es h)
        ∙ sym (after_stops t m e n (es ++ fs) h)

    from : (es : List ℕ) (m : Monitor) → reached_after (reached_after (at t m) es) fs ≡ reached_after (at t m) (es ++ fs)
    from [] m = refl
    from (e ∷ es) m = by m e es (take_event t m e) refl (λ d. from es d)

pub read_more : (c : Configuration) (es fs : List ℕ)
    → read_lines c (es ++ fs) ≡ read_lines c es ++ read_lines (reached_after c es) fs
unfolding read_lines event_lines reached_after through reached_at reached_in
read_more ended es fs = refl
read_more (at t m) es fs = from es m
  where
    by : (m : Monitor) (e : ℕ) (es : List ℕ) (y : StepEnd Monitor) → take_event t m e ≡ y
        → ((d : Monitor) → event_lines t d (es ++ fs) ≡ event_lines t d es ++ read_lines (reached_after (at t d) es) fs)
        → event_lines t m (e ∷ (es ++ fs)) ≡ event_lines t m (e ∷ es) ++ read_lines (reached_after (at t m) (e ∷ es)) fs
    by m e es (went d) h ih =
        lines_went t m e d (es ++ fs) h ∙ ap (takes e d.state (permitted_by t d) ∷◌) (ih d)
        ∙ sym (λ i. lines_went t m e d es h i ++ read_lines (after_went t m e d es h i) fs)
    by m e es (stops n) h ih =
        lines_stops t m e n (es ++ fs) h
        ∙ sym (λ i. lines_stops t m e n es h i ++ read_lines (after_stops t m e n es h i) fs)

    from : (es : List ℕ) (m : Monitor)
        → event_lines t m (es ++ fs) ≡ event_lines t m es ++ read_lines (reached_after (at t m) es) fs
    from [] m = refl
    from (e ∷ es) m = by m e es (take_event t m e) refl (λ d. from es d)

-- ---- an input that goes on

unfoldable widen_beginning : Beginning → List ℕ → Beginning
widen_beginning (begins ns t m es) r = begins ns t m (es ++ r)
widen_beginning (declines n p) r = declines n p

open_more : (ns es r : List ℕ) (t : Table) (o : Outcome) (a : Answer)
    → begin_open ns t (es ++ r) o a ≡ widen_beginning (begin_open ns t es o a) r
unfolding begin_open widen_beginning
open_more ns es r t o (given s) = refl
open_more ns es r t o (refused n p) = refl
open_more ns es r t o (stopped n p s) = refl

list_more : (ns es r : List ℕ) (j : Judgement) → begin_list ns (es ++ r) j ≡ widen_beginning (begin_list ns es j) r
unfolding begin_list widen_beginning
list_more ns es r (accepted ks t) = open_more ns es r t (fresh ns) (fresh ns).answer
list_more ns es r (declined n p) = refl

table_more : (es r : List ℕ) (j : Judgement) → begin_table (es ++ r) j ≡ widen_beginning (begin_table es j) r
unfolding begin_table widen_beginning
table_more es r (accepted ns t) = list_more ns es r (judge_list ns)
table_more es r (declined n p) = refl

begin_more : (s r : List ℕ) → Decided s → beginning_of (s ++ r) ≡ widen_beginning (beginning_of s) r
unfolding beginning_of begin_head widen_beginning
begin_more s r (table_there bs es h) =
    ap begin_head (parts_more s r bs es h) ∙ table_more es r (judge_bytes bs)
    ∙ sym (ap (λ (x : Head). widen_beginning (begin_head x) r) h)
begin_more s r (length_over h) =
    ap begin_head (over_more s r h) ∙ sym (ap (λ (x : Head). widen_beginning (begin_head x) r) h)
begin_more s r (length_loose h) =
    ap begin_head (loose_more s r h) ∙ sym (ap (λ (x : Head). widen_beginning (begin_head x) r) h)

pub decided_more : (s r : List ℕ) → Decided s → Decided (s ++ r)
decided_more s r (table_there bs es h) = table_there bs (es ++ r) (parts_more s r bs es h)
decided_more s r (length_over h) = length_over (over_more s r h)
decided_more s r (length_loose h) = length_loose (loose_more s r h)

pub trace_more : (s r : List ℕ) → Decided s → trace_of (s ++ r) ≡ trace_of s ++ read_lines (reached_by s) r
unfolding trace_of reached_by widen_beginning trace_from reached_from read_lines
trace_more s r d = ap trace_from (begin_more s r d) ∙ by (beginning_of s)
  where
    by : (b : Beginning) → trace_from (widen_beginning b r) ≡ trace_from b ++ read_lines (reached_from b) r
    by (begins ns t m es) = ap (start_line t m ∷◌) (read_more (at t m) es r)
    by (declines n p) = refl

pub reached_more : (s r : List ℕ) → Decided s → reached_by (s ++ r) ≡ reached_after (reached_by s) r
unfolding reached_by reached_from widen_beginning reached_after
reached_more s r d = ap reached_from (begin_more s r d) ∙ by (beginning_of s)
  where
    by : (b : Beginning) → reached_from (widen_beginning b r) ≡ reached_after (reached_from b) r
    by (begins ns t m es) = sym (after_more (at t m) es r)
    by (declines n p) = refl

-- where it ended, nothing follows
pub ended_stands : (s r : List ℕ) → Decided s → reached_by s ≡ ended → trace_of (s ++ r) ≡ trace_of s
unfolding read_lines
ended_stands s r d e =
    trace_more s r d ∙ ap (λ (c : Configuration). trace_of s ++ read_lines c r) e ∙ append-nil (trace_of s)

-- ---- one event more, on what stands

-- a trace that stands has its table
pub at_decided : (s : List ℕ) (t : Table) (m : Monitor) → reached_by s ≡ at t m → Decided s
unfolding reached_by beginning_of begin_head reached_from
at_decided s t m h = by (head_of s) refl
  where
    by : (x : Head) → head_of s ≡ x → Decided s
    by (parts bs es) e = table_there bs es e
    by (wrong n p) e =
        let g : ended ≡ at t m = sym (ap (λ (x : Head). reached_from (begin_head x)) e) ∙ h in
        absurd (let z : ◌≡◌ {A = ℕ} 0 1 = cc in omega arith)

module _ (s : List ℕ) (t : Table) (m : Monitor) (here : reached_by s ≡ at t m) (e : ℕ) where
  one_more : trace_of (s ++ e ∷ []) ≡ trace_of s ++ event_lines t m (e ∷ [])
  unfolding read_lines
  one_more = trace_more s (e ∷ []) (at_decided s t m here)
      ∙ ap (λ (c : Configuration). trace_of s ++ read_lines c (e ∷ [])) here

  one_reached : reached_by (s ++ e ∷ []) ≡ reached_after (at t m) (e ∷ [])
  one_reached = reached_more s (e ∷ []) (at_decided s t m here)
      ∙ ap (λ (c : Configuration). reached_after c (e ∷ [])) here

  -- an event that is taken: its line is said, and the next monitor stands
  pub reached_went : (d : Monitor) → take_event t m e ≡ went d → reached_by (s ++ e ∷ []) ≡ at t d
  unfolding reached_after through reached_at reached_in
  reached_went d h = one_reached ∙ after_went t m e d [] h

  pub trace_went : (d : Monitor) → take_event t m e ≡ went d
      → trace_of (s ++ e ∷ []) ≡ trace_of s ++ takes e d.state (permitted_by t d) ∷ []
  unfolding event_lines
  trace_went d h = one_more ∙ ap (trace_of s ++◌) (lines_went t m e d [] h)

  -- one that is refused: its refusal is the last line, whatever follows
  pub trace_stops : (n : ℕ) → take_event t m e ≡ stops n → (rest : List ℕ)
      → trace_of (s ++ e ∷ rest) ≡ trace_of s ++ refuses n m.state.taken ∷ []
  unfolding read_lines
  trace_stops n h rest =
      trace_more s (e ∷ rest) (at_decided s t m here)
      ∙ ap (λ (c : Configuration). trace_of s ++ read_lines c (e ∷ rest)) here
      ∙ ap (trace_of s ++◌) (lines_stops t m e n rest h)

  pub reached_stops : (n : ℕ) → take_event t m e ≡ stops n → reached_by (s ++ e ∷ []) ≡ ended
  reached_stops n h = one_reached ∙ after_stops t m e n [] h

-- ---- all reads

from_join : (c : Configuration) (ess : List (List ℕ)) → reads_from c ess ≡ read_lines c (flatten ess)
unfolding reads_from flatten
from_join c [] = none_said c
  where
    none_said : (c : Configuration) → [] ≡ read_lines c []
    none_said (at t m) = unfold read_lines in unfold event_lines in refl
    none_said ended = unfold read_lines in refl
from_join c (es ∷ ess) =
    ap (read_lines c es ++◌) (from_join (reached_after c es) ess) ∙ sym (read_more c es (flatten ess))

pub reads_join : (s : List ℕ) (ess : List (List ℕ)) → Decided s ⊎ (ess ≡ [])
    → reads_of s ess ≡ trace_of (s ++ flatten ess)
unfolding reads_of
reads_join s ess (inl d) = ap (trace_of s ++◌) (from_join (reached_by s) ess) ∙ sym (trace_more s (flatten ess) d)
reads_join s ess (inr e) = rw e alone
  where
    alone : trace_of s ++ reads_from (reached_by s) [] ≡ trace_of (s ++ flatten [])
    alone = unfold reads_from in unfold flatten in append-nil (trace_of s) ∙ ap trace_of (sym (append-nil s))

-- ---- the last line

-- the lines xs end with one that reports the monitor m on the table t
pub record EndsAt (xs : List TraceLine) (t : Table) (m : Monitor) : Type 0 where
  pub before : List TraceLine
  pub last : TraceLine
  pub split : xs ≡ before ++ last ∷ []
  pub reports : Reports last m.state (permitted_by t m)

pub reached_last : (s : List ℕ) (t : Table) (m : Monitor) → reached_by s ≡ at t m → EndsAt (trace_of s) t m
unfolding trace_of reached_by trace_from reached_from reached_after reached_at reached_in start_line event_lines
reached_last s t m h = by (beginning_of s) refl h
  where
    same : (x y : Table) (u v : Monitor) → at x u ≡ at y v → (x ≡ y) × (u ≡ v)
    same x y u v p = (let z : x ≡ y = cc in z, let z : u ≡ v = cc in z)

    ends : (x : Table) (u : Monitor) (es : List ℕ) (why : Option ℕ) → (through (take_event x) u 0 es).why ≡ why
        → reached_in x (through (take_event x) u 0 es).at why ≡ at t m
        → EndsAt (start_line x u ∷ event_lines x u es) t m
    ends x u es (some n) e g = absurd (let z : ◌≡◌ {A = ℕ} 0 1 = cc in omega arith)
    ends x u es none e g =
        let o = lines_to x es u 0 (start_line x u) (refl, refl) e in
        let (p, q) = same x t (through (take_event x) u 0 es).at m g in
        let r : start_line x u ∷ event_lines x u es ≡ o.before ++ o.last ∷ [] =
        ap (λ (z : List ℕ). start_line x u ∷ event_lines x u z) (sym (append-nil es)) ∙ o.split [] in
        record {
          before = o.before;
          last = o.last;
          split = r;
          reports = subst (λ (z : Monitor). Reports o.last z.state (permitted_by t z)) q
              (subst (λ (z : Table). Reports o.last (through (take_event x) u 0 es).at.state
              (permitted_by z (through (take_event x) u 0 es).at)) p o.reports);
        }

    by : (b : Beginning) → beginning_of s ≡ b → reached_from b ≡ at t m → EndsAt (trace_from b) t m
    by (begins ns x u es) e g = ends x u es (through (take_event x) u 0 es).why refl g
    by (declines n p) e g = absurd (let z : ◌≡◌ {A = ℕ} 0 1 = cc in omega arith)
