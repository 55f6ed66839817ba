-- Some events, and some more.
--     onward_none, onward_then         no event; some and then some more
--     refused_then, refused_more       refused after some events; more events than that
--     event_onward, event_refused      one event, by the promise of `turn`
--     gone_none, gone_then             no read; one read more
--     gone_refused                     refused in one read more
-- Assumes nothing.
use Rattle.std.specs.Prelude.{ℕ, ◌<◌, ◌≡◌, refl, length}
use Rattle.std.proofs.Common.{arith, ap, sym, subst, ◌∙◌, length-append}
use mathlib.Core.List.{List, [], ◌∷◌, ◌++◌, append_assoc, append-nil, flatten}
use Rattle.table.specs.Table.{Table}
use Rattle.table_index.specs.Index.{table_in}
use Rattle.monitor_spec.specs.State.{Monitor}
use Rattle.state.specs.declared.record.State.{State}
use Rattle.state.specs.Record.{state_of, monitor_of}
use Rattle.state.specs.Answers.{bits_of}
use Rattle.line_spec.proofs.Judged.Laws.{flatten_last}
use Rattle.line_spec.proofs.Judged.Taken.{event_took}
use Rattle.trace_spec.specs.TraceLine.{TraceLine, takes, refuses}
use Rattle.trace_spec.specs.Trace.{trace_of}
use Rattle.trace_spec.specs.Reads.{reached_by}
use Rattle.tracing.specs.Tracing.Laws.{reached_next, trace_next, trace_stop}
use Rattle.saying.specs.Spoken.{Utterance}
use Rattle.course_spec.specs.Course.{LastLine, WentOn, StopSaid, Onward, RefusedIn, EachSome, Gone}
use Rattle.course_spec.specs.Course.{LineEach, RefusedAfter}

-- ---- some events

module _ (t : Table) (m : Monitor) (x : Utterance) where
  pub onward_none : Onward t m x [] m x
  onward_none =
      record {
        took = record { all = omega arith; fits = λ i. i };
        here = λ s h. ap reached_by (append-nil s) ∙ h;
        last = λ s h p. subst (λ (v : List ℕ). LastLine v x.line) (sym (append-nil s)) p;
        each = λ s h. let e = ap (λ (v : List ℕ). length (trace_of v)) (append-nil s) in omega arith;
        count = λ h. omega arith;
      }

  module _ (es : List ℕ) (d : Monitor) (y : Utterance) (far : Onward t m x es d y) (fs : List ℕ) where
    -- a line for each of some, and of some more
    each_then : (gs : List ℕ) → LineEach t d gs → LineEach t m (es ++ gs)
    each_then gs more s h =
        let e = ap (λ (v : List ℕ). length (trace_of v)) (sym (append_assoc s es gs)) in
        let n = length-append es gs in
        omega (arith, far.each s h, more (s ++ es) (far.here s h))

    pub onward_then : (f : Monitor) (z : Utterance) → Onward t d y fs f z → Onward t m x (es ++ fs) f z
    onward_then f z more =
        let a = far.took.all in
        let b = more.took.all in
        let n = length-append es fs in
        record {
          took = record { all = omega arith; fits = λ i. more.took.fits (far.took.fits i) };
          here = λ s h. ap reached_by (sym (append_assoc s es fs)) ∙ more.here (s ++ es) (far.here s h);
          last = λ s h p. subst (λ (v : List ℕ). LastLine v z.line) (append_assoc s es fs)
              (more.last (s ++ es) (far.here s h) (far.last s h p));
          each = each_then fs more.each;
          count = λ h.
              let i = far.count (omega arith) in
              let j = more.count (omega arith) in
              omega arith;
        }

    pub refused_then : (z : Utterance) → RefusedIn t d y fs z → RefusedIn t m x (es ++ fs) z
    refused_then z r =
        let b = r.before in
        let joined : (s rest : List ℕ) → s ++ ((es ++ b) ++ r.event ∷ rest) ≡ (s ++ es) ++ (b ++ r.event ∷ rest) =
        λ s rest. ap (λ (v : List ℕ). s ++ v) (append_assoc es b (r.event ∷ rest))
        ∙ sym (append_assoc s es (b ++ r.event ∷ rest)) in
        record {
          before = es ++ b;
          event = r.event;
          after = r.after;
          split = ap (λ (v : List ℕ). es ++ v) r.split ∙ sym (append_assoc es b (r.event ∷ r.after));
          number = r.number;
          place = r.place;
          line = r.line;
          last = λ s rest h. ap trace_of (joined s rest) ∙ r.last (s ++ es) rest (far.here s h)
              ∙ ap (λ (v : List ℕ). trace_of v ++ z.line ∷ []) (append_assoc s es b);
          each = each_then b r.each;
          count = λ h.
              let n = length-append es b in
              let i = far.count (omega arith) in
              let j = r.count (omega arith) in
              omega arith;
        }

pub refused_more : (t : Table) (m : Monitor) (x : Utterance) (es : List ℕ) (y : Utterance) → RefusedIn t m x es y
    → (fs : List ℕ) → RefusedIn t m x (es ++ fs) y
refused_more t m x es y r fs =
    record {
      before = r.before;
      event = r.event;
      after = r.after ++ fs;
      split = ap (λ (v : List ℕ). v ++ fs) r.split ∙ append_assoc r.before (r.event ∷ r.after) fs;
      number = r.number;
      place = r.place;
      line = r.line;
      last = r.last;
      each = r.each;
      count = r.count;
    }

-- ---- one event

module _ (l : List ℕ) (m : Monitor) (x : Utterance) (e : ℕ) (y : Utterance) (a b : List ℕ) where
  pub event_onward : (w : List ℕ) (next : State) → WentOn l w m x.lines e next y a b
      → Onward (table_in l) m x (e ∷ []) (monitor_of next a b) y
  event_onward w next g =
      record {
        took = event_took (table_in l) m (monitor_of next a b) e g.traced.takes;
        here = λ s h. reached_next s l w m h e a b next g.bits g.traced;
        last = λ s h p. record {
          before = trace_of s;
          split = trace_next s l w m h e a b next g.bits g.traced
              ∙ ap (λ (v : TraceLine). trace_of s ++ v ∷ []) (sym g.line);
        };
        each = λ s h.
            ap length (trace_next s l w m h e a b next g.bits g.traced)
            ∙ length-append (trace_of s) (takes e (state_of next) (bits_of g.bits) ∷ []);
        count = g.count;
      }

  pub event_refused : StopSaid l m x.lines e y a b → RefusedIn (table_in l) m x (e ∷ []) y
  event_refused g =
      record {
        before = [];
        event = e;
        after = [];
        split = refl;
        number = g.number;
        place = g.place;
        line = g.line;
        last = λ s rest h. trace_stop s l [] m h e a b g.number g.place g.stopped rest
            ∙ ap (λ (v : List ℕ). trace_of v ++ refuses g.number g.place ∷ []) (sym (append-nil s))
            ∙ ap (λ (v : TraceLine). trace_of (s ++ []) ++ v ∷ []) (sym g.line);
        each = (onward_none (table_in l) m x).each;
        count = g.count;
      }

-- ---- some reads

some_last : (ess : List (List ℕ)) (es : List ℕ) → EachSome ess → 0 < length es → EachSome (ess ++ es ∷ [])
some_last [] es h i = (i, tt)
some_last (fs ∷ ess) es (f, h) i = (f, some_last ess es h i)

module _ (t : Table) (m : Monitor) (x : Utterance) where
  pub gone_none : Gone t m x m x
  unfolding flatten
  gone_none = record { reads = []; some = tt; onward = onward_none t m x }

  module _ (d : Monitor) (y : Utterance) (gone : Gone t m x d y) (es : List ℕ) (some : 0 < length es) where
    each : EachSome (gone.reads ++ es ∷ [])
    each = some_last gone.reads es gone.some some

    pub gone_then : (f : Monitor) (z : Utterance) → Onward t d y es f z → Gone t m x f z
    gone_then f z h =
        record {
          reads = gone.reads ++ es ∷ [];
          some = each;
          onward = subst (λ (v : List ℕ). Onward t m x v f z) (sym (flatten_last gone.reads es))
              (onward_then t m x (flatten gone.reads) d y gone.onward es f z h);
        }

    pub gone_refused : (z : Utterance) → RefusedIn t d y es z → RefusedAfter t m x z
    gone_refused z h =
        record {
          reads = gone.reads ++ es ∷ [];
          some = each;
          refused = subst (λ (v : List ℕ). RefusedIn t m x v z) (sym (flatten_last gone.reads es))
              (refused_then t m x (flatten gone.reads) d y gone.onward es z h);
        }
