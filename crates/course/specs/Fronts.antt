-- The front of an input: what was opened on it.
--     opened_front, refused_front      what `open_trace` gave of it, through buffers of the right lengths
--     says_started, says_refused       `open_front`
-- Assumes nothing.
use Rattle.std.specs.Prelude.{ℕ, ◌≡◌, List, [], take, drop, Ok, Err}
use Rattle.std.proofs.Math.Path.{ap, subst}
use Rattle.std.proofs.Common.{sym}
use Rattle.table_index.specs.Index.{table_in}
use Rattle.monitor_spec.specs.Offer as offer
use Rattle.state.specs.declared.record.State.{State}
use Rattle.state.specs.declared.answer.EventBits.{EventBits}
use Rattle.state.specs.Record.{state_of, monitor_of}
use Rattle.table.specs.declared.answer.Refusal.{Refusal}
use Rattle.line_spec.specs.Opening.Front.{Lengths}
use Rattle.line_spec.proofs.Opening.Front.{lent_in}
use Rattle.trace_spec.specs.TraceLine.{TraceLine, starts}
use Rattle.trace_spec.specs.Trace.{Beginning, declines, beginning_of, start_line}
use Rattle.trace_spec.proofs.Trace.Begun.{begins_out}
use Rattle.tracing.specs.declared.answer.TraceLine.TheVariants.{Starts}
use Rattle.tracing.specs.Answers.{trace_line_said}
use Rattle.trace.specs.declared.answer.Started.{Started}
use Rattle.trace.specs.Opening.{Opened, FrontOpened, FrontBy, TraceOpened}
use Rattle.trace_front.specs.Wanted.{Fronts}
use Rattle.saying.specs.Spoken.{first_said}
use Rattle.course_spec.specs.Course.{Ending, Followed, ToldRefusal, SaysBy, Says}

-- ---- what was opened

module _ (s l a b w : List ℕ) (fit : Lengths l a b w) (r : Opened) (l' a' b' w' : List ℕ)
    (o : TraceOpened s l a b w r l' a' b' w') where
  by_front : (x : Opened) → r ≡ x → FrontBy s x l' a' b' w'
  by_front x e = subst (λ (y : Opened). FrontBy s y l' a' b' w') e (o.fit (lent_in l a b w fit))

  pub opened_front : (y : Started) → r ≡ Ok y → FrontOpened s y.state y.permitted y.count y.next l' a' b' w'
  opened_front y e = by_front (Ok y) e

  pub refused_front : (q : Refusal) → r ≡ Err q → beginning_of s ≡ declines q.number q.place
  refused_front q e = by_front (Err q) e

module _ (s : List ℕ) where
  module _ (fronts : Fronts s) (st : State) (bits : EventBits) (count place : ℕ) (l a b w : List ℕ)
      (x : FrontOpened s st bits count place l a b w) where
    none_yet : drop place s ≡ []
    none_yet =
        let h = begins_out s (take count l) (table_in (take count l)) (monitor_of st a b) (drop place s) x.opens in
        fronts.bare h.0.bytes (drop place s) h.0.head

    first_line : trace_line_said (Starts st bits) ≡ start_line (table_in (take count l)) (monitor_of st a b)
    unfolding start_line
    first_line = ap (λ (v : offer.EventBits). starts (state_of st) v) x.permitted

    pub says_started : (t : Ending)
        → Followed (table_in (take count l)) (monitor_of st a b) (first_said (trace_line_said (Starts st bits))) t → Says s t
    unfolding SaysBy
    says_started t h =
        subst (λ (v : Beginning). SaysBy v t) (sym x.opens) (
          none_yet,
          subst (λ (v : TraceLine). Followed (table_in (take count l)) (monitor_of st a b) (first_said v) t) first_line h,
        )

  pub says_refused : (n p : ℕ) → beginning_of s ≡ declines n p → (c : ℕ) → c ≡ 0 → (t : Ending) → ToldRefusal n p c t
      → Says s t
  unfolding SaysBy
  says_refused n p e c z t h =
      subst (λ (v : Beginning). SaysBy v t) (sym e) (subst (λ (k : ℕ). ToldRefusal n p k t) z h)
