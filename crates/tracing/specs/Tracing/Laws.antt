-- What stands between calls serves the next event, and is the trace of what was read.
--     tracing_stands, tracing_measured, tracing_consistent     what `take_event` and `offered` ask for
--     tracing_next                     it stands after an event that is taken
--     traced_went, traced_stopped      the promise of `trace_event`, by its ways
--     reached_next, trace_next         one line more is the trace's;  trace_stop: a refusal is its last
-- Assumes nothing.
use Rattle.std.specs.Prelude.{ℕ, ◌≡◌, refl, true, List, [], ◌∷◌, ◌++◌, length}
use Rattle.std.proofs.Common.{ap, sym, ◌∙◌}
use Rattle.table.proofs.Judge.Laws.{list_out}
use Rattle.table_index.specs.Index.{table_in}
use Rattle.monitor_spec.specs.Regular.{Regular}
use Rattle.monitor_spec.proofs.Regular.Laws.{regular}
use Rattle.monitor_spec.specs.State.{Monitor, areas_measured, lengths_fit}
use Rattle.monitor_spec.specs.Consistent.{consistent}
use Rattle.monitor_spec.proofs.Consistent.Laws.{take_laid, laid_still}
use Rattle.monitor_spec.specs.Fold.{went}
use Rattle.monitor_spec.specs.Feed.{take_event}
use Rattle.monitor_spec.specs.Offer as offer
use Rattle.monitor_spec.proofs.Expected.Laid.{laid_lengths}
use Rattle.state.specs.declared.record.State.{State}
use Rattle.state.specs.declared.answer.EventBits.{EventBits}
use Rattle.state.specs.Record.{verdict_of, monitor_of}
use Rattle.state.specs.Answers.{bits_of}
use Rattle.taking.specs.Taking.{Taken}
use Rattle.std.specs.declared.result.Result.TheVariants as taken
use Rattle.feeding.specs.Feeding.{Standing, TakenBy}
use Rattle.trace_spec.specs.TraceLine.{takes, refuses}
use Rattle.trace_spec.specs.Trace.{permitted_by, trace_of}
use Rattle.trace_spec.specs.Reads.{at, reached_by}
use Rattle.trace_spec.proofs.ReadLaws.{reached_went, trace_went, trace_stops}
use Rattle.tracing.specs.declared.answer.TraceLine.TheVariants.{Takes, Refuses}
use Rattle.tracing.specs.Answers.{trace_line_said}
use Rattle.tracing.specs.Tracing.{Tracing, TracedOn, RefusedEvent}

module _ (l w : List ℕ) (m : Monitor) (x : Tracing l w m) where
  sound : Regular (table_in l)
  sound = regular (table_in l) (list_out l l (table_in l) x.indexed.taken).rules

  pub tracing_stands : Standing (table_in l) m
  tracing_stands = record { slots = 256; laid = x.laid }

  lengths : (length m.area0 ≡ 4096) × (length m.area1 ≡ 4096)
  lengths =
      let d = x.laid in
      let (p, q) = laid_lengths (table_in l) sound 256 m.state d.residuals d.sensible in (
        ap (λ (y : Monitor). length y.area0) d.same ∙ p,
        ap (λ (y : Monitor). length y.area1) d.same ∙ q,
      )

  pub tracing_measured : areas_measured m.area0 m.area1 ≡ true
  unfolding areas_measured lengths_fit
  tracing_measured = let (p, q) = lengths in rw (p, q)

  pub tracing_consistent : consistent (table_in l) m ≡ true
  tracing_consistent = laid_still (table_in l) sound 256 m x.laid

  pub tracing_next : (e : ℕ) (d : Monitor) → take_event (table_in l) m e ≡ went d → Tracing l w d
  tracing_next e d h =
      record { indexed = x.indexed; laid = take_laid (table_in l) sound 256 m d e x.laid h }

  -- ---- `trace_event`, by what `take_event` answered

  module _ (e : ℕ) (r : Taken) (a b : List ℕ) (said : TakenBy (table_in l) m e r a b) where
    pub went_out : (s : State) → r ≡ taken.Ok s → take_event (table_in l) m e ≡ went (monitor_of s a b)
    went_out s q = rw q at said

    pub went_tracing : (s : State) → r ≡ taken.Ok s → Tracing l w (monitor_of s a b)
    went_tracing s q = tracing_next e (monitor_of s a b) (went_out s q)

    pub traced_went : (s : State) → r ≡ taken.Ok s → (bits : EventBits)
        → bits_of bits ≡ offer.offer_bits (table_in l) (monitor_of s a b) (verdict_of s.verdict)
        → TracedOn l w m e s bits a b
    unfolding permitted_by
    traced_went s q bits h = record { takes = went_out s q; permitted = h; tracing = went_tracing s q }

    pub traced_stopped : (k : ℕ) → r ≡ taken.Err k → RefusedEvent l m e k m.state.taken a b
    traced_stopped k q =
        let (h, f, g) : TakenBy (table_in l) m e (taken.Err k) a b = rw q at said in
        record { stopped = h; placed = refl; first = f; second = g }

-- ---- the trace of what was read

module _ (s l w : List ℕ) (m : Monitor) (here : reached_by s ≡ at (table_in l) m) (e : ℕ) (a b : List ℕ) where
  pub reached_next : (st : State) (bits : EventBits) → TracedOn l w m e st bits a b
      → reached_by (s ++ e ∷ []) ≡ at (table_in l) (monitor_of st a b)
  reached_next st bits x = reached_went s (table_in l) m here e (monitor_of st a b) x.takes

  pub trace_next : (st : State) (bits : EventBits) → TracedOn l w m e st bits a b
      → trace_of (s ++ e ∷ []) ≡ trace_of s ++ trace_line_said (Takes e st bits) ∷ []
  trace_next st bits x =
      let d : Monitor = monitor_of st a b in
      trace_went s (table_in l) m here e d x.takes
      ∙ ap (λ (y : offer.EventBits). trace_of s ++ takes e d.state y ∷ []) (sym x.permitted)

  pub trace_stop : (number place : ℕ) → RefusedEvent l m e number place a b → (rest : List ℕ)
      → trace_of (s ++ e ∷ rest) ≡ trace_of s ++ trace_line_said (Refuses number place) ∷ []
  trace_stop number place x rest =
      trace_stops s (table_in l) m here e number x.stopped rest
      ∙ ap (λ (k : ℕ). trace_of s ++ refuses number k ∷ []) (sym x.placed)
