-- The monitor that a list of events calls for is as demand 3 says: its verdict is that of the residuals, which are the
-- traces. Assumes nothing.
use Rattle.std.specs.Prelude.{ℕ, ◌≡◌, List, [], length}
use Rattle.std.proofs.Common.{sym, ◌∙◌}
use Rattle.table.specs.Table.{Table}
use Rattle.meaning.specs.Figure1.{Term}
use Rattle.meaning.specs.Figure2.{TraceSet, Model}
use Rattle.meaning.proofs.Models.{theorem3_model}
use Rattle.monitor_spec.specs.Regular.{Regular}
use Rattle.residuals.specs.Residual.{residuals_of}
use Rattle.residuals.specs.Slots.{slots_of}
use Rattle.monitor_spec.specs.State.{even, fill, laid}
use Rattle.monitor_spec.proofs.State.Areas.{choose_twice}
use Rattle.monitor_spec.specs.Joined.{residual_count}
use Rattle.monitor_spec.specs.Expected.{verdict_after, record_of, monitor_after}
use Rattle.monitor_spec.proofs.Expected.Records.{record_taken, record_count, record_verdict}
use Rattle.monitor_spec.specs.History.{start, GreatestOver, HoldsJust, AfterEvents}
use Rattle.monitor_spec.proofs.History.Peaks.{record_greatest}
use Rattle.monitor_spec.proofs.History.Verdicts.{start_formed, judged_running, judged_failed}

module _ (t : Table) (n : ℕ) (s : List ℕ) where
  verdict_after_lem : (monitor_after t n s).state.verdict ≡ verdict_after t s
  unfolding monitor_after laid
  verdict_after_lem = record_verdict t s

  holds_after : HoldsJust n (residuals_of t s) (monitor_after t n s)
  unfolding monitor_after laid
  holds_after =
      record {
        number = record_count t s;
        present = choose_twice (even (record_of t s).taken) (fill n (slots_of (residuals_of t s))) (fill n []);
        other = choose_twice (even (record_of t s).taken) (fill n []) (fill n (slots_of (residuals_of t s)));
      }

  taken_after : (monitor_after t n s).state.taken ≡ length s
  unfolding monitor_after laid
  taken_after = record_taken t s

  peak_after : GreatestOver (residual_count t) s (monitor_after t n s).state.peak
  unfolding monitor_after laid
  peak_after = record_greatest t s

  pub after_events : Regular t → (H : Term → TraceSet) → Model t H → AfterEvents t H n s (monitor_after t n s)
  after_events regular H model =
      let v = verdict_after_lem in
      let j = judged_running t regular H model s in
      let c = theorem3_model t H model regular.guarded (start t) (start_formed t regular H model) s in
      record {
        running_traces = (λ e. j.0 (sym v ∙ e), λ x. v ∙ j.1 x);
        running_chains = (λ e. c.0 (j.0 (sym v ∙ e)), λ x. v ∙ j.1 (c.1 x));
        otherwise = λ x. let (p, e, o) = judged_failed t regular H model s x in (p, v ∙ e, o);
        taken = taken_after;
        peak = peak_after;
        holds = holds_after;
      }
