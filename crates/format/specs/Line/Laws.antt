-- The line of a record, by its verdict: state_running, state_failed. Assumes nothing.
use Rattle.std.specs.Prelude.{ℕ, ◌≡◌}
use Rattle.std.proofs.Common.{ap}
use Rattle.std.proofs.Math.Path.{sym}
use Rattle.monitor_spec.specs.State.{Verdict}
use Rattle.state.specs.declared.record.Verdict.TheVariants as verdict
use Rattle.state.specs.declared.record.State.{State}
use Rattle.state.specs.Record.{verdict_of, state_of}
use Rattle.format.specs.declared.answer.Line.TheVariants.{Running, Failed}
use Rattle.line_spec.specs.Line.{verdict_line, state_line}
use Rattle.format.specs.Line.{line_said}

module _ (s : State) where
  pub state_running : s.verdict ≡ verdict.Running → line_said (Running s.taken s.count) ≡ state_line (state_of s)
  unfolding state_line verdict_line
  state_running e = sym (ap (λ (v : Verdict). verdict_line v s.taken s.count) (ap verdict_of e))

  pub state_failed : (p : ℕ) → s.verdict ≡ verdict.Failed p → line_said (Failed p s.taken) ≡ state_line (state_of s)
  unfolding state_line verdict_line
  state_failed p e = sym (ap (λ (v : Verdict). verdict_line v s.taken s.count) (ap verdict_of e))
