-- What `resume` promises, by the ways out of its code.
--     piece_given, piece_refused, piece_stopped    by Feed's answer
-- Assumes nothing.
use Rattle.std.specs.Prelude.{ℕ, ◌≡◌, List, Ok, Err}
use Rattle.std.proofs.Math.Path.{ap, sym}
use Rattle.std.proofs.Common.{◌∙◌}
use Rattle.table.specs.declared.answer.Refusal.{Refusal}
use Rattle.monitor_spec.specs.Feed.{feed_of}
use Rattle.state.specs.Answers as answer
use Rattle.state.specs.declared.answer.Declined.TheVariants as gave
use Rattle.state.specs.declared.record.State.{State}
use Rattle.state.specs.Record.{monitor_of}
use Rattle.state.specs.Answers.{outcome}
use Rattle.format.specs.declared.answer.Line as code
use Rattle.format.specs.declared.answer.Line.TheVariants as said
use Rattle.std.specs.declared.ops.ControlFlow.TheVariants.{Continue, Break}
use Rattle.line_spec.specs.Line.{Line, refused}
use Rattle.line_spec.specs.Line as line
use Rattle.line_spec.specs.Pieces.{over, fed, fed_by}
use Rattle.format.specs.Line.{line_said}
use Rattle.resuming.specs.Answers.{resume_said}
use Rattle.line_spec.specs.Whole.{resumed_by, resume_of}

module _ (l : List ℕ) (s : State) (a b es w : List ℕ) (r : answer.Answer) (a' b' w' : List ℕ)
    (says : outcome r a' b' w' ≡ feed_of l (monitor_of s a b) es w)
  where
    answered : (x : answer.Answer) → r ≡ x → resumed_by l (outcome x a' b' w') ≡ resume_of l (monitor_of s a b) es w
    unfolding resume_of
    answered x k = sym (ap (λ (y : answer.Answer). resumed_by l (outcome y a' b' w')) k) ∙ ap (resumed_by l) says

    pub piece_given : (st : State) → r ≡ Ok st
        → resume_said l (Continue st) a' b' w' ≡ resume_of l (monitor_of s a b) es w
    unfolding resumed_by fed fed_by line.monitor_left
    piece_given st k = answered (Ok st) k

    pub piece_refused : (q : Refusal) → r ≡ Err (gave.Refused q) → (x : code.Line)
        → line_said x ≡ refused q.number q.place
        → resume_said l (Break x) a' b' w' ≡ resume_of l (monitor_of s a b) es w
    unfolding resumed_by fed fed_by
    piece_refused q k x h =
        ap (λ (y : Line). record { course = over y; area0 = a'; area1 = b'; work = w' }) h
        ∙ answered (Err (gave.Refused q)) k

    pub piece_stopped : (q : Refusal) (st : State) → r ≡ Err (gave.Stopped q st)
        → resume_said l (Break (said.Refused q.number st.taken)) a' b' w' ≡ resume_of l (monitor_of s a b) es w
    unfolding resumed_by fed fed_by
    piece_stopped q st k = answered (Err (gave.Stopped q st)) k
