-- What `after_piece` promises, by the ways out of its code: piece_more, piece_on, piece_going, piece_over; and `take_piece`, by
-- what `resume` and `after_piece` promise: piece_taken. Not here: the ways of `resume`, in `Pieces.antt`. Assumes
-- nothing.
use Rattle.std.specs.Prelude.{ℕ, ◌-◌, ◌≡◌, Bool, true, false, List}
use Rattle.std.proofs.Common.{ap, ◌∙◌}
use Rattle.monitor_spec.specs.State.{Monitor}
use Rattle.state.specs.declared.record.State.{State}
use Rattle.state.specs.Record.{state_of}
use Rattle.format.specs.declared.answer.Line as code
use Rattle.std.specs.declared.ops.ControlFlow.TheVariants.{Continue, Break}
use Rattle.line_spec.specs.Line.{state_line}
use Rattle.line_spec.specs.Pieces.{Course, conclude_of, after_piece}
use Rattle.line_spec.specs.Whole.{resume_of}
use Rattle.line_spec.specs.Lent.{with_course}
use Rattle.line_spec.specs.Judged.{piece_end}
use Rattle.format.specs.Line.{line_said}
use Rattle.resuming.specs.Answers.{Way, resume_said, AfterPiece}

module _ (c : Way) (last : Bool) where
  pub piece_more : last ≡ false → AfterPiece c last c
  unfolding after_piece
  piece_more e l a b = rw e

  pub piece_on : last ≡ false → (s : State) → c ≡ Continue s → AfterPiece c last (Continue s)
  unfolding after_piece
  piece_on e s q l a b = rw (e, q)

  pub piece_going : last ≡ true → (s : State) → c ≡ Continue s → (x : code.Line)
      → line_said x ≡ state_line (state_of s) → AfterPiece c last (Break x)
  unfolding after_piece conclude_of
  piece_going e s q x g l a b = rw (e, q, g)

pub piece_over : (c : Way) (last : Bool) (x : code.Line) → c ≡ Break x → AfterPiece c last (Break x)
unfolding after_piece conclude_of
piece_over c true x q l a b = rw q
piece_over c false x q l a b = rw q

pub piece_taken : (l : List ℕ) (m : Monitor) (es v : List ℕ) (c : Way) (a b w : List ℕ)
    → resume_said l c a b w ≡ resume_of l m es v → (last : Bool) (r : Way) → AfterPiece c last r
    → resume_said l r a b w ≡ piece_end last (resume_of l m es v)
unfolding piece_end with_course
piece_taken l m es v c a b w e last r h =
    ap (λ (x : Course). record { course = x; area0 = a; area1 = b; work = w }) (h l a b) ∙ ap (piece_end last) e
