-- One turn of `follow`, on a piece p of which a part was filled.
--     turn_on, turn_took    the monitor goes on, and has taken the whole piece
--     turn_over             a line stands
-- Assumes nothing.
use Rattle.std.specs.Prelude.{ℕ, ◌<◌, ◌≡◌, true, false, List, length, take}
use Rattle.std.proofs.Common.{arith, ap, ◌∙◌}
use Rattle.std.proofs.Math.Path.{refl, sym}
use Rattle.std.proofs.Math.Seq.{length-take-le}
use Rattle.state.specs.declared.record.State.{State}
use Rattle.state.specs.Record.{state_of, monitor_of}
use Rattle.line_spec.specs.Whole.{ResumeOutcome, resume_of}
use Rattle.line_spec.specs.Lent.{next_by, resume_next}
use Rattle.line_spec.specs.Judged.{piece_end, Took, Goes, ComesTo}
use Rattle.line_spec.proofs.Judged.Laws.{goes_next, goes_took, goes_over}
use Rattle.format.specs.declared.answer.Line as code
use Rattle.format.specs.Line.{line_said}
use Rattle.std.specs.declared.ops.ControlFlow.TheVariants.{Continue, Break}
use Rattle.resuming.specs.Answers.{Way, resume_said}
use Rattle.input.specs.declared.reading.Part.{Part}
use Rattle.input.specs.Reading.{Parts}

module _ (n : ℕ) (p : List ℕ) (size : length p ≡ n) (part : Part) (fits : Parts (length p) part) where
  filled : List ℕ
  filled = take part.count p

  long : length filled ≡ part.count
  unfolding filled
  long = length-take-le part.count p fits.within

  full : part.last ≡ false → length filled ≡ n
  full e = long ∙ fits.full e ∙ size

  short : part.last ≡ true → length filled < n
  short e = let h = fits.short e in let k = long in omega arith

  module _ (l : List ℕ) (s : State) (a b w : List ℕ) (r : Way) (a' b' w' : List ℕ)
      (said : resume_said l r a' b' w' ≡ piece_end part.last (resume_of l (monitor_of s a b) (take part.count p) w))
    where
      now : ResumeOutcome
      now = resume_said l (Continue s) a b w

      told : (x : Way) → r ≡ x → resume_said l x a' b' w' ≡ piece_end part.last (resume_next now filled)
      unfolding resume_next next_by now filled
      told x e = sym (ap (λ (y : Way). resume_said l y a' b' w') e) ∙ said

      pub turn_took : (next : State) → r ≡ Continue next → Took (state_of s) n (state_of next)
      unfolding now
      turn_took next e =
          goes_took n now now (resume_said l (Continue next) a' b' w') filled part.last
          (told (Continue next) e) full l l
          (monitor_of s a b) (monitor_of next a' b') refl refl

      module _ (o : ResumeOutcome) (goes : Goes n o (resume_said l (Continue s) a b w)) where
        pub turn_on : (next : State) → r ≡ Continue next → Goes n o (resume_said l (Continue next) a' b' w')
        unfolding now
        turn_on next e =
            goes_next n o now (resume_said l (Continue next) a' b' w') filled part.last
            (told (Continue next) e) full goes l
            (monitor_of next a' b') refl

        pub turn_over : (x : code.Line) → r ≡ Break x → ComesTo n o (line_said x)
        unfolding now
        turn_over x e =
            goes_over n o now (resume_said l (Break x) a' b' w') filled part.last (told (Break x) e) full short goes
            (line_said x) refl
