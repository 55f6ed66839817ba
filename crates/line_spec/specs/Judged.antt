-- What may be said of an input that is read a buffer at a time (ours): its front, and then pieces of n bytes, until the
-- input ends or a line stands.
--     Full                   pieces that fill the buffer
--     front_left, piece_end  what the front leaves; a piece, where the input ended with it or did not
--     Took                   so many events more are taken
--     Goes, ComesTo          a monitor that goes on after full pieces; a line that is said after some
--     Judged                 a line that is said of an input, by its front
-- The laws are in `proofs/Judged/`: `Taken`, and of the rest `Laws`. Assumes nothing.
use Rattle.std.specs.Prelude.{ℕ, ◌+◌, ◌≤◌, ◌<◌, ◌≡◌, Bool, length}
use mathlib.Core.List.{List, [], ◌∷◌, ◌++◌, flatten}
use Rattle.monitor_spec.specs.State.{State}
use Rattle.monitor_spec.specs.Feed.{counter_most}
use Rattle.line_spec.specs.Line.{Line, line_of}
use Rattle.line_spec.specs.Pieces.{over, conclude_of, after_piece}
use Rattle.line_spec.specs.Opening.{OpenOutcome}
use Rattle.line_spec.specs.Whole.{ResumeOutcome}
use Rattle.line_spec.specs.Lent.{resume_first, front_events, resume_next, resume_all, with_course}

abbrev pub Full : ℕ → List (List ℕ) → Type 0
Full n [] = Unit
Full n (es ∷ ess) = (length es ≡ n) × Full n ess

-- what `open` and then `resume` leave of the front s
unfoldable pub front_left : List ℕ → OpenOutcome → ResumeOutcome
front_left s o = resume_next (resume_first o) (front_events s o.answer)

-- `resume`, and then `after_piece`
unfoldable pub piece_end : Bool → ResumeOutcome → ResumeOutcome
piece_end last o = with_course o (after_piece last o.course)

-- from one record to another with n events more; "counter full" comes before 2^64
pub record Took (before : State) (n : ℕ) (after : State) : Type 0 where
  pub all : after.taken ≡ before.taken + n
  pub fits : before.taken ≤ counter_most → after.taken ≤ counter_most

-- from one outcome to another by `resume` on full pieces
pub record Goes (n : ℕ) (o p : ResumeOutcome) : Type 0 where
  pub pieces : List (List ℕ)
  pub full : Full n pieces
  pub left : resume_all o pieces ≡ p

-- a line that is said, from an outcome on
pub data ComesTo (n : ℕ) (o : ResumeOutcome) (x : Line) : Type 0 where
  -- full pieces came, and the input ended within the next
  ends_in : (ess : List (List ℕ)) (es : List ℕ) → Full n ess → length es < n
      → conclude_of (resume_all o (ess ++ (es ∷ []))).course ≡ x → ComesTo n o x
  -- after full pieces a line stands
  stands_after : (ess : List (List ℕ)) → Full n ess → (resume_all o ess).course ≡ over x → ComesTo n o x

-- a line that is said of an input that begins with s
pub data Judged (n : ℕ) (s : List ℕ) (x : Line) : Type 0 where
  -- full pieces came, and the input ended within the next: it is the line of all its bytes
  ended : (ess : List (List ℕ)) (es : List ℕ) → Full n ess → length es < n
      → line_of (s ++ flatten (ess ++ (es ∷ []))) ≡ x → Judged n s x
  -- after full pieces the line stood: it is that of the input, whatever follows
  stood : (ess : List (List ℕ)) → Full n ess → ((rest : List ℕ) → line_of (s ++ (flatten ess ++ rest)) ≡ x)
      → Judged n s x
