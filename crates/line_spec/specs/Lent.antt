-- An input through lent buffers, whatever stood in them (ours): the line to expect, and the calls that come to it.
--     lent_line      the line of a whole input, or refusal 1
--     resume_next    one piece more, with the areas and the work words as the call before left them
--     lent_pieces    the line of `open`, `resume` on the front's events and on each piece, and `conclude`
--     lent_ends      the same with `after_piece` on each piece
-- The laws are in `proofs/Lent/Laws.antt` and, of `lent_ends`, `proofs/Lent/Ends.antt`. Assumes nothing.
use Rattle.std.specs.Prelude.{ℕ, true, false, cond, List, [], ◌∷◌, drop}
use Rattle.line_spec.specs.Line.{Line, refused, line_of}
use Rattle.line_spec.specs.Pieces.{Course, going, over, conclude_of, after_piece}
use Rattle.line_spec.specs.Opening.{lent, OpenAnswer, started, refuses, OpenOutcome, open_input_of, open_course}
use Rattle.line_spec.specs.Whole.{ResumeOutcome, resume_of}

unfoldable pub lent_line : List ℕ → List ℕ → List ℕ → List ℕ → List ℕ → Line
lent_line s l a b w = cond (lent l a b w) (line_of s) (refused 1 0)

-- what `open` left
unfoldable pub resume_first : OpenOutcome → ResumeOutcome
resume_first o = record { course = open_course o; area0 = o.area0; area1 = o.area1; work = o.work }

-- the events of the front s
unfoldable pub front_events : List ℕ → OpenAnswer → List ℕ
front_events s (started st count next) = drop next s
front_events s (refuses n p) = []

-- `resume`, unless a line stands
unfoldable pub next_by : ResumeOutcome → List ℕ → Course → ResumeOutcome
next_by o es (going l m) = resume_of l m es o.work
next_by o es (over x) = o

unfoldable pub resume_next : ResumeOutcome → List ℕ → ResumeOutcome
resume_next o es = next_by o es o.course

unfoldable pub resume_all : ResumeOutcome → List (List ℕ) → ResumeOutcome
resume_all o [] = o
resume_all o (es ∷ ess) = resume_all (resume_next o es) ess

-- front, pieces after it, list, areas, work words
unfoldable pub lent_pieces : List ℕ → List (List ℕ) → List ℕ → List ℕ → List ℕ → List ℕ → Line
lent_pieces s ess l a b w =
    let o = open_input_of s l a b w in
    conclude_of (resume_all (resume_first o) (front_events s o.answer ∷ ess)).course

-- ---- as the program goes: it asks `after_piece` of each piece, and reads no more once a line stands

-- the same buffers with another course
unfoldable pub with_course : ResumeOutcome → Course → ResumeOutcome
with_course o c = record { course = c; area0 = o.area0; area1 = o.area1; work = o.work }

-- a piece and those after it, of which the last is the input's last: what the last `after_piece` gives. Each piece is
-- fed to what `after_piece` gave of the one before
unfoldable pub ends_all : ResumeOutcome → List ℕ → List (List ℕ) → Course
ends_all o es [] = after_piece true (resume_next o es).course
ends_all o es (fs ∷ ess) =
    elim (after_piece false (resume_next o es).course) [
      | going l m ↦ ends_all (with_course (resume_next o es) (going l m)) fs ess
      | over x ↦ over x
    ]

-- by what `open` answered of the front s
unfoldable pub ends_by : List ℕ → OpenOutcome → List (List ℕ) → OpenAnswer → Course
ends_by s o ess (started st count next) = ends_all (resume_first o) (drop next s) ess
ends_by s o ess (refuses n p) = over (refused n p)

unfoldable pub lent_ends : List ℕ → List (List ℕ) → List ℕ → List ℕ → List ℕ → List ℕ → Course
lent_ends s ess l a b w = let o = open_input_of s l a b w in ends_by s o ess o.answer
