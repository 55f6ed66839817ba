-- The program's calls come to the line of the calls on all pieces.
--     stays         a line that stands is the line, whatever pieces follow
--     ends_pieces   with `after_piece` on each piece a line stands at the end, and it is the same
-- Assumes nothing.
use Rattle.std.specs.Prelude.{ℕ, ◌≡◌, refl, false, List, [], ◌∷◌, drop}
use Rattle.std.proofs.Common.{ap, sym, ◌∙◌}
use Rattle.line_spec.specs.Line.{Line, refused}
use Rattle.line_spec.specs.Pieces.{Course, going, over, conclude_of, after_piece}
use Rattle.line_spec.specs.Opening.{OpenAnswer, started, refuses, OpenOutcome, open_input_of, course_by, open_course}
use Rattle.line_spec.specs.Whole.{ResumeOutcome}
use Rattle.line_spec.specs.Lent.{resume_first, front_events, next_by, resume_next, resume_all, lent_pieces}
use Rattle.line_spec.specs.Lent.{with_course, ends_all, ends_by, lent_ends}

next_stays : (o : ResumeOutcome) (es : List ℕ) (x : Line) → o.course ≡ over x → resume_next o es ≡ o
unfolding resume_next next_by
next_stays o es x e = rw e

pub stays : (o : ResumeOutcome) (ess : List (List ℕ)) (x : Line) → o.course ≡ over x → (resume_all o ess).course ≡ over x
unfolding resume_all
stays o [] x e = e
stays o (es ∷ ess) x e = ap (λ (y : ResumeOutcome). (resume_all y ess).course) (next_stays o es x e) ∙ stays o ess x e

-- by the course after a piece that is not the last
more : (o : ResumeOutcome) (fs : List ℕ) (ess : List (List ℕ)) (c : Course) → o.course ≡ c
    → ends_all (with_course o c) fs ess ≡ over (conclude_of (resume_all o (fs ∷ ess)).course)
    → elim (after_piece false c) as (λ y. Course) [
      | going l m ↦ ends_all (with_course o (going l m)) fs ess
      | over x ↦ over x
    ]
    ≡ over (conclude_of (resume_all o (fs ∷ ess)).course)
unfolding after_piece conclude_of
more o fs ess (going l m) e i = i
more o fs ess (over x) e i = rw (stays o (fs ∷ ess) x e)

ends_all_lem : (o : ResumeOutcome) (es : List ℕ) (ess : List (List ℕ))
    → ends_all o es ess ≡ over (conclude_of (resume_all o (es ∷ ess)).course)
unfolding ends_all resume_all after_piece conclude_of with_course
ends_all_lem o es [] = refl
ends_all_lem o es (fs ∷ ess) =
    more (resume_next o es) fs ess (resume_next o es).course refl (ends_all_lem (resume_next o es) fs ess)

first_refused : (o : OpenOutcome) (n p : ℕ) → o.answer ≡ refuses n p → (resume_first o).course ≡ over (refused n p)
unfolding resume_first open_course course_by
first_refused o n p e = ap (course_by o.list o.area0 o.area1) e

by_answer : (s : List ℕ) (o : OpenOutcome) (ess : List (List ℕ)) (x : OpenAnswer) → o.answer ≡ x
    → ends_by s o ess x ≡ over (conclude_of (resume_all (resume_first o) (front_events s x ∷ ess)).course)
unfolding ends_by front_events conclude_of
by_answer s o ess (started st count next) e = ends_all_lem (resume_first o) (drop next s) ess
by_answer s o ess (refuses n p) e =
    sym (ap (λ (c : Course). over (conclude_of c))
    (stays (resume_first o) ([] ∷ ess) (refused n p) (first_refused o n p e)))

pub ends_pieces : (s : List ℕ) (ess : List (List ℕ)) (l a b w : List ℕ) → lent_ends s ess l a b w
    ≡ over (lent_pieces s ess l a b w)
unfolding lent_ends lent_pieces
ends_pieces s ess l a b w = by_answer s (open_input_of s l a b w) ess (open_input_of s l a b w).answer refl
