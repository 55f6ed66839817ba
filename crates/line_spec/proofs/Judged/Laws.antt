-- Pieces, one after the other, come to a line of the input.
--     goes_first, goes_next, goes_over    no piece; one piece more, after which the monitor goes on, or a line stands
--     goes_took                           where it goes on, all of the piece is taken
--     flatten_last                        a piece more, joined
--     front_line, follows_judged          a line that is said of the front, or after it, is one of the input
-- Assumes nothing.
use Rattle.std.specs.Prelude.{ℕ, ◌≤◌, ◌<◌, Bool, ◌⊎◌, length}
use Rattle.std.proofs.Common.{arith, ◌∙◌, inl, inr}
use Rattle.std.proofs.Math.Path.{◌≡◌, refl, ap, sym, subst}
use Rattle.std.proofs.Math.Bool.{true, false, cond}
use mathlib.Core.List.{List, [], ◌∷◌, ◌++◌, flatten, append_assoc, append-nil}
use Rattle.monitor_spec.specs.State.{Monitor}
use Rattle.line_spec.specs.Line.{Line, refused, line_of}
use Rattle.line_spec.specs.Pieces.{Course, going, over, conclude_of, after_piece}
use Rattle.line_spec.specs.Opening.{lent, open_input_of}
use Rattle.line_spec.specs.Whole.{ResumeOutcome, resumed_by, resume_of}
use Rattle.line_spec.specs.Lent.{lent_line, next_by, resume_next, resume_all, lent_pieces, with_course}
use Rattle.line_spec.proofs.Lent.Laws.{pieces_lent}
use Rattle.line_spec.proofs.Lent.Ends.{stays}
use Rattle.line_spec.specs.Judged.{Full, front_left, piece_end, Took, Goes, ComesTo, ends_in, stands_after}
use Rattle.line_spec.specs.Judged.{Judged, ended, stood}
use Rattle.line_spec.proofs.Judged.Taken.{course_took}

-- ---- one piece more

resume_append : (o : ResumeOutcome) (ess fss : List (List ℕ))
    → resume_all o (ess ++ fss) ≡ resume_all (resume_all o ess) fss
unfolding resume_all
resume_append o [] fss = refl
resume_append o (es ∷ ess) fss = resume_append (resume_next o es) ess fss

full_append : (n : ℕ) (ess : List (List ℕ)) (es : List ℕ) → Full n ess → length es ≡ n → Full n (ess ++ (es ∷ []))
full_append n [] es f e = (e, tt)
full_append n (fs ∷ ess) es f e = (f.0, full_append n ess es f.1 e)

pub goes_first : (n : ℕ) (o : ResumeOutcome) → Goes n o o
unfolding resume_all
goes_first n o = record { pieces = []; full = tt; left = refl }

module _ (n : ℕ) (o p q : ResumeOutcome) (es : List ℕ) where
  resumed_more : (g : Goes n o p) → resume_all o (g.pieces ++ (es ∷ [])) ≡ resume_next p es
  unfolding resume_all
  resumed_more g =
      resume_append o g.pieces (es ∷ []) ∙ ap (λ (r : ResumeOutcome). resume_next r es) g.left

  -- the input did not end with the piece
  not_last : (last : Bool) → q ≡ piece_end last (resume_next p es) → (l : List ℕ) (m : Monitor) → q.course ≡ going l m
      → last ≡ false
  unfolding piece_end with_course after_piece
  not_last true e l m h =
      let f : q.course ≡ over (conclude_of (resume_next p es).course) = ap (λ (r : ResumeOutcome). r.course) e in
      absurd (let z : ◌≡◌ {A = ℕ} 0 1 = cc in omega arith)
  not_last false e l m h = refl

  unended : (last : Bool) → q ≡ piece_end last (resume_next p es) → last ≡ false → q ≡ resume_next p es
  unfolding piece_end with_course after_piece
  unended true e f = absurd (let z : ◌≡◌ {A = ℕ} 0 1 = cc in omega arith)
  unended false e f = e

  said_last : (last : Bool) → q ≡ piece_end last (resume_next p es) → last ≡ true → (x : Line) → q.course ≡ over x
      → conclude_of (resume_next p es).course ≡ x
  unfolding piece_end with_course after_piece
  said_last true e f x h =
      let g : q.course ≡ over (conclude_of (resume_next p es).course) = ap (λ (r : ResumeOutcome). r.course) e in
      cc
  said_last false e f x h = absurd (let z : ◌≡◌ {A = ℕ} 0 1 = cc in omega arith)

  module _ (last : Bool) (said : q ≡ piece_end last (resume_next p es)) (fills : last ≡ false → length es ≡ n) where
    pub goes_next : Goes n o p → (l : List ℕ) (m : Monitor) → q.course ≡ going l m → Goes n o q
    goes_next g l m h =
        let f = not_last last said l m h in
        record {
          pieces = g.pieces ++ (es ∷ []);
          full = full_append n g.pieces es g.full (fills f);
          left = resumed_more g ∙ sym (unended last said f);
        }

    pub goes_took : (k l : List ℕ) (m d : Monitor) → p.course ≡ going k m → q.course ≡ going l d
        → Took m.state n d.state
    unfolding resume_next next_by resume_of resumed_by
    goes_took k l m d e h =
        let f = not_last last said l d h in
        let c : (resume_next p es).course ≡ (next_by p es (going k m)).course =
        ap (λ (x : Course). (next_by p es x).course) e in
        let g : (next_by p es (going k m)).course ≡ going l d =
        sym c ∙ sym (ap (λ (r : ResumeOutcome). r.course) (unended last said f)) ∙ h in
        subst (λ (i : ℕ). Took m.state i d.state) (fills f) (course_took k l m d es p.work g)

    pub goes_over : (last ≡ true → length es < n) → Goes n o p → (x : Line) → q.course ≡ over x → ComesTo n o x
    goes_over short g x h = by last refl
      where
        by : (b : Bool) → last ≡ b → ComesTo n o x
        by true e =
            ends_in g.pieces es g.full (short e)
            (ap (λ (r : ResumeOutcome). conclude_of r.course) (resumed_more g) ∙ said_last last said e x h)
        by false e =
            stands_after (g.pieces ++ (es ∷ [])) (full_append n g.pieces es g.full (fills e))
            (ap (λ (r : ResumeOutcome). r.course) (resumed_more g ∙ sym (unended last said e)) ∙ h)

-- ---- the input

pub flatten_last : (ess : List (List ℕ)) (es : List ℕ) → flatten (ess ++ (es ∷ [])) ≡ flatten ess ++ es
unfolding flatten
flatten_last [] es = append-nil es
flatten_last (fs ∷ ess) es =
    ap (λ (x : List ℕ). fs ++ x) (flatten_last ess es) ∙ sym (append_assoc fs (flatten ess) es)

module _ (s l a b w : List ℕ) (fit : lent l a b w ≡ true) where
  lines : (ess : List (List ℕ)) (x : Line) → (16387 ≤ length s) ⊎ (ess ≡ [])
      → conclude_of (resume_all (front_left s (open_input_of s l a b w)) ess).course ≡ x → line_of (s ++ flatten ess) ≡ x
  unfolding front_left lent_pieces lent_line resume_all
  lines ess x h e =
      sym (ap (λ (y : Bool). cond y (line_of (s ++ flatten ess)) (refused 1 0)) fit)
      ∙ sym (pieces_lent s ess l a b w h) ∙ e

  -- the input ended with its front
  pub front_line : (x : Line) → conclude_of (front_left s (open_input_of s l a b w)).course ≡ x → line_of s ≡ x
  unfolding resume_all flatten
  front_line x e = ap line_of (sym (append-nil s)) ∙ lines [] x (inr refl) e

  -- it did not
  pub follows_judged : (n : ℕ) (x : Line) → 16387 ≤ length s → ComesTo n (front_left s (open_input_of s l a b w)) x
      → Judged n s x
  unfolding conclude_of
  follows_judged n x h (ends_in ess es f i e) = ended ess es f i (lines (ess ++ (es ∷ [])) x (inl h) e)
  follows_judged n x h (stands_after ess f e) = stood ess f (λ rest.
      let o = front_left s (open_input_of s l a b w) in
      let c = ap (λ (r : ResumeOutcome). r.course) (resume_append o ess (rest ∷ []))
      ∙ stays (resume_all o ess) (rest ∷ []) x e in
      ap (λ (y : List ℕ). line_of (s ++ y)) (sym (flatten_last ess rest))
      ∙ lines (ess ++ (rest ∷ [])) x (inl h) (ap conclude_of c))
