-- The calls on an input, whole or in pieces, come to the line of the input, whatever stood in the lent buffers.
--     fed_work        what a piece leaves, whatever the work area held
--     pieces_lent     the line of the calls on a front and pieces
--     whole_line      the line of `line`
-- Assumes nothing.
use Rattle.std.specs.Prelude.{ℕ, ◌≤◌, ◌≡◌, Bool, true, false, cond, ◌⊎◌, length}
use Rattle.std.proofs.Math.Path.{refl, ap}
use Rattle.std.proofs.Common.{sym, subst, ◌∙◌, inr}
use mathlib.Core.List.{List, [], ◌∷◌, ◌++◌, append-nil, flatten}
use Rattle.table.specs.Judge.{judge_list}
use Rattle.table.specs.Operations.{zeros}
use Rattle.table.proofs.Operations.Laws.{length_zeros}
use Rattle.monitor_spec.specs.Fold.{through}
use Rattle.monitor_spec.specs.State.{Monitor, Outcome, areas_measured, work_measured}
use Rattle.monitor_spec.specs.Entering.{Entrance, shut, admits, judging, agreeing, entrance_on, entering, refusing}
use Rattle.monitor_spec.proofs.Entering.Laws.{entrance_unmeasured, on_shut, on_length, on_measured}
use Rattle.monitor_spec.specs.Feed.{take_event, ending_of, feed_of}
use Rattle.monitor_spec.proofs.Feed.Laws.{feed_shut, feed_admits}
use Rattle.line_spec.specs.Line.{Line, refused, line_of}
use Rattle.line_spec.specs.Pieces.{Course, going, over, fed, fed_by, piece_of, front_of, feed_front}
use Rattle.line_spec.specs.Pieces.{conclude_of}
use Rattle.line_spec.specs.Pieces.{through_pieces, pieces_of}
use Rattle.line_spec.proofs.Pieces.Joined.{over_stays, pieces_whole}
use Rattle.line_spec.specs.Opening.{lent, OpenAnswer, started, refuses, OpenOutcome, open_refused, open_input_of}
use Rattle.line_spec.specs.Opening.{course_by, open_course}
use Rattle.line_spec.proofs.Opening.Laws.{work_measured_lem}
use Rattle.line_spec.proofs.Opening.Front.{open_unfit, open_course_lem, open_began}
use Rattle.line_spec.specs.Whole.{ResumeOutcome, resumed_by, resume_of, finished, whole_by, whole_after, whole_of}
use Rattle.line_spec.specs.Lent.{lent_line, resume_first, front_events, next_by, resume_next, resume_all, lent_pieces}

-- ---- a piece

-- with lent lengths that are right, only the number of work words counts
feed_with : List ℕ → Monitor → List ℕ → ℕ → Outcome
feed_with l m es k =
    entering (refusing m.area0 m.area1) (λ t. ending_of k (through (take_event t) m 0 es))
    (agreeing m k (judging (judge_list l) k))

feed_with_lem : (l : List ℕ) (m : Monitor) (es w : List ℕ) → areas_measured m.area0 m.area1 ≡ true
    → work_measured w ≡ true → feed_of l m es w ≡ feed_with l m es (length w)
unfolding feed_of feed_with
feed_with_lem l m es w a h =
    ap (entering (refusing m.area0 m.area1) (λ t. ending_of (length w) (through (take_event t) m 0 es)))
    (on_measured l m w (rw (a, h)))

feed_same : (l : List ℕ) (m : Monitor) (es v w : List ℕ) → work_measured v ≡ true → work_measured w ≡ true
    → length v ≡ length w → fed l (feed_of l m es v) ≡ fed l (feed_of l m es w)
unfolding fed fed_by refusing
feed_same l m es v w h k e = by (areas_measured m.area0 m.area1) refl
  where
    refuses : (x : List ℕ) → areas_measured m.area0 m.area1 ≡ false
        → feed_of l m es x ≡ refusing m.area0 m.area1 1 0 x
    refuses x a = feed_shut l m es x 1 0 x (on_shut l m x 1 0 x (entrance_unmeasured _ l x (rw a)))

    by : (x : Bool) → areas_measured m.area0 m.area1 ≡ x → fed l (feed_of l m es v) ≡ fed l (feed_of l m es w)
    by true a =
        ap (fed l) (feed_with_lem l m es v a h ∙ ap (feed_with l m es) e ∙ sym (feed_with_lem l m es w a k))
    by false a = ap (fed l) (refuses v a) ∙ sym (ap (fed l) (refuses w a))

pub fed_work : (l : List ℕ) (m : Monitor) (es w : List ℕ) → length w ≡ 8192
    → fed l (feed_of l m es w) ≡ piece_of (going l m) es
unfolding piece_of
fed_work l m es w e =
    let z = length_zeros 8192 in
    feed_same l m es w (zeros 8192) (work_measured_lem w e) (work_measured_lem (zeros 8192) z) (e ∙ sym z)

-- the work area keeps its length
left_length : (l : List ℕ) (m : Monitor) (es w : List ℕ) → length (feed_of l m es w).work ≡ length w
unfolding refusing ending_of
left_length l m es w = by (entrance_on l m w) refl
  where
    by : (x : Entrance) → entrance_on l m w ≡ x → length (feed_of l m es w).work ≡ length w
    by (shut n p v) e =
        ap (λ (o : Outcome). length o.work) (feed_shut l m es w n p v e) ∙ on_length l m w n p v e
    by (admits t) e =
        ap (λ (o : Outcome). length o.work) (feed_admits l m es w t e) ∙ length_zeros (length w)

resume_work : (l : List ℕ) (m : Monitor) (es w : List ℕ) → (resume_of l m es w).work ≡ (feed_of l m es w).work
unfolding resume_of resumed_by
resume_work l m es w = refl

-- ---- the calls

-- a monitor that goes on has a work area of the right length
abbrev Ready : Course → List ℕ → Type 0
Ready (going l m) w = length w ≡ 8192
Ready (over x) w = Unit

ready : (c : Course) (w : List ℕ) → length w ≡ 8192 → Ready c w
ready (going l m) w e = e
ready (over x) w e = tt

next_course : (o : ResumeOutcome) (es : List ℕ) (c : Course) → o.course ≡ c → Ready c o.work
    → (next_by o es c).course ≡ piece_of c es
unfolding next_by resume_of resumed_by piece_of
next_course o es (going l m) e h = fed_work l m es o.work h
next_course o es (over x) e h = e

next_ready : (o : ResumeOutcome) (es : List ℕ) (c : Course) → o.course ≡ c → Ready c o.work
    → Ready (next_by o es c).course (next_by o es c).work
unfolding next_by
next_ready o es (going l m) e h =
    let r = resume_of l m es o.work in
    ready r.course r.work (ap length (resume_work l m es o.work) ∙ left_length l m es o.work ∙ h)
next_ready o es (over x) e h = subst (λ (c : Course). Ready c o.work) (sym e) tt

all_course : (o : ResumeOutcome) (ess : List (List ℕ)) → Ready o.course o.work
    → (resume_all o ess).course ≡ through_pieces o.course ess
unfolding resume_all resume_next through_pieces
all_course o [] h = refl
all_course o (es ∷ ess) h =
    all_course (next_by o es o.course) ess (next_ready o es o.course refl h)
    ∙ ap (λ (c : Course). through_pieces c ess) (next_course o es o.course refl h)

-- ---- the front

course_by_lem : (o : OpenOutcome) (x : OpenAnswer) → o.answer ≡ x
    → open_course o ≡ course_by o.list o.area0 o.area1 x
unfolding open_course
course_by_lem o x e = ap (course_by o.list o.area0 o.area1) e

refuses_ready : (o : OpenOutcome) (n p : ℕ) → o.answer ≡ refuses n p → Ready (open_course o) o.work
unfolding course_by
refuses_ready o n p e = subst (λ (c : Course). Ready c o.work) (sym (course_by_lem o (refuses n p) e)) tt

module _ (s l a b w : List ℕ) (fit : lent l a b w ≡ true) where
  first_ready : Ready (open_course (open_input_of s l a b w)) (open_input_of s l a b w).work
  first_ready = by (open_input_of s l a b w).answer refl
    where
      by : (x : OpenAnswer) → (open_input_of s l a b w).answer ≡ x
          → Ready (open_course (open_input_of s l a b w)) (open_input_of s l a b w).work
      by (started st count next) e =
          ready (open_course (open_input_of s l a b w)) (open_input_of s l a b w).work
          (ap length (open_began s l a b w st count next e).work ∙ length_zeros 8192)
      by (refuses n p) e = refuses_ready (open_input_of s l a b w) n p e

  first_piece : piece_of (open_course (open_input_of s l a b w)) (front_events s (open_input_of s l a b w).answer)
      ≡ feed_front (front_of s)
  unfolding feed_front front_events piece_of course_by
  first_piece = by (open_input_of s l a b w).answer refl
      ∙ ap (λ (c : Course). piece_of c (front_of s).events) (open_course_lem s l a b w fit)
    where
      o : OpenOutcome
      o = open_input_of s l a b w

      by : (x : OpenAnswer) → o.answer ≡ x → piece_of (open_course o) (front_events s o.answer)
          ≡ piece_of (open_course o) (front_of s).events
      by (started st count next) e =
          ap (λ (x : OpenAnswer). piece_of (open_course o) (front_events s x)) e
          ∙ ap (piece_of (open_course o)) (sym (open_began s l a b w st count next e).events)
      by (refuses n p) e =
          let d = course_by_lem o (refuses n p) e in
          ap (λ (x : Course). piece_of x (front_events s o.answer)) d
          ∙ sym (ap (λ (x : Course). piece_of x (front_of s).events) d)

  pieces_fit : (ess : List (List ℕ)) → lent_pieces s ess l a b w ≡ pieces_of s ess
  unfolding lent_pieces resume_first pieces_of through_pieces
  pieces_fit ess =
      let o = open_input_of s l a b w in
      ap conclude_of (all_course (resume_first o) (front_events s o.answer ∷ ess) first_ready
      ∙ ap (λ (c : Course). through_pieces c ess) first_piece)

pieces_unfit : (s : List ℕ) (ess : List (List ℕ)) (l a b w : List ℕ) → lent l a b w ≡ false
    → lent_pieces s ess l a b w ≡ refused 1 0
unfolding lent_pieces resume_first open_refused course_by conclude_of
pieces_unfit s ess l a b w e =
    let o = open_input_of s l a b w in
    let f : o.answer ≡ refuses 1 0 = ap (λ (x : OpenOutcome). x.answer) (open_unfit s l a b w e) in
    let all = front_events s o.answer ∷ ess in
    ap conclude_of (all_course (resume_first o) all (refuses_ready o 1 0 f)
    ∙ ap (λ (c : Course). through_pieces c all) (course_by_lem o (refuses 1 0) f)
    ∙ over_stays (refused 1 0) all)

-- ---- the line

pub pieces_lent : (s : List ℕ) (ess : List (List ℕ)) (l a b w : List ℕ) → (16387 ≤ length s) ⊎ (ess ≡ [])
    → lent_pieces s ess l a b w ≡ lent_line (s ++ flatten ess) l a b w
unfolding lent_line
pieces_lent s ess l a b w h = by (lent l a b w) refl
  where
    line : Line
    line = line_of (s ++ flatten ess)

    by : (x : Bool) → lent l a b w ≡ x → lent_pieces s ess l a b w ≡ cond (lent l a b w) line (refused 1 0)
    by true e =
        pieces_fit s l a b w e ess ∙ pieces_whole s ess h ∙ sym (ap (λ (y : Bool). cond y line (refused 1 0)) e)
    by false e = pieces_unfit s ess l a b w e ∙ sym (ap (λ (y : Bool). cond y line (refused 1 0)) e)

-- no piece follows the front
alone : (s : List ℕ) (o : OpenOutcome) → (whole_after s o).line
    ≡ conclude_of (resume_all (resume_first o) (front_events s o.answer ∷ [])).course
unfolding whole_after whole_by finished resume_first front_events resume_all resume_next next_by open_course course_by conclude_of
alone s o = by o.answer refl
  where
    told : OpenAnswer → Line
    told x = conclude_of (next_by (resume_first o) (front_events s x) (course_by o.list o.area0 o.area1 x)).course

    by : (x : OpenAnswer) → o.answer ≡ x → (whole_by s o o.answer).line ≡ told o.answer
    by (started st count next) e = ap (λ (x : OpenAnswer). (whole_by s o x).line) e ∙ sym (ap told e)
    by (refuses n p) e =
        ap (λ (x : OpenAnswer). (whole_by s o x).line) e
        ∙ sym (ap told e ∙ ap conclude_of (course_by_lem o (refuses n p) e))

pub whole_line : (s l a b w : List ℕ) → (whole_of s l a b w).line ≡ lent_line s l a b w
unfolding whole_of lent_pieces flatten
whole_line s l a b w =
    alone s (open_input_of s l a b w) ∙ pieces_lent s [] l a b w (inr refl)
    ∙ ap (λ (x : List ℕ). lent_line x l a b w) (append-nil s)
