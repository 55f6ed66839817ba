-- What `feed_front` and `open_front` promise, by the ways out of their code.
--     front_goes, front_over       by what the front's events leave
--     says_started, says_refused   by what `open` gives
-- Assumes nothing.
use Rattle.std.specs.Prelude.{ℕ, ◌-◌, ◌≤◌, refl, Bool, length, Ok, Err}
use Rattle.std.proofs.Common.{arith, sym, ◌∙◌}
use Rattle.std.proofs.Math.Path.{◌≡◌, ap, subst}
use Rattle.std.proofs.Math.Bool.{true, false}
use mathlib.Core.List.{List, []}
use Rattle.std.proofs.Math.ListN.{take, drop, length-drop}
use Rattle.std.proofs.Math.Seq.{take_all}
use Rattle.table.specs.declared.answer.Refusal.{Refusal}
use Rattle.state.specs.declared.record.State.{State}
use Rattle.state.specs.Record.{monitor_of}
use Rattle.line_spec.specs.Line.{refused}
use Rattle.line_spec.specs.Pieces.{over, conclude_of, after_piece}
use Rattle.line_spec.specs.Opening.{open_input_of, course_by, open_course}
use Rattle.line_spec.specs.Opening.Front.{Lengths}
use Rattle.line_spec.proofs.Opening.Front.{lent_in}
use Rattle.line_spec.specs.Whole.{ResumeOutcome, resume_of}
use Rattle.line_spec.specs.Lent.{resume_first, front_events, next_by, resume_next, resume_all, with_course}
use Rattle.line_spec.specs.Judged.{front_left, piece_end, stands_after}
use Rattle.line_spec.proofs.Judged.Laws.{front_line, follows_judged}
use Rattle.format.specs.declared.answer.Line as code
use Rattle.format.specs.Line.{line_said}
use Rattle.line.specs.declared.answer.Started.{Started}
use Rattle.std.specs.declared.ops.ControlFlow.TheVariants.{Continue, Break}
use Rattle.resuming.specs.Answers.{Way, course_said, resume_said}
use Rattle.line.specs.Answers.{Opened, open_said}
use Rattle.line_monitor.specs.Report.{Report, Says, Followed, FrontFed}

-- ---- feed_front

-- a line stands after the front
front_stands : (last : Bool) (o : ResumeOutcome) (x : code.Line) → o.course ≡ over (line_said x)
    → FrontFed last o (Ok x)
unfolding conclude_of resume_all
front_stands true o x e = ap conclude_of e
front_stands false o x e = stands_after [] tt e

module _ (l : List ℕ) (a b w : List ℕ) (o : ResumeOutcome) where
  going_fed : (next : State) (t : Report) → Followed 65536 (resume_said l (Continue next) a b w) t → (last : Bool)
      → resume_said l (Continue next) a b w ≡ piece_end last o → FrontFed last o t
  unfolding piece_end with_course after_piece
  going_fed next t h true g =
      let e : course_said l (Continue next) a b ≡ over (conclude_of o.course) =
      ap (λ (p : ResumeOutcome). p.course) g in
      absurd (let z : ◌≡◌ {A = ℕ} 0 1 = cc in omega arith)
  going_fed next t h false g = subst (λ (p : ResumeOutcome). Followed 65536 p t) g h

  over_fed : (x : code.Line) (last : Bool) → resume_said l (Break x) a b w ≡ piece_end last o → FrontFed last o (Ok x)
  unfolding piece_end with_course after_piece
  over_fed x true g =
      let e : over (line_said x) ≡ over (conclude_of o.course) = ap (λ (p : ResumeOutcome). p.course) g in
      cc
  over_fed x false g = front_stands false o x (sym (ap (λ (p : ResumeOutcome). p.course) g))

module _ (l : List ℕ) (s : State) (a b es w : List ℕ) (last : Bool) (r : Way) (a' b' w' : List ℕ)
    (said : resume_said l r a' b' w' ≡ piece_end last (resume_of l (monitor_of s a b) es w))
  where
    answered : (x : Way) → r ≡ x → resume_said l x a' b' w' ≡ piece_end last (resume_of l (monitor_of s a b) es w)
    answered x e = sym (ap (λ (y : Way). resume_said l y a' b' w') e) ∙ said

    pub front_goes : (next : State) → r ≡ Continue next → (n : ℕ) → 65536 ≡ n → (t : Report)
        → Followed n (resume_said l (Continue next) a' b' w') t → FrontFed last (resume_of l (monitor_of s a b) es w) t
    front_goes next e n k t h =
        going_fed l a' b' w' (resume_of l (monitor_of s a b) es w) next t
        (subst (λ (i : ℕ). Followed i (resume_said l (Continue next) a' b' w') t) (sym k) h) last
        (answered (Continue next) e)

    pub front_over : (x : code.Line) → r ≡ Break x → FrontFed last (resume_of l (monitor_of s a b) es w) (Ok x)
    front_over x e = over_fed l a' b' w' (resume_of l (monitor_of s a b) es w) x last (answered (Break x) e)

-- ---- open_front

module _ (s l a b w : List ℕ) (fit : Lengths l a b w) where
  says : (last : Bool) → (last ≡ false → 16387 ≤ length s) → (t : Report)
      → FrontFed last (front_left s (open_input_of s l a b w)) t → Says last s t
  says true long (Ok x) h = front_line s l a b w (lent_in l a b w fit) (line_said x) h
  says true long (Err f) h = h
  says false long (Ok x) h = follows_judged s l a b w (lent_in l a b w fit) 65536 (line_said x) (long refl) h
  says false long (Err f) h = h

  module _ (last : Bool) (long : last ≡ false → 16387 ≤ length s) (r : Opened) (l' a' b' w' : List ℕ)
      (said : open_said r l' a' b' w' ≡ open_input_of s l a b w)
    where
      left : (x : Opened) → r ≡ x → front_left s (open_said x l' a' b' w') ≡ front_left s (open_input_of s l a b w)
      left x k = sym (ap (λ (y : Opened). front_left s (open_said y l' a' b' w')) k) ∙ ap (front_left s) said

      pub says_started : (y : Started) → r ≡ Ok y → (t : Report)
          → FrontFed last
          (resume_of (take y.count l') (monitor_of y.state a' b') (take (length s - y.next) (drop y.next s)) w') t
          → Says last s t
      unfolding front_left resume_first resume_next next_by open_course course_by front_events
      says_started y k t h =
          let m = length-drop y.next s in
          let all : take (length s - y.next) (drop y.next s) ≡ drop y.next s =
          take_all (length s - y.next) (drop y.next s) (omega arith) in
          says last long t (subst (λ (p : ResumeOutcome). FrontFed last p t)
          (ap (λ (es : List ℕ). resume_of (take y.count l') (monitor_of y.state a' b') es w') all
          ∙ left (Ok y) k) h)

      pub says_refused : (q : Refusal) → r ≡ Err q → (x : code.Line)
          → line_said x ≡ refused q.number q.place → Says last s (Ok x)
      unfolding front_left resume_first resume_next next_by open_course course_by front_events
      says_refused q k x h =
          says last long (Ok x) (front_stands last (front_left s (open_input_of s l a b w)) x
          (ap (λ (p : ResumeOutcome). p.course) (sym (left (Err q) k)) ∙ ap over (sym h)))
