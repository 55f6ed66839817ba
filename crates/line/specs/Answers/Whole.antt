-- What `finish` and `line` promise, by the ways out of their code.
--     end_going, end_over                          by what the last piece left
--     line_started, line_refused                   by what `open` gives
-- Assumes nothing.
use Rattle.std.specs.Prelude.{ℕ, ◌-◌, ◌≡◌, length, Ok, Err}
use Rattle.std.proofs.Common.{arith, ◌∙◌}
use Rattle.std.proofs.Math.Path.{ap, sym}
use mathlib.Core.List.{List}
use Rattle.std.proofs.Math.ListN.{take, drop, length-drop}
use Rattle.std.proofs.Math.Seq.{take_all}
use Rattle.table.specs.declared.answer.Refusal.{Refusal}
use Rattle.state.specs.declared.record.State.{State}
use Rattle.state.specs.Record.{state_of, monitor_of}
use Rattle.format.specs.declared.answer.Line as code
use Rattle.std.specs.declared.ops.ControlFlow.TheVariants.{Continue, Break}
use Rattle.line.specs.declared.answer.Started.{Started}
use Rattle.line_spec.specs.Line.{Line, refused, state_line}
use Rattle.line_spec.specs.Pieces.{conclude_of}
use Rattle.line_spec.specs.Opening.{open_input_of}
use Rattle.format.specs.Line.{line_said}
use Rattle.resuming.specs.Answers.{Way, resume_said}
use Rattle.line.specs.Answers.{Opened, open_said, whole_said}
use Rattle.line_spec.specs.Whole.{ResumeOutcome, resume_of, LineOutcome, finished, finish_of, whole_by}
use Rattle.line_spec.specs.Whole.{whole_after, whole_of}

-- ---- finish

module _ (l : List ℕ) (s : State) (a b es w : List ℕ) (r : Way) (a' b' w' : List ℕ)
    (says : resume_said l r a' b' w' ≡ resume_of l (monitor_of s a b) es w)
  where
    ended : (x : Way) → r ≡ x → finished l (resume_said l x a' b' w') ≡ finish_of l (monitor_of s a b) es w
    unfolding finish_of
    ended x k = sym (ap (λ (y : Way). finished l (resume_said l y a' b' w')) k) ∙ ap (finished l) says

    pub end_going : (st : State) → r ≡ Continue st → (x : code.Line) → line_said x ≡ state_line (state_of st)
        → whole_said x l a' b' w' ≡ finish_of l (monitor_of s a b) es w
    unfolding finished conclude_of
    end_going st k x h =
        ap (λ (y : Line). record { line = y; list = l; area0 = a'; area1 = b'; work = w' }) h ∙ ended (Continue st) k

    pub end_over : (x : code.Line) → r ≡ Break x → whole_said x l a' b' w' ≡ finish_of l (monitor_of s a b) es w
    unfolding finished conclude_of
    end_over x k = ended (Break x) k

-- ---- line

-- the same with another list
relisted : (l k : List ℕ) (o : ResumeOutcome) (x : LineOutcome) → x ≡ finished k o
    → record { line = x.line; list = l; area0 = x.area0; area1 = x.area1; work = x.work } ≡ finished l o
unfolding finished
relisted l k o x e =
    ap (λ (y : LineOutcome). record {
      line = y.line;
      list = l;
      area0 = y.area0;
      area1 = y.area1;
      work = y.work;
    }) e

module _ (s l a b w : List ℕ) (r : Opened) (l' a' b' w' : List ℕ)
    (says : open_said r l' a' b' w' ≡ open_input_of s l a b w) where
  whole : (x : Opened) → r ≡ x → whole_after s (open_said x l' a' b' w') ≡ whole_of s l a b w
  unfolding whole_of
  whole x k =
      sym (ap (λ (y : Opened). whole_after s (open_said y l' a' b' w')) k) ∙ ap (whole_after s) says

  pub line_started : (y : Started) → r ≡ Ok y → (x : code.Line) (a'' b'' w'' : List ℕ)
      → whole_said x (take y.count l') a'' b'' w''
      ≡ finish_of (take y.count l') (monitor_of y.state a' b') (take (length s - y.next) (drop y.next s)) w'
      → whole_said x l' a'' b'' w'' ≡ whole_of s l a b w
  unfolding finish_of whole_after whole_by
  line_started y k x a'' b'' w'' h =
      let m = length-drop y.next s in
      let t : take (length s - y.next) (drop y.next s) ≡ drop y.next s =
      take_all (length s - y.next) (drop y.next s) (omega arith) in
      relisted l' (take y.count l') _ _ h
      ∙ ap (λ (es : List ℕ). finished l' (resume_of (take y.count l') (monitor_of y.state a' b') es w')) t
      ∙ whole (Ok y) k

  pub line_refused : (q : Refusal) → r ≡ Err q → (x : code.Line)
      → line_said x ≡ refused q.number q.place → whole_said x l' a' b' w' ≡ whole_of s l a b w
  unfolding whole_after whole_by
  line_refused q k x h =
      ap (λ (y : Line). record { line = y; list = l'; area0 = a'; area1 = b'; work = w' }) h ∙ whole (Err q) k
