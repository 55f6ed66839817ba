-- What is told, by what was read of the front.
--     whole_held, ended_held                  what was read of it
--     told_whole, told_ended, told_broken     `told_by`
-- Assumes nothing.
use Rattle.std.specs.Prelude.{ℕ, ◌<◌, ◌≡◌, refl, List, Result, Ok, Err}
use Rattle.std.proofs.Common.{ap, sym}
use Rattle.std.proofs.Math.Path.{subst}
use Rattle.std.proofs.Math.ListN.{take}
use Rattle.input.specs.declared.reading.End.{End}
use Rattle.input.specs.declared.reading.Failure.{Failure}
use Rattle.trace_spec.specs.Trace.{Beginning, declines, begin_head, beginning_of}
use Rattle.trace.specs.Opening.Laws.{front_refused}
use Rattle.trace_front.specs.declared.reader.Front.{Front}
use Rattle.trace_front.specs.declared.reader.Front.TheVariants as read
use Rattle.trace_front.specs.Wanted.{wanted_of, CutShort}
use Rattle.trace_front.specs.Wanted.Laws.{wanted_cut}
use Rattle.trace_front.specs.Front.{Held, FrontRead}
use Rattle.course_spec.specs.declared.answer.Trouble.TheVariants.{Unread}
use Rattle.course_spec.specs.Course.{Ending, SaysBy, Says}
use Rattle.trace_monitor.specs.FrontTold.{FrontTold}

cut_declines : (s : List ℕ) (x : CutShort s) → beginning_of s ≡ declines 3 x.place
unfolding beginning_of begin_head
cut_declines s x = ap begin_head x.head

-- ---- what was read

module _ (buffer : List ℕ) (r : Result Front Failure) (front : FrontRead buffer r) (n : ℕ) where
  pub whole_held : r ≡ Ok (read.Whole n) → Held buffer n
  whole_held e = (subst (FrontRead buffer) e front).0

  pub ended_held : (end : End) → r ≡ Ok (read.Ended n end) → Held buffer n
  ended_held end e = (subst (FrontRead buffer) e front).0

  ended_short : (end : End) → r ≡ Ok (read.Ended n end) → 0 < wanted_of (take n buffer)
  ended_short end e = (subst (FrontRead buffer) e front).1

  -- ---- what is told

  pub told_whole : r ≡ Ok (read.Whole n) → (t : Ending) → Says (take n buffer) t → FrontTold buffer r t
  unfolding FrontTold
  told_whole e t h = subst (λ (v : Result Front Failure). FrontTold buffer v t) (sym e) h

  pub told_ended : (end : End) → r ≡ Ok (read.Ended n end) → (t : Ending) → Says (take n buffer) t
      → FrontTold buffer r t
  unfolding FrontTold SaysBy
  told_ended end e t h =
      let s = take n buffer in
      let x = wanted_cut s (ended_short end e) in
      subst (λ (v : Result Front Failure). FrontTold buffer v t) (sym e) (record {
        number = 3;
        place = x.place;
        trace = front_refused s 3 x.place (cut_declines s x);
        told = subst (λ (b : Beginning). SaysBy b t) (cut_declines s x) h;
      })

pub told_broken : (buffer : List ℕ) (r : Result Front Failure) (f : Failure) → r ≡ Err f
    → FrontTold buffer r (Err (Unread f))
unfolding FrontTold
told_broken buffer r f e = subst (λ (v : Result Front Failure). FrontTold buffer v (Err (Unread f))) (sym e) refl
