-- What is told of an input by what was read of its front (ours; docs/DECISIONS.md, "A line for each event, as it
-- arrives").
--     EndSaid       the input ended within its front: its one refusal is said
--     FrontTold     the promise of `told_by`
-- The laws are in `FrontTold/Laws.antt`. Assumes nothing.
use Rattle.std.specs.Prelude.{ℕ, ◌≡◌, List, [], ◌∷◌, take, Result, Ok, Err}
use Rattle.trace_spec.specs.TraceLine.{refuses}
use Rattle.trace_spec.specs.Trace.{trace_of}
use Rattle.trace_front.specs.declared.reader.Front.{Front}
use Rattle.trace_front.specs.declared.reader.Front.TheVariants as read
use Rattle.input.specs.declared.reading.Failure.{Failure}
use Rattle.course_spec.specs.declared.answer.Trouble.TheVariants.{Unread}
use Rattle.course_spec.specs.Course.{Ending, ToldRefusal, Says}
pub mod Laws

-- the input s ended before its table did: its trace is one refusal, and that is said
pub record EndSaid (s : List ℕ) (r : Ending) : Type 0 where
  pub number : ℕ
  pub place : ℕ
  pub trace : trace_of s ≡ refuses number place ∷ []
  pub told : ToldRefusal number place 0 r

-- by what was read of the front into a buffer
unfoldable pub FrontTold : List ℕ → Result Front Failure → Ending → Type 0
FrontTold buffer (Ok (read.Whole n)) r = Says (take n buffer) r
FrontTold buffer (Ok (read.Ended n end)) r = EndSaid (take n buffer) r
FrontTold buffer (Err f) r = r ≡ Err (Unread f)
