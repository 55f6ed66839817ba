-- What a front that was read is (ours; docs/DECISIONS.md, "A line for each event, as it arrives").
--     FrontRead     the promise of `read_front`
-- The laws are in `Front/Laws.antt`. Assumes nothing.
use Rattle.std.specs.Prelude.{ℕ, ◌≤◌, ◌<◌, List, length, take, Result, Ok, Err}
use Rattle.trace_spec.specs.Reads.{Decided}
use Rattle.trace_front.specs.Wanted.{wanted_of, Fronts}
use Rattle.trace_front.specs.declared.reader.Front.{Front}
use Rattle.trace_front.specs.declared.reader.Front.TheVariants.{Whole, Ended}
use Rattle.input.specs.declared.reading.Failure.{Failure}
pub mod Laws

-- n bytes of a buffer, and no event among them
pub record Held (buffer : List ℕ) (n : ℕ) : Type 0 where
  pub within : n ≤ length buffer
  pub fronts : Fronts (take n buffer)

-- they need no more, so that the head is the same whatever follows; or the input ended with them, and they need more
abbrev pub FrontRead : List ℕ → Result Front Failure → Type 0
FrontRead buffer (Ok (Whole n)) = Held buffer n × Decided (take n buffer)
FrontRead buffer (Ok (Ended n e)) = Held buffer n × (0 < wanted_of (take n buffer))
FrontRead buffer (Err f) = Unit
