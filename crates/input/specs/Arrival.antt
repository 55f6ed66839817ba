-- What one read brings (ours; docs/DECISIONS.md, "A line for each event, as it arrives").
--     Arrived          bytes, the end of the input or a failure
--     after_arrival    which of them, by what `read` answered
--     Arrives          the promise of `arrive`
-- The laws are in `Arrival/Laws.antt`. Assumes nothing.
use Rattle.std.specs.Prelude.{ℕ, ◌≤◌, ◌<◌, true, cond, ltb, eqb, Result, Ok, Err}
use Rattle.std.specs.declared.ops.ControlFlow.{ControlFlow}
use Rattle.std.specs.declared.ops.ControlFlow.TheVariants.{Continue, Break}
use Rattle.std.specs.declared.io.Error.{Error}
use Rattle.input.specs.declared.reading.End.{End}
use Rattle.input.specs.declared.reading.Failure.{Failure}
pub mod Laws

abbrev pub Arrived : Type 0
Arrived = Result (ControlFlow End ℕ) Failure

-- into a buffer of that size `read` answered. An error: it failed. Else so many bytes stand in the buffer: they fill
-- it, or there were none, and the input ended. A buffer of no bytes is full
unfoldable pub after_arrival : ℕ → Result ℕ Error → Arrived
after_arrival size (Err e) = Err (record { error = e })
after_arrival size (Ok k) =
    Ok (cond (ltb k size) (cond (eqb k 0) (Break (record { seal = tt })) (Continue k)) (Continue size))

-- at least one byte, at most the buffer; only of a buffer with room is it said that the input ended
abbrev pub Arrives : ℕ → Arrived → Type 0
Arrives size (Ok (Continue n)) = (n ≤ size) × (0 < size → 0 < n)
Arrives size (Ok (Break e)) = 0 < size
Arrives size (Err f) = Unit
