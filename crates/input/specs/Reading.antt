-- What one read leaves of a buffer that is being filled, and what it then holds (ours; docs/DECISIONS.md, "An input
-- that cannot be read gets no line").
--     after_read    from where to read on, or what the buffer holds; by what `read` answered
--     Parts         a part of a buffer: all of it, or less where the input ended
--     Fills         the promise of `fill`
-- The laws are in `Reading/Laws.antt`. Assumes nothing.
use Rattle.std.specs.Prelude.{ℕ, ◌+◌, ◌≤◌, ◌<◌, ◌≡◌, true, false, cond, ltb, eqb, Result, Ok, Err}
use Rattle.std.specs.declared.ops.ControlFlow.{ControlFlow}
use Rattle.std.specs.declared.ops.ControlFlow.TheVariants.{Continue, Break}
use Rattle.std.specs.declared.io.Error.{Error}
use Rattle.input.specs.declared.reading.Part.{Part}
use Rattle.input.specs.declared.reading.Failure.{Failure}
pub mod Laws

-- n bytes stood in a buffer of that size, and `read` answered. An error: it failed, whatever stands there already. Else
-- so many bytes more stand: the buffer is full; or there were none, and the input ended; or it goes on
unfoldable pub after_read : ℕ → ℕ → Result ℕ Error → Result (ControlFlow Part ℕ) Failure
after_read size n (Err e) = Err (record { error = e })
after_read size n (Ok k) =
    Ok (cond (ltb (n + k) size)
    (cond (eqb k 0) (Break (record { count = n; last = true })) (Continue (n + k)))
    (Break (record { count = size; last = false })))

-- of a buffer of that size
pub record Parts (size : ℕ) (p : Part) : Type 0 where
  pub within : p.count ≤ size
  pub full : p.last ≡ false → p.count ≡ size
  pub short : p.last ≡ true → p.count < size

abbrev pub Fills : ℕ → Result Part Failure → Type 0
Fills size (Ok p) = Parts size p
Fills size (Err f) = Unit
