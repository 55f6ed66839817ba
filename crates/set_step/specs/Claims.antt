-- What this crate proves of the definitions that its contracts cite: statements only.
-- The proof of each is in `proofs/Theorems.antt`, under the same name.
--     StepHolds       the slots of the residuals after the event, where they fit
--     StepExceeds     no room, where they do not
--     Examples, WayExamples        the worked examples, in `Examples.antt`
-- The first two are of `put_all` of slots with the members of `gathered ..`, as `step_set` promises, from a zeroed area
-- of `most` slots, where an area holds the residuals `rs`. Assumes nothing.
use Rattle.std.specs.Prelude.{ℕ, ◌*◌, ◌<◌, ◌≤◌, ◌≡◌, List, length, replicate, Ok, Err}
use Rattle.table.specs.Table.{Table}
use Rattle.residuals.specs.Residual.{Residual, after_all}
use Rattle.residuals.specs.Slots.{slots_of}
use Rattle.slots.specs.Holding.{held_as, put_all, no_room}
use Rattle.slots.specs.Canon.{fill, SameMembers}
use Rattle.set_step.specs.Stepped.{gathered, Source}
use Rattle.set_step.specs.Successors.{SlotsHold}

-- 01, "Residuals": "The set after a list is the union, event by event"; "A residual already held is not held twice";
-- "An area holds slots ascending by first differing word, then zeros"
unfoldable pub StepHolds : Type 0
StepHolds =
    (t : Table) (e : ℕ) (src : List ℕ) (rs : List Residual) → SlotsHold t src 0 rs → Source t e src (length rs)
    → (most : ℕ) (xs : List (List ℕ)) → SameMembers xs (gathered t e src (length rs) 0)
    → length (slots_of (after_all t e rs)) ≤ most
    → put_all (replicate (most * 16) 0) 0 xs
    ≡ held_as (Ok (length (slots_of (after_all t e rs)))) (fill most (slots_of (after_all t e rs)))

-- 01, "When the monitor declines": "crowded", exactly where they are more
unfoldable pub StepExceeds : Type 0
StepExceeds =
    (t : Table) (e : ℕ) (src : List ℕ) (rs : List Residual) → SlotsHold t src 0 rs → Source t e src (length rs)
    → (most : ℕ) (xs : List (List ℕ)) → SameMembers xs (gathered t e src (length rs) 0)
    → most < length (slots_of (after_all t e rs))
    → (put_all (replicate (most * 16) 0) 0 xs).held ≡ Err no_room
