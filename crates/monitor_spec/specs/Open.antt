-- Open: its whole outcome (02, W7: "Start and the first Feed become one operation, Open, with a list of events"; 01,
-- "Operations").
--     fresh_monitor     the settled monitor: before any event, with n slots
--     open_accepted     settling, and then Feed's run, of an accepted table
--     open_of           answer, areas and work words of a call
-- The laws are in `proofs/Open/Laws.antt`. Assumes nothing.
use Rattle.std.specs.Prelude.{ℕ, true, false, ◌&&◌, List, [], length, ltb}
use Rattle.table.specs.Table.{Table}
use Rattle.table.specs.Operations.{zeros}
use Rattle.residuals.specs.Residual.{residuals_of}
use Rattle.residuals.specs.Slots.{slots_of}
use Rattle.monitor_spec.specs.State.{fresh_state, Monitor, refused, Outcome, areas_measured, work_measured}
use Rattle.monitor_spec.specs.State.{slot_count, fill}
use Rattle.monitor_spec.specs.Entering.{entrance, entering, refusing}
use Rattle.monitor_spec.specs.Fold.{through}
use Rattle.monitor_spec.specs.Feed.{take_event, ending_of}

-- 01: "settles the last definition into area 0, zeroes area 1, taken 0"; "An empty set means failed, at .. (0 at
-- Start)"
unfoldable pub fresh_monitor : Table → ℕ → Monitor
fresh_monitor t n =
    let ss = slots_of (residuals_of t []) in
    record { state = fresh_state (length ss); area0 = fill n ss; area1 = fill n [] }

-- 01: "Start crowded (place 0) zeroes both areas and returns no record."; 02, W7: "Refusals 11 to 13 during the list
-- answer as Feed's, but crowded while settling answers as Start's did"
unfoldable pub open_accepted : Table → List ℕ → List ℕ → List ℕ → Outcome
open_accepted t a es work =
    let n = slot_count a in
    elim (ltb n (length (slots_of (residuals_of t [])))) [
      | true ↦ record { answer = refused 13 0; area0 = fill n []; area1 = fill n []; work = zeros (length work) }
      | false ↦ ending_of (length work) (through (take_event t) (fresh_monitor t n) 0 es)
    ]

-- "Refusals 1 to 10 return number and place only and keep areas"; the number list l, the areas a and b, the events es
-- and the work area are lent
unfoldable pub open_of : List ℕ → List ℕ → List ℕ → List ℕ → List ℕ → Outcome
open_of l a b es work =
    entering (refusing a b)
    (λ t. open_accepted t a es work)
    (entrance (areas_measured a b && work_measured work) l work)
