-- What Open's parts promise (02, W7; 01, "Operations": "settles the last definition into area 0, zeroes area 1, taken
-- 0").
--     Resolved     both areas hold the settled residuals, so many; or these exceed the slots, and both are zero
--     OpenedBy     the answer and both areas, of an accepted table
-- The laws are in `Opening/Laws.antt`. Assumes nothing.
use Rattle.std.specs.Prelude.{ℕ, ◌≤◌, ◌<◌, ◌≡◌, List, [], length, Ok, Err}
use Rattle.table.specs.Table.{Table}
use Rattle.table.specs.Operations.{zeros}
use Rattle.residuals.specs.Residual.{residuals_of}
use Rattle.residuals.specs.Slots.{slots_of}
use Rattle.monitor_spec.specs.State.{slot_count, fill}
use Rattle.monitor_spec.specs.Joined.{residual_count}
use Rattle.monitor_spec.specs.Open.{open_accepted}
use Rattle.state.specs.Answers.{Answer}
use Rattle.state.specs.Answers.{outcome}
use Rattle.slots.specs.Holding.{Held}
pub mod Laws

-- of the area a that is lent as area 0
abbrev pub Resolved : Table → List ℕ → Held → List ℕ → List ℕ → Type 0
Resolved t a (Ok k) a' b' =
    (k ≡ residual_count t [])
    × (residual_count t [] ≤ slot_count a)
    × (a' ≡ fill (slot_count a) (slots_of (residuals_of t [])))
    × (b' ≡ fill (slot_count a) [])
Resolved t a (Err _) a' b' =
    (slot_count a < residual_count t []) × (a' ≡ fill (slot_count a) []) × (b' ≡ fill (slot_count a) [])

-- with a work area of any length, which is cleared later
pub record OpenedBy (t : Table) (a es : List ℕ) (r : Answer) (a' b' : List ℕ) : Type 0 where
  pub same : (w : List ℕ) → outcome r a' b' (zeros (length w)) ≡ open_accepted t a es w
