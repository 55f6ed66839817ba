-- A consistent monitor, as the residuals it holds (ours; 01, "Disturbed").
--     Agrees      a verdict agrees with taken and the residuals held
--     Sensible    proper residuals that fit n slots, with a record that agrees
--     Laid        the record and areas are those of such residuals
-- Assumes nothing.
use Rattle.std.specs.Prelude.{ℕ, ◌≤◌, ◌≡◌, List, [], length}
use Rattle.table.specs.Table.{Table}
use Rattle.numbers.specs.Every.{All}
use Rattle.residuals.specs.Residual.{Residual}
use Rattle.monitor_spec.specs.Meaning.{Some}
use Rattle.residuals.specs.Slots.{slots_of}
use Rattle.monitor_spec.specs.Proper.{Proper}
use Rattle.monitor_spec.specs.State.{Verdict, running, failed_at, State, Monitor, laid}

-- "failed with a place above taken or residuals held; running with none"
abbrev pub Agrees : ℕ → List Residual → Verdict → Type 0
Agrees k rs running = Some rs
Agrees k rs (failed_at p) = (rs ≡ []) × (p ≤ k)

pub record Sensible (t : Table) (n : ℕ) (s : State) (rs : List Residual) : Type 0 where
  pub proper : All (Proper t) rs
  -- "or more than fit"
  pub room : length (slots_of rs) ≤ n
  -- "that many"
  pub counted : s.count ≡ length (slots_of rs)
  pub agrees : Agrees s.taken rs s.verdict
  -- 02, W1: "A record whose peak is below its count, or above the slots, is disturbed."
  pub peak_low : s.count ≤ s.peak
  pub peak_high : s.peak ≤ n

-- "that many ascending valid slots (none after failure) and then zeros; .. the other area not zero"
pub record Laid (t : Table) (n : ℕ) (m : Monitor) : Type 0 where
  pub residuals : List Residual
  pub sensible : Sensible t n m.state residuals
  pub same : m ≡ laid n m.state (slots_of residuals)
