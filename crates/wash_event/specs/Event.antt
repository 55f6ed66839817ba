-- What the functions of an event with its minute ask for and promise (02, W5).
--     OnReady, OnBy    an event on one table
--     TimedBy          an event with its minute
-- The laws are with the proofs. Assumes nothing.
use Rattle.std.specs.Prelude.{ℕ, ◌≡◌, Bool, false, List}
use Rattle.table.specs.Table.{Table}
use Rattle.table_index.specs.Index.{table_in, Indexed}
use Rattle.monitor_spec.specs.State.{even}
use Rattle.monitor_spec.specs.Fold.{went, stops}
use Rattle.state.specs.Record.{monitor_of}
use Rattle.taking.specs.Taking.{Taken}
use Rattle.std.specs.declared.result.Result.TheVariants.{Ok, Err}
use Rattle.feeding.specs.Feeding.{Empty, Standing}
use Rattle.wash_spec.specs.Taking.{take_on, take_timed}
use Rattle.wash_state.specs.declared.answer.TimedState.{TimedState}
use Rattle.wash_state.specs.declared.answer.TimedState.TheVariants.{NotStarted, Started}
use Rattle.wash_state.specs.Answers.{timed_state_of, timed_monitor_of}
use Rattle.wash_start.specs.Fresh.{Free}
use Rattle.wash_start.specs.Standing.{TimedStanding}

-- ---- an event on one table
-- where no start is due, its index stands, and record and areas are laid out of residuals
abbrev pub OnReady : List ℕ → List ℕ → Bool → TimedState → List ℕ → List ℕ → Type 0
OnReady l work due NotStarted a b = Empty b
OnReady l work due (Started s last) a b =
    Free (even s.taken) a b × (due ≡ false → Indexed l work × Standing (table_in l) (monitor_of s a b))

abbrev pub AreasOn : Table → Bool → TimedState → ℕ → List ℕ → List ℕ → Taken → List ℕ → List ℕ → Type 0
AreasOn t due s e a b (Ok u) a' b' = take_on t due (timed_state_of s) a b e ≡ went (monitor_of u a' b')
AreasOn t due s e a b (Err k) a' b' =
    (take_on t due (timed_state_of s) a b e ≡ stops k) × (a' ≡ a) × (b' ≡ b)

pub record OnBy (l : List ℕ) (due : Bool) (s : TimedState) (e : ℕ) (a b : List ℕ) (r : Taken) (a' b' work' : List ℕ)
    : Type 0 where
  pub areas : AreasOn (table_in l) due s e a b r a' b'
  pub index : Indexed l work'

-- ---- an event with its minute
abbrev pub TimedBy : List ℕ → List ℕ → List ℕ → TimedState → ℕ → ℕ → List ℕ → List ℕ → Taken → List ℕ → List ℕ
    → List ℕ → Type 0
TimedBy everyday wash windows s e minute a b (Ok u) a' b' work' =
    (take_timed (table_in everyday) (table_in wash) windows (timed_monitor_of s a b) (e, minute)
    ≡ went (timed_monitor_of (Started u minute) a' b'))
    × TimedStanding everyday wash windows (Started u minute) a' b' work'
TimedBy everyday wash windows s e minute a b (Err k) a' b' work' =
    (take_timed (table_in everyday) (table_in wash) windows (timed_monitor_of s a b) (e, minute) ≡ stops k)
    × (a' ≡ a) × (b' ≡ b)
