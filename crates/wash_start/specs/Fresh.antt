-- What the functions of a fresh start ask for and promise (02, W5).
--     ListAccepted                  a number list that is a table
--     FirstBy, AfreshBy, FreshBy    the first event of a fresh start: in one area; in both; with the index
--     Free                          which area is zero
-- The laws are with the proofs. Assumes nothing.
use Rattle.std.specs.Prelude.{ℕ, ◌≡◌, Bool, List, []}
use Rattle.table.specs.Table.{Table}
use Rattle.table.specs.Judge.{accepted, judge_list}
use Rattle.table_index.specs.Index.{table_in, Indexed}
use Rattle.monitor_spec.specs.State.{slot_count, choose, fill}
use Rattle.monitor_spec.specs.Fold.{went, stops}
use Rattle.state.specs.Record.{monitor_of}
use Rattle.taking.specs.Taking.{Taken}
use Rattle.std.specs.declared.result.Result.TheVariants.{Ok, Err}
use Rattle.feeding.specs.Feeding.{Empty}
use Rattle.wash_spec.specs.Taking.{take_fresh}

-- none of 2 to 9 is met
unfoldable pub ListAccepted : List ℕ → Type 0
ListAccepted l = judge_list l ≡ accepted l (table_in l)

-- ---- a fresh start
-- its first event, with n slots: what is left stands in an area of zeros, or it is zero again
unfoldable pub FirstBy : Table → ℕ → ℕ → Taken → List ℕ → Type 0
FirstBy t n e (Ok s) o = take_fresh t n e ≡ went (monitor_of s (fill n []) o)
FirstBy t n e (Err k) o = (take_fresh t n e ≡ stops k) × (o ≡ fill n [])

-- of both areas: they are the new ones, or are kept
abbrev pub AfreshBy : Table → ℕ → List ℕ → List ℕ → Taken → List ℕ → List ℕ → Type 0
AfreshBy t e a b (Ok s) a' b' = take_fresh t (slot_count a) e ≡ went (monitor_of s a' b')
AfreshBy t e a b (Err k) a' b' = (take_fresh t (slot_count a) e ≡ stops k) × (a' ≡ a) × (b' ≡ b)

pub record FreshBy (l : List ℕ) (e : ℕ) (a b : List ℕ) (r : Taken) (a' b' work' : List ℕ) : Type 0 where
  pub areas : AfreshBy (table_in l) e a b r a' b'
  pub index : Indexed l work'

-- the area that holds no residuals
unfoldable pub Free : Bool → List ℕ → List ℕ → Type 0
Free x a b = Empty (choose x b a)
