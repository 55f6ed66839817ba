-- Runs over the events of a call with the sets that it has met (ours), and what the functions on them promise.
--     Reached                     the events left come to the same, from the monitor reached
--     SetReached                     so, where the residuals held are those of a set kept, and both areas are zero
--     KeptSet, FollowedBy          a set among some; the promise of `follow`
--     SetFound, FoundBy              a set that was in an area is kept; the promise of `pick_area`
--     Zeroed, Picked, PickedBy    both areas zero; a set that was in the present area is kept; the promise of `pick_up`
--     LaidIn, LaidBy              the promises of `lay`; of `lay_out`
-- The laws are in `Runs/`: `Laws`, of runs; `Areas`, of the areas. Assumes nothing.
use Rattle.std.specs.Prelude.{ℕ, ◌≤◌, ◌<◌, ◌≡◌, List, [], drop, Option, Some, None}
use Rattle.table.specs.Table.{Table}
use Rattle.monitor_spec.specs.Regular.{Regular}
use Rattle.monitor_spec.specs.State.{Monitor, chunks, fill, laid}
use Rattle.monitor_spec.specs.Fold.{through}
use Rattle.monitor_spec.specs.Feed.{take_event}
use Rattle.monitor_spec.specs.Sensible.{Laid}
use Rattle.state.specs.declared.record.State.{State}
use Rattle.state.specs.Record.{state_of, monitor_of}
use Rattle.monitor_spec.specs.Holds.{AreaHolds}
use Rattle.met_sets.specs.declared.run.Followed.{Followed}
use Rattle.met_sets.specs.declared.sets.MetSets.{MetSets}
use Rattle.met_sets.specs.Sets.{count_at, slots_at, Shape, Met}
use Rattle.met_sets.specs.Value.{MetIn}
pub mod Laws
pub mod Areas

-- the events from place i on, from monitor m, come to what those from place j on come to, from m', which is laid out
-- in areas of cap slots
pub record Reached (t : Table) (cap : ℕ) (m : Monitor) (es : List ℕ) (i : ℕ) (m' : Monitor) (j : ℕ) : Type 0 where
  pub laid : Laid t cap m'
  pub rest : through (take_event t) m i (drop i es) ≡ through (take_event t) m' j (drop j es)

-- the monitor of record s and set n, as it is laid out
abbrev pub monitor_at : ℕ → List ℕ → List ℕ → State → ℕ → Monitor
monitor_at cap sets starts s n = laid cap (state_of s) (slots_at sets starts n)

-- from monitor m at place i, record s and set n are reached at place j
pub record SetReached (t : Table) (cap k : ℕ) (sets starts es : List ℕ) (m : Monitor) (i : ℕ) (s : State) (n j : ℕ)
    : Type 0 where
  pub inside : n < k
  pub counted : s.count ≡ count_at starts n
  pub reached : Reached t cap m es i (monitor_at cap sets starts s n) j

-- ---- along transitions that are known

-- some sets are kept, n among them
pub record KeptSet (A : ℕ) (starts next : List ℕ) (n : ℕ) : Type 0 where
  pub sets : List ℕ
  pub count : ℕ
  pub shape : Shape A count sets starts next
  pub inside : n < count

-- the promise of `follow`, from record s and set n at place j up to place `to`, whatever the table is and wherever the
-- run began
pub record FollowedBy (A : ℕ) (starts next es : List ℕ) (s : State) (n j to : ℕ) (r : Followed) : Type 0 where
  pub onward : j ≤ r.place
  pub within : r.place ≤ to
  pub follows : (t : Table) → Regular t → t.alphabet ≡ A → (cap k : ℕ) (sets : List ℕ)
      → Met t cap k sets starts next → (m : Monitor) (i : ℕ) → SetReached t cap k sets starts es m i s n j
      → SetReached t cap k sets starts es m i r.state r.set r.place

-- ---- between the areas and the sets kept

-- of k sets kept and the slots of an area there are k' kept now, and n is the one of those slots; the area is zero
pub record SetFound (t : Table) (cap k : ℕ) (sets starts : List ℕ) (ss : List (List ℕ)) (n k' : ℕ)
    (sets' starts' next' area' : List ℕ) : Type 0 where
  pub met : Met t cap k' sets' starts' next'
  pub inside : n < k'
  pub more : k ≤ k'
  pub same : ss ≡ slots_at sets' starts' n
  pub kept : (j : ℕ) → j < k → slots_at sets' starts' j ≡ slots_at sets starts j
  pub zeroed : area' ≡ fill cap []

-- of the sets of s and the slots of an area those of s' are kept now, and n is the one of those slots; or there is no
-- room, and all is as it was
abbrev pub FoundAs : Table → ℕ → MetSets → List ℕ → ℕ → Option ℕ → MetSets → List ℕ → Type 0
FoundAs t cap s area count (Some n) s' area' =
    (s'.alphabet ≡ s.alphabet)
    × SetFound t cap s.count s.sets s.starts (chunks count area) n s'.count s'.sets s'.starts s'.next area'
FoundAs t cap s area count None s' area' = (s' ≡ s) × (area' ≡ area)

-- the promise of `pick_area`, whatever the table is
unfoldable pub FoundBy : MetSets → List ℕ → ℕ → Option ℕ → MetSets → List ℕ → Type 0
FoundBy s area count r s' area' =
    (t : Table) → Regular t → (h : AreaHolds t area count) → MetIn t h.slots s → FoundAs t h.slots s area count r s' area'

-- both areas, of cap slots, are zero
pub record Zeroed (cap : ℕ) (a b : List ℕ) : Type 0 where
  pub first : a ≡ fill cap []
  pub second : b ≡ fill cap []

-- of k sets kept and monitor m there are k' kept now, and n is the one that m held; its areas are zero
pub record Picked (t : Table) (cap k : ℕ) (sets starts : List ℕ) (m : Monitor) (n k' : ℕ)
    (sets' starts' next' a b : List ℕ) : Type 0 where
  pub met : Met t cap k' sets' starts' next'
  pub inside : n < k'
  pub more : k ≤ k'
  pub counted : m.state.count ≡ count_at starts' n
  pub same : m ≡ laid cap m.state (slots_at sets' starts' n)
  pub kept : (j : ℕ) → j < k → slots_at sets' starts' j ≡ slots_at sets starts j
  pub zeroed : Zeroed cap a b

abbrev pub PickedAs : Table → ℕ → MetSets → Monitor → Option ℕ → MetSets → List ℕ → List ℕ → Type 0
PickedAs t cap s m (Some n) s' a b =
    (s'.alphabet ≡ s.alphabet) × Picked t cap s.count s.sets s.starts m n s'.count s'.sets s'.starts s'.next a b
PickedAs t cap s m None s' a b = (s' ≡ s) × (a ≡ m.area0) × (b ≡ m.area1)

-- the promise of `pick_up`, whatever the table is
unfoldable pub PickedBy : MetSets → Monitor → Option ℕ → MetSets → List ℕ → List ℕ → Type 0
PickedBy s m r s' a b =
    (t : Table) → Regular t → (cap : ℕ) → MetIn t cap s → Laid t cap m → PickedAs t cap s m r s' a b

-- the promise of `lay`: an area of zeros holds set n
unfoldable pub LaidIn : List ℕ → List ℕ → ℕ → List ℕ → List ℕ → Type 0
LaidIn sets starts n a a' =
    (cap : ℕ) → a ≡ fill cap [] → count_at starts n ≤ cap → a' ≡ fill cap (slots_at sets starts n)

-- the promise of `lay_out`: areas a and b, of zeros, hold set n of record s
unfoldable pub LaidBy : List ℕ → List ℕ → State → ℕ → List ℕ → List ℕ → List ℕ → List ℕ → Type 0
LaidBy sets starts s n a b a' b' =
    (cap : ℕ) → Zeroed cap a b → count_at starts n ≤ cap → monitor_of s a' b' ≡ monitor_at cap sets starts s n
