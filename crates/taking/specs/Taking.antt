-- What the functions on one event promise (01, "Operations", "When the monitor declines").
--     step_words           the words of a step's store, for crates that do not list the step's
--     Holding, Standing    two areas that hold residuals; a monitor that is laid out of residuals
--     Empty, NextBy        an area of zeros; the residuals after an event there, or a refusal
--     Stepped              both areas after an event, or as they were
--     Advanced, Moved      the same, from the present area to the other; of a monitor's
--     Taken, TakenBy       what is answered after one event, and what that says
-- The laws are with the proofs, in `proofs/event/`. Assumes nothing.
use Rattle.std.specs.Prelude.{ℕ, ◌≡◌, List, [], length, Result, Ok, Err}
use Rattle.std.proofs.Math.Option.{Option, none, some}
use Rattle.table.specs.Table.{Table}
use Rattle.residuals.specs.Residual.{Residual, after_all}
use Rattle.residuals.specs.Slots.{slots_of}
use Rattle.monitor_spec.specs.State.{Monitor, slot_count, fill}
use Rattle.monitor_spec.specs.Fold.{went, stops}
use Rattle.monitor_spec.specs.Feed.{next_slots, taking, event_refused, take_event}
use Rattle.monitor_spec.proofs.Feed.Laws.{met_by}
use Rattle.monitor_spec.specs.Sensible.{Laid}
use Rattle.state.specs.declared.record.State as code
use Rattle.state.specs.Record.{monitor_of}
use Rattle.tree_walk.specs.Layout.{store_words}
use Rattle.monitor_spec.specs.Holds.{AreaHolds, held_in}

-- the words of the store that a step asks for
abbrev pub step_words : ℕ
step_words = store_words

-- area p holds the slots of c proper residuals and then zeros, area o zeros
pub record Holding (t : Table) (p o : List ℕ) (c : ℕ) : Type 0 where
  pub held : AreaHolds t p c
  pub other : o ≡ fill held.slots []

-- there are residuals of which record and areas are laid out
pub record Standing (t : Table) (m : Monitor) : Type 0 where
  pub slots : ℕ
  pub laid : Laid t slots m

-- an area of zeros
unfoldable pub Empty : List ℕ → Type 0
Empty a = a ≡ fill (slot_count a) []

-- the residuals after event e of rs, with room for cap and k events taken: an area of zeros is filled with their slots;
-- or the event is refused, and it is zero again
unfoldable pub NextBy : Table → ℕ → ℕ → List Residual → ℕ → Result ℕ ℕ → List ℕ → Type 0
NextBy t cap k rs e (Ok n) a =
    (event_refused t cap k rs e ≡ none)
    × (n ≡ length (slots_of (after_all t e rs)))
    × (a ≡ fill cap (slots_of (after_all t e rs)))
NextBy t cap k rs e (Err x) a = (event_refused t cap k rs e ≡ some x) × (a ≡ fill cap [])

-- the event meets no refusal: areas that were asked for
pub record AreasFilled (met : Option ℕ) (next : List (List ℕ)) (a⁺ b⁺ : List ℕ) (c : ℕ) (a' b' : List ℕ) : Type 0 where
  pub passes : met ≡ none
  pub count : c ≡ length next
  pub first : a' ≡ a⁺
  pub second : b' ≡ b⁺

-- it meets one: "areas as then"
pub record AreasKept (met : Option ℕ) (x : ℕ) (a b a' b' : List ℕ) : Type 0 where
  pub meets : met ≡ some x
  pub first : a' ≡ a
  pub second : b' ≡ b

-- of areas a and b: they become a⁺ and b⁺, or are kept
abbrev pub Stepped : Option ℕ → List (List ℕ) → List ℕ → List ℕ → List ℕ → List ℕ → Result ℕ ℕ → List ℕ → List ℕ → Type 0
Stepped met next a b a⁺ b⁺ (Ok c) a' b' = AreasFilled met next a⁺ b⁺ c a' b'
Stepped met next a b a⁺ b⁺ (Err x) a' b' = AreasKept met x a b a' b'

-- "each event fills the other and zeroes the first": of area p with c residuals and area o, with k events taken
unfoldable pub Advanced : Table → ℕ → ℕ → ℕ → List ℕ → List ℕ → Result ℕ ℕ → List ℕ → List ℕ → Type 0
Advanced t e k c p o r p' o' =
    let n = slot_count p in
    let rs = held_in t p c in
    let next = slots_of (after_all t e rs) in
    Stepped (event_refused t n k rs e) next p o (fill n []) (fill n next) r p' o'

-- the same, where the present area is the one that the events taken say
unfoldable pub Moved : Table → Monitor → ℕ → Result ℕ ℕ → List ℕ → List ℕ → Type 0
Moved t m e r a b =
    let next = next_slots t m e in
    Stepped (met_by t m e) next m.area0 m.area1 (taking m next).area0 (taking m next).area1 r a b

-- the record after an event, or the number of a refusal
abbrev pub Taken : Type 0
Taken = Result code.State ℕ

-- the monitor after an event, or the number of the refusal
abbrev pub TakenBy : Table → Monitor → ℕ → Taken → List ℕ → List ℕ → Type 0
TakenBy t m e (Ok s) a b = take_event t m e ≡ went (monitor_of s a b)
TakenBy t m e (Err k) a b = (take_event t m e ≡ stops k) × (a ≡ m.area0) × (b ≡ m.area1)
