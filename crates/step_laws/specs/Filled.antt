-- An area of zeros that a step or a definition has filled, in the specification's terms (01, "Residuals": "An area
-- holds slots ascending by first differing word, then zeros").
--     Filled       the slots, as many as an answer says; or they exceed the cap
-- The laws are in `Filled/Laws.antt`: of an event, `stepped_filled`; of any definition, `settled_filled`.
-- Assumes nothing.
use Rattle.std.specs.Prelude.{ℕ, ◌≤◌, ◌<◌, ◌≡◌, List, length, Ok, Err}
use Rattle.monitor_spec.specs.State.{fill}
use Rattle.slots.specs.Holding.{Held}
pub mod Laws

-- the area a had room for cap slots; the slots are ss
abbrev pub Filled : ℕ → List (List ℕ) → Held → List ℕ → Type 0
Filled cap ss (Ok n) a = (n ≡ length ss) × (length ss ≤ cap) × (a ≡ fill cap ss)
Filled cap ss (Err _) a = cap < length ss
