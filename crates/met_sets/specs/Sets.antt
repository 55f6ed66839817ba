-- Residual sets kept by number, and the transitions known between them (ours: a lazy automaton, as regular expression
-- engines have, of the sets that one call meets).
--     count_at, slots_at  how many slots a set has; its slots: "An area holds slots ascending by first differing word"
--     Shape               the starts ascend within the room; a transition known is to a set kept
--     Outline             the same, but of no set the sizes alone
--     SetStands           the slots of a set are within the words
--     Stored              a set is the slots of proper residuals, at most so many
--     Leads               a set follows another after an event
--     Met                 the sets and transitions are those of a table
--     KeptBy              the promise of `keep`
-- The set number i has the slots from the one at starts[i] up to the one at starts[i + 1] of the words `sets`, and
-- next[i * A + e] is 1 + the number of the set that follows it after event e, or 0 where that is not known; A is the
-- alphabet's size. The laws are in `Sets/`: `Words`, of the words stored; `Laws`, of the sets; `Added`, of one set
-- more. Assumes nothing.
use Rattle.std.specs.Prelude.{ℕ, suc, ◌+◌, ◌-◌, ◌*◌, ◌≤◌, ◌<◌, ◌≡◌, List, length, get_or, set, drop, replicate}
use Rattle.table.specs.Rows.{alphabet_most}
use Rattle.slots.specs.Insertion.{stored}
use Rattle.numbers.specs.Every.{All}
use Rattle.table.specs.Table.{Table}
use Rattle.residuals.specs.Residual.{Residual, after_all}
use Rattle.residuals.specs.Slots.{slots_of}
use Rattle.monitor_spec.specs.Valid.{held}
use Rattle.monitor_spec.specs.State.{chunks}
use Rattle.monitor_spec.specs.Proper.{Proper}
pub mod Words
pub mod Laws
pub mod Added

-- how many slots set i has
unfoldable pub count_at : List ℕ → ℕ → ℕ
count_at starts i = get_or starts (suc i) 0 - get_or starts i 0

-- the slots of set i
unfoldable pub slots_at : List ℕ → List ℕ → ℕ → List (List ℕ)
slots_at sets starts i = chunks (count_at starts i) (drop (get_or starts i 0 * 16) sets)

-- k sets, with an alphabet of A events
pub record Shape (A k : ℕ) (sets starts next : List ℕ) : Type 0 where
  pub set_words : length sets ≡ 1664
  pub start_places : length starts ≡ 64
  pub next_bytes : length next ≡ 2560
  pub small : A ≤ alphabet_most
  pub few : k ≤ 63
  pub rows : k * A ≤ 2560
  pub ascend : (i : ℕ) → i < k → get_or starts i 0 ≤ get_or starts (suc i) 0
  pub room : (i : ℕ) → i ≤ k → get_or starts i 0 ≤ 104
  pub known : (i e : ℕ) → i < k → e < A → get_or next (i * A + e) 0 ≤ k

-- the same, but where there is no set it asks for the sizes alone
pub record Outline (A k : ℕ) (sets starts next : List ℕ) : Type 0 where
  pub set_words : length sets ≡ 1664
  pub start_places : length starts ≡ 64
  pub next_bytes : length next ≡ 2560
  pub small : A ≤ alphabet_most
  pub few : k ≤ 63
  pub rows : k * A ≤ 2560
  pub ascend : (i : ℕ) → i < k → get_or starts i 0 ≤ get_or starts (suc i) 0
  pub room : 0 < k → (i : ℕ) → i ≤ k → get_or starts i 0 ≤ 104
  pub known : (i e : ℕ) → i < k → e < A → get_or next (i * A + e) 0 ≤ k

-- set i stands within the words
pub record SetStands (sets starts : List ℕ) (i : ℕ) : Type 0 where
  pub set_words : length sets ≡ 1664
  pub start_places : length starts ≡ 64
  pub inside : suc i < 64
  pub ascend : get_or starts i 0 ≤ get_or starts (suc i) 0
  pub room : get_or starts (suc i) 0 ≤ 104

-- set i, with areas of cap slots
pub record Stored (t : Table) (cap : ℕ) (sets starts : List ℕ) (i : ℕ) : Type 0 where
  pub residuals : List Residual
  pub proper : All (Proper t) residuals
  pub words : slots_at sets starts i ≡ slots_of residuals
  pub room : count_at starts i ≤ cap

-- set j has the residuals after event e of those of set i
unfoldable pub Leads : Table → List ℕ → List ℕ → ℕ → ℕ → ℕ → Type 0
Leads t sets starts i e j = slots_at sets starts j ≡ slots_of (after_all t e (held t (slots_at sets starts i)))

-- k sets are kept, with areas of cap slots
pub record Met (t : Table) (cap k : ℕ) (sets starts next : List ℕ) : Type 0 where
  pub shape : Shape t.alphabet k sets starts next
  pub stored : (i : ℕ) → i < k → Stored t cap sets starts i
  pub leads : (i e j : ℕ) → i < k → e < t.alphabet → get_or next (i * t.alphabet + e) 0 ≡ suc j
      → Leads t sets starts i e j

-- the promise of `keep`: as set k, the first slots of an area, so many
pub record KeptBy (A k : ℕ) (sets starts next area : List ℕ) (count : ℕ) (sets' starts' next' : List ℕ)
    : Type 0 where
  pub sets_are : sets' ≡ stored sets (get_or starts k 0 * 16) area (count * 16)
  pub starts_are : starts' ≡ set starts (suc k) (get_or starts k 0 + count)
  pub next_are : next' ≡ stored next (k * A) (replicate A 0) A
