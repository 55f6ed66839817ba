-- One line of a trace (ours; docs/DECISIONS.md, "A trace has a line for each event"): "the event, events taken, verdict
-- with its place, residuals, peak, and the events permitted next"; "A refusal is its last line".
--     TraceLine                a line, as a value; its text is made of this and of nothing else
--     Reports, TakesEvent      a line with this record and these words; a line after this event
--     OneFor, LineAt           a line for each event of a list; the line at a place, with a record and words
--     events_from, events_in   the events of a word; of Offer's two words, ascending
-- The laws are in `proofs/TraceLine/Laws.antt`. Assumes nothing.
use Rattle.std.specs.Prelude.{ℕ, zero, suc, ◌/◌, ◌%◌, ◌≡◌, true, false, List, [], ◌∷◌, ◌++◌, length, eqb}
use Rattle.monitor_spec.specs.State.{State}
use Rattle.monitor_spec.specs.Offer.{EventBits, word_bits}

-- the record has events taken, verdict with its place, residuals and peak; the two words are Offer's, of the events
-- permitted next
pub data TraceLine : Type 0 where
  -- at the start
  starts : State → EventBits → TraceLine
  -- after an event
  takes : ℕ → State → EventBits → TraceLine
  -- a refusal: number and place
  refuses : ℕ → ℕ → TraceLine

abbrev pub Reports : TraceLine → State → EventBits → Type 0
Reports (starts s bits) st permitted = (s ≡ st) × (bits ≡ permitted)
Reports (takes e s bits) st permitted = (s ≡ st) × (bits ≡ permitted)
Reports (refuses n p) st permitted = ⊥

abbrev pub TakesEvent : ℕ → TraceLine → Type 0
TakesEvent e (starts s bits) = ⊥
TakesEvent e (takes f s bits) = e ≡ f
TakesEvent e (refuses n p) = ⊥

-- in their order
abbrev pub OneFor : List ℕ → List TraceLine → Type 0
OneFor [] [] = Unit
OneFor [] (x ∷ xs) = ⊥
OneFor (e ∷ es) [] = ⊥
OneFor (e ∷ es) (x ∷ xs) = TakesEvent e x × OneFor es xs

-- k lines stand before it
pub record LineAt (xs : List TraceLine) (k : ℕ) (st : State) (permitted : EventBits) : Type 0 where
  pub before : List TraceLine
  pub line : TraceLine
  pub after : List TraceLine
  pub split : xs ≡ before ++ line ∷ after
  pub place : length before ≡ k
  pub reports : Reports line st permitted

-- ---- the events of two words

-- the events among the k from b on whose bits are set in a word, whose lowest bit is that of b
unfoldable pub events_from : ℕ → ℕ → ℕ → List ℕ
events_from word b zero = []
events_from word b (suc k) =
    elim (eqb (word % 2) 1) [
      | true ↦ b ∷ events_from (word / 2) (suc b) k
      | false ↦ events_from (word / 2) (suc b) k
    ]

-- 02, W6: "two words, events 0 to 63 in the first"
unfoldable pub events_in : EventBits → List ℕ
events_in bits = events_from bits.first 0 word_bits ++ events_from bits.second word_bits word_bits
