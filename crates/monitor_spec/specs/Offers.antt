-- What Offer says (01, "Operations": "bit e is set exactly when .."; 02, W6: "two words, events 0 to 63 in the first").
--     BitsJust      what the bits of one word say
--     WordsJust     what those of both words say
--     OffersJust    what Offer says of a list
-- Assumes nothing.
use Rattle.std.specs.Prelude.{ℕ, ◌+◌, ◌/◌, ◌%◌, ◌^◌, ◌<◌, ◌≡◌, List, [], ◌∷◌, ◌++◌, ◌↔◌}
use Rattle.meaning.specs.Figure2.{TraceSet}
use Rattle.monitor_spec.specs.Offer.{EventBits, Offered, offers}

-- bit e of a word of 64 is set exactly when the event b + e is below A and in X
unfoldable pub BitsJust : ℕ → (ℕ → Type 0) → ℕ → ℕ → Type 0
BitsJust A X b word = (e : ℕ) → (word / 2 ^ e % 2 ≡ 1) ↔ ((e < 64) × (b + e < A) × X (b + e))

-- "events 0 to 63 in the first": those from 64 on in the second
pub record WordsJust (A : ℕ) (X : ℕ → Type 0) (bits : EventBits) : Type 0 where
  pub first : BitsJust A X 0 bits.first
  pub second : BitsJust A X 64 bits.second

-- the answer is two words whose bits say of each event e below A whether the list with e more is in the set
pub record OffersJust (A : ℕ) (X : TraceSet) (s : List ℕ) (o : Offered) : Type 0 where
  pub bits : EventBits
  pub answer : o ≡ offers bits
  pub exact : WordsJust A (λ (e : ℕ). X (s ++ e ∷ [])) bits
