-- Offer: its whole outcome (01, "Operations"; 02, W6: "Offer gives two words, events 0 to 63 in the first").
--     EventBits             the two words
--     word_bits             how many events a word has bits for
--     bits_from, word_from  the bits of k events from b on; of as many as a word has room for
--     all_bits, offer_bits  both words, of the residuals held and by the verdict
--     offer_of              answer, areas and work words of a call
-- The laws are in `proofs/Offer/Laws.antt`. Assumes nothing.
use Rattle.std.specs.Prelude.{ℕ, zero, suc, ◌+◌, ◌-◌, ◌^◌, min, List, [], ◌∷◌, length}
use Rattle.table.specs.Table.{Table}
use Rattle.table.specs.Operations.{zeros}
use Rattle.residuals.specs.Residual.{Residual, after_all}
use Rattle.monitor_spec.specs.Valid.{held}
use Rattle.monitor_spec.specs.State.{Verdict, running, failed_at, Monitor}
use Rattle.monitor_spec.specs.Entering.{entrance_on, entering}
use Rattle.monitor_spec.specs.Feed.{present_slots}

-- 02, W6: "Offer gives two words"
pub record EventBits : Type 0 where
  pub first : ℕ
  pub second : ℕ

pub data Offered : Type 0 where
  offers : EventBits → Offered
  refused : ℕ → ℕ → Offered

pub record OfferOutcome : Type 0 where
  pub answer : Offered
  pub area0 : List ℕ
  pub area1 : List ℕ
  pub work : List ℕ

-- "bit e is set exactly when the residuals after e, crowded or not, are not empty"
unfoldable pub bit_of : ℕ → List Residual → ℕ
bit_of e [] = 0
bit_of e (r ∷ rs) = 2 ^ e

-- the bits of the k events from b on: bit i is that of the event b + i
unfoldable pub bits_from : Table → List Residual → ℕ → ℕ → ℕ
bits_from t rs b zero = 0
bits_from t rs b (suc k) = bits_from t rs b k + bit_of k (after_all t (b + k) rs)

-- 02, W6: "events 0 to 63 in the first"
unfoldable pub word_bits : ℕ
word_bits = 64

-- the word of the events from b on; "events are 0 to A-1"
unfoldable pub word_from : Table → List Residual → ℕ → ℕ
word_from t rs b = bits_from t rs b (min word_bits (t.alphabet - b))

unfoldable pub all_bits : Table → List Residual → EventBits
all_bits t rs = record { first = word_from t rs 0; second = word_from t rs word_bits }

-- "0 after failure"
unfoldable pub offer_bits : Table → Monitor → Verdict → EventBits
offer_bits t m running = all_bits t (held t (present_slots m))
offer_bits t m (failed_at p) = record { first = 0; second = 0 }

-- "areas kept"
unfoldable pub offering : Offered → Monitor → List ℕ → OfferOutcome
offering o m w = record { answer = o; area0 = m.area0; area1 = m.area1; work = w }

-- "Order: 1; 2; .. 9; 10"
unfoldable pub offer_of : List ℕ → Monitor → List ℕ → OfferOutcome
offer_of l m work =
    entering (λ n p v. offering (refused n p) m v)
    (λ t. offering (offers (offer_bits t m m.state.verdict)) m (zeros (length work)))
    (entrance_on l m work)
