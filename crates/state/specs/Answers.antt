-- The code's answers as 01 has them (01, "Which form goes where": "Where an answer is an enum, the promises use a
-- definition"; "When the monitor declines").
--     Answer, answer_of, outcome  an answer of Open or Feed; with what stands in the lent areas
--     bits_of                     two words of bits
--     Offered, offered_of, offer_outcome  the same of Offer
-- Assumes nothing.
use Rattle.std.specs.Prelude.{ℕ, List, Result, Ok, Err}
use Rattle.table.specs.declared.answer.Refusal.{Refusal}
use Rattle.state.specs.declared.record.State.{State}
use Rattle.state.specs.declared.answer.Declined.{Declined}
use Rattle.state.specs.declared.answer.Declined.TheVariants.{Refused, Stopped}
use Rattle.state.specs.declared.answer.EventBits as words
use Rattle.monitor_spec.specs.State as operation
use Rattle.monitor_spec.specs.Offer as offer
use Rattle.state.specs.Record.{state_of}

abbrev pub Answer : Type 0
Answer = Result State (Declined State)

-- "Refusals 1 to 10 return number and place only"; "Refusals 11 to 13 also return the record after the events already
-- taken"
abbrev pub answer_of : Answer → operation.Answer
answer_of (Ok s) = operation.given (state_of s)
answer_of (Err (Refused r)) = operation.refused r.number r.place
answer_of (Err (Stopped r s)) = operation.stopped r.number r.place (state_of s)

abbrev pub outcome : Answer → List ℕ → List ℕ → List ℕ → operation.Outcome
outcome r a b w = record { answer = answer_of r; area0 = a; area1 = b; work = w }

abbrev pub bits_of : words.EventBits → offer.EventBits
bits_of b = record { first = b.first; second = b.second }

-- the events that may come next, or a refusal
abbrev pub Offered : Type 0
Offered = Result words.EventBits Refusal

abbrev pub offered_of : Offered → offer.Offered
offered_of (Ok b) = offer.offers (bits_of b)
offered_of (Err r) = offer.refused r.number r.place

abbrev pub offer_outcome : Offered → List ℕ → List ℕ → List ℕ → offer.OfferOutcome
offer_outcome r a b w = record { answer = offered_of r; area0 = a; area1 = b; work = w }
