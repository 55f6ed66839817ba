-- The proofs of the claims: a number's digits are those of crate `decimal`; the examples by computing. Assumes nothing.
use mathlib.Core.Path.{◌≡◌, refl}
use mathlib.Core.List.{[], ◌∷◌}
use Rattle.decimal.specs.Decimal.{decimal_within, decimal}
use Rattle.decimal.proofs.Decimal.Laws.{is_decimal}
use Rattle.monitor_spec.specs.Offer.{word_bits}
use Rattle.format.specs.Text.{spelled, text_of}
use Rattle.trace_spec.specs.TraceLine.{events_from, events_in}
use Rattle.trace_text.specs.TraceText.{number_text, numbers_text, verdict_text, record_text, rest_text, trace_text_of}
use Rattle.trace_text.specs.Claims.{NumbersDenote, Rows}

pub numbers_denote : NumbersDenote
unfolding NumbersDenote number_text
numbers_denote n h = (decimal n, refl, is_decimal n h)

-- the events of the examples
one_event : events_in (record { first = 1; second = 0 }) ≡ 0 ∷ []
unfolding events_in events_from word_bits
one_event = refl

four_events : events_in (record { first = 9223372036854775809; second = 9223372036854775809 }) ≡ 0 ∷ 63 ∷ 64 ∷ 127 ∷ []
unfolding events_in events_from word_bits
four_events = refl

pub rows : Rows
unfolding Rows trace_text_of rest_text record_text verdict_text numbers_text number_text decimal decimal_within text_of spelled
rows = (rw one_event, rw four_events, refl)
