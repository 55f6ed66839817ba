-- The text of a line.
--     text_set, text_clear       the text of one event, by its bit
--     events_next                of the events from one on: that one, and then the rest
--     events_both                of both words
-- Assumes nothing.
use Rattle.std.specs.Prelude.{ℕ, suc, ◌/◌, ◌%◌, ◌≡◌, refl, List, [], ◌∷◌, ◌++◌}
use Rattle.std.proofs.Math.Decide.{ℕ_discrete}
use Rattle.std.proofs.Common.{ap, sym, ◌∙◌, append_assoc, append-nil}
use Rattle.monitor_spec.specs.Offer.{EventBits, word_bits}
use Rattle.trace_spec.specs.TraceLine.{events_from, events_in}
use Rattle.trace_spec.proofs.TraceLine.Laws.{from_set, from_clear}
use Rattle.trace_text.specs.TraceText.{number_text, numbers_text}

pub numbers_join : (xs ys : List ℕ) → numbers_text (xs ++ ys) ≡ numbers_text xs ++ numbers_text ys
unfolding numbers_text
numbers_join [] ys = refl
numbers_join (x ∷ xs) ys =
    ap (λ (l : List ℕ). number_text x ++ l) (numbers_join xs ys)
    ∙ sym (append_assoc (number_text x) (numbers_text xs) (numbers_text ys))

pub text_set : (w b : ℕ) → w % 2 ≡ 1 → numbers_text (events_from w b 1) ≡ number_text b
unfolding numbers_text events_from
text_set w b h = ap numbers_text (from_set w b 0 h) ∙ append-nil (number_text b)

pub text_clear : (w b : ℕ) → (w % 2 ≡ 1 → ⊥) → numbers_text (events_from w b 1) ≡ []
unfolding numbers_text events_from
text_clear w b h = ap numbers_text (from_clear w b 0 h)

pub events_next : (w b k : ℕ) → numbers_text (events_from w b (suc k))
    ≡ numbers_text (events_from w b 1) ++ numbers_text (events_from (w / 2) (suc b) k)
unfolding numbers_text
events_next w b k = by (ℕ_discrete (w % 2) 1)
  where
    rest : List ℕ
    rest = numbers_text (events_from (w / 2) (suc b) k)

    by : Dec (w % 2 ≡ 1) → numbers_text (events_from w b (suc k)) ≡ numbers_text (events_from w b 1) ++ rest
    by (yes h) = ap numbers_text (from_set w b k h) ∙ sym (ap (λ (l : List ℕ). l ++ rest) (text_set w b h))
    by (no h) = ap numbers_text (from_clear w b k h) ∙ sym (ap (λ (l : List ℕ). l ++ rest) (text_clear w b h))

pub events_both : (bits : EventBits) → numbers_text (events_in bits)
    ≡ numbers_text (events_from bits.first 0 64) ++ numbers_text (events_from bits.second 64 64)
unfolding events_in word_bits
events_both bits = numbers_join (events_from bits.first 0 64) (events_from bits.second 64 64)
