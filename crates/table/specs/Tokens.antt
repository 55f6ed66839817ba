-- Both inputs as one stream of numbers with their places (01, "When the monitor declines": "Place").
--     Tokens       numbers with places, and why there are no more
--     tokens_at    of a number list from a place on
--     byte_tokens  of bytes, at byte places;  list_tokens: of a number list, at list places
--     trailing     the place of the first input after this point, if there is any
--     place_of      the place of the i-th number of a stream
-- The laws are in `proofs/Tokens/Laws.antt`. Assumes nothing.
use Rattle.std.specs.Prelude.{ℕ, zero, suc, ◌+◌, cond, List, [], ◌∷◌, length, drop, eqb}
use Rattle.std.proofs.Math.Option.{Option, none, some}
use Rattle.numbers.specs.Number.{Scan, value, truncated, malformed, read_number}

-- `ended at end`: from place `at` on there is no whole number, and the input is `end` long;
-- `broken at`: at place `at` stands a number not written as it should be
pub data Tokens : Type 0 where
  token : ℕ → ℕ → Tokens → Tokens
  ended : ℕ → ℕ → Tokens
  broken : ℕ → Tokens

-- "On a number list, places are list places, 4 is never met"
unfoldable pub list_tokens : ℕ → List ℕ → Tokens
list_tokens at [] = ended at at
list_tokens at (n ∷ ns) = token n at (list_tokens (suc at) ns)

-- the stream of a number list from a place on
unfoldable pub tokens_at : List ℕ → ℕ → Tokens
tokens_at l at = list_tokens at (drop at l)

unfoldable pub byte_token : Scan → ℕ → ℕ → (ℕ → List ℕ → Tokens) → Tokens
byte_token (value v n rest) at size more = token v at (more (at + n) rest)
byte_token truncated at size more = ended at (at + size)
byte_token malformed at size more = broken at

-- the first argument bounds how many numbers there are: the number of bytes does
unfoldable pub byte_tokens_with : ℕ → ℕ → List ℕ → Tokens
byte_tokens_with zero at s = ended at at
byte_tokens_with (suc f) at s = byte_token (read_number s) at (length s) (λ next rest. byte_tokens_with f next rest)

unfoldable pub byte_tokens : List ℕ → Tokens
byte_tokens s = byte_tokens_with (length s) 0 s

-- refusal 6, "left over": "input after the table", "first such"
unfoldable pub trailing : Tokens → Option ℕ
trailing (token v at ts) = some at
trailing (ended at end) = cond (eqb at end) none (some at)
trailing (broken at) = some at

unfoldable pub place_of : Tokens → ℕ → ℕ
place_of (token v at ts) zero = at
place_of (token v at ts) (suc i) = place_of ts i
place_of (ended at end) i = end
place_of (broken at) i = at
