-- What is claimed of the text of a line: statements only. The proof of each is in `proofs/Theorems.antt`, under the
-- same name.
--     NumbersDenote     each number of a text is digits that denote it, after a space
--     Rows              the worked examples
-- Assumes nothing.
use Rattle.std.specs.Prelude.{ℕ, ◌<◌, ◌^◌, ◌≡◌, List, [], ◌∷◌}
use Rattle.decimal.specs.Decimal.{IsDecimal}
use Rattle.monitor_spec.specs.State.{running, failed_at}
use Rattle.trace_spec.specs.TraceLine.{starts, takes, refuses}
use Rattle.trace_text.specs.TraceText.{number_text, trace_text_of}

-- a space is 32; every number of a line is below 2^64
unfoldable pub NumbersDenote : Type 0
NumbersDenote = (n : ℕ) → n < 10 ^ 20 → (ds : List ℕ) × (number_text n ≡ 32 ∷ ds) × IsDecimal n ds

-- `start - 0 running 0 1 1 0`; `event 127 5 failed 2 0 12 0 63 64 127`, a line that no monitor gives; `refused 11 4`
unfoldable pub Rows : Type 0
Rows =
    (trace_text_of (starts (record { taken = 0; count = 1; peak = 1; verdict = running })
    (record { first = 1; second = 0 }))
    ≡ 115 ∷ 116 ∷ 97 ∷ 114 ∷ 116 ∷ 32 ∷ 45 ∷ 32 ∷ 48 ∷ 32 ∷ 114 ∷ 117 ∷ 110 ∷ 110 ∷ 105 ∷ 110 ∷ 103 ∷ 32 ∷ 48 ∷
    32 ∷ 49 ∷ 32 ∷ 49 ∷ 32 ∷ 48 ∷ 10 ∷ [])
    × (trace_text_of (takes 127 (record { taken = 5; count = 0; peak = 12; verdict = failed_at 2 })
    (record { first = 9223372036854775809; second = 9223372036854775809 }))
    ≡ 101 ∷ 118 ∷ 101 ∷ 110 ∷ 116 ∷ 32 ∷ 49 ∷ 50 ∷ 55 ∷ 32 ∷ 53 ∷ 32 ∷ 102 ∷ 97 ∷ 105 ∷ 108 ∷ 101 ∷ 100 ∷ 32 ∷
    50 ∷ 32 ∷ 48 ∷ 32 ∷ 49 ∷ 50 ∷ 32 ∷ 48 ∷ 32 ∷ 54 ∷ 51 ∷ 32 ∷ 54 ∷ 52 ∷ 32 ∷ 49 ∷ 50 ∷ 55 ∷ 10 ∷ [])
    × (trace_text_of (refuses 11 4)
    ≡ 114 ∷ 101 ∷ 102 ∷ 117 ∷ 115 ∷ 101 ∷ 100 ∷ 32 ∷ 49 ∷ 49 ∷ 32 ∷ 52 ∷ 10 ∷ [])
