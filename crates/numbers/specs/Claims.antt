-- What this crate proves of the definitions that its contracts cite: statements only.
-- The proof of each is in `proofs/Theorems.antt`, under the same name.
--     Coding         the bytes of a number are those that 01's sentence calls for, and no others are
--     ReadBack       what is written is read back
--     Canonical      whatever is read is just what would be written, and fits
--     TruncatedExactly, MalformedExactly    when nothing is read: bytes that end within a number, and all others
--     RefusalNumbers 01's numbers of what `read` answers, by the bytes at the position
--     AtMostThree    a number's bytes are three at most
--     Fewest         no other groups of seven bits that give the number are fewer
--     ByteCount      how many bytes a number has, by its size
--     Limit          the numbers of three bytes are those up to 65,535
--     Examples       the worked examples, in `Examples.antt`
-- ReadBack, Canonical and the next two are of any count of bytes (`more` after the first) and any greatest last byte,
-- `top`, the last two of these for `top` from 1 on.
-- Assumes nothing.
use Rattle.std.specs.Prelude.{ℕ, ◌≤◌, ◌<◌, ◌≡◌, ◌↔◌, List, ◌++◌, length, drop}
use Rattle.numbers.specs.Number.{Bytes, groups, bytes_of, value, truncated, malformed, scan_with, limit_of, Scanned}
use Rattle.numbers.specs.Every.{All}
use Rattle.numbers.specs.Number.{value_of, byte_count}
use Rattle.numbers.specs.Number.{InGroups, IncompleteWith, IllWrittenWith, Incomplete, IllWritten}
use Rattle.numbers.specs.Position.{refusal_number, read_at}

-- 01, "Numbers and table": "A number is written in groups of seven bits, lowest group first; a byte's top bit is set
-- when another group follows. It has the fewest bytes"
unfoldable pub Coding : Type 0
Coding = (v : ℕ) (s : List ℕ) → v ≤ 65535 → (s ≡ bytes_of v) ↔ InGroups v s

-- 00, demand 2: "a written one reads back to its numbers", of one number
unfoldable pub ReadBack : Type 0
ReadBack =
    (more top v : ℕ) (s : List ℕ) → v < limit_of more top
    → scan_with more top (groups more v ++ s) ≡ value v (length (groups more v)) s

-- 01, "Numbers and table": "and is at most 65,535"
unfoldable pub Canonical : Type 0
Canonical =
    (more top : ℕ) (s : List ℕ) (v n : ℕ) (rest : List ℕ) → Bytes s
    → scan_with more top s ≡ value v n rest → Scanned more top s v n rest

-- 01, "When the monitor declines": 3, "cut short"
unfoldable pub TruncatedExactly : Type 0
TruncatedExactly =
    (more top : ℕ) (s : List ℕ) → 1 ≤ top → Bytes s → (scan_with more top s ≡ truncated) ↔ IncompleteWith more top s

-- 01, "When the monitor declines": 4, "loose number": "a number not written as above"
unfoldable pub MalformedExactly : Type 0
MalformedExactly =
    (more top : ℕ) (s : List ℕ) → 1 ≤ top → Bytes s → (scan_with more top s ≡ malformed) ↔ IllWrittenWith more top s

-- 01, "Which form goes where": "That definition gives this paper's number and values for each of the enum's cases"
unfoldable pub RefusalNumbers : Type 0
RefusalNumbers = (s : List ℕ) (at : ℕ) → Bytes s
    → ((refusal_number (read_at s at) ≡ 3) ↔ Incomplete (drop at s))
    × ((refusal_number (read_at s at) ≡ 4) ↔ IllWritten (drop at s))

-- 01, "Numbers and table": "at most three"
unfoldable pub AtMostThree : Type 0
AtMostThree = (v : ℕ) → length (bytes_of v) ≤ 3

-- 01, "Numbers and table": "It has the fewest bytes": of all nonempty lists of groups below 128 that give the number,
-- lowest first
unfoldable pub Fewest : Type 0
Fewest = (gs : List ℕ) → 1 ≤ length gs → All (λ g. g < 128) gs → length (bytes_of (value_of gs)) ≤ length gs

unfoldable pub ByteCount : Type 0
ByteCount = (v : ℕ) → byte_count v ≡ length (bytes_of v)

-- 01, "Numbers and table": "at most 65,535"
unfoldable pub Limit : Type 0
Limit = limit_of 2 3 ≡ 65536
