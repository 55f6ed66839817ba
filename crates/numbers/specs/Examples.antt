-- Worked numbers: 01's own ("127 is `7F`, 128 is `80 01`"), the edges beside them, and two of ten bytes.
--     Row        a way to read and write, some bytes, and what is read at their head
--     holds      a row's bytes are read so, and a number that is read is written so
--     rows       the examples;  Examples: all of them hold
-- Assumes nothing.
use Rattle.std.specs.Prelude.{ℕ, Bool, true, false, ◌&&◌, List, [], ◌∷◌, ◌++◌, replicate, T, eqb}
use Rattle.numbers.specs.Number.{groups, bytes_of, Scan, value, truncated, malformed, scan_with, read_number}

pub record Row : Type 0 where
  pub read : List ℕ → Scan
  pub write : ℕ → List ℕ
  pub bytes : List ℕ
  pub outcome : Scan

-- ---- a row, tested by computing
abbrev pub same : List ℕ → List ℕ → Bool
same [] [] = true
same [] (b ∷ t) = false
same (a ∷ s) [] = false
same (a ∷ s) (b ∷ t) = eqb a b && same s t

-- a scan as numbers
abbrev pub code : Scan → List ℕ
code (value v n s) = 0 ∷ v ∷ n ∷ s
code truncated = 1 ∷ []
code malformed = 2 ∷ []

abbrev pub written_so : (ℕ → List ℕ) → List ℕ → Scan → Bool
written_so write bytes (value v n s) = same (write v ++ s) bytes
written_so write bytes truncated = true
written_so write bytes malformed = true

abbrev pub holds : Row → Bool
holds r =
    same (code (r.read r.bytes)) (code r.outcome)
    && written_so r.write r.bytes r.outcome

abbrev pub every : (Row → Bool) → List Row → Bool
every p [] = true
every p (r ∷ rs) = p r && every p rs

-- ---- the rows
-- 01's own numbers
abbrev pub short : List ℕ → Scan → Row
short s x = record { read = read_number; write = bytes_of; bytes = s; outcome = x }

-- of ten bytes at most
abbrev pub long : List ℕ → Scan → Row
long s x = record { read = scan_with 9 1; write = groups 9; bytes = s; outcome = x }

abbrev pub rows : List Row
rows =
    -- `7F`, `80 01`, `FF FF 03`
    short (127 ∷ []) (value 127 1 [])
    ∷ short (128 ∷ 1 ∷ []) (value 128 2 [])
    ∷ short (255 ∷ 255 ∷ 3 ∷ []) (value 65535 3 [])
    -- `80 00`, `FF FF 04`, `FF FF 84`, `80 80 80 01`, `80 80 00`
    ∷ short (128 ∷ 0 ∷ []) malformed
    ∷ short (255 ∷ 255 ∷ 4 ∷ []) malformed
    ∷ short (255 ∷ 255 ∷ 132 ∷ []) malformed
    ∷ short (128 ∷ 128 ∷ 128 ∷ 1 ∷ []) malformed
    ∷ short (128 ∷ 128 ∷ 0 ∷ []) malformed
    -- nothing, `80`, `80 80`
    ∷ short [] truncated
    ∷ short (128 ∷ []) truncated
    ∷ short (128 ∷ 128 ∷ []) truncated
    -- `00`, `FF 7F`, `80 80 01`, and `80 01` before `05`
    ∷ short (0 ∷ []) (value 0 1 [])
    ∷ short (255 ∷ 127 ∷ []) (value 16383 2 [])
    ∷ short (128 ∷ 128 ∷ 1 ∷ []) (value 16384 3 [])
    ∷ short (128 ∷ 1 ∷ 5 ∷ []) (value 128 2 (5 ∷ []))
    -- ours: nine times `FF`, then `01`, then `02`
    ∷ long (replicate 9 255 ++ (1 ∷ [])) (value 18446744073709551615 10 [])
    ∷ long (replicate 9 255 ++ (2 ∷ [])) malformed
    ∷ []

unfoldable pub Examples : Type 0
Examples = T (every holds rows)
