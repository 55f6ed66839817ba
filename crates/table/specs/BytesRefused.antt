-- Each refusal of bytes by its condition (01, "When the monitor declines"): that of the numbers written in them, at
-- their byte places, and 4 and 6 by what stands after those numbers.
--     byte_place     the place of the i-th number: its first byte
--     Decoded        the numbers written in bytes from the start, and the bytes after them, at whose head no number is
--                    well written
--     RefusedBytes   the refusals
-- Assumes nothing.
use Rattle.std.specs.Prelude.{ℕ, ◌≤◌, ◌<◌, ◌≡◌, ◌⊎◌, List, [], ◌∷◌, ◌++◌, length, take}
use Rattle.numbers.specs.Every.{All}
use Rattle.table.specs.Table.{Table}
use Rattle.numbers.specs.Number.{list_bytes, Incomplete, IllWritten}
use Rattle.table.specs.Writing.{numbers_of}
use Rattle.table.specs.Fields.{Fields}
use Rattle.table.specs.Marks.{Open}
use Rattle.table.specs.Refusals.{OutOfRange, TrailingInput, BadReference, TooWide, TooManyBranches}

unfoldable pub byte_place : List ℕ → ℕ → ℕ
byte_place ns i = length (list_bytes (take i ns))

pub record Decoded (s ns tail : List ℕ) : Type 0 where
  pub bytes : s ≡ list_bytes ns ++ tail
  pub small : All (λ n. n ≤ 65535) ns
  pub ends : Incomplete tail ⊎ IllWritten tail

pub data RefusedBytes (s : List ℕ) (n at : ℕ) : Type 0 where
  -- 2, "long table": "over 16,384 bytes", before the others
  long_bytes : n ≡ 2 → at ≡ 0 → 16384 < length s → RefusedBytes s n at
  -- 3, "cut short": "input ends within the table", at "input length"
  short_bytes : (ns tail : List ℕ) → n ≡ 3 → length s ≤ 16384 → Decoded s ns tail → Open ns → Incomplete tail
      → at ≡ length s → RefusedBytes s n at
  -- 4, "loose number": "a number not written as above", at "its first byte"
  malformed_number : (ns tail : List ℕ) → n ≡ 4 → length s ≤ 16384 → Decoded s ns tail → Open ns → IllWritten tail
      → at ≡ length (list_bytes ns) → RefusedBytes s n at
  -- 5, "off scale": "a field, order or term bound broken", at "that number, a term's kind"
  off_bytes : (ns tail : List ℕ) (i : ℕ) → n ≡ 5 → length s ≤ 16384 → Decoded s ns tail → OutOfRange ns i
      → at ≡ byte_place ns i → RefusedBytes s n at
  -- 6, "left over": "input after the table", a number or not, at "first such"
  over_number : (ns tail : List ℕ) (i : ℕ) → n ≡ 6 → length s ≤ 16384 → Decoded s ns tail → TrailingInput ns i
      → at ≡ byte_place ns i → RefusedBytes s n at
  over_bytes : (ns : List ℕ) (b : ℕ) (tail : List ℕ) (t : Table) → n ≡ 6 → length s ≤ 16384 → Decoded s ns (b ∷ tail)
      → Fields t → ns ≡ numbers_of t → at ≡ length (list_bytes ns) → RefusedBytes s n at
  -- 7, "wrong reference": "a reference rule broken", at "that number"
  wrong_bytes : (ns : List ℕ) (i : ℕ) → n ≡ 7 → length s ≤ 16384 → Decoded s ns [] → BadReference ns i
      → at ≡ byte_place ns i → RefusedBytes s n at
  -- 8, "too many hands": "a level above 8", at "lowest level"
  wide_bytes : (ns : List ℕ) → n ≡ 8 → length s ≤ 16384 → Decoded s ns [] → TooWide ns at → RefusedBytes s n at
  -- 9, "too many openings": "above 256", at "lowest such term"
  branches_bytes : (ns : List ℕ) → n ≡ 9 → length s ≤ 16384 → Decoded s ns [] → TooManyBranches ns at
      → RefusedBytes s n at
