-- What this crate proves of the definitions that its contracts cite: statements only. The proof of each is in
-- `proofs/Theorems.antt`, under the same name.
--     NumberCoding, AtMostTen              the bytes of a number are those that 01's sentence calls for, ten at most
--     NumberLimit                          such numbers are those to 2^64-1
--     NumberReadBack, NumberCanonical      what is written is read back; what is read is just what would be written
--     NumberTruncated, NumberMalformed     when no number is read
--     GoodExactly      a book is read as some records exactly where it is their bytes and they are good
--     BookReadBack     a book is read back from its own writing
--     BadExactly       a book is bad at an index exactly where its first bad record stands there
--     SumExactly       what `judge` says of the sum
--     Examples         worked books, in `Examples.antt`
-- A byte is below 256, as every element of a lent book is. Assumes nothing.
use Rattle.std.specs.Prelude.{ℕ, ◌≤◌, ◌<◌, ◌^◌, ◌≡◌, ◌↔◌, List, ◌++◌, length, Some, None, Ok}
use Rattle.numbers.specs.Number.{Bytes, groups, value, truncated, malformed, limit_of}
use Rattle.numbers.specs.Number.{Scanned, InGroups, IncompleteWith, IllWrittenWith}
use Rattle.lot_book.specs.declared.entry.Lot.{Lot}
use Rattle.lot_book.specs.Number.{scan_number}
use Rattle.lot_book.specs.Book.{lots, bad, book_of, taken_sum, judgement}
use Rattle.lot_book.specs.Written.{book_bytes, GoodBook, BadAt}

-- ---- numbers
-- 02, W2: "in numbers of seven-bit groups"; 01, "Numbers and table": "lowest group first", "fewest bytes"
unfoldable pub NumberCoding : Type 0
NumberCoding = (v : ℕ) (s : List ℕ) → v < 2 ^ 64 → (s ≡ groups 9 v) ↔ InGroups v s

-- "or one above 2^64-1"
unfoldable pub NumberLimit : Type 0
NumberLimit = limit_of 9 1 ≡ 2 ^ 64

-- "here up to ten bytes"
unfoldable pub AtMostTen : Type 0
AtMostTen = (v : ℕ) → length (groups 9 v) ≤ 10

unfoldable pub NumberReadBack : Type 0
NumberReadBack = (v : ℕ) (s : List ℕ) → v < 2 ^ 64 → scan_number (groups 9 v ++ s) ≡ value v (length (groups 9 v)) s

unfoldable pub NumberCanonical : Type 0
NumberCanonical =
    (s : List ℕ) (v n : ℕ) (rest : List ℕ) → Bytes s → scan_number s ≡ value v n rest → Scanned 9 1 s v n rest

-- "cut short"
unfoldable pub NumberTruncated : Type 0
NumberTruncated = (s : List ℕ) → Bytes s → (scan_number s ≡ truncated) ↔ IncompleteWith 9 1 s

-- "a malformed number or one above 2^64-1"
unfoldable pub NumberMalformed : Type 0
NumberMalformed = (s : List ℕ) → Bytes s → (scan_number s ≡ malformed) ↔ IllWrittenWith 9 1 s

-- ---- books
-- "one record per lot"
unfoldable pub GoodExactly : Type 0
GoodExactly = (s : List ℕ) (rs : List Lot) → Bytes s → (book_of s ≡ lots rs) ↔ ((s ≡ book_bytes rs) × GoodBook rs)

unfoldable pub BookReadBack : Type 0
BookReadBack = (rs : List Lot) → GoodBook rs → book_of (book_bytes rs) ≡ lots rs

-- "14 bad book, placed at the record's index"
unfoldable pub BadExactly : Type 0
BadExactly = (s : List ℕ) (i : ℕ) → Bytes s → (book_of s ≡ bad i) ↔ BadAt s i

-- "15 total over 2^64-1": the sum is met after every record
unfoldable pub SumExactly : Type 0
SumExactly = (s : List ℕ) (rs : List Lot) → book_of s ≡ lots rs
    → (taken_sum rs < 2 ^ 64 → judgement s ≡ Ok (record { count = length rs; total = Some (taken_sum rs) }))
    × (2 ^ 64 ≤ taken_sum rs → judgement s ≡ Ok (record { count = length rs; total = None }))
