-- What making a sheet comes to, by conditions on the book and the output alone (02, W2).
--     GoodBytes    the bytes are a good book, whose records are these
--     Comes        the four ways: given, and the refusals 14, 15 and 1
-- The laws are in `proofs/Outcomes/Laws.antt`. Assumes nothing.
use Rattle.std.specs.Prelude.{ℕ, ◌+◌, ◌*◌, ◌^◌, ◌≤◌, ◌<◌, ◌≡◌, List, ◌++◌, length, drop}
use Rattle.lot_book.specs.declared.entry.Lot.{Lot}
use Rattle.lot_book.specs.Book.{taken_sum}
use Rattle.lot_book.specs.Written.{book_bytes, GoodBook, BadAt}
use Rattle.sheet_spec.specs.Sheet.{Outcome, given, refused}
use Rattle.sheet_spec.specs.Columns.{Printed}

pub record GoodBytes (book : List ℕ) (rs : List Lot) : Type 0 where
  pub whole : book ≡ book_bytes rs
  pub good : GoodBook rs

-- "Records are checked first to last, then the sum, then the output's length (1); a refusal writes nothing"
pub data Comes (book out : List ℕ) : Outcome → Type 0 where
  -- "14 bad book, placed at the record's index"
  comes_14 : (i : ℕ) → BadAt book i → Comes book out (refused 14 i out)
  -- "15 total over 2^64-1, place 0"
  comes_15 : (rs : List Lot) → GoodBytes book rs → 2 ^ 64 ≤ taken_sum rs → Comes book out (refused 15 0 out)
  -- "then the output's length (1)": 49 bytes for each record and for the last line
  comes_1 : (rs : List Lot) → GoodBytes book rs → taken_sum rs < 2 ^ 64 → length out < 49 * (length rs + 1)
      → Comes book out (refused 1 0 out)
  -- "output after it is kept, the byte count given"
  comes_given : (rs : List Lot) (text : List ℕ) → GoodBytes book rs → taken_sum rs < 2 ^ 64
      → 49 * (length rs + 1) ≤ length out → Printed (taken_sum rs) rs text
      → Comes book out (given (49 * (length rs + 1)) (text ++ drop (49 * (length rs + 1)) out))
