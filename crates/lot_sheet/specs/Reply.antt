-- What the office's program tells of a lot book, and the text that it then prints (ours; 02, W2 has the sheet).
--     TellOutcome, tell_said   what is told, with the text's bytes
--     tell_of                  of the bytes that were read, and whether they are all of the book
--     Fits                     a sheet's bytes stand in the text
--     ReadInto                 a book and the buffer that it was read into
--     ToldWay                  what is told of a book, by what it is
-- The laws are in `Reply/Laws.antt`. Assumes nothing.
use Rattle.std.specs.Prelude.{ℕ, ◌≤◌, ◌<◌, ◌≡◌, Bool, true, false, cond, List, ◌++◌, eqb, length, take, drop, Result, Ok, Err}
use Rattle.input.specs.declared.reading.Part.{Part}
use Rattle.input.specs.Reading.{Parts}
use Rattle.lot_book.specs.declared.entry.Lot.{Lot}
use Rattle.lot_book.specs.Book.{lots, bad, book_of, taken_sum}
use Rattle.sheet_spec.specs.Sheet.{Outcome, given, refused, sheet_text, sheet_size, sheet_of}
use Rattle.lot_sheet.specs.declared.office.NoSheet.{NoSheet}
use Rattle.lot_sheet.specs.declared.office.NoSheet.TheVariants.{BadRecord, TotalOver, TooLong}
pub mod Laws
pub mod Refused

pub record TellOutcome : Type 0 where
  pub told : Result ℕ NoSheet
  pub text : List ℕ

abbrev pub tell_said : Result ℕ NoSheet → List ℕ → TellOutcome
tell_said x text = record { told = x; text = text }

-- "14 bad book, placed at the record's index"; else "15 total over 2^64-1" (1 is not met: claim ToldExactly)
unfoldable pub refused_as : ℕ → ℕ → NoSheet
refused_as n at = cond (eqb n 14) (BadRecord at) TotalOver

-- "the byte count given", or the refusal
unfoldable pub tell_book : Outcome → TellOutcome
tell_book (given n text) = tell_said (Ok n) text
tell_book (refused n at text) = tell_said (Err (refused_as n at)) text

-- the whole book, or bytes that fill the buffer and so are more than a book may have
unfoldable pub tell_of : Bool → List ℕ → List ℕ → TellOutcome
tell_of true book text = tell_book (sheet_of book text)
tell_of false bytes text = tell_said (Err TooLong) text

-- the promise that `say` asks for
abbrev pub Fits : Result ℕ NoSheet → List ℕ → Type 0
Fits (Ok n) text = n ≤ length text
Fits (Err e) text = Unit

-- ours: a part of the program's buffer holds the first bytes of a book, and all of them where it is the input's last.
-- That a read does this no contract can say
pub record ReadInto (book buffer : List ℕ) (part : Part) : Type 0 where
  pub size : length buffer ≡ 65537
  pub parts : Parts (length buffer) part
  pub first : take part.count buffer ≡ take part.count book
  pub whole : part.last ≡ true → length book ≡ part.count

-- what is told of a book, by what it is
pub data ToldWay (book text : List ℕ) : TellOutcome → Type 0 where
  -- ours: a book has at most 65,536 bytes
  told_long : 65536 < length book → ToldWay book text (record { told = Err TooLong; text = text })
  -- "14 bad book, placed at the record's index"; "a refusal writes nothing"
  told_bad : (i : ℕ) → length book ≤ 65536 → book_of book ≡ bad i
      → ToldWay book text (record { told = Err (BadRecord i); text = text })
  -- "15 total over 2^64-1"
  told_over : (rs : List Lot) → length book ≤ 65536 → book_of book ≡ lots rs → 18446744073709551615 < taken_sum rs
      → ToldWay book text (record { told = Err TotalOver; text = text })
  -- the sheet, from the beginning of the text
  told_sheet : (rs : List Lot) → length book ≤ 65536 → book_of book ≡ lots rs → taken_sum rs ≤ 18446744073709551615
      → ToldWay book text (record {
        told = Ok (sheet_size rs);
        text = sheet_text rs ++ drop (sheet_size rs) text;
      })
