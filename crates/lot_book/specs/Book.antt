-- All records of a lot book (02, W2: "Records are checked first to last, then the sum").
--     sound           whether a record is a good one, after those before it
--     read_book, Book  the records of some bytes, or the index of the first bad one;  book_from, book_of
--     taken_sum       "the sum of taken"
--     total_of         a sum, where it is at most 2^64-1;  Added: the promise of `add`
--     judgement       what `judge` answers
-- The laws are in `proofs/Book/Sound.antt`, `proofs/Book/Laws.antt` and, of the loop of `judge`,
-- `proofs/Book/Judging.antt`. Assumes nothing.
use Rattle.std.specs.Prelude.{ℕ, zero, suc, ◌+◌, ◌≡◌, Bool, cond, ◌&&◌, ◌||◌, List, [], ◌∷◌, length, ltb, leb, eqb, Option, Some, None, Result, Ok, Err}
use Rattle.lot_book.specs.declared.entry.Lot.{Lot}
use Rattle.lot_book.specs.declared.judging.Judged.{Judged}
use Rattle.lot_book.specs.declared.judging.BadRecord.{BadRecord}
use Rattle.lot_book.specs.Lot.{LotScan, lot, unread, read_lot}

-- "lots not strictly ascending" (the lot is `floor` or more), "a number too wide for its columns" (ten for the lot,
-- eight for the place), "a mark other than 0 or 1", "a place above taken or not 0 while running"
unfoldable pub sound : ℕ → Lot → Bool
sound floor r =
    leb floor r.number
    && (ltb r.number 10000000000
    && (leb r.mark 1
    && (leb r.place r.taken && (ltb r.place 100000000 && (ltb 0 r.mark || eqb r.place 0)))))

-- lots: the records;  bad: "placed at the record's index"
pub data Book : Type 0 where
  lots : List Lot → Book
  bad : ℕ → Book

unfoldable pub add : Lot → Book → Book
add r (lots rs) = lots (r ∷ rs)
add r (bad i) = bad i

-- the record of index i, and the rest of the book, whose lots are above its own
unfoldable pub step : ℕ → ℕ → (ℕ → List ℕ → Book) → LotScan → Book
step floor i rest (lot r n s) = cond (sound floor r) (add r (rest (r.number + 1) s)) (bad i)
step floor i rest unread = bad i

-- no bytes have no records; what others have
unfoldable pub unless_none : List ℕ → Book → Book
unless_none [] b = lots []
unless_none (c ∷ s) b = b

-- "Records are checked first to last": at most so many records, from index i on
unfoldable pub read_book : ℕ → ℕ → ℕ → List ℕ → Book
read_book zero floor i s = unless_none s (bad i)
read_book (suc k) floor i s = unless_none s (step floor i (λ f t. read_book k f (i + 1) t) (read_lot s))

-- a record has a byte or more, so there are no more records than bytes
unfoldable pub book_from : ℕ → ℕ → List ℕ → Book
book_from floor i s = read_book (length s) floor i s

unfoldable pub book_of : List ℕ → Book
book_of s = book_from 0 0 s

-- "the sum of taken"
unfoldable pub taken_sum : List Lot → ℕ
taken_sum [] = 0
taken_sum (r ∷ rs) = r.taken + taken_sum rs

-- "total over 2^64-1"
unfoldable pub total_of : ℕ → Option ℕ
total_of n = cond (ltb n 18446744073709551616) (Some n) None

-- the promise of `add`
unfoldable pub Added : Option ℕ → ℕ → Option ℕ → Type 0
Added t n r = (sum : ℕ) → t ≡ total_of sum → r ≡ total_of (sum + n)

-- after `count` records that took `sum`
unfoldable pub judged_of : ℕ → ℕ → Book → Result Judged BadRecord
judged_of count sum (lots rs) = Ok (record { count = count + length rs; total = total_of (sum + taken_sum rs) })
judged_of count sum (bad i) = Err (record { index = i })

unfoldable pub judgement : List ℕ → Result Judged BadRecord
judgement s = judged_of 0 0 (book_of s)
