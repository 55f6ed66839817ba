-- A lot book by its bytes alone (02, W2): which bytes are those of some records, and which are not. Nothing here says
-- how a book is read.
--     book_bytes           the records of a book, written one after the other
--     GoodLot, Ascending   what is asked of a record, and of the lots;  GoodBook: of all records
--     BadAt                the first bad record of some bytes, and what is wrong with it
--     NoLot, Wrong         bytes that are no record;  a record that is a bad one, after some others
-- The laws are in `proofs/Written/Good.antt`, `proofs/Written/Unsound.antt`, `proofs/Written/Laws.antt` and
-- `proofs/Written/Faults.antt`. Assumes nothing.
use Rattle.std.specs.Prelude.{ℕ, ◌≤◌, ◌<◌, ◌^◌, ◌≡◌, ◌⊎◌, List, [], ◌∷◌, ◌++◌, length}
use Rattle.numbers.specs.Every.{All}
use Rattle.numbers.specs.Number.{groups, IncompleteWith, IllWrittenWith}
use Rattle.lot_book.specs.declared.entry.Lot.{Lot}
use Rattle.lot_book.specs.Lot.{lot_bytes}

-- "one record per lot"
unfoldable pub book_bytes : List Lot → List ℕ
book_bytes [] = []
book_bytes (r ∷ rs) = lot_bytes r ++ book_bytes rs

-- what is asked of one record
pub record GoodLot (r : Lot) : Type 0 where
  -- "lot in columns 1 to 10", "place 41 to 48": "a number too wide for its columns" is bad
  pub lot_fits : r.number < 10 ^ 10
  pub place_fits : r.place < 10 ^ 8
  -- "one above 2^64-1"
  pub taken_fits : r.taken < 2 ^ 64
  -- "0 for running or 1 for failed"
  pub marked : (r.mark ≡ 0) ⊎ (r.mark ≡ 1)
  -- "a place above taken or not 0 while running" is bad
  pub reached : r.place ≤ r.taken
  pub running : r.mark ≡ 0 → r.place ≡ 0

-- "lots not strictly ascending" are bad
abbrev pub Ascending : List Lot → Type 0
Ascending [] = Unit
Ascending (r ∷ []) = Unit
Ascending (r ∷ x ∷ rs) = (r.number < x.number) × Ascending (x ∷ rs)

pub record GoodBook (rs : List Lot) : Type 0 where
  pub good : All GoodLot rs
  pub ascending : Ascending rs

-- ---- bad books
-- "cut short, a malformed number or one above 2^64-1"
abbrev pub NoNumberIn : List ℕ → Type 0
NoNumberIn s = IncompleteWith 9 1 s ⊎ IllWrittenWith 9 1 s

-- the numbers of a record stand one after the other, up to one that is not there
pub data NoLot (s : List ℕ) : Type 0 where
  no_lot : NoNumberIn s → NoLot s
  no_taken : (lot : ℕ) (s1 : List ℕ) → lot < 2 ^ 64 → s ≡ groups 9 lot ++ s1 → NoNumberIn s1 → NoLot s
  no_mark : (lot taken : ℕ) (s2 : List ℕ) → lot < 2 ^ 64 → taken < 2 ^ 64
      → s ≡ groups 9 lot ++ (groups 9 taken ++ s2) → NoNumberIn s2 → NoLot s
  no_place : (lot taken mark : ℕ) (s3 : List ℕ) → lot < 2 ^ 64 → taken < 2 ^ 64 → mark < 2 ^ 64
      → s ≡ groups 9 lot ++ (groups 9 taken ++ (groups 9 mark ++ s3)) → NoNumberIn s3 → NoLot s

-- a record that is bad after those before it
pub data Wrong (before : List Lot) (r : Lot) : Type 0 where
  -- "lots not strictly ascending": `last` is the record before it
  not_ascending : (front : List Lot) (last : Lot) → before ≡ front ++ (last ∷ []) → r.number ≤ last.number
      → Wrong before r
  -- "a mark other than 0 or 1"
  other_mark : 1 < r.mark → Wrong before r
  -- "a place above taken or not 0 while running"
  above_taken : r.taken < r.place → Wrong before r
  not_zero : r.mark ≡ 0 → 1 ≤ r.place → Wrong before r
  -- "a number too wide for its columns"
  wide_lot : 10 ^ 10 ≤ r.number → Wrong before r
  wide_place : 10 ^ 8 ≤ r.place → Wrong before r

-- the numbers of a record are at most 2^64-1
pub record InRange (r : Lot) : Type 0 where
  pub number : r.number < 2 ^ 64
  pub taken : r.taken < 2 ^ 64
  pub mark : r.mark < 2 ^ 64
  pub place : r.place < 2 ^ 64

pub data Fault (before : List Lot) (s : List ℕ) : Type 0 where
  unreadable : NoLot s → Fault before s
  wrong : (r : Lot) (rest : List ℕ) → InRange r → s ≡ lot_bytes r ++ rest → Wrong before r → Fault before s

-- "14 bad book, placed at the record's index": the records before it are good, and there are `index` of them
pub record BadAt (s : List ℕ) (index : ℕ) : Type 0 where
  pub before : List Lot
  pub rest : List ℕ
  pub whole : s ≡ book_bytes before ++ rest
  pub good : GoodBook before
  pub counted : length before ≡ index
  pub some : 1 ≤ length rest
  pub fault : Fault before rest
