-- A line by its columns alone (02, W2): what stands in each, as numbers and words. Nothing here says how a line is
-- made.
--     columns                       the bytes from one column to another, both included, counted from 1
--     RightAligned, LeftAligned     a field that shows a number, or a word
--     LotColumns, TotalColumns      a line that shows a record;  the last line, which shows a sum
--     Printed                       the lines of some records, and the last line
-- The laws are in `proofs/Columns/Laws.antt`. Assumes nothing.
use Rattle.std.specs.Prelude.{ℕ, ◌+◌, ◌-◌, ◌≡◌, List, [], ◌∷◌, ◌++◌, length, take, drop}
use Rattle.decimal.specs.Decimal.{IsDecimal}
use Rattle.lot_book.specs.declared.entry.Lot.{Lot}
use Rattle.sheet_spec.specs.Line.{spaces}

abbrev pub columns : ℕ → ℕ → List ℕ → List ℕ
columns first last l = take (last + 1 - first) (drop (first - 1) l)

-- "numbers right aligned": spaces, then the digits of n, which denote it
pub record RightAligned (n : ℕ) (field : List ℕ) : Type 0 where
  pub blanks : ℕ
  pub digits : List ℕ
  pub whole : field ≡ spaces blanks ++ digits
  pub shows : IsDecimal n digits

-- "words left"
pub record LeftAligned (word field : List ℕ) : Type 0 where
  pub blanks : ℕ
  pub whole : field ≡ word ++ spaces blanks

-- "a line of 48 characters and line feed"
pub record LotColumns (r : Lot) (l : List ℕ) : Type 0 where
  pub size : length l ≡ 49
  -- "lot in columns 1 to 10, taken 12 to 31, .. place 41 to 48"
  pub lot : RightAligned r.number (columns 1 10 l)
  pub taken : RightAligned r.taken (columns 12 31 l)
  pub place : RightAligned r.place (columns 41 48 l)
  -- "verdict word 33 to 39": `running` and `failed`
  pub running : r.mark ≡ 0 → LeftAligned (114 ∷ 117 ∷ 110 ∷ 110 ∷ 105 ∷ 110 ∷ 103 ∷ []) (columns 33 39 l)
  pub failed : r.mark ≡ 1 → LeftAligned (102 ∷ 97 ∷ 105 ∷ 108 ∷ 101 ∷ 100 ∷ []) (columns 33 39 l)
  -- "spaces elsewhere"
  pub gap11 : columns 11 11 l ≡ spaces 1
  pub gap32 : columns 32 32 l ≡ spaces 1
  pub gap40 : columns 40 40 l ≡ spaces 1
  pub feed : columns 49 49 l ≡ 10 ∷ []

-- "A last line, as long, has `TOTAL` in 1 to 5 and the sum of taken in 12 to 31"
pub record TotalColumns (sum : ℕ) (l : List ℕ) : Type 0 where
  pub size : length l ≡ 49
  pub word : columns 1 5 l ≡ 84 ∷ 79 ∷ 84 ∷ 65 ∷ 76 ∷ []
  pub total : RightAligned sum (columns 12 31 l)
  pub gap6 : columns 6 11 l ≡ spaces 6
  pub gap32 : columns 32 48 l ≡ spaces 17
  pub feed : columns 49 49 l ≡ 10 ∷ []

-- a line for each record in turn, then the last line
pub data Printed (sum : ℕ) : List Lot → List ℕ → Type 0 where
  last_line : {text : List ℕ} → TotalColumns sum text → Printed sum [] text
  lot_line_lem : {r : Lot} {rs : List Lot} {text : List ℕ} (line rest : List ℕ) → text ≡ line ++ rest → LotColumns r line
      → Printed sum rs rest → Printed sum (r ∷ rs) text
