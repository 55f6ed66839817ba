-- The lot sheet (02, W2): what making a sheet answers and leaves in the output, on every input.
--     lines_of, sheet_text, sheet_size  the lines of some records, with the last line;  how many bytes they are
--     Outcome, sheet_of                the answer and the output after it
--     sheet_outcome                    the answer of `sheet` and the output, as an outcome
-- The laws are in `proofs/Sheets/Laws.antt` and, of the loop that writes, `proofs/Sheets/Writing.antt`. Assumes
-- nothing.
use Rattle.std.specs.Prelude.{ℕ, ◌+◌, ◌*◌, ◌≤◌, ◌≡◌, cond, List, [], ◌∷◌, ◌++◌, length, drop, ltb, Result, Ok, Err}
use Rattle.table.specs.declared.answer.Refusal.{Refusal}
use Rattle.lot_book.specs.declared.entry.Lot.{Lot}
use Rattle.lot_book.specs.Book.{Book, lots, bad, book_of, taken_sum}
use Rattle.sheet_spec.specs.Line.{lot_line, total_line}

-- "prints each record on a line"
unfoldable pub lines_of : List Lot → List ℕ
lines_of [] = []
lines_of (r ∷ rs) = lot_line r ++ lines_of rs

-- "A last line, as long, has `TOTAL` in 1 to 5 and the sum of taken in 12 to 31"
unfoldable pub sheet_text : List Lot → List ℕ
sheet_text rs = lines_of rs ++ total_line (taken_sum rs)

-- "a line of 48 characters and line feed", for each record and the last
unfoldable pub sheet_size : List Lot → ℕ
sheet_size rs = 49 * (length rs + 1)

-- given: the byte count;  refused: number and place. Each with the output after it
pub data Outcome : Type 0 where
  given : ℕ → List ℕ → Outcome
  refused : ℕ → ℕ → List ℕ → Outcome

-- "then the sum, then the output's length (1)": "15 total over 2^64-1, place 0"; "output after it is kept, the byte
-- count given"
unfoldable pub printed : List Lot → List ℕ → Outcome
printed rs out =
    cond (ltb 18446744073709551615 (taken_sum rs)) (refused 15 0 out)
    (cond (ltb (length out) (sheet_size rs)) (refused 1 0 out)
    (given (sheet_size rs) (sheet_text rs ++ drop (sheet_size rs) out)))

-- "Records are checked first to last": "14 bad book, placed at the record's index"; "a refusal writes nothing"
unfoldable pub outcome_of : Book → List ℕ → Outcome
outcome_of (lots rs) out = printed rs out
outcome_of (bad i) out = refused 14 i out

unfoldable pub sheet_of : List ℕ → List ℕ → Outcome
sheet_of book out = outcome_of (book_of book) out

abbrev pub sheet_outcome : Result ℕ Refusal → List ℕ → Outcome
sheet_outcome (Ok n) out = given n out
sheet_outcome (Err r) out = refused r.number r.place out

-- ours: what `write` asks: a good book, its sum, and room for its lines
pub record Writable (book out : List ℕ) (sum : ℕ) : Type 0 where
  pub rs : List Lot
  pub whole : book_of book ≡ lots rs
  pub sums : sum ≡ taken_sum rs
  pub small : sum ≤ 18446744073709551615
  pub room : sheet_size rs ≤ length out
