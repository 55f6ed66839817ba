-- Worked books, at the bounds of 02, W2.
--     Row, agrees   some bytes, and what they are: the lots and the sum of a good book, or the index of a bad record
--     rows          the examples;  Examples: all of them hold
-- Assumes nothing.
use Rattle.std.specs.Prelude.{ℕ, Bool, true, false, ◌&&◌, List, [], ◌∷◌, ◌++◌, length, replicate, T, eqb}
use Rattle.lot_book.specs.Book.{Book, lots, bad, book_of, taken_sum}

-- good: how many records, and what they took together
pub data Says : Type 0 where
  good : ℕ → ℕ → Says
  wrong : ℕ → Says

pub record Row : Type 0 where
  pub bytes : List ℕ
  pub says : Says

abbrev pub agrees : Book → Says → Bool
agrees (lots rs) (good n sum) = eqb (length rs) n && eqb (taken_sum rs) sum
agrees (lots rs) (wrong i) = false
agrees (bad i) (good n sum) = false
agrees (bad i) (wrong j) = eqb i j

abbrev pub every : List Row → Bool
every [] = true
every (r ∷ rs) = agrees (book_of r.bytes) r.says && every rs

abbrev pub row : List ℕ → Says → Row
row s x = record { bytes = s; says = x }

-- 10^10 - 1 and 10^10; 10^8 - 1 and 10^8; 2^64 - 1
abbrev pub lot_most : List ℕ
lot_most = 255 ∷ 199 ∷ 175 ∷ 160 ∷ 37 ∷ []

abbrev pub lot_over : List ℕ
lot_over = 128 ∷ 200 ∷ 175 ∷ 160 ∷ 37 ∷ []

abbrev pub place_most : List ℕ
place_most = 255 ∷ 193 ∷ 215 ∷ 47 ∷ []

abbrev pub place_over : List ℕ
place_over = 128 ∷ 194 ∷ 215 ∷ 47 ∷ []

abbrev pub most : List ℕ
most = replicate 9 255 ++ (1 ∷ [])

abbrev pub rows : List Row
rows =
    -- no bytes
    row [] (good 0 0)
    -- lot 0, running; lots 7 and 8, the second failed at 2 of 5
    ∷ row (0 ∷ 3 ∷ 0 ∷ 0 ∷ []) (good 1 3)
    ∷ row (7 ∷ 3 ∷ 0 ∷ 0 ∷ 8 ∷ 5 ∷ 1 ∷ 2 ∷ []) (good 2 8)
    -- a lot equal to the one before it, and one below it
    ∷ row (7 ∷ 3 ∷ 0 ∷ 0 ∷ 7 ∷ 5 ∷ 1 ∷ 2 ∷ []) (wrong 1)
    ∷ row (7 ∷ 3 ∷ 0 ∷ 0 ∷ 6 ∷ 5 ∷ 1 ∷ 2 ∷ []) (wrong 1)
    -- marks
    ∷ row (7 ∷ 3 ∷ 2 ∷ 0 ∷ []) (wrong 0)
    -- a place that is taken, above it, and not 0 while running
    ∷ row (7 ∷ 3 ∷ 1 ∷ 3 ∷ []) (good 1 3)
    ∷ row (7 ∷ 3 ∷ 1 ∷ 4 ∷ []) (wrong 0)
    ∷ row (7 ∷ 3 ∷ 0 ∷ 1 ∷ []) (wrong 0)
    -- cut short in each of the four numbers
    ∷ row (135 ∷ []) (wrong 0)
    ∷ row (7 ∷ []) (wrong 0)
    ∷ row (7 ∷ 3 ∷ []) (wrong 0)
    ∷ row (7 ∷ 3 ∷ 0 ∷ []) (wrong 0)
    -- a malformed number
    ∷ row (128 ∷ 0 ∷ 3 ∷ 0 ∷ 0 ∷ []) (wrong 0)
    -- the widest lot and place, and one wider
    ∷ row (lot_most ++ (3 ∷ 0 ∷ 0 ∷ [])) (good 1 3)
    ∷ row (lot_over ++ (3 ∷ 0 ∷ 0 ∷ [])) (wrong 0)
    ∷ row (7 ∷ (place_most ++ (1 ∷ place_most))) (good 1 99999999)
    ∷ row (7 ∷ (place_over ++ (1 ∷ place_over))) (wrong 0)
    -- 2^64-1 taken; a tenth byte of 2; a sum of 2^64, and a bad record after it
    ∷ row (7 ∷ (most ++ (0 ∷ 0 ∷ []))) (good 1 18446744073709551615)
    ∷ row (7 ∷ ((replicate 9 255 ++ (2 ∷ [])) ++ (0 ∷ 0 ∷ []))) (wrong 0)
    ∷ row (7 ∷ (most ++ (0 ∷ 0 ∷ 8 ∷ 1 ∷ 0 ∷ 0 ∷ []))) (good 2 18446744073709551616)
    ∷ row (7 ∷ (most ++ (0 ∷ 0 ∷ 8 ∷ 1 ∷ 0 ∷ 0 ∷ 9 ∷ []))) (wrong 2)
    ∷ []

unfoldable pub Examples : Type 0
Examples = T (every rows)
