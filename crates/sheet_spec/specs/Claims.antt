-- What this crate proves of the definitions that its contracts cite: statements only. The proof of each is in
-- `proofs/Theorems.antt`, under the same name.
--     LotLine, TotalLine    the lines of a sheet are those that their columns call for, and no others
--     Outcomes              what making a sheet comes to: given, or refused with 14, 15 or 1, each exactly on its
--                           conditions
--     Rows                  a worked sheet
-- A byte is below 256, as every element of a lent book is. Assumes nothing.
use Rattle.std.specs.Prelude.{ℕ, ◌^◌, ◌<◌, ◌≡◌, ◌↔◌, List, [], ◌∷◌, ◌++◌, replicate}
use Rattle.numbers.specs.Number.{Bytes}
use Rattle.lot_book.specs.declared.entry.Lot.{Lot}
use Rattle.lot_book.specs.Written.{GoodLot}
use Rattle.sheet_spec.specs.Line.{spaces, lot_line, total_line}
use Rattle.sheet_spec.specs.Sheet.{Outcome, given, sheet_of}
use Rattle.sheet_spec.specs.Columns.{LotColumns, TotalColumns}
use Rattle.sheet_spec.specs.Outcomes.{Comes}

-- 02, W2: "lot in columns 1 to 10, taken 12 to 31, verdict word 33 to 39, place 41 to 48, numbers right aligned, words
-- left, spaces elsewhere"
unfoldable pub LotLine : Type 0
LotLine = (r : Lot) (l : List ℕ) → GoodLot r → (l ≡ lot_line r) ↔ LotColumns r l

-- "A last line, as long, has `TOTAL` in 1 to 5 and the sum of taken in 12 to 31"
unfoldable pub TotalLine : Type 0
TotalLine = (sum : ℕ) (l : List ℕ) → sum < 2 ^ 64 → (l ≡ total_line sum) ↔ TotalColumns sum l

-- "Records are checked first to last, then the sum, then the output's length (1); a refusal writes nothing"
unfoldable pub Outcomes : Type 0
Outcomes = (book out : List ℕ) (x : Outcome) → Bytes book → (sheet_of book out ≡ x) ↔ Comes book out x

-- lot 7 running with 3 taken, lot 10 failed at 2 of 5, in an output of 150 bytes; and no book in 50
unfoldable pub Rows : Type 0
Rows =
    (sheet_of (7 ∷ 3 ∷ 0 ∷ 0 ∷ 10 ∷ 5 ∷ 1 ∷ 2 ∷ []) (replicate 150 170)
    ≡ given 147
    ((spaces 9 ++ (55 ∷ 32 ∷ spaces 19)) ++ ((51 ∷ 32 ∷ 114 ∷ 117 ∷ 110 ∷ 110 ∷ 105 ∷ 110 ∷ 103 ∷ 32 ∷ spaces 7)
    ++ ((48 ∷ 10 ∷ spaces 8) ++ ((49 ∷ 48 ∷ 32 ∷ spaces 19)
    ++ ((53 ∷ 32 ∷ 102 ∷ 97 ∷ 105 ∷ 108 ∷ 101 ∷ 100 ∷ 32 ∷ 32 ∷ spaces 7)
    ++ ((50 ∷ 10 ∷ 84 ∷ 79 ∷ 84 ∷ 65 ∷ 76 ∷ spaces 6)
    ++ (spaces 19 ++ ((56 ∷ spaces 17) ++ (10 ∷ replicate 3 170))))))))))
    × (sheet_of [] (replicate 50 170)
    ≡ given 49 ((84 ∷ 79 ∷ 84 ∷ 65 ∷ 76 ∷ spaces 6) ++ (spaces 19 ++ ((48 ∷ spaces 17) ++ (10 ∷ 170 ∷ [])))))
