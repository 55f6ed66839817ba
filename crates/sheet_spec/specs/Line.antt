-- The lines of a lot sheet (02, W2: "The sheet prints each record on a line of 48 characters and line feed: lot in
-- columns 1 to 10, taken 12 to 31, verdict word 33 to 39, place 41 to 48, numbers right aligned, words left, spaces
-- elsewhere. A last line, as long, has `TOTAL` in 1 to 5 and the sum of taken in 12 to 31").
--     spaces, right, left   spaces, a number and a word in so many columns
--     lot_line, total_line  the line of a record, and the last line
-- The laws are in `proofs/Line/Laws.antt` and, of the code that fills a part, `proofs/Line/Filling.antt`. Assumes
-- nothing.
use Rattle.std.specs.Prelude.{ℕ, ◌-◌, ◌^◌, ◌≤◌, ◌<◌, ◌≡◌, cond, List, [], ◌∷◌, ◌++◌, length, replicate, eqb}
use Rattle.decimal.specs.Decimal.{decimal}
use Rattle.lot_book.specs.declared.entry.Lot.{Lot}

-- "spaces elsewhere": so many
abbrev pub spaces : ℕ → List ℕ
spaces k = replicate k 32

-- "numbers right aligned"
unfoldable pub right : ℕ → ℕ → List ℕ
right width n = spaces (width - length (decimal n)) ++ decimal n

-- "words left"
unfoldable pub left : ℕ → List ℕ → List ℕ
left width word = word ++ spaces (width - length word)

-- "verdict word": `running` for 0, `failed` for 1
unfoldable pub verdict : ℕ → List ℕ
verdict mark =
    cond (eqb mark 0) (114 ∷ 117 ∷ 110 ∷ 110 ∷ 105 ∷ 110 ∷ 103 ∷ []) (102 ∷ 97 ∷ 105 ∷ 108 ∷ 101 ∷ 100 ∷ [])

-- "lot in columns 1 to 10, taken 12 to 31, verdict word 33 to 39, place 41 to 48", and line feed, which is 10
unfoldable pub lot_line : Lot → List ℕ
lot_line r =
    right 10 r.number
    ++ (32 ∷ (right 20 r.taken ++ (32 ∷ (left 7 (verdict r.mark) ++ (32 ∷ (right 8 r.place ++ (10 ∷ [])))))))

-- "`TOTAL` in 1 to 5 and the sum of taken in 12 to 31"
unfoldable pub total_line : ℕ → List ℕ
total_line sum =
    (84 ∷ 79 ∷ 84 ∷ 65 ∷ 76 ∷ []) ++ (spaces 6 ++ (right 20 sum ++ (spaces 17 ++ (10 ∷ []))))

-- ours: what `right` asks of a part that a number is put in
pub record Room (part : List ℕ) (n : ℕ) : Type 0 where
  pub blank : part ≡ spaces (length part)
  pub some : 1 ≤ length part
  pub fits : n < 10 ^ length part
