-- How many rows the sets of a table have, and how many they may have (01, "Numbers and table"; 02, W6).
--     alphabet_most                 the largest size of an alphabet
--     large_above, large_rows_most  from which size on the rows are bounded, and their bound
--     row_count, rows_of, rows_in    how many rows a set has, by its kind; a set; all sets together
--     all_rows                       the rows of sets
--     RowsFit, rows_fit             so many rows may stand; whether they may
-- The laws are in `proofs/RowLaws.antt`. Assumes nothing.
use Rattle.std.specs.Prelude.{ℕ, zero, suc, ◌+◌, ◌<◌, ◌≤◌, Bool, ◌||◌, List, [], ◌∷◌, ◌++◌, leb}
use Rattle.table.specs.Table.{SetDef, one, each}

-- 02, W6: "A may be 1 to 128"
abbrev pub alphabet_most : ℕ
alphabet_most = 128

-- 02, W6: "With A above 64, all rows together number at most 3,072"
abbrev pub large_above : ℕ
large_above = 64

abbrev pub large_rows_most : ℕ
large_rows_most = 3072

-- "A set is kind 0 and one row, or kind 1 and A rows": how many rows a set of a kind has
unfoldable pub row_count : ℕ → ℕ → ℕ
row_count zero A = 1
row_count (suc k) A = A

unfoldable pub rows_of : ℕ → SetDef → ℕ
rows_of A (one r) = 1
rows_of A (each rs) = A

-- 02, W6: "all rows together"
unfoldable pub rows_in : ℕ → List SetDef → ℕ
rows_in A [] = 0
rows_in A (s ∷ ss) = rows_of A s + rows_in A ss

unfoldable pub all_rows : List SetDef → List (List ℕ)
all_rows [] = []
all_rows (one r ∷ ss) = r ∷ all_rows ss
all_rows (each rs ∷ ss) = rs ++ all_rows ss

-- 02, W6: "With A above 64, all rows together number at most 3,072"
abbrev pub RowsFit : ℕ → ℕ → Type 0
RowsFit A n = large_above < A → n ≤ large_rows_most

unfoldable pub rows_fit : ℕ → ℕ → Bool
rows_fit A n = leb A large_above || leb n large_rows_most
