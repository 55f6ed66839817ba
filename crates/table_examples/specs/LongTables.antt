-- Tables at the limit of their bytes, and above it (01: "A table is at most 16,384 bytes"), as rows of computed tests.
--     nearly_full, nearly_full_large  tables of 16,384 bytes, and of one more
--     overlong                       the sets of a table that is too long
--     long_rows                      "long table"
-- That every row holds is in `proofs/Rows.antt`. Assumes nothing.
use Rattle.std.specs.Prelude.{ℕ, zero, suc, Bool, List, [], ◌∷◌, ◌++◌, replicate}
use Rattle.table.specs.Examples.{bytes_are, list_is, balanced, copies}

-- the events 0 to n - 1 before a list
abbrev pub up_to : ℕ → List ℕ → List ℕ
up_to zero l = l
up_to (suc n) l = up_to n (n ∷ l)

-- A = 64, four kind 1 sets of full rows, and set 4, {}: 16,648 numbers
abbrev pub overlong : List ℕ
overlong = 64 ∷ 5 ∷ (copies 4 (1 ∷ copies 64 (64 ∷ up_to 64 [])) ++ (0 ∷ 0 ∷ []))

-- A = 64, three kind 1 sets of full rows, and a fourth of 59 full rows, one of n events and four of none
abbrev pub nearly_full : ℕ → List ℕ
nearly_full n =
    let full : List ℕ = 64 ∷ up_to 64 [] in
    64 ∷ 4 ∷ (copies 3 (1 ∷ copies 64 full) ++ (1 ∷ (copies 59 full ++ (n ∷ up_to n (replicate 4 0)))))

-- A = 128, one kind 1 set: 125 full rows, whose count takes two bytes, one of n events and two of none
abbrev pub nearly_full_large : ℕ → List ℕ
nearly_full_large n = 128 ∷ 1 ∷ 1 ∷ (copies 125 (128 ∷ up_to 128 []) ++ (n ∷ up_to n (replicate 2 0)))

-- 01: "A table is at most 16,384 bytes"; "2 (its bytes would be too many) stands right after 9"
unfoldable pub long_rows : List Bool
long_rows =
    bytes_are (nearly_full 55 ++ (1 ∷ 0 ∷ 0 ∷ [])) 0 16384
    ∷ list_is (nearly_full 55 ++ (1 ∷ 0 ∷ 0 ∷ [])) 0 16384
    ∷ bytes_are (nearly_full 56 ++ (1 ∷ 0 ∷ 0 ∷ [])) 2 0
    ∷ list_is (nearly_full 56 ++ (1 ∷ 0 ∷ 0 ∷ [])) 2 0
    ∷ list_is (nearly_full_large 124 ++ (1 ∷ 0 ∷ 0 ∷ [])) 0 16258
    ∷ list_is (nearly_full_large 125 ++ (1 ∷ 0 ∷ 0 ∷ [])) 2 0
    ∷ list_is (overlong ++ (1 ∷ 0 ∷ 0 ∷ [])) 2 0
    ∷ list_is (overlong ++ (1 ∷ 0 ∷ 5 ∷ 9 ∷ [])) 7 16651
    ∷ list_is (overlong ++ (1 ∷ 0 ∷ copies 8 (4 ∷ 4 ∷ 0 ∷ [])) ++ (0 ∷ [])) 8 0
    ∷ list_is (overlong ++ (1 ∷ 0 ∷ 3 ∷ balanced 8) ++ (0 ∷ [])) 9 0
    ∷ []
