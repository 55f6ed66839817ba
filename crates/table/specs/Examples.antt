-- Worked inputs and what they are judged to be: 01's own and the cases at its edges, as rows of computed tests.
--     table_b                      01's table B
--     in_numbers, bytes_are, list_is  a judgement as two numbers; what bytes, a number list are judged to be
--     number_rows, table_rows      numbers and whole tables
--     count_rows                   width, branches and the number of terms
-- That every row holds is in `proofs/Examples/Laws.antt`. Long tables, and what Read and Write leave, are rows of crate
-- `table_examples`. Assumes nothing.
use Rattle.std.specs.Prelude.{ℕ, zero, suc, Bool, true, ◌&&◌, List, [], ◌∷◌, ◌++◌, length, eqb}
use Rattle.numbers.specs.Number.{bytes_of}
use Rattle.table.specs.Judge.{Judgement, accepted, declined, judge_bytes, judge_list}

-- a judgement as two numbers: refusal and place, or 0 and how many numbers the table has
pub record InNumbers : Type 0 where
  pub number : ℕ
  pub at : ℕ

abbrev pub in_numbers : Judgement → InNumbers
in_numbers (accepted ns t) = record { number = 0; at = length ns }
in_numbers (declined n p) = record { number = n; at = p }

abbrev pub is : InNumbers → ℕ → ℕ → Bool
is v n p = eqb v.number n && eqb v.at p

unfoldable pub bytes_are : List ℕ → ℕ → ℕ → Bool
bytes_are s n p = is (in_numbers (judge_bytes s)) n p

unfoldable pub list_is : List ℕ → ℕ → ℕ → Bool
list_is l n p = is (in_numbers (judge_list l)) n p

abbrev pub every : List Bool → Bool
every [] = true
every (b ∷ bs) = b && every bs

-- ---- numbers and tables

-- "Table B, A = 3, sets {0} and {1}, prefix {0}, prefix {1}, call 0": its numbers are its bytes
abbrev pub table_b : List ℕ
table_b = 3 ∷ 2 ∷ 0 ∷ 1 ∷ 0 ∷ 0 ∷ 1 ∷ 1 ∷ 1 ∷ 0 ∷ 2 ∷ 0 ∷ 2 ∷ 1 ∷ 5 ∷ 0 ∷ []

-- A = 3, one set, {0}
abbrev pub S0 : List ℕ
S0 = 3 ∷ 1 ∷ 0 ∷ 1 ∷ 0 ∷ []

-- n prefixes to STOP
abbrev pub deep : ℕ → List ℕ
deep zero = 0 ∷ []
deep (suc n) = 2 ∷ 0 ∷ deep n

-- n parallels over set 0, then a term
abbrev pub beside : ℕ → List ℕ → List ℕ
beside zero p = p
beside (suc n) p = 4 ∷ 0 ∷ 0 ∷ beside n p

-- 01, "Numbers and table": "127 is `7F`, 128 is `80 01`, 65,535 is `FF FF 03`; `80 00` and `FF FF 04` are loose, as is
-- a third byte above `03` even at the input's end"
unfoldable pub number_rows : List Bool
number_rows =
    bytes_are (128 ∷ []) 3 1
    ∷ bytes_are (128 ∷ 128 ∷ []) 3 2
    ∷ bytes_are (128 ∷ 0 ∷ []) 4 0
    ∷ bytes_are (128 ∷ 128 ∷ 0 ∷ []) 4 0
    ∷ bytes_are (255 ∷ 255 ∷ 132 ∷ []) 4 0
    ∷ bytes_are (255 ∷ 255 ∷ 4 ∷ []) 4 0
    ∷ bytes_are (255 ∷ 255 ∷ 3 ∷ []) 5 0
    ∷ bytes_are [] 3 0
    ∷ bytes_are (128 ∷ 128 ∷ 1 ∷ []) 5 0
    ∷ eqb (length (bytes_of 127)) 1
    ∷ eqb (length (bytes_of 128)) 2
    ∷ eqb (length (bytes_of 65535)) 3
    ∷ []

-- 01, "Drawings on the wall": "a body nested 32 deep is read, 33 deep is 5"; refusals 5, 6 and 7 at their places
unfoldable pub table_rows : List Bool
table_rows =
    bytes_are table_b 0 16
    ∷ list_is table_b 0 16
    ∷ list_is (table_b ++ (0 ∷ [])) 6 16
    ∷ bytes_are (table_b ++ (128 ∷ [])) 6 16
    ∷ bytes_are (3 ∷ 1 ∷ 0 ∷ 2 ∷ 1 ∷ 1 ∷ []) 5 5
    ∷ bytes_are (3 ∷ 1 ∷ 0 ∷ 4 ∷ []) 5 3
    ∷ bytes_are (3 ∷ 0 ∷ 1 ∷ 0 ∷ 2 ∷ 0 ∷ []) 5 5
    ∷ bytes_are (3 ∷ 1 ∷ 1 ∷ 1 ∷ 1 ∷ 1 ∷ 0 ∷ 0 ∷ 1 ∷ 0 ∷ 2 ∷ 0 ∷ 4 ∷ 0 ∷ []) 5 12
    ∷ bytes_are (3 ∷ 1 ∷ 1 ∷ 1 ∷ 1 ∷ 1 ∷ 0 ∷ 0 ∷ 1 ∷ 0 ∷ 2 ∷ 0 ∷ 0 ∷ 0 ∷ []) 7 12
    ∷ bytes_are (S0 ++ (1 ∷ 0 ∷ 2 ∷ 0 ∷ 5 ∷ 172 ∷ 2 ∷ 0 ∷ [])) 6 12
    ∷ bytes_are (S0 ++ (2 ∷ 0 ∷ 2 ∷ 0 ∷ 5 ∷ 172 ∷ 2 ∷ 0 ∷ 6 ∷ [])) 5 13
    ∷ bytes_are (S0 ++ (1 ∷ 0 ∷ 2 ∷ 0 ∷ 5 ∷ 172 ∷ 2 ∷ [])) 7 10
    ∷ list_is (S0 ++ (1 ∷ 0 ∷ 2 ∷ 0 ∷ 5 ∷ 300 ∷ [])) 7 10
    ∷ list_is (S0 ++ (2 ∷ 0 ∷ 0 ∷ 0 ∷ 4 ∷ 0 ∷ 2 ∷ 0 ∷ 5 ∷ 0 ∷ 0 ∷ [])) 7 14
    ∷ list_is (S0 ++ (2 ∷ 0 ∷ 0 ∷ 1 ∷ 4 ∷ 0 ∷ 2 ∷ 0 ∷ 5 ∷ 0 ∷ 0 ∷ [])) 0 16
    ∷ list_is (S0 ++ (1 ∷ 0 ∷ 5 ∷ 0 ∷ [])) 7 8
    ∷ list_is (S0 ++ (2 ∷ 0 ∷ 2 ∷ 0 ∷ 5 ∷ 1 ∷ 0 ∷ 0 ∷ [])) 0 13
    ∷ bytes_are (S0 ++ (1 ∷ 0 ∷ deep 31)) 0 70
    ∷ bytes_are (S0 ++ (1 ∷ 0 ∷ deep 32)) 5 71
    ∷ []

-- ---- width, branches and the number of terms

-- a choice of 2^n STOPs
abbrev pub balanced : ℕ → List ℕ
balanced zero = 0 ∷ []
balanced (suc n) = let b = balanced n in 3 ∷ (b ++ b)

-- eight calls of d in a choice
abbrev pub eight_calls : ℕ → List ℕ
eight_calls d =
    let c : List ℕ = 5 ∷ d ∷ [] in 3 ∷ 3 ∷ 3 ∷ (c ++ c ++ (3 ∷ (c ++ c)) ++ (3 ∷ 3 ∷ (c ++ c)) ++ (3 ∷ (c ++ c)))

-- n + 1 calls of definition 0 in parallel over set 0
abbrev pub calls_beside : ℕ → List ℕ
calls_beside zero = 5 ∷ 0 ∷ []
calls_beside (suc n) = 4 ∷ 0 ∷ 5 ∷ 0 ∷ calls_beside n

-- n definitions from number d + 1 on, each a choice of eight calls of the one before it
abbrev pub tower : ℕ → ℕ → List ℕ
tower d zero = []
tower d (suc n) = 0 ∷ (eight_calls d ++ tower (suc d) n)

-- 01, "Hands of a term", "at most 8"; "call to its own level 1": definition 0 is a prefix to a call of itself;
-- "256 openings stand, 257 is 9"; "at most 1,024"
unfoldable pub count_rows : List Bool
count_rows =
    list_is (S0 ++ (2 ∷ 0 ∷ 2 ∷ 0 ∷ 5 ∷ 0 ∷ []) ++ (1 ∷ calls_beside 7)) 0 42
    ∷ list_is (S0 ++ (2 ∷ 0 ∷ 2 ∷ 0 ∷ 5 ∷ 0 ∷ []) ++ (1 ∷ calls_beside 8)) 8 1
    ∷ list_is (S0 ++ (1 ∷ 2 ∷ beside 8 (1 ∷ []))) 8 2
    ∷ list_is (S0 ++ (1 ∷ 2 ∷ beside 7 (1 ∷ []))) 0 29
    ∷ list_is (S0 ++ (3 ∷ 0 ∷ beside 7 (0 ∷ [])) ++ (0 ∷ 2 ∷ 0 ∷ 0 ∷ []) ++ (1 ∷ 4 ∷ 0 ∷ 5 ∷ 1 ∷ 0 ∷ [])) 8 1
    ∷ list_is (S0 ++ (2 ∷ 0 ∷ beside 7 (0 ∷ [])) ++ (0 ∷ 2 ∷ 0 ∷ 5 ∷ 0 ∷ [])) 0 34
    ∷ list_is (S0 ++ (1 ∷ 0 ∷ balanced 8)) 0 518
    ∷ list_is (S0 ++ (1 ∷ 0 ∷ 3 ∷ balanced 8) ++ (0 ∷ [])) 9 0
    ∷ list_is (S0 ++ (1 ∷ 0 ∷ 4 ∷ 0 ∷ 3 ∷ balanced 8) ++ (0 ∷ 1 ∷ [])) 0 523
    ∷ list_is (S0 ++ (2 ∷ 0 ∷ 2 ∷ 0 ∷ 5 ∷ 1 ∷ 0 ∷ 3 ∷ balanced 8) ++ (0 ∷ [])) 9 1
    ∷ list_is (S0 ++ (32 ∷ 0 ∷ 1 ∷ tower 0 31)) 0 752
    ∷ list_is (S0 ++ (2 ∷ 0 ∷ balanced 8) ++ (1 ∷ 4 ∷ 0 ∷ 1 ∷ calls_beside 6)) 0 548
    ∷ list_is (S0 ++ (3 ∷ 0 ∷ balanced 9) ++ (0 ∷ 0 ∷ 0 ∷ [])) 3 1033
    ∷ list_is (S0 ++ (3 ∷ 0 ∷ balanced 9) ++ (0 ∷ 0 ∷ 0 ∷ 0 ∷ [])) 5 1033
    ∷ []

-- so many copies of a list
abbrev pub copies : ℕ → List ℕ → List ℕ
copies zero l = []
copies (suc n) l = l ++ copies n l
