-- What Read and Write answer and leave in their buffers, word by word, as rows of computed tests.
--     answers, outcome_is          an answer; an answer, the output and the work words
--     read_refuses, write_refuses  refusals 2 to 9
--     read_rows, write_rows        Read and Write
-- That every row holds is in `proofs/Rows.antt`. Assumes nothing.
use Rattle.std.specs.Prelude.{ℕ, Bool, ◌&&◌, List, [], ◌∷◌, ◌++◌, replicate, eqb}
use Rattle.numbers.specs.Examples.{same}
use Rattle.table.specs.Operations.{Answer, done, refusal, Outcome, zeros, read_of, write_of}
use Rattle.table.specs.Examples.{table_b, S0, beside, balanced}
use Rattle.table_examples.specs.LongTables.{nearly_full}

-- an answer as two numbers: refusal and place, or 0 and the count
abbrev pub answers : Answer → ℕ → ℕ → Bool
answers (done n) m at = eqb m 0 && eqb n at
answers (refusal n p) m at = eqb n m && eqb p at

-- the answer, the output and the work words
abbrev pub outcome_is : Outcome → ℕ → ℕ → List ℕ → List ℕ → Bool
outcome_is o n at out work = answers o.answer n at && (same o.output out && same o.work work)

-- what stood in an area before
abbrev pub junk : ℕ → List ℕ
junk n = replicate n 7

-- a refusal of Read, 2 to 9: "Read's output is zeroed on 2 to 9", and the work area is
abbrev pub read_refuses : List ℕ → ℕ → ℕ → Bool
read_refuses s n at = outcome_is (read_of s (junk 16384) (junk 8192)) n at (zeros 16384) (zeros 8192)

-- a refusal of Write, 2 to 9: the output is kept
abbrev pub write_refuses : List ℕ → ℕ → ℕ → Bool
write_refuses l n at = outcome_is (write_of l (junk 20) (junk 8192)) n at (junk 20) (zeros 8192)

-- tables with each refusal of 5, 7, 8 and 9
abbrev pub off_scale : List ℕ
off_scale = 3 ∷ 1 ∷ 0 ∷ 2 ∷ 1 ∷ 1 ∷ []

abbrev pub wrong_reference : List ℕ
wrong_reference = S0 ++ (1 ∷ 0 ∷ 5 ∷ 0 ∷ [])

abbrev pub too_many_hands : List ℕ
too_many_hands = S0 ++ (1 ∷ 2 ∷ beside 8 (1 ∷ []))

abbrev pub too_many_openings : List ℕ
too_many_openings = S0 ++ (1 ∷ 0 ∷ 3 ∷ balanced 8) ++ (0 ∷ [])

-- 01, "Operations", Read; "When the monitor declines": lent lengths come first, and then all is kept
unfoldable pub read_rows : List Bool
read_rows =
    outcome_is (read_of table_b (junk 16384) (junk 8192)) 0 16 (table_b ++ zeros 16368) (zeros 8192)
    ∷ outcome_is (read_of table_b (junk 16383) (junk 8192)) 1 0 (junk 16383) (junk 8192)
    ∷ outcome_is (read_of table_b (junk 16385) (junk 8192)) 1 0 (junk 16385) (junk 8192)
    ∷ outcome_is (read_of table_b (junk 16384) (junk 8191)) 1 0 (junk 16384) (junk 8191)
    ∷ outcome_is (read_of (zeros 16385) (junk 16384) (junk 8193)) 1 0 (junk 16384) (junk 8193)
    ∷ read_refuses (zeros 16385) 2 0
    ∷ read_refuses (3 ∷ 2 ∷ 0 ∷ []) 3 3
    ∷ read_refuses (128 ∷ 0 ∷ []) 4 0
    ∷ read_refuses off_scale 5 5
    ∷ read_refuses (table_b ++ (0 ∷ [])) 6 16
    ∷ read_refuses wrong_reference 7 8
    ∷ read_refuses too_many_hands 8 2
    ∷ read_refuses too_many_openings 9 0
    ∷ []

-- 01, "Operations", Write; "Write's short output is 1, last of all", also where one byte is missing
unfoldable pub write_rows : List Bool
write_rows =
    outcome_is (write_of table_b (junk 20) (junk 8192)) 0 16 (table_b ++ junk 4) (zeros 8192)
    ∷ outcome_is (write_of table_b (junk 16) (junk 8192)) 0 16 table_b (zeros 8192)
    ∷ outcome_is (write_of table_b (junk 15) (junk 8192)) 1 0 (junk 15) (zeros 8192)
    ∷ outcome_is (write_of table_b (junk 20) (junk 8191)) 1 0 (junk 20) (junk 8191)
    ∷ outcome_is (write_of (table_b ++ (0 ∷ [])) (junk 20) (junk 8193)) 1 0 (junk 20) (junk 8193)
    ∷ outcome_is (write_of (table_b ++ (0 ∷ [])) [] (junk 8192)) 6 16 [] (zeros 8192)
    ∷ write_refuses (nearly_full 56 ++ (1 ∷ 0 ∷ 0 ∷ [])) 2 0
    ∷ write_refuses (3 ∷ 2 ∷ 0 ∷ []) 3 3
    ∷ write_refuses off_scale 5 5
    ∷ write_refuses (table_b ++ (0 ∷ [])) 6 16
    ∷ write_refuses wrong_reference 7 8
    ∷ write_refuses too_many_hands 8 2
    ∷ write_refuses too_many_openings 9 0
    ∷ []
