-- Both sides of each bound that 01's "Numbers and table" names, each rule kept and broken, and which of two refusals is
-- given, as rows of computed tests beside those of `Examples`.
--     alphabet_rows, set_rows, definition_rows, parameter_rows  the bounds that one number breaks
--     row_rows                                                the bound of all rows together
--     call_rows                                               the rules on calls
--     width_rows, branch_rows                                 hands and openings
--     order_rows                                              two refusals met at once
-- That every row holds is in `proofs/BoundLaws.antt`. Assumes nothing.
use Rattle.std.specs.Prelude.{ℕ, Bool, List, [], ◌∷◌, ◌++◌, replicate}
use Rattle.table.specs.Examples.{bytes_are, list_is, S0, beside, balanced, copies}

-- ---- bounds that one number breaks

-- 02, W6: "A may be 1 to 128"; 128 is written in two bytes
unfoldable pub alphabet_rows : List Bool
alphabet_rows =
    list_is (0 ∷ 0 ∷ 1 ∷ 0 ∷ 0 ∷ []) 5 0
    ∷ list_is (1 ∷ 0 ∷ 1 ∷ 0 ∷ 0 ∷ []) 0 5
    ∷ list_is (64 ∷ 0 ∷ 1 ∷ 0 ∷ 0 ∷ []) 0 5
    ∷ list_is (65 ∷ 0 ∷ 1 ∷ 0 ∷ 0 ∷ []) 0 5
    ∷ list_is (127 ∷ 0 ∷ 1 ∷ 0 ∷ 0 ∷ []) 0 5
    ∷ list_is (128 ∷ 0 ∷ 1 ∷ 0 ∷ 0 ∷ []) 0 5
    ∷ list_is (129 ∷ 0 ∷ 1 ∷ 0 ∷ 0 ∷ []) 5 0
    ∷ bytes_are (128 ∷ 1 ∷ 0 ∷ 1 ∷ 0 ∷ 0 ∷ []) 0 5
    ∷ bytes_are (129 ∷ 1 ∷ 0 ∷ 1 ∷ 0 ∷ 0 ∷ []) 5 0
    -- events 63, 64 and 127 stand in a row, 128 does not
    ∷ list_is (128 ∷ 1 ∷ 0 ∷ 3 ∷ 63 ∷ 64 ∷ 127 ∷ 1 ∷ 0 ∷ 0 ∷ []) 0 10
    ∷ list_is (128 ∷ 1 ∷ 0 ∷ 3 ∷ 63 ∷ 64 ∷ 128 ∷ 1 ∷ 0 ∷ 0 ∷ []) 5 6
    ∷ bytes_are (128 ∷ 1 ∷ 1 ∷ 0 ∷ 3 ∷ 63 ∷ 64 ∷ 127 ∷ 1 ∷ 0 ∷ 0 ∷ []) 0 10
    ∷ bytes_are (128 ∷ 1 ∷ 1 ∷ 0 ∷ 3 ∷ 63 ∷ 64 ∷ 128 ∷ 1 ∷ 1 ∷ 0 ∷ 0 ∷ []) 5 7
    ∷ []

-- so many sets, all {}
abbrev empty_sets : ℕ → List ℕ
empty_sets n = 1 ∷ n ∷ (copies n (0 ∷ 0 ∷ []) ++ (1 ∷ 0 ∷ 0 ∷ []))

unfoldable pub set_rows : List Bool
set_rows =
    -- "number of sets, 0 to 64"
    list_is (empty_sets 0) 0 5
    ∷ list_is (empty_sets 64) 0 133
    ∷ list_is (empty_sets 65) 5 1
    -- "A set is kind 0 and one row, or kind 1 and A rows"
    ∷ list_is (2 ∷ 1 ∷ 0 ∷ 0 ∷ 1 ∷ 0 ∷ 0 ∷ []) 0 7
    ∷ list_is (2 ∷ 1 ∷ 1 ∷ 0 ∷ 0 ∷ 1 ∷ 0 ∷ 0 ∷ []) 0 8
    ∷ list_is (2 ∷ 1 ∷ 2 ∷ 0 ∷ 0 ∷ 1 ∷ 0 ∷ 0 ∷ []) 5 2
    -- "A row is a count, 0 to A"
    ∷ list_is (2 ∷ 1 ∷ 0 ∷ 2 ∷ 0 ∷ 1 ∷ 1 ∷ 0 ∷ 0 ∷ []) 0 9
    ∷ list_is (2 ∷ 1 ∷ 0 ∷ 3 ∷ 0 ∷ 1 ∷ 1 ∷ 0 ∷ 0 ∷ []) 5 3
    -- "events are 0 to A-1", in a row of either kind
    ∷ list_is (2 ∷ 1 ∷ 0 ∷ 1 ∷ 1 ∷ 1 ∷ 0 ∷ 0 ∷ []) 0 8
    ∷ list_is (2 ∷ 1 ∷ 0 ∷ 1 ∷ 2 ∷ 1 ∷ 0 ∷ 0 ∷ []) 5 4
    ∷ list_is (2 ∷ 1 ∷ 1 ∷ 0 ∷ 1 ∷ 1 ∷ 1 ∷ 0 ∷ 0 ∷ []) 0 9
    ∷ list_is (2 ∷ 1 ∷ 1 ∷ 0 ∷ 1 ∷ 2 ∷ 1 ∷ 0 ∷ 0 ∷ []) 5 5
    -- "strictly ascending"
    ∷ list_is (2 ∷ 1 ∷ 0 ∷ 2 ∷ 0 ∷ 0 ∷ 1 ∷ 0 ∷ 0 ∷ []) 5 5
    ∷ list_is (2 ∷ 1 ∷ 0 ∷ 2 ∷ 1 ∷ 0 ∷ 1 ∷ 0 ∷ 0 ∷ []) 5 5
    ∷ []

-- so many sets of kind 1, each of A empty rows
abbrev families : ℕ → ℕ → List ℕ
families A n = copies n (1 ∷ replicate A 0)

-- 02, W6: "With A above 64, all rows together number at most 3,072, else 5 at the kind of the set that passes it"
unfoldable pub row_rows : List Bool
row_rows =
    -- 24 sets of 128 rows stand; the kind of one more set, of either kind, does not, whatever follows it or nothing
    list_is (128 ∷ 24 ∷ families 128 24 ++ (1 ∷ 0 ∷ 0 ∷ [])) 0 3101
    ∷ list_is (128 ∷ 25 ∷ families 128 24) 3 3098
    ∷ list_is (128 ∷ 25 ∷ families 128 24 ++ (0 ∷ [])) 5 3098
    ∷ list_is (128 ∷ 25 ∷ families 128 24 ++ (1 ∷ [])) 5 3098
    ∷ list_is (128 ∷ 25 ∷ families 128 24 ++ (2 ∷ [])) 5 3098
    ∷ list_is (128 ∷ 25 ∷ families 128 24 ++ (0 ∷ 129 ∷ [])) 5 3098
    ∷ bytes_are (128 ∷ 1 ∷ 25 ∷ families 128 24 ++ (0 ∷ [])) 5 3099
    -- a row of kind 0 before 23 such sets: the next makes 3,073
    ∷ list_is (128 ∷ 25 ∷ 0 ∷ 0 ∷ families 128 23 ++ (1 ∷ [])) 5 2971
    -- A = 65: 47 sets of 65 rows and 17 of one; a 48th of 65
    ∷ list_is (65 ∷ 64 ∷ families 65 47 ++ copies 17 (0 ∷ 0 ∷ []) ++ (1 ∷ 0 ∷ 0 ∷ [])) 0 3141
    ∷ list_is (65 ∷ 64 ∷ families 65 47 ++ (1 ∷ [])) 5 3104
    ∷ list_is (65 ∷ 64 ∷ copies 17 (0 ∷ 0 ∷ []) ++ families 65 47 ++ (1 ∷ 0 ∷ 0 ∷ [])) 0 3141
    -- A = 64: 4,096 rows stand as before
    ∷ list_is (64 ∷ 64 ∷ families 64 64 ++ (1 ∷ 0 ∷ 0 ∷ [])) 0 4165
    ∷ []

unfoldable pub definition_rows : List Bool
definition_rows =
    -- "number of definitions, 1 to 32"
    list_is (1 ∷ 0 ∷ 0 ∷ []) 5 2
    ∷ list_is (1 ∷ 0 ∷ 32 ∷ copies 32 (0 ∷ 0 ∷ [])) 0 67
    ∷ list_is (1 ∷ 0 ∷ 33 ∷ copies 33 (0 ∷ 0 ∷ [])) 5 2
    -- "a level, 0 to 7"
    ∷ list_is (1 ∷ 0 ∷ 1 ∷ 7 ∷ 0 ∷ []) 0 5
    ∷ list_is (1 ∷ 0 ∷ 1 ∷ 8 ∷ 0 ∷ []) 5 3
    -- "nested at most 32 deep", of choices and of parallels
    ∷ list_is (S0 ++ (1 ∷ 0 ∷ copies 31 (3 ∷ 0 ∷ [])) ++ (0 ∷ [])) 0 70
    ∷ list_is (S0 ++ (1 ∷ 0 ∷ copies 32 (3 ∷ 0 ∷ [])) ++ (0 ∷ [])) 5 70
    ∷ list_is (S0 ++ (1 ∷ 0 ∷ beside 31 (0 ∷ []))) 8 0
    ∷ list_is (S0 ++ (1 ∷ 0 ∷ beside 32 (0 ∷ []))) 5 102
    -- "Term kinds by number: 0 STOP, .. 5 call (definition number)"
    ∷ list_is (1 ∷ 0 ∷ 1 ∷ 0 ∷ 5 ∷ 0 ∷ []) 7 5
    ∷ list_is (1 ∷ 0 ∷ 1 ∷ 0 ∷ 6 ∷ 0 ∷ []) 5 4
    -- "a set number that does not exist is 5"
    ∷ list_is (1 ∷ 1 ∷ 0 ∷ 0 ∷ 1 ∷ 0 ∷ 2 ∷ 0 ∷ 0 ∷ []) 0 9
    ∷ list_is (1 ∷ 1 ∷ 0 ∷ 0 ∷ 1 ∷ 0 ∷ 2 ∷ 1 ∷ 0 ∷ []) 5 7
    ∷ []

-- A = 1, set 0 {0}, set 1 of kind 1; one definition, of a term
abbrev rowed : List ℕ → List ℕ
rowed p = 1 ∷ 2 ∷ 0 ∷ 1 ∷ 0 ∷ 1 ∷ 0 ∷ 1 ∷ 0 ∷ p

-- under n prefixes a prefix with parameter k, to STOP
abbrev under : ℕ → ℕ → List ℕ
under n k = rowed (copies n (2 ∷ 0 ∷ []) ++ (2 ∷ 1 ∷ k ∷ 0 ∷ []))

unfoldable pub parameter_rows : List Bool
parameter_rows =
    -- "a parameter k, 0 to 3"
    list_is (under 4 3) 0 21
    ∷ list_is (under 4 4) 5 19
    ∷ list_is (under 5 4) 5 21
    -- "k is below the count of enclosing prefixes"
    ∷ list_is (under 3 3) 7 17
    ∷ list_is (under 1 0) 0 15
    ∷ list_is (under 1 1) 7 13
    -- "A prefix does not enclose its own set"
    ∷ list_is (under 0 0) 7 11
    -- of a prefix under a parallel, around which a prefix is
    ∷ list_is (rowed (2 ∷ 0 ∷ 4 ∷ 0 ∷ 2 ∷ 1 ∷ 0 ∷ 0 ∷ 0 ∷ [])) 0 18
    -- of a parallel; a choice and a parallel around it do not count
    ∷ list_is (rowed (2 ∷ 0 ∷ 4 ∷ 1 ∷ 0 ∷ 0 ∷ 0 ∷ [])) 0 16
    ∷ list_is (rowed (4 ∷ 1 ∷ 0 ∷ 0 ∷ 0 ∷ [])) 7 11
    ∷ list_is (rowed (3 ∷ 2 ∷ 1 ∷ 0 ∷ 0 ∷ 0 ∷ [])) 7 12
    ∷ list_is (rowed (4 ∷ 0 ∷ 2 ∷ 1 ∷ 0 ∷ 0 ∷ 0 ∷ [])) 7 13
    ∷ []

-- ---- calls

unfoldable pub call_rows : List Bool
call_rows =
    -- "A call names an existing definition"
    list_is (S0 ++ (1 ∷ 0 ∷ 2 ∷ 0 ∷ 5 ∷ 0 ∷ [])) 0 11
    ∷ list_is (S0 ++ (1 ∷ 0 ∷ 2 ∷ 0 ∷ 5 ∷ 1 ∷ [])) 7 10
    -- "of its own or a lower level"
    ∷ list_is (S0 ++ (2 ∷ 1 ∷ 2 ∷ 0 ∷ 5 ∷ 1 ∷ 0 ∷ 0 ∷ [])) 0 13
    ∷ list_is (S0 ++ (2 ∷ 1 ∷ 2 ∷ 0 ∷ 5 ∷ 1 ∷ 1 ∷ 0 ∷ [])) 0 13
    ∷ list_is (S0 ++ (2 ∷ 1 ∷ 2 ∷ 0 ∷ 5 ∷ 1 ∷ 2 ∷ 0 ∷ [])) 7 10
    -- "under a parallel, of a strictly lower level"; a parallel beside it does not count
    ∷ list_is (S0 ++ (1 ∷ 0 ∷ 4 ∷ 0 ∷ 0 ∷ 2 ∷ 0 ∷ 5 ∷ 0 ∷ [])) 7 13
    ∷ list_is (S0 ++ (1 ∷ 0 ∷ 3 ∷ 4 ∷ 0 ∷ 0 ∷ 0 ∷ 2 ∷ 0 ∷ 5 ∷ 0 ∷ [])) 0 16
    -- "of its own or a lower level", "of a strictly lower level": any lower one, one or several below
    ∷ list_is (S0 ++ (2 ∷ 0 ∷ 0 ∷ 2 ∷ 2 ∷ 0 ∷ 5 ∷ 0 ∷ [])) 0 13
    ∷ list_is (S0 ++ (2 ∷ 0 ∷ 0 ∷ 1 ∷ 4 ∷ 0 ∷ 5 ∷ 0 ∷ 0 ∷ [])) 0 14
    ∷ list_is (S0 ++ (2 ∷ 0 ∷ 0 ∷ 2 ∷ 4 ∷ 0 ∷ 5 ∷ 0 ∷ 0 ∷ [])) 0 14
    ∷ list_is (S0 ++ (2 ∷ 0 ∷ 0 ∷ 7 ∷ 4 ∷ 0 ∷ 5 ∷ 0 ∷ 0 ∷ [])) 0 14
    -- under a prefix and a parallel a higher number, of a lower level
    ∷ list_is (S0 ++ (2 ∷ 1 ∷ 4 ∷ 0 ∷ 2 ∷ 0 ∷ 5 ∷ 1 ∷ 0 ∷ 0 ∷ 0 ∷ [])) 0 16
    -- "A call with no prefix around it names a lower definition number"; a prefix beside it does not count, nor does a
    -- parallel around it
    ∷ list_is (S0 ++ (2 ∷ 0 ∷ 0 ∷ 0 ∷ 5 ∷ 0 ∷ [])) 0 11
    ∷ list_is (S0 ++ (2 ∷ 0 ∷ 0 ∷ 0 ∷ 5 ∷ 1 ∷ [])) 7 10
    ∷ list_is (S0 ++ (2 ∷ 0 ∷ 5 ∷ 1 ∷ 0 ∷ 0 ∷ [])) 7 8
    ∷ list_is (S0 ++ (1 ∷ 0 ∷ 3 ∷ 2 ∷ 0 ∷ 0 ∷ 5 ∷ 0 ∷ [])) 7 12
    ∷ list_is (S0 ++ (2 ∷ 1 ∷ 4 ∷ 0 ∷ 5 ∷ 1 ∷ 0 ∷ 0 ∷ 0 ∷ [])) 7 10
    ∷ []

-- ---- hands and openings

-- n + 1 STOPs in parallel over set 0
abbrev wide : ℕ → List ℕ
wide n = beside n (0 ∷ [])

unfoldable pub width_rows : List Bool
width_rows =
    -- "prefix those of its follower"
    list_is (S0 ++ (1 ∷ 0 ∷ 2 ∷ 0 ∷ wide 7)) 0 31
    ∷ list_is (S0 ++ (1 ∷ 0 ∷ 2 ∷ 0 ∷ wide 8)) 8 0
    -- "choice the larger"
    ∷ list_is (S0 ++ (1 ∷ 0 ∷ 3 ∷ wide 7) ++ wide 7) 0 52
    ∷ list_is (S0 ++ (1 ∷ 0 ∷ 3 ∷ wide 8) ++ (0 ∷ [])) 8 0
    ∷ list_is (S0 ++ (1 ∷ 0 ∷ 3 ∷ 0 ∷ wide 8)) 8 0
    -- "A level's hands are the largest among its bodies, at most 8", of the highest level too; "lowest level"
    ∷ list_is (S0 ++ (2 ∷ 0 ∷ 0 ∷ 0 ∷ wide 8)) 8 0
    ∷ list_is (S0 ++ (2 ∷ 0 ∷ wide 8) ++ (0 ∷ 0 ∷ [])) 8 0
    ∷ list_is (S0 ++ (1 ∷ 7 ∷ wide 7)) 0 29
    ∷ list_is (S0 ++ (1 ∷ 7 ∷ wide 8)) 8 7
    ∷ list_is (S0 ++ (2 ∷ 5 ∷ wide 8) ++ (2 ∷ wide 8)) 8 2
    ∷ []

unfoldable pub branch_rows : List Bool
branch_rows =
    -- "prefix 1"
    list_is (S0 ++ (1 ∷ 0 ∷ 3 ∷ balanced 8) ++ (2 ∷ 0 ∷ 0 ∷ [])) 9 0
    ∷ list_is (S0 ++ (1 ∷ 0 ∷ 4 ∷ 0 ∷ 2 ∷ 0 ∷ 0 ∷ balanced 8)) 0 523
    -- "parallel the product"
    ∷ list_is (S0 ++ (1 ∷ 0 ∷ 4 ∷ 0 ∷ balanced 4) ++ balanced 4) 0 71
    ∷ list_is (S0 ++ (1 ∷ 0 ∷ 4 ∷ 0 ∷ 3 ∷ 0 ∷ balanced 4) ++ balanced 4) 9 0
    -- "each prefix's follower has at most 256"
    ∷ list_is (S0 ++ (1 ∷ 0 ∷ 2 ∷ 0 ∷ balanced 8)) 0 520
    ∷ list_is (S0 ++ (1 ∷ 0 ∷ 2 ∷ 0 ∷ 3 ∷ 0 ∷ balanced 8)) 9 1
    ∷ []

-- ---- which of two refusals

-- 01, "When the monitor declines": "3 to 5 at each number from the left; 6; 7 from the left; 8; 9"
unfoldable pub order_rows : List Bool
order_rows =
    -- 5 before 4, 4 before 5; 4 and 5 after a number of two bytes; on a list "places are list places"
    bytes_are (0 ∷ 128 ∷ 0 ∷ []) 5 0
    ∷ bytes_are (3 ∷ 128 ∷ 0 ∷ 65 ∷ []) 4 1
    ∷ bytes_are (S0 ++ (2 ∷ 0 ∷ 2 ∷ 0 ∷ 5 ∷ 172 ∷ 2 ∷ 128 ∷ 0 ∷ [])) 4 12
    ∷ list_is (S0 ++ (2 ∷ 0 ∷ 2 ∷ 0 ∷ 5 ∷ 300 ∷ 0 ∷ 6 ∷ [])) 5 12
    -- "7 from the left"; 7 before 8, 7 before 9, 8 before 9
    ∷ list_is (S0 ++ (1 ∷ 0 ∷ 3 ∷ 5 ∷ 0 ∷ 5 ∷ 0 ∷ [])) 7 9
    ∷ list_is (S0 ++ (1 ∷ 0 ∷ beside 8 (5 ∷ 0 ∷ []))) 7 32
    ∷ list_is (S0 ++ (1 ∷ 0 ∷ 3 ∷ balanced 8) ++ (3 ∷ 0 ∷ 5 ∷ 9 ∷ [])) 7 522
    ∷ list_is (S0 ++ (1 ∷ 0 ∷ 4 ∷ 0 ∷ wide 7) ++ (3 ∷ 0 ∷ balanced 8)) 8 0
    ∷ []
