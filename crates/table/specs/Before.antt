-- The grammar of a table as 01 alone has it, without 02's W6, to say what W6 leaves as it was.
--     event_set_before, table_before  a set; a table
--     judge_before                    what the numbers of an input were judged to be
--     judge_list_before, judge_bytes_before  of a number list; of bytes
--     FirstMost, FirstOver            the input's first number is at most so much, or over it
-- The laws are in `proofs/Before/Laws.antt`. Assumes nothing.
use Rattle.std.specs.Prelude.{ℕ, ◌<◌, ◌≤◌, ◌&&◌, cond, List, length, leb, ltb}
use Rattle.table.specs.Table.{SetDef, Table}
use Rattle.table.specs.Tokens.{Tokens, token, ended, broken, list_tokens, byte_tokens}
use Rattle.table.specs.Parser.{Parser, number, pure, and_then, times}
use Rattle.table.specs.Grammar.{set_of_kind, definitions_of}
use Rattle.table.specs.Judge.{Judgement, declined, judge_read, sized}

-- 01, "Numbers and table": "A set is kind 0 and one row, or kind 1 and A rows"
unfoldable pub event_set_before : ℕ → Parser SetDef
event_set_before A = and_then (number (λ k. leb k 1)) (set_of_kind A)

-- "alphabet size A, 1 to 64", "number of sets, 0 to 64", "number of definitions, 1 to 32"
unfoldable pub table_before : Parser Table
table_before =
    and_then (number (λ a. leb 1 a && leb a 64)) (λ a.
    and_then (number (λ c. leb c 64)) (λ c.
    and_then (times c (event_set_before a)) (λ ss.
    and_then (number (λ c. leb 1 c && leb c 32)) (λ c.
    and_then (definitions_of ss c 0) (λ ds.
    pure (record { alphabet = a; sets = ss; definitions = ds }))))))

unfoldable pub judge_before : Tokens → Judgement
judge_before ts = judge_read ts (table_before ts)

unfoldable pub judge_list_before : List ℕ → Judgement
judge_list_before l = sized l (judge_before (list_tokens 0 l))

unfoldable pub judge_bytes_before : List ℕ → Judgement
judge_bytes_before s = cond (ltb 16384 (length s)) (declined 2 0) (judge_before (byte_tokens s))

-- the input has no first number, or one of at most n
abbrev pub FirstMost : ℕ → Tokens → Type 0
FirstMost n (token v at ts) = v ≤ n
FirstMost n (ended at end) = Unit
FirstMost n (broken at) = Unit

-- it has one, over n
abbrev pub FirstOver : ℕ → Tokens → Type 0
FirstOver n (token v at ts) = n < v
FirstOver n (ended at end) = ⊥
FirstOver n (broken at) = ⊥
