-- What is proved of the table layer's definitions: statements only. The proofs are in `proofs/Theorems.antt`, under the
-- same names.
--     NumberReadsBack, NumberCanonical    a written number reads back; a number that is read is written just so
--     TableReadsBack, TableCanonical      the same of a table, and then it is within the field bounds
--     AcceptedExactly                     the number lists that are accepted, by 01's rules
--     AcceptedBytesExactly                the bytes that are accepted
--     RefusedExactly                      the number lists that are refused, with which number and place
--     RefusedBytesExactly                 the bytes that are refused, with which number and place
--     ManyAtTerm                          refusal 9's place is the number of a body or a follower with over 256 branches
--     FieldsAreMarks                      the field rules hold where each number keeps its own bound
--     RowsBounded                         the kind of the set that passes the bound of the rows is refused
--     OldTables                           with a first number of at most 64 all is judged as before W6
--     AcceptedWritesBack                  what Read accepts, Write writes back byte for byte
--     WrittenReadsBack                    what Write writes, Read reads back number for number
--     ReachMost                           the reach of a term is at most 8
--     CappedBranches                      branches counted to 257 only
--     BranchesOfCall, WidthOfLevel        01's sentences on calls, as equations
--     ReadLeaves, WriteLeaves             what Read and Write give, by the lent lengths and the judgement
--     ReadFills                           Read's output keeps its length
--     Examples, Bounds                    worked inputs; both sides of each bound, and which of two refusals is given
-- Assumes nothing.
use Rattle.std.specs.Prelude.{ℕ, ◌+◌, ◌≤◌, ◌<◌, ◌-◌, ◌≡◌, true, false, ◌↔◌, length, take, drop, get_or, T}
use mathlib.Core.List.{List, ◌∷◌, ◌++◌, flat_map}
use Rattle.std.proofs.Math.Option.{none}
use Rattle.table.specs.Table.{Term, call, Table}
use Rattle.numbers.specs.Number.{bytes_of, value, read_number, list_bytes}
use Rattle.numbers.specs.Number.{Bytes}
use Rattle.table.specs.Rows.{row_count, all_rows}
use Rattle.table.specs.Before.{judge_before, judge_list_before, judge_bytes_before, FirstMost, FirstOver}
use Rattle.table.specs.Tokens.{Tokens, list_tokens, byte_tokens, place_of}
use Rattle.table.specs.Parser.{got}
use Rattle.table.specs.Grammar.{table}
use Rattle.table.specs.Writing.{set_numbers, numbers_of}
use Rattle.table.specs.Context.{Each}
use Rattle.table.specs.Fields.{Fields}
use Rattle.table.specs.References.{first_wrong}
use Rattle.table.specs.Width.{width_with, widest, level_width, reach}
use Rattle.table.specs.Branches.{branches_at, all_branches, branches, body_in}
use Rattle.table.specs.Branches.Capped.{capped, capped_with, all_capped}
use Rattle.table.specs.Equations.{call_count}
use Rattle.table.specs.Examples.{every, number_rows, table_rows, count_rows}
use Rattle.table.specs.Bounds.{alphabet_rows, set_rows, row_rows, definition_rows, parameter_rows, call_rows}
use Rattle.table.specs.Bounds.{width_rows, branch_rows, order_rows}
use Rattle.table.specs.Rules.{Rules}
use Rattle.table.specs.Marks.{table_marks, Shape}
use Rattle.table.specs.Parser.Mark.{numbers, Pass}
use Rattle.table.specs.Refusals.{Refused, few_terms, ManyAt}
use Rattle.table.specs.BytesRefused.{RefusedBytes}
use Rattle.table.specs.Judge.{accepted, declined, judge_list, judge_bytes}
use Rattle.table.specs.Operations.{done, zeros, read_of, write_of, ReadWay, WriteWay}

unfoldable pub NumberReadsBack : Type 0
NumberReadsBack = (v : ℕ) (s : List ℕ) → v ≤ 65535 → read_number (bytes_of v ++ s) ≡ value v (length (bytes_of v)) s

unfoldable pub NumberCanonical : Type 0
NumberCanonical = (s : List ℕ) (v n : ℕ) (rest : List ℕ) → Bytes s → read_number s ≡ value v n rest
    → (s ≡ bytes_of v ++ rest) × (v ≤ 65535) × (n ≡ length (bytes_of v))

unfoldable pub TableReadsBack : Type 0
TableReadsBack = (t : Table) (at : ℕ) (more : List ℕ) → Fields t
    → table (list_tokens at (numbers_of t ++ more)) ≡ got t (list_tokens (at + length (numbers_of t)) more)

unfoldable pub TableCanonical : Type 0
TableCanonical = (t : Table) (at : ℕ) (l : List ℕ) (rest : Tokens) → table (list_tokens at l) ≡ got t rest
    → Fields t × ((more : List ℕ) × (l ≡ numbers_of t ++ more) × (rest ≡ list_tokens (at + length (numbers_of t)) more))

-- "Each is given exactly on its condition": none of 2 to 9 is met
unfoldable pub AcceptedExactly : Type 0
AcceptedExactly = (l ns : List ℕ) (t : Table)
    → (judge_list l ≡ accepted ns t) ↔ ((ns ≡ l) × (l ≡ numbers_of t) × Rules t × (length (list_bytes l) ≤ 16384))

-- the same of bytes: "Each is given exactly on its condition"
unfoldable pub AcceptedBytesExactly : Type 0
AcceptedBytesExactly = (s ns : List ℕ) (t : Table) → Bytes s
    → (judge_bytes s ≡ accepted ns t) ↔ ((s ≡ list_bytes ns) × (ns ≡ numbers_of t) × Rules t × (length s ≤ 16384))

-- 00, demand 1: "a refusal only on its listed condition"; 01, "When the monitor declines": "Each is given exactly on
-- its condition", each row's "Place", and the order; "On a number list, places are list places, 4 is never met"
unfoldable pub RefusedExactly : Type 0
RefusedExactly = (l : List ℕ) (n at : ℕ) → (judge_list l ≡ declined n at) ↔ Refused l n at

-- the same of bytes: "2; 3 to 5 at each number from the left; 6; 7 from the left; 8; 9"
unfoldable pub RefusedBytesExactly : Type 0
RefusedBytesExactly = (s : List ℕ) (n at : ℕ) → Bytes s → (judge_bytes s ≡ declined n at) ↔ RefusedBytes s n at

-- "lowest such term": `few_terms` fails just at the numbers of bodies and of prefixes' followers that are above
unfoldable pub ManyAtTerm : Type 0
ManyAtTerm =
    (t : Table) (n : ℕ) → (get_or (few_terms t) n true ≡ false)
    ↔ ManyAt (branches_at (all_branches t.definitions)) t.definitions n

unfoldable pub FieldsAreMarks : Type 0
FieldsAreMarks = (t : Table) → (Fields t ↔ (Shape t × Pass (table_marks t))) × (numbers (table_marks t) ≡ numbers_of t)

-- 02, W6: "With A above 64, all rows together number at most 3,072, else 5 at the kind of the set that passes it": the
-- sets of a table that keeps the field rules, and then the kind of one set more, whatever stands behind it. Of a number
-- list; on bytes the refusal is the same by RefusedBytesExactly, at that number's first byte
unfoldable pub RowsBounded : Type 0
RowsBounded = (t : Table) (c k : ℕ) (more : List ℕ) → Fields t → 64 < t.alphabet → length t.sets < c → c ≤ 64
    → 3072 < length (all_rows t.sets) + row_count k t.alphabet
    → judge_list (t.alphabet ∷ c ∷ (flat_map set_numbers t.sets ++ (k ∷ more)))
    ≡ declined 5 (2 + length (flat_map set_numbers t.sets))

-- 02, W6: "every old table is read as before": numbers, and bytes, whose first number is at most 64 are judged as 01
-- alone has it, and that refuses every other input with 5 at its first number
unfoldable pub OldTables : Type 0
OldTables =
    ((l : List ℕ) → FirstMost 64 (list_tokens 0 l) → judge_list l ≡ judge_list_before l)
    × ((s : List ℕ) → FirstMost 64 (byte_tokens s) → judge_bytes s ≡ judge_bytes_before s)
    × ((ts : Tokens) → FirstOver 64 ts → judge_before ts ≡ declined 5 (place_of ts 0))

-- 00, demand 2: "An accepted table writes back to its own bytes"
unfoldable pub AcceptedWritesBack : Type 0
AcceptedWritesBack = (s out work : List ℕ) (n : ℕ) → Bytes s → (read_of s out work).answer ≡ done n
    → (out' work' : List ℕ) → length work' ≡ 8192 → length s ≤ length out'
    → write_of (take n (read_of s out work).output) out' work'
    ≡ record { answer = done (length s); output = s ++ drop (length s) out'; work = zeros 8192 }

-- 00, demand 2: "a written one reads back to its numbers"
unfoldable pub WrittenReadsBack : Type 0
WrittenReadsBack = (l out work : List ℕ) (n : ℕ) → (write_of l out work).answer ≡ done n
    → (out' work' : List ℕ) → length out' ≡ 16384 → length work' ≡ 8192
    → read_of (take n (write_of l out work).output) out' work'
    ≡ record { answer = done (length l); output = l ++ zeros (16384 - length l); work = zeros 8192 }

unfoldable pub ReachMost : Type 0
ReachMost =
    (t : Table) → Rules t → (d : ℕ) → d < length t.definitions
    → Each (λ p. reach t p ≤ 8) (body_in t.definitions d)

-- ours: "Each body and each prefix's follower has at most 256" is judged the same by counts that stop at 257
unfoldable pub CappedBranches : Type 0
CappedBranches = (t : Table) (p : Term)
    → (capped_with (branches_at (all_capped t.definitions)) p ≡ capped (branches t p))
    × ((capped (branches t p) ≤ 256) ↔ (branches t p ≤ 256))

-- "the openings of a call are those of the definition called": where 7 is not met, whatever 8 and 9
unfoldable pub BranchesOfCall : Type 0
BranchesOfCall =
    (t : Table) → first_wrong t ≡ none → (d : ℕ) → d < length t.definitions
    → branches t (call d) ≡ branches t (body_in t.definitions d)

-- "call to its own level 1, to a lower level that level's hands. A level's hands are the largest among its bodies":
-- where 7 is not met, whatever 8 and 9
unfoldable pub WidthOfLevel : Type 0
WidthOfLevel =
    (t : Table) → first_wrong t ≡ none → (l : ℕ) → l ≤ 7
    → level_width t l ≡ widest (width_with (call_count t l)) l t.definitions

-- 00, demand 1: "a refusal only on its listed condition"; 01: every lent word after Read and Write
unfoldable pub ReadLeaves : Type 0
ReadLeaves = (s out work : List ℕ) → ReadWay s out work (read_of s out work)

unfoldable pub WriteLeaves : Type 0
WriteLeaves = (l out work : List ℕ) → WriteWay l out work (write_of l out work)

-- "a lent u16 buffer of 16,384": whatever Read says, its output is as long as it was
unfoldable pub ReadFills : Type 0
ReadFills = (s out work : List ℕ) → Bytes s → length (read_of s out work).output ≡ length out

unfoldable pub Examples : Type 0
Examples = T (every number_rows) × T (every table_rows) × T (every count_rows)

-- 01, "Numbers and table": each number of it, on both sides; "When the monitor declines": "Order"
unfoldable pub Bounds : Type 0
Bounds =
    T (every alphabet_rows) × T (every set_rows) × T (every row_rows) × T (every definition_rows)
    × T (every parameter_rows) × T (every call_rows) × T (every width_rows) × T (every branch_rows) × T (every order_rows)
