-- Refusals 2 to 9 in their order (01, "When the monitor declines"): what a list of numbers, or of bytes, is.
--     Judgement     accepted, with its numbers and its table, or refused with number and place
--     judge_bytes   of bytes (Read);  judge_list: of a number list (Write, Open, Feed, Offer)
-- The laws are in `proofs/Judge/Laws.antt`. Assumes nothing.
use Rattle.std.specs.Prelude.{ℕ, cond, List, length, ltb}
use Rattle.std.proofs.Math.Option.{Option, none, some}
use Rattle.table.specs.Table.{Table}
use Rattle.numbers.specs.Number.{list_bytes}
use Rattle.table.specs.Tokens.{Tokens, byte_tokens, list_tokens, trailing, place_of}
use Rattle.table.specs.Parser.{Result, got, refused}
use Rattle.table.specs.Grammar.{table}
use Rattle.table.specs.Writing.{numbers_of}
use Rattle.table.specs.References.{first_wrong}
use Rattle.table.specs.Width.{too_wide}
use Rattle.table.specs.Branches.{too_many_branches}

pub data Judgement : Type 0 where
  accepted : List ℕ → Table → Judgement
  declined : ℕ → ℕ → Judgement

-- "Met when" .. at a place, or else what comes after it in the order
unfoldable pub unless_met : ℕ → Option ℕ → Judgement → Judgement
unless_met n none j = j
unless_met n (some at) j = declined n at

unfoldable pub placed : Tokens → Option ℕ → Option ℕ
placed ts none = none
placed ts (some i) = some (place_of ts i)

-- "6; 7 from the left; 8; 9"
unfoldable pub judge_read : Tokens → Result Table → Judgement
judge_read ts (refused n at) = declined n at
judge_read ts (got t rest) =
    unless_met 6 (trailing rest) (unless_met 7 (placed ts (first_wrong t))
    (unless_met 8 (too_wide t) (unless_met 9 (too_many_branches t) (accepted (numbers_of t) t))))

unfoldable pub judge : Tokens → Judgement
judge ts = judge_read ts (table ts)

-- refusal 2, "long table": "over 16,384 bytes", before all the others on bytes
unfoldable pub judge_bytes : List ℕ → Judgement
judge_bytes s = cond (ltb 16384 (length s)) (declined 2 0) (judge (byte_tokens s))

-- "2 (its bytes would be too many) stands right after 9"
unfoldable pub sized : List ℕ → Judgement → Judgement
sized l (declined n at) = declined n at
sized l (accepted ns t) = cond (ltb 16384 (length (list_bytes l))) (declined 2 0) (accepted ns t)

unfoldable pub judge_list : List ℕ → Judgement
judge_list l = sized l (judge (list_tokens 0 l))
