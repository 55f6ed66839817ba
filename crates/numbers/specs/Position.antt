-- A number at a position of some bytes: what `read` and `write` answer (01, "Numbers and table").
--     read_at       what stands at a position;  found: the answer, from a scan of the bytes there
--     refusal_number 01's number of each answer of `read`
--     end_at         what writing a number at a position answers
--     stored_at      the bytes after that
--     Stores        the promise of `write`
-- The laws for callers are in `Position/Laws.antt`; those by the cases of the code in `Position/Reads.antt` and
-- `Position/Writes.antt`. Assumes nothing.
use Rattle.std.specs.Prelude.{ℕ, ◌+◌, ◌≡◌, ◌<◌, cond, List, ◌++◌, length, get_or, take, drop, leb}
use Rattle.std.specs.declared.option.Option.{Option}
use Rattle.std.specs.declared.option.Option.TheVariants.{Some, None}
use Rattle.std.specs.declared.result.Result.{Result}
use Rattle.std.specs.declared.result.Result.TheVariants.{Ok, Err}
use Rattle.numbers.specs.declared.Reading.{Reading}
use Rattle.numbers.specs.declared.ReadError.{ReadError}
use Rattle.numbers.specs.declared.ReadError.TheVariants.{Truncated, Malformed}
use Rattle.numbers.specs.Number.{bytes_of, Scan, value, truncated, malformed, read_number}
pub mod Laws
pub mod Reads
pub mod Writes

-- 01, "When the monitor declines": "cut short" and "loose number"
unfoldable pub found : ℕ → Scan → Result Reading ReadError
found at (value v n rest) = Ok (record { value = v; next = at + n })
found at truncated = Err Truncated
found at malformed = Err Malformed

-- 01, "When the monitor declines": 3 "cut short", 4 "loose number"; 0 where there is a number
abbrev pub refusal_number : Result Reading ReadError → ℕ
refusal_number (Ok r) = 0
refusal_number (Err Truncated) = 3
refusal_number (Err Malformed) = 4

-- the promise of `byte_at`
pub record ByteAt (s : List ℕ) (at b : ℕ) : Type 0 where
  pub same : b ≡ get_or s at 0
  pub within : at < length s
  pub small : b < 256

unfoldable pub read_at : List ℕ → ℕ → Result Reading ReadError
read_at s at = found at (read_number (drop at s))

-- ours: a number that has no room is not written at all
unfoldable pub end_at : List ℕ → ℕ → ℕ → Option ℕ
end_at l at v = cond (leb (at + length (bytes_of v)) (length l)) (Some (at + length (bytes_of v))) None

-- its bytes stand at the position, and all else is kept
unfoldable pub stored_at : List ℕ → ℕ → ℕ → List ℕ
stored_at l at v =
    cond (leb (at + length (bytes_of v)) (length l))
    (take at l ++ (bytes_of v ++ drop (at + length (bytes_of v)) l)) l

-- the promise of `write`
pub record Stores (l : List ℕ) (at v : ℕ) (r : Option ℕ) (out : List ℕ) : Type 0 where
  pub answer : r ≡ end_at l at v
  pub output : out ≡ stored_at l at v
