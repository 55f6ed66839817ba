-- How many bytes more the front of an input needs (ours; docs/DECISIONS.md, "A line for each event, as it arrives"): so
-- that the front has the length number and the whole table, and no event.
--     missing_of, wanted_of   of a table by its length; of a front
--     Fronts                  a front that got no more than it needed
--     CutShort                an input that ends within its front
-- The laws are in `Wanted/`: `Laws`, `Scans`. Assumes nothing.
use Rattle.std.specs.Prelude.{ℕ, ◌+◌, ◌-◌, ◌≤◌, ◌≡◌, cond, List, [], length, ltb}
use Rattle.numbers.specs.Number.{Scan, value, truncated, malformed, read_number}
use Rattle.line_spec.specs.Line.{parts, wrong, head_of}
pub mod Scans
pub mod Laws

-- of a table of v bytes, where k are there: "a length over 16,384 is 2", whatever follows
unfoldable pub missing_of : ℕ → ℕ → ℕ
missing_of v k = cond (ltb 16384 v) 0 (v - k)

-- "The length number uses 3 and 4 with place 0": 3, "cut short", asks for one byte more; 4 stands whatever follows
unfoldable pub wanted_by : Scan → ℕ
wanted_by (value v n rest) = missing_of v (length rest)
wanted_by truncated = 1
wanted_by malformed = 0

unfoldable pub wanted_of : List ℕ → ℕ
wanted_of s = wanted_by (read_number s)

-- with what it needs it has 16,387 bytes at most: a length number of three and 16,384 of the table; and no event
pub record Fronts (s : List ℕ) : Type 0 where
  pub room : length s + wanted_of s ≤ 16387
  pub bare : (bs es : List ℕ) → head_of s ≡ parts bs es → es ≡ []

-- "3 and 4 with place 0", "a table cut short is 3": refused as cut short
pub record CutShort (s : List ℕ) : Type 0 where
  pub place : ℕ
  pub head : head_of s ≡ wrong 3 place
