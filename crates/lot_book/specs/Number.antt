-- The numbers of a lot book (02, W2: "in numbers of seven-bit groups (here up to ten bytes)"): those of crate
-- `numbers`, of nine bytes after the first at most, the last of ten at most 1.
--     scan_number    the number at the head of some bytes
--     number_at       what stands at a position;  groups_at: the groups that follow another
--     number_found         the answer of `read`, from a scan of the bytes at a position: the number and the position after
--     Grouped        the promise of `later`
-- The laws are in `proofs/NumberLaws.antt`. Assumes nothing.
use Rattle.std.specs.Prelude.{ℕ, ◌+◌, ◌<◌, ◌≡◌, List, drop, Option, Some, None}
use Rattle.numbers.specs.Number.{Scan, value, truncated, malformed, later, scan_with, limit_of}

-- "up to ten bytes", "or one above 2^64-1"
abbrev pub scan_number : List ℕ → Scan
scan_number s = scan_with 9 1 s

-- "cut short, a malformed number": both are one refusal
unfoldable pub number_found : ℕ → Scan → Option (ℕ × ℕ)
number_found at (value v n rest) = Some (v, at + n)
number_found at truncated = None
number_found at malformed = None

unfoldable pub number_at : List ℕ → ℕ → Option (ℕ × ℕ)
number_at s at = number_found at (scan_number (drop at s))

-- ours: the groups at a position that follow another, where k more may follow the first of them
unfoldable pub groups_at : ℕ → List ℕ → ℕ → Option (ℕ × ℕ)
groups_at k s at = number_found at (later k 1 (drop at s))

abbrev pub Small : ℕ → Option (ℕ × ℕ) → Type 0
Small k (Some x) = x.0 < limit_of k 1
Small k None = Unit

-- the promise of `later`
pub record Grouped (k : ℕ) (s : List ℕ) (at : ℕ) (r : Option (ℕ × ℕ)) : Type 0 where
  pub answer : r ≡ groups_at k s at
  pub small : Small k r
