-- A number's bytes (01, "Numbers and table": "A number is written in groups of seven bits").
--     groups, bytes_of       the bytes of a number, with a given count of bytes that may follow the first, and with two
--     scan_with, read_number  the number at the head of some bytes, likewise;  Scan: what stands there
--     value_of               the number that groups of seven bits give
--     byte_count, list_bytes  how many bytes a number takes; the bytes of a list of numbers
--     limit_of              the first number that no longer fits
--     Scanned               what was read is just what would be written
--     InGroups              some bytes are those of a number, by 01's sentence alone
--     Incomplete            bytes that end within a number;  IllWritten: bytes with no number at their head, nor the
--                           beginning of one;  IncompleteWith, IllWrittenWith: of any count of bytes
-- `more` is how many bytes may follow the first, `top` the greatest value of the last byte that may stand: 2 and 3
-- here, 9 and 1 for numbers of 64 bits. The laws for any two are in `Number/Groups.antt`, `Number/Unread.antt` and, of
-- how far a scan goes, `Number/Extent.antt`; those for 2 and 3 in `Number/Laws.antt`; those of `InGroups` in
-- `Number/Coding.antt`. Assumes nothing.
use Rattle.std.specs.Prelude.{ℕ, zero, suc, ◌+◌, ◌-◌, ◌*◌, ◌/◌, ◌%◌, ◌^◌, ◌≤◌, ◌<◌, cond, List, [], ◌∷◌, ◌++◌, ◌≡◌, ◌↔◌, length, get_or, ltb, leb, eqb}
use Rattle.numbers.specs.Every.{All}
pub mod Groups
pub mod Extent
pub mod Unread
pub mod Laws
pub mod Coding

-- a byte is below 256
abbrev pub Bytes : List ℕ → Type 0
Bytes = All (λ b. b < 256)

-- 01, "Numbers and table": "in groups of seven bits, lowest group first; a byte's top bit is set when another group
-- follows. It has the fewest bytes"
unfoldable pub groups : ℕ → ℕ → List ℕ
groups zero v = v ∷ []
groups (suc k) v = cond (ltb v 128) (v ∷ []) ((v % 128 + 128) ∷ groups k (v / 128))

-- "at most three"
unfoldable pub bytes_of : ℕ → List ℕ
bytes_of v = groups 2 v

-- the number that groups of seven bits give, "lowest group first"
unfoldable pub value_of : List ℕ → ℕ
value_of [] = 0
value_of (g ∷ gs) = g + value_of gs * 128

-- value: the number, how many bytes it takes, and the bytes after it.
-- 01, "When the monitor declines": truncated is "cut short", malformed "loose number"
pub data Scan : Type 0 where
  value : ℕ → ℕ → List ℕ → Scan
  truncated malformed : Scan

-- "lowest group first": a low group before what follows it
unfoldable pub carry : ℕ → Scan → Scan
carry low (value v n s) = value (low + v * 128) (suc n) s
carry low truncated = truncated
carry low malformed = malformed

-- "`80 00` and `FF FF 04` are loose, as is a third byte above `03` even at the input's end":
-- a group that follows another, where k more may follow it
unfoldable pub later : ℕ → ℕ → List ℕ → Scan
later k top [] = truncated
later zero top (b ∷ s) = cond (eqb b 0) malformed (cond (leb b top) (value b 1 s) malformed)
later (suc k) top (b ∷ s) = cond (eqb b 0) malformed (cond (ltb b 128) (value b 1 s) (carry (b - 128) (later k top s)))

-- "a byte's top bit is set when another group follows": the first group, which alone may be 0
unfoldable pub scan_with : ℕ → ℕ → List ℕ → Scan
scan_with more top [] = truncated
scan_with zero top (a ∷ s) = cond (leb a top) (value a 1 s) malformed
scan_with (suc k) top (a ∷ s) = cond (ltb a 128) (value a 1 s) (carry (a - 128) (later k top s))

-- "at most three, and is at most 65,535"
unfoldable pub read_number : List ℕ → Scan
read_number s = scan_with 2 3 s

-- "It has the fewest bytes, at most three"
unfoldable pub byte_count : ℕ → ℕ
byte_count v = cond (ltb v 128) 1 (cond (ltb v 16384) 2 3)

-- the promise of `byte_count`
pub record Sized (v r : ℕ) : Type 0 where
  pub count : r ≡ byte_count v
  pub small : r ≤ 3
  pub some : 1 ≤ r

-- ours: numbers that stand one after the other
unfoldable pub list_bytes : List ℕ → List ℕ
list_bytes [] = []
list_bytes (n ∷ ns) = bytes_of n ++ list_bytes ns

-- "is at most 65,535": the first number that no longer fits
unfoldable pub limit_of : ℕ → ℕ → ℕ
limit_of more top = (top + 1) * 128 ^ more

-- the bytes s are those of v, n of them, and rest follows
pub record Scanned (more top : ℕ) (s : List ℕ) (v n : ℕ) (rest : List ℕ) : Type 0 where
  pub whole : s ≡ groups more v ++ rest
  pub small : v < limit_of more top
  pub taken : n ≡ length (groups more v)

-- 01, "Numbers and table": the bytes s of the number v, byte by byte: byte i is `get_or s i 0`
pub record InGroups (v : ℕ) (s : List ℕ) : Type 0 where
  pub bytes : Bytes s
  -- "A number is written in groups of seven bits, lowest group first": the seven bits of v from bit 7 × i on
  pub group : (i : ℕ) → i < length s → get_or s i 0 % 128 ≡ v / 128 ^ i % 128
  -- "a byte's top bit is set when another group follows"
  pub top : (i : ℕ) → i < length s → (128 ≤ get_or s i 0) ↔ (suc i < length s)
  -- the groups are all of v; there is one at least
  pub whole : v < 128 ^ length s
  pub some : 1 ≤ length s
  -- "It has the fewest bytes"
  pub fewest : (n : ℕ) → 1 ≤ n → v < 128 ^ n → length s ≤ n

-- 01, "When the monitor declines": 3, "cut short": the bytes of some number begin with s, and go on
pub record IncompleteWith (more top : ℕ) (s : List ℕ) : Type 0 where
  pub number : ℕ
  pub next : ℕ
  pub rest : List ℕ
  pub small : number < limit_of more top
  pub whole : groups more number ≡ s ++ (next ∷ rest)

-- 4, "loose number": "a number not written as above": s begins with the bytes of no number, and those of no number
-- begin with s
pub record IllWrittenWith (more top : ℕ) (s : List ℕ) : Type 0 where
  pub no_number : (v : ℕ) (rest : List ℕ) → v < limit_of more top → s ≡ groups more v ++ rest → ⊥
  pub no_beginning : IncompleteWith more top s → ⊥

-- "at most three, and is at most 65,535"
abbrev pub Incomplete : List ℕ → Type 0
Incomplete s = IncompleteWith 2 3 s

abbrev pub IllWritten : List ℕ → Type 0
IllWritten s = IllWrittenWith 2 3 s
