-- The laws of 01's own numbers, of three bytes at most: those of `Number/Groups.antt` at 2 and 3.
--     bytes1, bytes2, bytes3          bytes_of by cases;  bytes_some, bytes_few, length_bytes_of: its length
--     count1, count2, count3          byte_count by cases
--     read_written, read_is_written   a written number reads back; what is read is just what would be written
-- Not here: numbers at a position, `Position/Laws.antt`. Assumes nothing.
use Rattle.std.specs.Prelude.{ℕ, ◌+◌, ◌*◌, ◌/◌, ◌%◌, ◌≤◌, ◌<◌, ◌≡◌, refl, List, [], ◌∷◌, ◌++◌, length}
use native.Mathlib.Omega.{arith}
use Rattle.std.proofs.Math.Decide.{dec_lt}
use Rattle.std.proofs.Common.{ap, ◌∙◌, le-ltb, lt-ltb}
use Rattle.numbers.specs.Every.{All}
use Rattle.numbers.specs.Number.{Bytes, groups, bytes_of, byte_count, value, read_number, value_of}
use Rattle.numbers.specs.Number.Groups.{groups_short, groups_long, groups_some, groups_few}
use Rattle.numbers.specs.Number.Groups.{limit_65536, scan_written, scan_is_written}

-- ---- bytes_of, by cases
pub bytes1 : (v : ℕ) → v < 128 → bytes_of v ≡ v ∷ []
unfolding bytes_of
bytes1 v h = groups_short 1 v h

pub bytes2 : (v : ℕ) → 128 ≤ v → v < 16384 → bytes_of v ≡ (v % 128 + 128) ∷ (v / 128) ∷ []
unfolding bytes_of
bytes2 v h k =
    let l : v / 128 < 128 = omega arith in
    groups_long 1 v h ∙ ap (λ (t : List ℕ). (v % 128 + 128) ∷ t) (groups_short 0 (v / 128) l)

pub bytes3 : (v : ℕ) → 16384 ≤ v → bytes_of v ≡ (v % 128 + 128) ∷ (v / 128 % 128 + 128) ∷ (v / 16384) ∷ []
unfolding bytes_of groups
bytes3 v k =
    let h : 128 ≤ v / 128 = omega arith in
    let e : v / 128 / 128 ≡ v / 16384 = omega arith in
    groups_long 1 v (omega arith)
    ∙ ap (λ (t : List ℕ). (v % 128 + 128) ∷ t) (groups_long 0 (v / 128) h)
    ∙ ap (λ (c : ℕ). (v % 128 + 128) ∷ (v / 128 % 128 + 128) ∷ c ∷ []) e

-- ---- byte_count, by cases, and the length of bytes_of
pub count1 : (v : ℕ) → v < 128 → byte_count v ≡ 1
unfolding byte_count
count1 v h = simp (lt-ltb _ _ h)

pub count2 : (v : ℕ) → 128 ≤ v → v < 16384 → byte_count v ≡ 2
unfolding byte_count
count2 v h k = simp (le-ltb _ _ h, lt-ltb _ _ k)

pub count3 : (v : ℕ) → 16384 ≤ v → byte_count v ≡ 3
unfolding byte_count
count3 v k = let h : 128 ≤ v = omega arith in simp (le-ltb _ _ h, le-ltb _ _ k)

pub length_bytes_of : (v : ℕ) → length (bytes_of v) ≡ byte_count v
length_bytes_of v = by_size (dec_lt v 128) (dec_lt v 16384)
  where
    by_size : Dec (v < 128) → Dec (v < 16384) → length (bytes_of v) ≡ byte_count v
    by_size (yes a) _ = rw (bytes1 v a, count1 v a) refl
    by_size (no a) (yes b) = let a' : 128 ≤ v = omega arith in rw (bytes2 v a' b, count2 v a' b) refl
    by_size (no a) (no b) = let b' : 16384 ≤ v = omega arith in rw (bytes3 v b', count3 v b') refl

pub bytes_some : (v : ℕ) → 1 ≤ length (bytes_of v)
unfolding bytes_of
bytes_some v = groups_some 2 v

pub bytes_few : (v : ℕ) → length (bytes_of v) ≤ 3
unfolding bytes_of
bytes_few v = groups_few 2 v

-- ---- what is written reads back
pub read_written : (v : ℕ) (s : List ℕ) → v ≤ 65535 → read_number (bytes_of v ++ s) ≡ value v (length (bytes_of v)) s
unfolding read_number bytes_of
read_written v s h = scan_written 2 3 v s (omega (arith, limit_65536))

-- ---- what is read is what would be written
pub record WrittenFirst (s : List ℕ) (v n : ℕ) (rest : List ℕ) : Type 0 where
  pub whole : s ≡ bytes_of v ++ rest
  pub small : v ≤ 65535
  pub taken : n ≡ length (bytes_of v)

pub read_is_written : (s : List ℕ) (v n : ℕ) (rest : List ℕ) → Bytes s
    → read_number s ≡ value v n rest → WrittenFirst s v n rest
unfolding read_number bytes_of
read_is_written s v n rest w e =
    let h = scan_is_written 2 3 s v n rest w e in
    record { whole = h.whole; small = omega (arith, limit_65536, h.small); taken = h.taken }

-- ---- the fewest bytes

under : (v n : ℕ) → byte_count v ≤ n → length (bytes_of v) ≤ n
under v n h = omega (arith, length_bytes_of v)

pub fewest : (gs : List ℕ) → 1 ≤ length gs → All (λ g. g < 128) gs → length (bytes_of (value_of gs)) ≤ length gs
unfolding value_of
fewest [] h a = absurd (omega arith)
fewest (g ∷ []) h a =
    let small = a.0 in
    let e = count1 (g + 0 * 128) (omega arith) in
    under (g + 0 * 128) 1 (omega arith)
fewest (g ∷ k ∷ []) h a =
    let v = g + (k + 0 * 128) * 128 in
    let s1 = a.0 in
    let s2 = a.1.0 in
    by v (omega arith) (dec_lt v 128)
  where
    by : (v : ℕ) → v < 16384 → Dec (v < 128) → length (bytes_of v) ≤ 2
    by v l (yes q) = let e = count1 v q in under v 2 (omega arith)
    by v l (no q) = let b : 128 ≤ v = omega arith in let e = count2 v b l in under v 2 (omega arith)
fewest (g ∷ k ∷ j ∷ gs) h a = let e = bytes_few (value_of (g ∷ k ∷ j ∷ gs)) in unfold value_of in omega arith
