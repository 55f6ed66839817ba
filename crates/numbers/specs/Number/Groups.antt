-- The laws of `Number.antt` for any count of bytes and any greatest last byte: a written number reads back, and what
-- is read is just what would be written. By induction on how many bytes may follow.
--     groups_short, groups_long       groups by cases;  groups_some, groups_few: its length
--     limit_zero, limit_suc           limit_of by cases;  limit_65536, limit_64_bits: the two that are used
--     scan_written, scan_is_written   the two halves
-- Not here: at most two bytes after the first, `Number/Laws.antt`. Assumes nothing.
use Rattle.std.specs.Prelude.{ℕ, zero, suc, ◌+◌, ◌-◌, ◌*◌, ◌/◌, ◌%◌, ◌^◌, ◌≤◌, ◌<◌, ◌≡◌, refl, List, [], ◌∷◌, ◌++◌, length, ltb, leb, eqb}
use Rattle.std.proofs.Common.{arith, pow-suc, mul_assoc, ap, sym, subst, le-ltb, lt-ltb, le-leb, ne_eqb, ltb-true, ltb-false, leb-true}
use Rattle.std.proofs.Math.Decide.{dec_lt}
use Rattle.std.proofs.Math.Nat.{pow-zero}
use Rattle.std.proofs.lemmas.Bool.{eqb-false}
use Rattle.numbers.specs.Choice.{cond_cases}
use Rattle.numbers.specs.Number.{Bytes, groups, Scan, value, truncated, malformed, carry, later, scan_with}
use Rattle.numbers.specs.Number.{limit_of, Scanned}

-- ---- the equations of groups
pub groups_short : (k v : ℕ) → v < 128 → groups (suc k) v ≡ v ∷ []
unfolding groups
groups_short k v h = simp (lt-ltb _ _ h)

pub groups_long : (k v : ℕ) → 128 ≤ v → groups (suc k) v ≡ (v % 128 + 128) ∷ groups k (v / 128)
unfolding groups
groups_long k v h = simp (le-ltb _ _ h)

pub groups_some : (k v : ℕ) → 1 ≤ length (groups k v)
unfolding groups
groups_some zero v = omega arith
groups_some (suc k) v =
    cond_cases (λ (l : List ℕ). 1 ≤ length l) (ltb v 128) (v ∷ []) _ (λ _. omega arith) (λ _. omega arith)

pub groups_few : (k v : ℕ) → length (groups k v) ≤ suc k
unfolding groups
groups_few zero v = omega arith
groups_few (suc k) v =
    let few = groups_few k (v / 128) in
    cond_cases (λ (l : List ℕ). length l ≤ suc (suc k)) (ltb v 128) (v ∷ []) _ (λ _. omega arith) (λ _. omega arith)

-- ---- the equations of limit_of
pub limit_zero : (top : ℕ) → limit_of zero top ≡ top + 1
unfolding limit_of
limit_zero top = rw pow-zero (omega arith)

pub limit_suc : (k top : ℕ) → limit_of (suc k) top ≡ limit_of k top * 128
unfolding limit_of
limit_suc k top = rw pow-suc (sym (mul_assoc (top + 1) (128 ^ k) 128))

pub limit_some : (k top : ℕ) → 1 ≤ limit_of k top
limit_some zero top = omega (arith, limit_zero top)
limit_some (suc k) top = omega (arith, limit_suc k top, limit_some k top)

pub limit_65536 : limit_of 2 3 ≡ 65536
unfolding limit_of
limit_65536 = refl

pub limit_64_bits : limit_of 9 1 ≡ 2 ^ 64
unfolding limit_of
limit_64_bits = refl

-- ---- what is written reads back
value_path : (v w n : ℕ) (s : List ℕ) → v ≡ w → value v n s ≡ value w n s
value_path v w n s p = cc

-- a group of 128 or more, and what follows it
carry_written : (v n : ℕ) (s : List ℕ) → carry (v % 128 + 128 - 128) (value (v / 128) n s) ≡ value v (suc n) s
unfolding carry
carry_written v n s = value_path _ _ _ _ (omega arith)

later_written : (k top v : ℕ) (s : List ℕ) → 1 ≤ v → v < limit_of k top
    → later k top (groups k v ++ s) ≡ value v (length (groups k v)) s
unfolding later groups
later_written zero top v s p h =
    let nz : (v ≡ 0 → ⊥) = λ e. omega arith in
    let l : v ≤ top = omega (arith, limit_zero top) in
    simp (ne_eqb _ _ nz, le-leb _ _ l)
later_written (suc k) top v s p h =
    by_size (dec_lt v 128) (λ l. later_written k top (v / 128) s (omega arith) (omega (arith, limit_suc k top)))
  where
    by_size : Dec (v < 128)
        → (128 ≤ v → later k top (groups k (v / 128) ++ s) ≡ value (v / 128) (length (groups k (v / 128))) s)
        → later (suc k) top (groups (suc k) v ++ s) ≡ value v (length (groups (suc k) v)) s
    by_size (yes l) rest =
        let nz : (v ≡ 0 → ⊥) = λ e. omega arith in
        rw (groups_short k v l) (simp (ne_eqb _ _ nz, lt-ltb _ _ l))
    by_size (no g) rest =
        let l : 128 ≤ v = omega arith in
        let b : 128 ≤ v % 128 + 128 = omega arith in
        let nz : (v % 128 + 128 ≡ 0 → ⊥) = λ e. omega arith in
        rw (groups_long k v l) (simp (ne_eqb _ _ nz, le-ltb _ _ b, rest l) (carry_written v _ s))

pub scan_written : (more top v : ℕ) (s : List ℕ) → v < limit_of more top
    → scan_with more top (groups more v ++ s) ≡ value v (length (groups more v)) s
unfolding scan_with groups
scan_written zero top v s h = let l : v ≤ top = omega (arith, limit_zero top) in simp (le-leb _ _ l)
scan_written (suc k) top v s h = by_size (dec_lt v 128)
  where
    by_size : Dec (v < 128) → scan_with (suc k) top (groups (suc k) v ++ s) ≡ value v (length (groups (suc k) v)) s
    by_size (yes l) = rw (groups_short k v l) (simp (lt-ltb _ _ l))
    by_size (no g) =
        let l : 128 ≤ v = omega arith in
        let b : 128 ≤ v % 128 + 128 = omega arith in
        let rest = later_written k top (v / 128) s (omega arith) (omega (arith, limit_suc k top)) in
        rw (groups_long k v l) (simp (le-ltb _ _ b, rest) (carry_written v _ s))

-- ---- what is read is what would be written
abbrev AsWritten : ℕ → ℕ → List ℕ → Scan → Type 0
AsWritten more top s (value v n rest) = Scanned more top s v n rest
AsWritten more top s truncated = Unit
AsWritten more top s malformed = Unit

-- a group that follows another is not 0
abbrev AsLater : ℕ → ℕ → List ℕ → Scan → Type 0
AsLater k top s (value v n rest) = (1 ≤ v) × Scanned k top s v n rest
AsLater k top s truncated = Unit
AsLater k top s malformed = Unit

last_scanned : (top b : ℕ) (s : List ℕ) → b ≤ top → Scanned zero top (b ∷ s) b 1 s
unfolding groups
last_scanned top b s l = record { whole = refl; small = omega (arith, limit_zero top); taken = refl }

short_scanned : (k top b : ℕ) (s : List ℕ) → b < 128 → Scanned (suc k) top (b ∷ s) b 1 s
short_scanned k top b s l =
    let e = groups_short k b l in
    record { whole = rw e refl; small = omega (arith, limit_suc k top, limit_some k top); taken = rw e refl }

pub cons_path : (s t : List ℕ) (a b : ℕ) → a ≡ b → s ≡ t → a ∷ s ≡ b ∷ t
cons_path s t a b p q = cc

long_scanned : (k top b : ℕ) (s : List ℕ) (v n : ℕ) (rest : List ℕ) → 128 ≤ b → b < 256 → 1 ≤ v
    → Scanned k top s v n rest → Scanned (suc k) top (b ∷ s) (b - 128 + v * 128) (suc n) rest
long_scanned k top b s v n rest l u p w =
    let low : (b - 128 + v * 128) % 128 + 128 ≡ b = omega arith in
    let high : (b - 128 + v * 128) / 128 ≡ v = omega arith in
    let e = groups_long k (b - 128 + v * 128) (omega arith) in
    record {
      whole = rw (e, high) (cons_path _ _ _ _ (sym low) w.whole);
      small = omega (arith, limit_suc k top, w.small);
      taken = rw (e, high) (ap suc w.taken);
    }

carry_scanned : (k top b : ℕ) (s : List ℕ) (r : Scan) → 128 ≤ b → b < 256
    → AsLater k top s r → AsLater (suc k) top (b ∷ s) (carry (b - 128) r)
unfolding carry
carry_scanned k top b s (value v n rest) l u w =
    let p = w.0 in (omega arith, long_scanned k top b s v n rest l u p w.1)
carry_scanned k top b s truncated l u w = tt
carry_scanned k top b s malformed l u w = tt

later_scanned : (k top : ℕ) (s : List ℕ) → Bytes s → AsLater k top s (later k top s)
unfolding later
later_scanned k top [] w = tt
later_scanned zero top (b ∷ s) w =
    cond_cases (AsLater zero top (b ∷ s)) (eqb b 0) malformed _ (λ _. tt)
    (λ z. cond_cases (AsLater zero top (b ∷ s)) (leb b top) (value b 1 s) malformed
    (λ l. let nz = eqb-false b 0 z in (omega arith, last_scanned top b s (leb-true b top l))) (λ _. tt))
later_scanned (suc k) top (b ∷ s) w =
    cond_cases (AsLater (suc k) top (b ∷ s)) (eqb b 0) malformed _ (λ _. tt)
    (λ z. cond_cases (AsLater (suc k) top (b ∷ s)) (ltb b 128) (value b 1 s) (carry (b - 128) (later k top s))
    (λ l. let nz = eqb-false b 0 z in (omega arith, short_scanned k top b s (ltb-true b 128 l)))
    (λ l. carry_scanned k top b s (later k top s) (ltb-false b 128 l) w.0 (later_scanned k top s w.1)))

weaken : (k top : ℕ) (s : List ℕ) (r : Scan) → AsLater k top s r → AsWritten k top s r
weaken k top s (value v n rest) w = w.1
weaken k top s truncated w = tt
weaken k top s malformed w = tt

as_written : (more top : ℕ) (s : List ℕ) → Bytes s → AsWritten more top s (scan_with more top s)
unfolding scan_with
as_written more top [] w = tt
as_written zero top (a ∷ s) w =
    cond_cases (AsWritten zero top (a ∷ s)) (leb a top) (value a 1 s) malformed
    (λ l. last_scanned top a s (leb-true a top l)) (λ _. tt)
as_written (suc k) top (a ∷ s) w =
    cond_cases (AsWritten (suc k) top (a ∷ s)) (ltb a 128) (value a 1 s) (carry (a - 128) (later k top s))
    (λ l. short_scanned k top a s (ltb-true a 128 l))
    (λ l. weaken (suc k) top (a ∷ s) (carry (a - 128) (later k top s))
    (carry_scanned k top a s (later k top s) (ltb-false a 128 l) w.0 (later_scanned k top s w.1)))

pub scan_is_written : (more top : ℕ) (s : List ℕ) (v n : ℕ) (rest : List ℕ) → Bytes s
    → scan_with more top s ≡ value v n rest → Scanned more top s v n rest
scan_is_written more top s v n rest w e = subst (AsWritten more top s) e (as_written more top s w)
