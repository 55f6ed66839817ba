-- Branches counted up to 257 only: the same recursion, capped at each step, gives the capped branches, and the test
-- against 256 is the same. So code may count with small numbers.
--     capped_few, capped_term   the test against 256; a term of a table
-- Assumes nothing.
use Rattle.std.specs.Prelude.{ℕ, zero, suc, ◌+◌, ◌*◌, ◌≤◌, min, ◌≡◌, refl, ◌↔◌, List, [], ◌∷◌, ◌++◌, map, length}
use native.Mathlib.Omega.{arith}
use Rattle.std.proofs.Math.Decide.{dec_le}
use Rattle.std.proofs.Common.{mul-le-mul, zero-mul, mul-zero, sym, ap, ◌∙◌}
use Rattle.std.proofs.lemmas.List.{map-append, length-map}
use Rattle.table.specs.Grow.{grow}
use Rattle.table.specs.Table.{Term, stop, fail, prefix, choice, par, call, Definition, Table}
use Rattle.table.specs.Branches.{branches_with, branches_at, body_in, next_branches, all_branches, branches}
use Rattle.table.specs.Branches.Capped.{capped, capped_with, next_capped, all_capped}

pub capped_few : (n : ℕ) → (capped n ≤ 256) ↔ (n ≤ 256)
unfolding capped
capped_few n = (λ h. omega arith, λ h. omega arith)

pub capped_add : (a b : ℕ) → capped (a + b) ≡ capped (capped a + capped b)
unfolding capped
capped_add a b = omega arith

-- a product with a factor of at least 257: 0, or at least 257
large_left : (a b : ℕ) → 257 ≤ a → min 257 (a * b) ≡ min 257 (257 * min 257 b)
large_left a zero h = rw (mul-zero a) refl
large_left a (suc b) h =
    let s : 1 ≤ suc b = omega arith in
    let m : 257 * 1 ≤ a * suc b = mul-le-mul {n₁ = 257} {m₁ = 1} {n₂ = a} {m₂ = suc b} h s in
    omega arith

large_right : (a b : ℕ) → 257 ≤ b → min 257 (a * b) ≡ min 257 (min 257 a * 257)
large_right zero b h = rw (zero-mul b) refl
large_right (suc a) b h =
    let s : 1 ≤ suc a = omega arith in
    let m : 1 * 257 ≤ suc a * b = mul-le-mul {n₁ = 1} {m₁ = 257} {n₂ = suc a} {m₂ = b} s h in
    omega arith

pub capped_mul : (a b : ℕ) → capped (a * b) ≡ capped (capped a * capped b)
unfolding capped
capped_mul a b = go (dec_le 257 a) (dec_le 257 b)
  where
    go : Dec (257 ≤ a) → Dec (257 ≤ b) → min 257 (a * b) ≡ min 257 (min 257 a * min 257 b)
    go (yes h) _ = let e : min 257 a ≡ 257 = omega arith in rw e (large_left a b h)
    go (no h) (yes k) = let e : min 257 b ≡ 257 = omega arith in rw e (large_right a b k)
    go (no h) (no k) =
        let e : min 257 a ≡ a = omega arith in
        let f : min 257 b ≡ b = omega arith in
        rw (e, f) refl

pub capped_branches : (calls cut : ℕ → ℕ) → ((d : ℕ) → cut d ≡ capped (calls d)) → (p : Term)
    → capped_with cut p ≡ capped (branches_with calls p)
unfolding capped_with branches_with
capped_branches calls cut f stop = unfold capped in omega arith
capped_branches calls cut f fail = unfold capped in omega arith
capped_branches calls cut f (prefix r p) = unfold capped in omega arith
capped_branches calls cut f (choice p q) =
    ap (λ (n : ℕ). capped n) (rw (capped_branches calls cut f p, capped_branches calls cut f q) refl)
    ∙ sym (capped_add (branches_with calls p) (branches_with calls q))
capped_branches calls cut f (par r p q) =
    ap (λ (n : ℕ). capped n) (rw (capped_branches calls cut f p, capped_branches calls cut f q) refl)
    ∙ sym (capped_mul (branches_with calls p) (branches_with calls q))
capped_branches calls cut f (call d) = f d

capped_at : (l : List ℕ) (d : ℕ) → branches_at (map capped l) d ≡ capped (branches_at l d)
unfolding branches_at
capped_at [] d = unfold capped in omega arith
capped_at (x ∷ l) zero = refl
capped_at (x ∷ l) (suc d) = unfold branches_at in capped_at l d

capped_next : (ds : List Definition) (l : List ℕ) → next_capped ds (map capped l) ≡ capped (next_branches ds l)
unfolding next_capped next_branches
capped_next ds l =
    rw (length-map l capped)
    (capped_branches (branches_at l) (branches_at (map capped l)) (capped_at l) (body_in ds (length l)))

pub capped_grow : (ds : List Definition) (n : ℕ) → grow (next_capped ds) n ≡ map capped (grow (next_branches ds) n)
unfolding grow
capped_grow ds zero = refl
capped_grow ds (suc n) =
    let g = grow (next_branches ds) n in
    ap (λ (l : List ℕ). l ++ (next_capped ds l ∷ [])) (capped_grow ds n)
    ∙ ap (λ (x : ℕ). map capped g ++ (x ∷ [])) (capped_next ds g)
    ∙ sym (map-append capped g (next_branches ds g ∷ []))

pub capped_all : (ds : List Definition) → all_capped ds ≡ map capped (all_branches ds)
unfolding all_capped all_branches
capped_all ds = capped_grow ds (length ds)

pub capped_term : (t : Table) (p : Term)
    → capped_with (branches_at (all_capped t.definitions)) p ≡ capped (branches t p)
unfolding branches
capped_term t p =
    let all = all_branches t.definitions in
    capped_branches (branches_at all) (branches_at (all_capped t.definitions))
    (λ d. ap (λ (l : List ℕ). branches_at l d) (capped_all t.definitions) ∙ capped_at all d) p
