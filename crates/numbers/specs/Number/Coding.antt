-- A number's bytes are those that 01's sentence calls for, and no others (`InGroups`), for any count of bytes that may
-- follow the first. By induction on that count, and on the bytes.
--     groups_in        the bytes of a number are in groups
--     groups_unique    two lists of bytes of one number are the same;  in_groups: so they are `groups`
-- Assumes nothing.
use Rattle.std.specs.Prelude.{ℕ, zero, suc, ◌+◌, ◌/◌, ◌%◌, ◌^◌, ◌≤◌, ◌<◌, ◌≡◌, refl, ◌↔◌, List, [], ◌∷◌, length, get_or}
use Rattle.std.proofs.Common.{arith, pow-suc, div-one, mul_comm, ap, sym, subst, ◌∙◌}
use Rattle.std.proofs.Math.Decide.{dec_lt}
use Rattle.std.proofs.Math.Nat.{pow-zero, div-div-eq-div-mul}
use Rattle.numbers.specs.Number.{groups, InGroups}
use Rattle.numbers.specs.Number.Groups.{groups_short, groups_long, cons_path}

-- ---- the groups of v / 128 are those of v without the first
shifted : (v j : ℕ) → v / 128 / 128 ^ j ≡ v / 128 ^ suc j
shifted v j =
    div-div-eq-div-mul v 128 (128 ^ j)
    ∙ ap (λ (x : ℕ). v / x) (mul_comm 128 (128 ^ j) ∙ sym (pow-suc 128 j))

first : (v : ℕ) → v / 128 ^ 0 % 128 ≡ v % 128
first v = ap (λ (x : ℕ). x % 128) (ap (λ (x : ℕ). v / x) (pow-zero 128) ∙ div-one v)

below_up : (v n : ℕ) → v / 128 < 128 ^ n → v < 128 ^ suc n
below_up v n h = let e = pow-suc 128 n in omega arith

below_down : (v n : ℕ) → v < 128 ^ suc n → v / 128 < 128 ^ n
below_down v n h = let e = pow-suc 128 n in omega arith

-- ---- one byte
one_in : (v : ℕ) → v < 128 → InGroups v (v ∷ [])
one_in v h =
    record {
      bytes = (omega arith, tt);
      group = group;
      top = λ i b. ((λ t. absurd (no_top i b t)), λ t. absurd (omega arith));
      whole = below_up v 0 (let e = pow-zero 128 in omega arith);
      some = omega arith;
      fewest = λ n l w. l;
    }
  where
    group : (i : ℕ) → i < 1 → get_or (v ∷ []) i 0 % 128 ≡ v / 128 ^ i % 128
    group zero b = sym (first v)
    group (suc i) b = absurd (omega arith)

    no_top : (i : ℕ) → i < 1 → 128 ≤ get_or (v ∷ []) i 0 → ⊥
    no_top zero b t = omega arith
    no_top (suc i) b t = omega arith

-- ---- a byte more
more_in : (v : ℕ) (s : List ℕ) → 128 ≤ v → InGroups (v / 128) s → InGroups v ((v % 128 + 128) ∷ s)
more_in v s l h =
    record {
      bytes = (omega arith, h.bytes);
      group = group;
      top = top;
      whole = below_up v (length s) h.whole;
      some = omega arith;
      fewest = fewest;
    }
  where
    group : (i : ℕ) → i < suc (length s) → get_or ((v % 128 + 128) ∷ s) i 0 % 128 ≡ v / 128 ^ i % 128
    group zero b = let e = first v in omega arith
    group (suc i) b = h.group i (omega arith) ∙ ap (λ (x : ℕ). x % 128) (shifted v i)

    top : (i : ℕ) → i < suc (length s) → (128 ≤ get_or ((v % 128 + 128) ∷ s) i 0) ↔ (suc i < suc (length s))
    top zero b = ((λ t. let e = h.some in omega arith), λ t. omega arith)
    top (suc i) b =
        let same = h.top i (omega arith) in
        ((λ t. let e = same.0 t in omega arith), λ t. same.1 (omega arith))

    fewest : (n : ℕ) → 1 ≤ n → v < 128 ^ n → suc (length s) ≤ n
    fewest zero p w = absurd (omega arith)
    fewest (suc zero) p w = let e = pow-suc 128 0 in let z = pow-zero 128 in absurd (omega arith)
    fewest (suc (suc n)) p w =
        let e = h.fewest (suc n) (omega arith) (below_down v (suc n) w) in omega arith

pub groups_in : (k v : ℕ) → v < 128 ^ suc k → InGroups v (groups k v)
unfolding groups
groups_in zero v h = one_in v (let e = pow-suc 128 0 in let z = pow-zero 128 in omega arith)
groups_in (suc k) v h = by_size (dec_lt v 128) (groups_in k (v / 128) (below_down v (suc k) h))
  where
    by_size : Dec (v < 128) → InGroups (v / 128) (groups k (v / 128)) → InGroups v (groups (suc k) v)
    by_size (yes l) rest = subst (InGroups v) (sym (groups_short k v l)) (one_in v l)
    by_size (no g) rest =
        let l : 128 ≤ v = omega arith in
        subst (InGroups v) (sym (groups_long k v l)) (more_in v (groups k (v / 128)) l rest)

-- ---- no others

-- without the first byte
tail_in : (v a b : ℕ) (s : List ℕ) → InGroups v (a ∷ b ∷ s) → InGroups (v / 128) (b ∷ s)
tail_in v a b s h =
    record {
      bytes = h.bytes.1;
      group = λ i l. h.group (suc i) (omega arith) ∙ ap (λ (x : ℕ). x % 128) (sym (shifted v i));
      top = λ i l. let same = h.top (suc i) (omega arith) in
          ((λ t. let e = same.0 t in omega arith), λ t. same.1 (omega arith));
      whole = below_down v (suc (length s)) h.whole;
      some = omega arith;
      fewest = λ n p w. let e = h.fewest (suc n) (omega arith) (below_up v n w) in omega arith;
    }

-- the top bit of a byte that is alone
alone : (v a : ℕ) → InGroups v (a ∷ []) → a < 128
alone v a h = by (dec_lt a 128)
  where
    by : Dec (a < 128) → a < 128
    by (yes l) = l
    by (no g) = let e = (h.top 0 (omega arith)).0 (omega arith) in absurd (omega arith)

-- a number has no bytes of both counts
not_both : (v a b c : ℕ) (t : List ℕ) → InGroups v (a ∷ []) → InGroups v (b ∷ c ∷ t) → ⊥
not_both v a b c t h k = let e = k.fewest 1 (omega arith) h.whole in omega arith

pub groups_unique : (v : ℕ) (s t : List ℕ) → InGroups v s → InGroups v t → s ≡ t
groups_unique v [] t h k = let e = h.some in absurd (omega arith)
groups_unique v (a ∷ s) [] h k = let e = k.some in absurd (omega arith)
groups_unique v (a ∷ []) (b ∷ []) h k =
    let p = h.group 0 (omega arith) in
    let q = k.group 0 (omega arith) in
    let x = alone v a h in
    let y = alone v b k in
    cons_path [] [] a b (omega arith) refl
groups_unique v (a ∷ []) (b ∷ c ∷ t) h k = absurd (not_both v a b c t h k)
groups_unique v (a ∷ b ∷ s) (c ∷ []) h k = absurd (not_both v c a b s k h)
groups_unique v (a ∷ b ∷ s) (c ∷ d ∷ t) h k =
    let p = h.group 0 (omega arith) in
    let q = k.group 0 (omega arith) in
    let x : 128 ≤ a = (h.top 0 (omega arith)).1 (omega arith) in
    let y : 128 ≤ c = (k.top 0 (omega arith)).1 (omega arith) in
    let u = h.bytes.0 in
    let w = k.bytes.0 in
    cons_path (b ∷ s) (d ∷ t) a c (omega arith)
    (groups_unique (v / 128) (b ∷ s) (d ∷ t) (tail_in v a b s h) (tail_in v c d t k))

pub in_groups : (k v : ℕ) (s : List ℕ) → v < 128 ^ suc k → InGroups v s → s ≡ groups k v
in_groups k v s l h = groups_unique v s (groups k v) h (groups_in k v l)
