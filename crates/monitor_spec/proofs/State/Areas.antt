-- Slots laid into an area are the slots read from it, and zeros follow. Assumes nothing.
use Rattle.std.specs.Prelude.{ℕ, zero, suc, ◌+◌, ◌-◌, ◌*◌, ◌%◌, ◌≤◌, ◌≡◌, refl, Bool, true, false, not, ◌&&◌, length, take, drop, eqb}
use Rattle.std.proofs.Common.{arith, ap, ap₂, sym, ◌∙◌, take_at, drop_at, eq-eqb, ne_eqb}
use mathlib.Core.List.{List, [], ◌∷◌, ◌++◌, append_assoc, flatten}
use Rattle.std.proofs.lemmas.List.{replicate-append-replicate}
use Rattle.numbers.specs.Every.{All}
use Rattle.slots.specs.Canon.{Sixteen}
use Rattle.slots.proofs.Canon.Areas.{length_flatten, length_fill, fill_none}
use Rattle.monitor_spec.specs.State.{slot_count, even, choose, chunks, fill}
use Rattle.table.specs.Operations.{zeros}
use Rattle.monitor_spec.specs.Consistent.{every, all_zero}

pub both_true : {a b : Bool} → a ≡ true → b ≡ true → (a && b) ≡ true
both_true {a} {b} e f = rw (e, f)

-- ---- parity and choice

pub choose_flip : {A : Type 0} (b : Bool) (x y : A) → choose (not b) x y ≡ choose b y x
unfolding choose
choose_flip true x y = refl
choose_flip false x y = refl

pub choose_twice : {A : Type 0} (b : Bool) (x y : A) → choose b (choose b x y) (choose b y x) ≡ x
unfolding choose
choose_twice true x y = refl
choose_twice false x y = refl

pub choose_same : {A : Type 0} (b : Bool) (x : A) → choose b x x ≡ x
unfolding choose
choose_same true x = refl
choose_same false x = refl

pub choose_ap : {A B : Type 0} (f : A → B) (b : Bool) (x y : A) → f (choose b x y) ≡ choose b (f x) (f y)
unfolding choose
choose_ap f true x y = refl
choose_ap f false x y = refl

pub present_even : {A : Type 0} (n : ℕ) (x y : A) → n % 2 ≡ 0 → choose (even n) x y ≡ x
unfolding even choose
present_even n x y h = rw (eq-eqb (n % 2) 0 h)

pub present_odd : {A : Type 0} (n : ℕ) (x y : A) → (n % 2 ≡ 0 → ⊥) → choose (even n) x y ≡ y
unfolding even choose
present_odd n x y h = rw (ne_eqb (n % 2) 0 h)

pub even_suc : (n : ℕ) → even (suc n) ≡ not (even n)
unfolding even
even_suc n = by (native.Mathlib.Decide.ℕ_discrete (n % 2) 0)
  where
    by : Dec (n % 2 ≡ 0) → eqb (suc n % 2) 0 ≡ not (eqb (n % 2) 0)
    by (yes h) = rw (eq-eqb (n % 2) 0 h) (ne_eqb (suc n % 2) 0 (λ k. omega arith))
    by (no h) = rw (ne_eqb (n % 2) 0 h) (eq-eqb (suc n % 2) 0 (omega arith))

-- ---- reading back

pub slot_count_fill : (n : ℕ) (ss : List (List ℕ)) → All Sixteen ss → length ss ≤ n → slot_count (fill n ss) ≡ n
unfolding slot_count
slot_count_fill n ss h l = let a = length_fill n ss h l in omega arith

chunks_flatten : (ss : List (List ℕ)) (rest : List ℕ) → All Sixteen ss → chunks (length ss) (flatten ss ++ rest) ≡ ss
unfolding chunks flatten
chunks_flatten [] rest h = refl
chunks_flatten (s ∷ ss) rest h =
    let e : (s ++ flatten ss) ++ rest ≡ s ++ (flatten ss ++ rest) = append_assoc s (flatten ss) rest in
    let a : take 16 ((s ++ flatten ss) ++ rest) ≡ s = ap (take 16) e ∙ take_at s (flatten ss ++ rest) 16 h.0 in
    let b : drop 16 ((s ++ flatten ss) ++ rest) ≡ flatten ss ++ rest =
    ap (drop 16) e ∙ drop_at s (flatten ss ++ rest) 16 h.0 in
    ap₂ ◌∷◌ a (ap (chunks (length ss)) b ∙ chunks_flatten ss rest h.1)

pub chunks_fill : (n : ℕ) (ss : List (List ℕ)) → All Sixteen ss → chunks (length ss) (fill n ss) ≡ ss
unfolding fill
chunks_fill n ss h = chunks_flatten ss (zeros ((n - length ss) * 16)) h

pub zero_zeros : (n : ℕ) → all_zero (zeros n) ≡ true
unfolding all_zero every
zero_zeros zero = refl
zero_zeros (suc n) = zero_zeros n

pub zero_after : (n : ℕ) (ss : List (List ℕ)) → All Sixteen ss → all_zero (drop (length ss * 16) (fill n ss)) ≡ true
unfolding fill
zero_after n ss h =
    ap all_zero (drop_at (flatten ss) (zeros ((n - length ss) * 16)) (length ss * 16) (length_flatten ss h))
    ∙ zero_zeros ((n - length ss) * 16)

pub zero_fill : (n : ℕ) → all_zero (fill n []) ≡ true
unfolding fill flatten
zero_fill n = zero_zeros ((n - 0) * 16)

-- the words in use are zeroed, and the others were zero
pub cleared_fill : (n : ℕ) (ss : List (List ℕ)) → All Sixteen ss → length ss ≤ n
    → zeros (length ss * 16) ++ drop (length ss * 16) (fill n ss) ≡ fill n []
unfolding fill
cleared_fill n ss h room =
    let k : ℕ = length ss in
    let rest : ℕ = (n - k) * 16 in
    let i : k * 16 + rest ≡ n * 16 = omega arith in
    ap (zeros (k * 16) ++◌) (drop_at (flatten ss) (zeros rest) (k * 16) (length_flatten ss h))
    ∙ replicate-append-replicate (k * 16) rest 0 ∙ ap zeros i ∙ sym (fill_none n)
