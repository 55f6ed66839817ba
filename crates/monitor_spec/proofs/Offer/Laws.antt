-- Offer's bit e is set exactly when the residuals after e are not empty (01, "Operations"), bit e of the second word
-- when those after 64 + e are not (02, W6); Offer by what stands before it. Assumes nothing.
use Prim.Native.Nat.{ℕ, zero, suc, ◌+◌, ◌-◌, ◌*◌, ◌/◌, ◌%◌, ◌^◌, ◌≤◌, ◌<◌, min}
use native.Mathlib.Omega.{arith}
use Rattle.std.proofs.Math.Decide.{dec_lt, ℕ_discrete}
use Rattle.std.proofs.Math.Nat.{pow-suc, div-eq_of_lt, add-mul-div_right, add-mul-mod_self_right, div-div-eq-div-mul, pow-succ'}
use Rattle.std.proofs.Common.{mul_assoc, one-mul, div-one, ap₂, sym, subst, ◌∙◌, pow_pos, pow_mono, pow-add}
use Rattle.std.specs.Prelude.{◌≡◌, ◌↔◌, length}
use Rattle.std.proofs.Math.Path.{refl, ap}
use mathlib.Core.List.{List, [], ◌∷◌}
use Rattle.table.specs.Table.{Table}
use Rattle.residuals.specs.Residual.{Residual, after_all}
use Rattle.monitor_spec.specs.Meaning.{Some}
use Rattle.table.specs.Operations.{zeros}
use Rattle.monitor_spec.specs.State.{Monitor}
use Rattle.monitor_spec.specs.Entering.{shut, admits, entrance_on, entering}
use Rattle.monitor_spec.specs.Offer.{refused, offers, bit_of, bits_from, word_bits, word_from, offer_bits}
use Rattle.monitor_spec.specs.Offer.{offering, offer_of}

-- a multiple of a higher power does not change a bit
lower_bit : (x c k e : ℕ) → e < k → (x + c * 2 ^ k) / 2 ^ e % 2 ≡ x / 2 ^ e % 2
lower_bit x c k e h =
    let d : ℕ = k - suc e in
    let i : k ≡ suc d + e = omega arith in
    let p : 2 ^ k ≡ 2 ^ suc d * 2 ^ e = ap (λ (j : ℕ). 2 ^ j) i ∙ pow-add 2 (suc d) e in
    let q : c * 2 ^ k ≡ c * 2 ^ suc d * 2 ^ e = ap (c *◌) p ∙ sym (mul_assoc c (2 ^ suc d) (2 ^ e)) in
    let r : c * 2 ^ suc d ≡ c * 2 ^ d * 2 = ap (c *◌) (pow-suc 2 d) ∙ sym (mul_assoc c (2 ^ d) 2) in
    ap (λ (j : ℕ). (x + j) / 2 ^ e % 2) q
    ∙ ap (λ (j : ℕ). j % 2) (add-mul-div_right x (c * 2 ^ suc d) (pow_pos e))
    ∙ ap (λ (j : ℕ). (x / 2 ^ e + j) % 2) r
    ∙ add-mul-mod_self_right (x / 2 ^ e) (c * 2 ^ d) 2

top_bit : (x k : ℕ) → x < 2 ^ k → (x + 1 * 2 ^ k) / 2 ^ k % 2 ≡ 1
top_bit x k h =
    let e : x / 2 ^ k ≡ 0 = div-eq_of_lt h in
    ap (λ (j : ℕ). j % 2) (add-mul-div_right x 1 (pow_pos k)) ∙ ap (λ (j : ℕ). (j + 1) % 2) e

no_bit : (x k : ℕ) → x < 2 ^ k → x / 2 ^ k % 2 ≡ 0
no_bit x k h = ap (λ (j : ℕ). j % 2) (div-eq_of_lt h)

module _ (t : Table) (rs : List Residual) (b : ℕ) where
  -- the next bit is set or not
  bits_none : (k : ℕ) → after_all t (b + k) rs ≡ [] → bits_from t rs b (suc k) ≡ bits_from t rs b k
  unfolding bits_from bit_of
  bits_none k e = rw e (omega arith)

  bits_some : (k : ℕ) (q : Residual) (qs : List Residual) → after_all t (b + k) rs ≡ q ∷ qs
      → bits_from t rs b (suc k) ≡ bits_from t rs b k + 1 * 2 ^ k
  unfolding bits_from bit_of
  bits_some k q qs e = rw (e, one-mul)

  pub bits_small : (k : ℕ) → bits_from t rs b k < 2 ^ k
  unfolding bits_from
  bits_small zero = omega arith
  bits_small (suc k) = by (after_all t (b + k) rs) refl (bits_small k)
    where
      by : (l : List Residual) → after_all t (b + k) rs ≡ l → bits_from t rs b k < 2 ^ k
          → bits_from t rs b (suc k) < 2 ^ suc k
      by [] e h = let a = bits_none k e in let p = pow-suc 2 k in omega arith
      by (q ∷ qs) e h = let a = bits_some k q qs e in let p = pow-suc 2 k in omega arith

  not_set : {X : Type 0} (j : ℕ) → j ≡ 0 → j ≡ 1 → X
  not_set j e f = absurd (omega arith)

  -- bit e is set exactly when the residuals after b + e are not empty
  offer_bit : (k e : ℕ) → (bits_from t rs b k / 2 ^ e % 2 ≡ 1) ↔ ((e < k) × Some (after_all t (b + e) rs))
  offer_bit zero e = (
    λ h. not_set (bits_from t rs b 0 / 2 ^ e % 2)
        (no_bit (bits_from t rs b 0) e (let a = bits_small 0 in let p = pow_pos e in omega arith)) h,
    λ h. absurd
        (let l = h.0 in omega arith),
  )
  offer_bit (suc k) e = by (dec_lt e k) (dec_lt k e) (after_all t (b + k) rs) refl (offer_bit k e)
    where
      bit : ℕ → ℕ
      bit j = bits_from t rs b j / 2 ^ e % 2

      lower : (l : List Residual) → after_all t (b + k) rs ≡ l → e < k → bit (suc k) ≡ bit k
      lower [] p h = ap (λ (x : ℕ). x / 2 ^ e % 2) (bits_none k p)
      lower (q ∷ qs) p h = ap (λ (x : ℕ). x / 2 ^ e % 2) (bits_some k q qs p) ∙ lower_bit (bits_from t rs b k) 1 k e h

      by : Dec (e < k) → Dec (k < e) → (l : List Residual) → after_all t (b + k) rs ≡ l
          → ((bit k ≡ 1) ↔ ((e < k) × Some (after_all t (b + e) rs))) → (bit (suc k) ≡ 1)
          ↔ ((e < suc k) × Some (after_all t (b + e) rs))
      by (yes h) d l p ih =
          let v = lower l p h in
          (λ x. (omega arith, (ih.0 (sym v ∙ x)).1), λ x. v ∙ ih.1 (h, x.1))
      by (no h) (yes g) l p ih =
          let small = bits_small (suc k) in
          let more : 2 ^ suc k ≤ 2 ^ e = pow_mono g in (
            λ x. not_set (bit (suc k)) (no_bit (bits_from t rs b (suc k)) e (omega arith)) x,
            λ x. absurd
                (let y = x.0 in omega arith),
          )
      by (no h) (no g) [] p ih =
          let i : e ≡ k = omega arith in
          let a = bits_none k p in
          let small = bits_small k in
          let z : bit (suc k) ≡ 0 = ap₂ (λ (x y : ℕ). x / 2 ^ y % 2) a i ∙ no_bit (bits_from t rs b k) k small in
          let r : after_all t (b + e) rs ≡ [] = ap (λ (y : ℕ). after_all t (b + y) rs) i ∙ p in
          (λ x. not_set (bit (suc k)) z x, λ x. absurd (subst Some r x.1))
      by (no h) (no g) (q ∷ qs) p ih =
          let i : e ≡ k = omega arith in
          let a = bits_some k q qs p in
          let small = bits_small k in
          let z : bit (suc k) ≡ 1 = ap₂ (λ (x y : ℕ). x / 2 ^ y % 2) a i ∙ top_bit (bits_from t rs b k) k small in
          (λ x. (omega arith, subst Some (sym (ap (λ (y : ℕ). after_all t (b + y) rs) i ∙ p)) tt), λ x. z)

  -- "bit e is set exactly when the residuals after e .. are not empty", of the events that have a bit in the word
  pub word_bit : (e : ℕ)
      → (word_from t rs b / 2 ^ e % 2 ≡ 1) ↔ ((e < 64) × (b + e < t.alphabet) × Some (after_all t (b + e) rs))
  unfolding word_from word_bits
  word_bit e =
      let f = offer_bit (min 64 (t.alphabet - b)) e in (
        λ h. let (i, x) = f.0 h in (omega arith, omega arith, x),
        λ (i, j, x). f.1 (omega arith, x),
      )

-- ---- a number is its bits

half_bit : (x e : ℕ) → x / 2 / 2 ^ e % 2 ≡ x / 2 ^ suc e % 2
half_bit x e = ap (λ (j : ℕ). j % 2) (div-div-eq-div-mul x 2 (2 ^ e) ∙ ap (x /◌) (sym (pow-succ' 2 e)))

same_odd : (x y : ℕ) → (x % 2 ≡ 1) ↔ (y % 2 ≡ 1) → x % 2 ≡ y % 2
same_odd x y f = by (ℕ_discrete (x % 2) 1)
  where
    by : Dec (x % 2 ≡ 1) → x % 2 ≡ y % 2
    by (yes h) = h ∙ sym (f.0 h)
    by (no h) = by_other (ℕ_discrete (y % 2) 1)
      where
        by_other : Dec (y % 2 ≡ 1) → x % 2 ≡ y % 2
        by_other (yes k) = absurd (h (f.1 k))
        by_other (no k) = omega arith

bits_tell_to : (k x y : ℕ) → x ≤ k → y ≤ k → ((e : ℕ) → (x / 2 ^ e % 2 ≡ 1) ↔ (y / 2 ^ e % 2 ≡ 1)) → x ≡ y
bits_tell_to zero x y i j f = omega arith
bits_tell_to (suc k) x y i j f =
    let g : (e : ℕ) → (x / 2 / 2 ^ e % 2 ≡ 1) ↔ (y / 2 / 2 ^ e % 2 ≡ 1) =
    λ e. rw (half_bit x e, half_bit y e) (f (suc e)) in
    let h : x / 2 ≡ y / 2 = bits_tell_to k (x / 2) (y / 2) (omega arith) (omega arith) g in
    let a : x / 2 ^ 0 ≡ x = div-one x in
    let b : y / 2 ^ 0 ≡ y = div-one y in
    let o : x % 2 ≡ y % 2 = same_odd x y (rw (a, b) at (f 0)) in
    omega arith

pub bits_tell : (x y : ℕ) → ((e : ℕ) → (x / 2 ^ e % 2 ≡ 1) ↔ (y / 2 ^ e % 2 ≡ 1)) → x ≡ y
bits_tell x y f = bits_tell_to (x + y) x y (omega arith) (omega arith) f

-- ---- what stands before it

module _ (l : List ℕ) (m : Monitor) (w : List ℕ) where
  pub offer_shut : (n p : ℕ) (v : List ℕ) → entrance_on l m w ≡ shut n p v → offer_of l m w ≡ offering (refused n p) m v
  unfolding offer_of entering
  offer_shut n p v e =
      ap (entering (λ n p v. offering (refused n p) m v)
      (λ t. offering (offers (offer_bits t m m.state.verdict)) m (zeros (length w)))) e

  pub offer_admits : (t : Table) → entrance_on l m w ≡ admits t
      → offer_of l m w ≡ offering (offers (offer_bits t m m.state.verdict)) m (zeros (length w))
  unfolding offer_of entering
  offer_admits t e =
      ap (entering (λ n p v. offering (refused n p) m v)
      (λ t. offering (offers (offer_bits t m m.state.verdict)) m (zeros (length w)))) e
