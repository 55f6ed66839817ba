-- The i-th of a list of residuals.
--     nth_left, nth_right    of two lists, one after the other
--     nth_pairs              of the pairs of two lists
--     factor_positive        what is below a product has positive factors
-- Assumes nothing.
use Rattle.std.specs.Prelude.{ℕ, zero, suc, ◌+◌, ◌-◌, ◌*◌, ◌/◌, ◌%◌, ◌<◌, ◌≤◌, ◌≡◌, refl, length, get_or}
use Rattle.std.proofs.Common.{arith, mod-eq_of_lt, suc-mul, mul-zero, add-one, ap, ◌∙◌, get_or-append-add}
use Rattle.std.proofs.Math.Decide.{dec_lt}
use Rattle.std.proofs.Math.Nat.{div-eq_of_lt, div-eq-sub-div, mod-eq-sub-mod}
use mathlib.Core.List.{List, [], ◌∷◌, ◌++◌, map, flat_map}
use Rattle.std.proofs.lemmas.List.{length-map}
use Rattle.std.proofs.Math.ListN.{get_or-append}
use Rattle.table.specs.Memory.{Memory, no_memory}
use Rattle.residuals.specs.Residual.{Residual, leaf, pair, pairs}
use Rattle.resolving.specs.ResidualWords.{nth}

pub nth_left : (l r : List Residual) (i : ℕ) → i < length l → nth (l ++ r) i ≡ nth l i
unfolding nth
nth_left l r i h = get_or-append l r _ i h

pub nth_right : (l r : List Residual) (i : ℕ) → length l ≤ i → nth (l ++ r) i ≡ nth r (i - length l)
unfolding nth
nth_right l r i h =
    let e : i ≡ length l + (i - length l) = omega arith in
    ap (λ (k : ℕ). get_or (l ++ r) k (leaf 0 no_memory)) e ∙ get_or-append-add l r (i - length l) (leaf 0 no_memory)

nth_map : (f : Residual → Residual) (l : List Residual) (i : ℕ) → i < length l → nth (map f l) i ≡ f (nth l i)
unfolding nth
nth_map f [] i h = absurd (omega arith)
nth_map f (x ∷ l) zero h = refl
nth_map f (x ∷ l) (suc i) h = nth_map f l i (omega arith)

nth_cons : (l : Residual) (ls : List Residual) (k : ℕ) → nth (l ∷ ls) (k + 1) ≡ nth ls k
unfolding nth
nth_cons l ls k = rw (add-one k)

pub factor_positive : (a b i : ℕ) → i < a * b → 0 < b
factor_positive a zero i h = absurd (let e : a * 0 ≡ 0 = mul-zero a in omega arith)
factor_positive a (suc b) i h = omega arith

pub nth_pairs : (n : ℕ) (m : Memory) (ls rs : List Residual) (i : ℕ) → i < length ls * length rs
    → nth (pairs n m ls rs) i
    ≡ pair n m (nth ls (i / length rs)) (nth rs (i % length rs))
unfolding pairs flat_map nth
nth_pairs n m [] rs i h = absurd (omega arith)
nth_pairs n m (l ∷ ls) rs i h =
    elim (dec_lt i (length rs)) [
      | yes z ↦
          nth_left (map (pair n m l) rs) (pairs n m ls rs) i (rw length-map z)
          ∙ nth_map (pair n m l) rs i z ∙ rw (div-eq_of_lt z, mod-eq_of_lt z, nth)
      | no z ↦
          let pos : 0 < length rs = factor_positive _ (length rs) i h in
          let w : length rs ≤ i = omega arith in
          let k : i - length rs < length ls * length rs = omega (arith, suc-mul (length ls) (length rs)) in
          nth_right (map (pair n m l) rs) (pairs n m ls rs) i (rw length-map w)
          ∙ rw length-map (nth_pairs n m ls rs (i - length rs) k
          ∙ rw (div-eq-sub-div pos w, mod-eq-sub-mod w, nth_cons))
    ]
