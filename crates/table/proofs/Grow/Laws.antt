-- A grown list: its length, its values, and that they do not turn on how long it is.
--     length_grow, get_d_grow, grow_stable
-- Assumes nothing.
use Prim.Native.Nat.{ℕ, zero, suc, ◌<◌, ◌+◌}
use native.Mathlib.Omega.{arith}
use Rattle.std.proofs.Math.Decide.{dec_lt}
use Rattle.std.proofs.Math.Numerals.{add-one}
use Rattle.std.specs.Prelude.{◌≡◌, length}
use Rattle.std.proofs.Math.Path.{refl, ap}
use Rattle.std.proofs.Common.{sym, ◌∙◌}
use mathlib.Core.List.{List, [], ◌∷◌, ◌++◌}
use Rattle.std.proofs.Math.ListN.{get_or, length-append, get_or-append}
use Rattle.std.proofs.lemmas.List.{get_or_at}
use Rattle.table.specs.Grow.{grow}

module _ {A : Type 0} where
  pub length_grow : (f : List A → A) (n : ℕ) → length (grow f n) ≡ n
  unfolding grow
  length_grow f zero = refl
  length_grow f (suc n) = length-append (grow f n) _ ∙ ap (λ (k : ℕ). k + 1) (length_grow f n) ∙ add-one n

  -- the i-th value is made from the i before it, however long the list is
  pub get_d_grow : (f : List A → A) (z : A) (n i : ℕ) → i < n → get_or (grow f n) i z ≡ f (grow f i)
  unfolding grow
  get_d_grow f z zero i h = absurd (omega arith)
  get_d_grow f z (suc n) i h = go (λ l. get_d_grow f z n i l) (dec_lt i n)
    where
      go : (i < n → get_or (grow f n) i z ≡ f (grow f i)) → Dec (i < n)
          → get_or (grow f n ++ (f (grow f n) ∷ [])) i z ≡ f (grow f i)
      go ih (yes l) = get_or-append (grow f n) _ z i (omega (arith, length_grow f n)) ∙ ih l
      go ih (no l) =
          let e : i ≡ n = omega arith in
          rw e (get_or_at (grow f n) (f (grow f n)) [] z n (length_grow f n))

  pub grow_stable : (f : List A → A) (z : A) (n m i : ℕ) → i < n → i < m → get_or (grow f n) i z ≡ get_or (grow f m) i z
  grow_stable f z n m i h k = get_d_grow f z n i h ∙ sym (get_d_grow f z m i k)
