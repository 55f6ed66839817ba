-- The word of the events from b on, by how many there are: none, fewer than a word has bits for, or enough.
--     words_both     both words together
-- Assumes nothing.
use Prim.Native.Nat.{ℕ, ◌-◌, ◌≤◌, ◌<◌, min}
use native.Mathlib.Omega.{arith}
use mathlib.Core.Path.{◌≡◌, ap, ap₂, sym, ◌∙◌}
use mathlib.Core.List.{List}
use Rattle.table.specs.Table.{Table}
use Rattle.residuals.specs.Residual.{Residual}
use Rattle.monitor_spec.specs.Offer.{EventBits, bits_from, word_bits, word_from, all_bits}

module _ (t : Table) (rs : List Residual) where
  module _ (b A : ℕ) (a : A ≡ t.alphabet) where
    pub word_none : A ≤ b → 0 ≡ word_from t rs b
    unfolding word_from bits_from word_bits
    word_none h = sym (ap (bits_from t rs b) (let z : min 64 (t.alphabet - b) ≡ 0 = omega arith in z))

    pub word_short : (r : ℕ) → A - b < 64 → r ≡ bits_from t rs b (A - b) → r ≡ word_from t rs b
    unfolding word_from word_bits
    word_short r h e = e ∙ ap (bits_from t rs b) (let z : A - b ≡ min 64 (t.alphabet - b) = omega arith in z)

    pub word_full : (r : ℕ) → 64 ≤ A - b → r ≡ bits_from t rs b 64 → r ≡ word_from t rs b
    unfolding word_from word_bits
    word_full r h e = e ∙ ap (bits_from t rs b) (let z : 64 ≡ min 64 (t.alphabet - b) = omega arith in z)

  pub words_both : (x y : ℕ) → x ≡ word_from t rs 0 → y ≡ word_from t rs 64
      → ◌≡◌ {A = EventBits} (record { first = x; second = y }) (all_bits t rs)
  unfolding all_bits word_bits
  words_both x y e f = ap₂ (λ (u v : ℕ). record { first = u; second = v }) e f
