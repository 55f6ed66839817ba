-- A turn of `bit`: the residuals from the i-th on. Assumes nothing.
use Prim.Native.Nat.{ℕ, suc, ◌+◌, ◌*◌, ◌≤◌, ◌<◌}
use native.Mathlib.Omega.{arith}
use native.Mathlib.Numerals.{add-one}
use mathlib.Core.Path.{◌≡◌, refl, ap, sym, ◌∙◌}
use mathlib.Core.Bool.{true, false}
use mathlib.Core.List.{List, [], ◌∷◌, ◌++◌, flat_map}
use lib.ListN.{length, get_or, drop, drop_of_length-le}
use lib.Seq.{drop-cons}
use lib.Dec.{ltb}
use borrow.Author.Tests.{ltb-true, ltb-false}
use Rattle.table.specs.Table.{Table}
use Rattle.table.specs.Memory.{no_memory}
use Rattle.table.specs.Rules.{Rules}
use Rattle.tree_ways.specs.declared.takes.Tree.{Tree}
use Rattle.tree_ways.specs.Takes.{Takes}
use Rattle.residuals.specs.Residual.{Residual, leaf, after, after_all}
use Rattle.monitor_spec.specs.Offer.{bit_of}
use Rattle.monitor_spec.specs.Holds.{AreaHolds, held_in}
use Rattle.step_laws.specs.HeldAreas.{length_held, holds_takes}

none_first : (l m : List Residual) → ltb 0 (length l) ≡ false → bit_of 0 m ≡ bit_of 0 (l ++ m)
none_first [] m h = refl
none_first (x ∷ l) m h = absurd (let k = ltb-false 0 (length (x ∷ l)) h in omega arith)

some_first : (l m : List Residual) → ltb 0 (length l) ≡ true → 1 ≡ bit_of 0 (l ++ m)
unfolding bit_of
some_first [] m h = absurd (let k = ltb-true 0 (length {A = Residual} []) h in omega arith)
some_first (x ∷ l) m h = refl

after_first : (t : Table) (e : ℕ) (r : Residual) (rs : List Residual)
    → after_all t e (r ∷ rs) ≡ after t e r ++ after_all t e rs
unfolding after_all flat_map
after_first t e r rs = refl

-- the bit of the residuals from the i-th on
abbrev pub bit_from : Table → ℕ → List Residual → ℕ → ℕ
bit_from t e rs i = bit_of 0 (after_all t e (drop i rs))

module _ (t : Table) (e : ℕ) (rs : List Residual) (i : ℕ) where
  abbrev this : List Residual
  this = after t e (get_or rs i (leaf 0 no_memory))

  bit_at : i < length rs → bit_from t e rs i ≡ bit_of 0 (this ++ after_all t e (drop (i + 1) rs))
  bit_at h =
      ap (λ (l : List Residual). bit_of 0 (after_all t e l)) (drop-cons rs i (leaf 0 no_memory) h)
      ∙ ap (bit_of 0) (after_first t e (get_or rs i (leaf 0 no_memory)) (drop (suc i) rs))
      ∙ ap (λ (k : ℕ). bit_of 0 (this ++ after_all t e (drop k rs))) (sym (add-one i))

  bit_none : i < length rs → ltb 0 (length this) ≡ false → bit_from t e rs (i + 1) ≡ bit_from t e rs i
  bit_none h q = none_first this (after_all t e (drop (i + 1) rs)) q ∙ sym (bit_at h)

  bit_some : i < length rs → ltb 0 (length this) ≡ true → 1 ≡ bit_from t e rs i
  bit_some h q = some_first this (after_all t e (drop (i + 1) rs)) q ∙ sym (bit_at h)

  bit_end : length rs ≤ i → 0 ≡ bit_from t e rs i
  unfolding bit_of after_all flat_map
  bit_end h = sym (ap (λ (l : List Residual). bit_of 0 (after_all t e l)) (drop_of_length-le rs {i = i} h))

-- the residuals that an area holds
module _ {t : Table} (rules : Rules t) {a : List ℕ} {c : ℕ} (holds : AreaHolds t a c) (e : ℕ) (i : ℕ) where
  module _ (h : i < c) (r : Tree) (takes : Takes t e a (i * 16 + 1) r) where
    pub bit_next : r.moves ≡ false → bit_from t e (held_in t a c) (i + 1) ≡ bit_from t e (held_in t a c) i
    bit_next q =
        bit_none t e (held_in t a c) i (omega (arith, length_held rules holds))
        (sym (holds_takes rules holds i h e r takes) ∙ q)

    pub bit_found : r.moves ≡ true → 1 ≡ bit_from t e (held_in t a c) i
    bit_found q =
        bit_some t e (held_in t a c) i (omega (arith, length_held rules holds))
        (sym (holds_takes rules holds i h e r takes) ∙ q)

  pub bit_done : c ≤ i → 0 ≡ bit_from t e (held_in t a c) i
  bit_done h = bit_end t e (held_in t a c) i (omega (arith, length_held rules holds))
