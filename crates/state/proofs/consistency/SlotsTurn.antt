-- A turn of `slots_fit` and of `slots_ascend`: the slots from the i-th on. Assumes nothing.
use Prim.Native.Nat.{ℕ, zero, suc, ◌+◌, ◌-◌, ◌*◌, ◌≤◌, ◌<◌}
use native.Mathlib.Omega.{arith}
use mathlib.Core.Path.{◌≡◌, refl, ap, ap₂, sym, ◌∙◌}
use mathlib.Core.Bool.{Bool, true, false, ◌&&◌}
use mathlib.Core.List.{List, [], ◌∷◌}
use lib.ListN.{length, take, drop, length-take, length-drop}
use lib.Seq.{drop-drop}
use Rattle.slots.specs.Canon.{compare_words}
use Rattle.monitor_spec.specs.Valid.{is_below}
use Rattle.monitor_spec.specs.State.{chunks}
use Rattle.monitor_spec.specs.Consistent.{every, ascends_from, ascends}

-- a part of an area, from p up to q
abbrev pub part : ℕ → ℕ → List ℕ → List ℕ
part p q a = take (q - p) (drop p a)

pub part_length : (p q : ℕ) (a : List ℕ) → q ≡ p + 16 → q ≤ length a → length (part p q a) ≡ 16
part_length p q a e h = omega (arith, length-take (q - p) (drop p a), length-drop p a)

-- the slots from the i-th on, of n
abbrev pub slots_from : List ℕ → ℕ → ℕ → List (List ℕ)
slots_from a n i = chunks (n - i) (drop (i * 16) a)

pub slots_first : (a : List ℕ) (n : ℕ) → slots_from a n 0 ≡ chunks n a
slots_first a n = let e : n - 0 ≡ n = omega arith in ap (λ (k : ℕ). chunks k a) e

module _ (a : List ℕ) (n i : ℕ) where
  slots_at : i < n → slots_from a n i ≡ part (i * 16) (i * 16 + 16) a ∷ slots_from a n (i + 1)
  unfolding chunks
  slots_at h =
      let e : n - i ≡ suc (n - (i + 1)) = omega arith in
      let f : 16 ≡ i * 16 + 16 - i * 16 = omega arith in
      let g : i * 16 + 16 ≡ (i + 1) * 16 = omega arith in
      ap (λ (k : ℕ). chunks k (drop (i * 16) a)) e
      ∙ ap₂ (λ (k : ℕ) (x : List ℕ). take k (drop (i * 16) a) ∷ chunks (n - (i + 1)) x) f
      (drop-drop 16 (i * 16) a ∙ ap (λ (k : ℕ). drop k a) g)

  slots_none : n ≤ i → slots_from a n i ≡ []
  unfolding chunks
  slots_none h = let e : n - i ≡ 0 = omega arith in ap (λ (k : ℕ). chunks k (drop (i * 16) a)) e

  -- ---- valid slots

  module _ (f : List ℕ → Bool) where
    every_at : i < n
        → every f (slots_from a n i) ≡ (f (part (i * 16) (i * 16 + 16) a) && every f (slots_from a n (i + 1)))
    unfolding every
    every_at h = ap (every f) (slots_at h)

    pub every_next : i < n → f (part (i * 16) (i * 16 + 16) a) ≡ true
        → every f (slots_from a n (i + 1)) ≡ every f (slots_from a n i)
    every_next h e = sym (every_at h ∙ ap (◌&& every f (slots_from a n (i + 1))) e)

    pub every_not : i < n → f (part (i * 16) (i * 16 + 16) a) ≡ false → false ≡ every f (slots_from a n i)
    every_not h e = sym (every_at h ∙ ap (◌&& every f (slots_from a n (i + 1))) e)

    pub every_done : n ≤ i → true ≡ every f (slots_from a n i)
    unfolding every
    every_done h = sym (ap (every f) (slots_none h))

-- ---- ascending slots

-- the i-th slot is below the next
abbrev pub is_next : List ℕ → ℕ → Bool
is_next a i = is_below (compare_words (part (i * 16) (i * 16 + 16) a) (part (i * 16 + 16) (i * 16 + 16 + 16) a))

ascends_two : (x y : List ℕ) (l : List (List ℕ))
    → ascends (x ∷ y ∷ l) ≡ (is_below (compare_words x y) && ascends (y ∷ l))
unfolding ascends ascends_from
ascends_two x y l = refl

few_ascend : (k : ℕ) (b : List ℕ) → k ≤ 1 → true ≡ ascends (chunks k b)
unfolding chunks ascends ascends_from
few_ascend zero b h = refl
few_ascend (suc zero) b h = refl
few_ascend (suc (suc k)) b h = absurd (omega arith)

module _ (a : List ℕ) (n i : ℕ) where
  next_part : part ((i + 1) * 16) ((i + 1) * 16 + 16) a ≡ part (i * 16 + 16) (i * 16 + 16 + 16) a
  next_part = let e : (i + 1) * 16 ≡ i * 16 + 16 = omega arith in ap (λ (k : ℕ). part k (k + 16) a) e

  ascends_at : i + 1 < n → ascends (slots_from a n i) ≡ (is_next a i && ascends (slots_from a n (i + 1)))
  ascends_at h =
      let x : List ℕ = part (i * 16) (i * 16 + 16) a in
      let y : List ℕ = part (i * 16 + 16) (i * 16 + 16 + 16) a in
      let l : List (List ℕ) = slots_from a n (i + 1 + 1) in
      let e : slots_from a n (i + 1) ≡ y ∷ l = slots_at a n (i + 1) h ∙ ap (◌∷ l) next_part in
      ap ascends (slots_at a n i (omega arith) ∙ ap (x ∷◌) e) ∙ ascends_two x y l
      ∙ ap (λ (z : List (List ℕ)). is_next a i && ascends z) (sym e)

  pub ascends_next : i + 1 < n → is_next a i ≡ true → ascends (slots_from a n (i + 1)) ≡ ascends (slots_from a n i)
  ascends_next h e = sym (ascends_at h ∙ ap (◌&& ascends (slots_from a n (i + 1))) e)

  pub ascends_not : i + 1 < n → is_next a i ≡ false → false ≡ ascends (slots_from a n i)
  ascends_not h e = sym (ascends_at h ∙ ap (◌&& ascends (slots_from a n (i + 1))) e)

  pub ascends_done : n ≤ i + 1 → true ≡ ascends (slots_from a n i)
  ascends_done h = few_ascend (n - i) (drop (i * 16) a) (omega arith)

-- of a slot and the one before it
module _ (a : List ℕ) (n i : ℕ) (h : 1 ≤ i) where
  abbrev pub is_after : Bool
  is_after = is_below (compare_words (part (i * 16 - 16) (i * 16) a) (part (i * 16) (i * 16 + 16) a))

  after_next : is_next a (i - 1) ≡ is_after
  after_next =
      let e : (i - 1) * 16 ≡ i * 16 - 16 = omega arith in
      let f : (i - 1) * 16 + 16 ≡ i * 16 = omega arith in
      ap₂ (λ (p q : ℕ). is_below (compare_words (part p q a) (part q (q + 16) a))) e f

  pub after_goes : i < n → is_after ≡ true → ascends (slots_from a n (i + 1 - 1)) ≡ ascends (slots_from a n (i - 1))
  after_goes k e =
      let q : i + 1 - 1 ≡ i - 1 + 1 = omega arith in
      ap (λ (j : ℕ). ascends (slots_from a n j)) q
      ∙ ascends_next a n (i - 1) (omega arith) (after_next ∙ e)

  pub after_not : i < n → is_after ≡ false → false ≡ ascends (slots_from a n (i - 1))
  after_not k e = ascends_not a n (i - 1) (omega arith) (after_next ∙ e)

  pub after_done : n ≤ i → true ≡ ascends (slots_from a n (i - 1))
  after_done k = ascends_done a n (i - 1) (omega arith)
