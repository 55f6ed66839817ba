-- The events of two words are those whose bits are set, ascending.
--     from_set, from_clear     one event more, by its bit
--     from_exact               of one word
--     in_exact                 of both;  in_ascending: their order
-- Assumes nothing.
use Rattle.std.specs.Prelude.{ℕ, zero, suc, ◌+◌, ◌-◌, ◌/◌, ◌%◌, ◌^◌, ◌≤◌, ◌<◌, ◌≡◌, true, List, [], ◌∷◌, ◌++◌, ◌⊎◌, ◌↔◌}
use Rattle.std.proofs.Common.{arith, div-one, ap, sym, subst, ◌∙◌, inl, inr, ⊎_elim, eq-eqb, ne_eqb}
use Rattle.std.proofs.Math.Nat.{div-div-eq-div-mul, pow-succ'}
use Rattle.std.proofs.Math.Decide.{dec_lt, ℕ_discrete}
use Rattle.numbers.specs.Every.{All, all_imp, all_append}
use Rattle.table.specs.Fields.{Ascending}
use Rattle.table.specs.Member.{elem}
use Rattle.monitor_spec.specs.Offer.{EventBits, word_bits}
use Rattle.trace_spec.specs.TraceLine.{events_from, events_in}

-- ---- lists with an event

elem_here : (e x : ℕ) (xs : List ℕ) → e ≡ x → elem e (x ∷ xs) ≡ true
unfolding elem
elem_here e x xs h = rw (eq-eqb e x h, elem)

elem_later : (e x : ℕ) (xs : List ℕ) → (e ≡ x → ⊥) → elem e (x ∷ xs) ≡ elem e xs
unfolding elem
elem_later e x xs h = rw (ne_eqb e x h, elem)

-- of two lists joined
elem_left : (e : ℕ) (l r : List ℕ) → elem e l ≡ true → elem e (l ++ r) ≡ true
unfolding elem
elem_left e [] r h = absurd (let z : ◌≡◌ {A = ℕ} 0 1 = cc in omega arith)
elem_left e (x ∷ l) r h = by (ℕ_discrete e x) (elem_left e l r)
  where
    by : Dec (e ≡ x) → (elem e l ≡ true → elem e (l ++ r) ≡ true) → elem e (x ∷ (l ++ r)) ≡ true
    by (yes i) ih = elem_here e x (l ++ r) i
    by (no i) ih = elem_later e x (l ++ r) i ∙ ih (sym (elem_later e x l i) ∙ h)

elem_right : (e : ℕ) (l r : List ℕ) → elem e r ≡ true → elem e (l ++ r) ≡ true
elem_right e [] r h = h
elem_right e (x ∷ l) r h = by (ℕ_discrete e x) (elem_right e l r h)
  where
    by : Dec (e ≡ x) → elem e (l ++ r) ≡ true → elem e (x ∷ (l ++ r)) ≡ true
    by (yes i) ih = elem_here e x (l ++ r) i
    by (no i) ih = elem_later e x (l ++ r) i ∙ ih

elem_cases : (e : ℕ) (l r : List ℕ) → elem e (l ++ r) ≡ true → (elem e l ≡ true) ⊎ (elem e r ≡ true)
elem_cases e [] r h = inr h
elem_cases e (x ∷ l) r h = by (ℕ_discrete e x) (elem_cases e l r)
  where
    by : Dec (e ≡ x) → (elem e (l ++ r) ≡ true → (elem e l ≡ true) ⊎ (elem e r ≡ true))
        → (elem e (x ∷ l) ≡ true) ⊎ (elem e r ≡ true)
    by (yes i) ih = inl (elem_here e x l i)
    by (no i) ih =
        ⊎_elim (λ a. inl (elem_later e x l i ∙ a)) (λ a. inr a) (ih (sym (elem_later e x (l ++ r) i) ∙ h))

-- ---- one word

pub from_set : (w b k : ℕ) → w % 2 ≡ 1 → events_from w b (suc k) ≡ b ∷ events_from (w / 2) (suc b) k
unfolding events_from
from_set w b k h = rw (eq-eqb (w % 2) 1 h, events_from)

pub from_clear : (w b k : ℕ) → (w % 2 ≡ 1 → ⊥) → events_from w b (suc k) ≡ events_from (w / 2) (suc b) k
unfolding events_from
from_clear w b k h = rw (ne_eqb (w % 2) 1 h, events_from)

from_range : (w b k : ℕ) → All (λ f. (b ≤ f) × (f < b + k)) (events_from w b k)
unfolding events_from
from_range w b zero = tt
from_range w b (suc k) = by (ℕ_discrete (w % 2) 1) (from_range (w / 2) (suc b) k)
  where
    by : Dec (w % 2 ≡ 1) → All (λ f. (suc b ≤ f) × (f < suc b + k)) (events_from (w / 2) (suc b) k)
        → All (λ f. (b ≤ f) × (f < b + suc k)) (events_from w b (suc k))
    by d ih = of d (all_imp (λ f. (suc b ≤ f) × (f < suc b + k)) (λ f. (b ≤ f) × (f < b + suc k))
        (λ f (i, j). (omega arith, omega arith)) (events_from (w / 2) (suc b) k) ih)
      where
        of : Dec (w % 2 ≡ 1) → All (λ f. (b ≤ f) × (f < b + suc k)) (events_from (w / 2) (suc b) k)
            → All (λ f. (b ≤ f) × (f < b + suc k)) (events_from w b (suc k))
        of (yes h) a =
            subst (All (λ f. (b ≤ f) × (f < b + suc k))) (sym (from_set w b k h)) ((omega arith, omega arith), a)
        of (no h) a = subst (All (λ f. (b ≤ f) × (f < b + suc k))) (sym (from_clear w b k h)) a

from_ascending : (w b k : ℕ) → Ascending (events_from w b k)
unfolding events_from
from_ascending w b zero = tt
from_ascending w b (suc k) = by (ℕ_discrete (w % 2) 1) (from_ascending (w / 2) (suc b) k)
  where
    by : Dec (w % 2 ≡ 1) → Ascending (events_from (w / 2) (suc b) k) → Ascending (events_from w b (suc k))
    by (yes h) ih =
        subst Ascending (sym (from_set w b k h)) (
          all_imp (λ f. (suc b ≤ f) × (f < suc b + k)) (λ f. b < f) (λ f (i, j). omega arith)
              (events_from (w / 2) (suc b) k) (from_range (w / 2) (suc b) k),
          ih,
        )
    by (no h) ih = subst Ascending (sym (from_clear w b k h)) ih

-- bit e of a word
half_bit : (w e : ℕ) → w / 2 / 2 ^ e % 2 ≡ w / 2 ^ suc e % 2
half_bit w e = ap (λ (j : ℕ). j % 2) (div-div-eq-div-mul w 2 (2 ^ e) ∙ ap (w /◌) (sym (pow-succ' 2 e)))

low_bit : (w : ℕ) → w / 2 ^ 0 % 2 ≡ w % 2
low_bit w = ap (λ (j : ℕ). j % 2) (div-one w)

next_bit : (w b e : ℕ) → b < e → w / 2 / 2 ^ (e - suc b) % 2 ≡ w / 2 ^ (e - b) % 2
next_bit w b e h =
    let i : suc (e - suc b) ≡ e - b = omega arith in
    half_bit w (e - suc b) ∙ ap (λ (j : ℕ). w / 2 ^ j % 2) i

first_bit : (w b e : ℕ) → e ≡ b → w / 2 ^ (e - b) % 2 ≡ w % 2
first_bit w b e h =
    let i : e - b ≡ 0 = omega arith in
    ap (λ (j : ℕ). w / 2 ^ j % 2) i ∙ low_bit w

abbrev Within : ℕ → ℕ → ℕ → ℕ → Type 0
Within w b k e = (b ≤ e) × (e < b + k) × (w / 2 ^ (e - b) % 2 ≡ 1)

pub from_exact : (w b k e : ℕ) → (elem e (events_from w b k) ≡ true) ↔ Within w b k e
unfolding elem events_from
from_exact w b zero e =
    (λ h. absurd (let z : ◌≡◌ {A = ℕ} 0 1 = cc in omega arith), λ h. absurd (let (i, j, l) = h in omega arith))
from_exact w b (suc k) e = by (ℕ_discrete (w % 2) 1) (ℕ_discrete e b) (from_exact (w / 2) (suc b) k e)
  where
    of : {l : List ℕ} → events_from w b (suc k) ≡ l → (elem e l ≡ true) ↔ Within w b (suc k) e
        → (elem e (events_from w b (suc k)) ≡ true) ↔ Within w b (suc k) e
    of p f = (λ h. f.0 (ap (elem e) (sym p) ∙ h), λ h. ap (elem e) p ∙ f.1 h)

    -- those from b + 1 on, where e is not b
    shift : (e ≡ b → ⊥) → (elem e (events_from (w / 2) (suc b) k) ≡ true) ↔ Within (w / 2) (suc b) k e
        → (elem e (events_from (w / 2) (suc b) k) ≡ true) ↔ Within w b (suc k) e
    shift n f = (
      λ h. let (i, j, l) = f.0 h in (omega arith, omega arith, sym (next_bit w b e (omega arith)) ∙ l),
      λ (i, j, l).
          let m : b < e = strict (dec_lt b e) i in
          f.1 (omega arith, omega arith, next_bit w b e m ∙ l),
    )
      where
        strict : Dec (b < e) → b ≤ e → b < e
        strict (yes a) i = a
        strict (no a) i = absurd (n (omega arith))

    by : Dec (w % 2 ≡ 1) → Dec (e ≡ b)
        → (elem e (events_from (w / 2) (suc b) k) ≡ true) ↔ Within (w / 2) (suc b) k e
        → (elem e (events_from w b (suc k)) ≡ true) ↔ Within w b (suc k) e
    by (yes h) (yes i) ih =
        of (from_set w b k h)
        (λ _. (omega arith, omega arith, first_bit w b e i ∙ h), λ _. elem_here e b (events_from (w / 2) (suc b) k) i)
    by (yes h) (no i) ih =
        let f = shift i ih in
        let p = elem_later e b (events_from (w / 2) (suc b) k) i in
        of (from_set w b k h) (λ a. f.0 (sym p ∙ a), λ a. p ∙ f.1 a)
    by (no h) (yes i) ih =
        of (from_clear w b k h) (
          λ a. absurd (let (u, v, x) = ih.0 a in omega arith),
          λ (u, v, x). absurd (h (sym (first_bit w b e i) ∙ x)),
        )
    by (no h) (no i) ih = of (from_clear w b k h) (shift i ih)

-- ---- both words

append_ascending : (k : ℕ) (l r : List ℕ) → Ascending l → Ascending r → All (λ f. f < k) l → All (λ f. k ≤ f) r
    → Ascending (l ++ r)
append_ascending k [] r a b i j = b
append_ascending k (x ∷ l) r a b i j =
    let h = i.0 in (
      all_append (λ f. x < f) l r a.0 (all_imp (λ f. k ≤ f) (λ f. x < f) (λ f g. omega arith) r j),
      append_ascending k l r a.1 b i.1 j,
    )

pub in_ascending : (bits : EventBits) → Ascending (events_in bits)
unfolding events_in word_bits
in_ascending bits =
    let l = events_from bits.first 0 64 in
    let r = events_from bits.second 64 64 in
    append_ascending 64 l r (from_ascending bits.first 0 64) (from_ascending bits.second 64 64)
    (all_imp (λ f. (0 ≤ f) × (f < 0 + 64)) (λ f. f < 64) (λ f (i, j). omega arith) l (from_range bits.first 0 64))
    (all_imp (λ f. (64 ≤ f) × (f < 64 + 64)) (λ f. 64 ≤ f) (λ f (i, j). omega arith) r
    (from_range bits.second 64 64))

low_from : (w e : ℕ) → w / 2 ^ (e - 0) % 2 ≡ w / 2 ^ e % 2
low_from w e = let z : e - 0 ≡ e = omega arith in ap (λ (j : ℕ). w / 2 ^ j % 2) z

-- bit e of the two words
pub in_exact : (bits : EventBits) (e : ℕ) → (elem e (events_in bits) ≡ true)
    ↔ (((e < 64) × (bits.first / 2 ^ e % 2 ≡ 1)) ⊎ ((64 ≤ e) × (e < 128) × (bits.second / 2 ^ (e - 64) % 2 ≡ 1)))
unfolding events_in word_bits
in_exact bits e =
    let l = events_from bits.first 0 64 in
    let r = events_from bits.second 64 64 in
    let f = from_exact bits.first 0 64 e in
    let g = from_exact bits.second 64 64 e in
    let z = low_from bits.first e in (
      λ h. ⊎_elim (λ a. let (i, j, k) = f.0 a in inl (omega arith, sym z ∙ k))
          (λ a. let (i, j, k) = g.0 a in inr (i, omega arith, k)) (elem_cases e l r h),
      λ h. ⊎_elim (λ (i, k). elem_left e l r (f.1 (omega arith, omega arith, z ∙ k)))
          (λ (i, j, k). elem_right e l r (g.1 (i, omega arith, k))) h,
    )
