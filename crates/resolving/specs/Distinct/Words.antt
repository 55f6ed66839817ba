-- Slots by their words: one law per way out of the functions of `leaves.rt` that look at one slot.
--     same_slice                                a slot and the words from a place on, as slices compare
--     same_none, -on, -off                      the same, word by word
--     key_none, -on, differ_by                  a slot's key; slots of different keys differ
--     window_all, hold_here, hold_kept          a slot as a list; the slots held, one more and those before it
--     hold_first, hold_none                     holding it, or not
-- Not here: the loops over the slots kept, in `Keeping.antt`. Assumes nothing.
use Rattle.std.specs.Prelude.{ℕ, suc, ◌+◌, ◌*◌, ◌%◌, ◌<◌, ◌≤◌, ◌≡◌, Bool, true, false, cond, List, [], ◌∷◌, ◌++◌, length, get_or, take, drop, ◌-◌, nat_eq, refl}
use Rattle.std.specs.Cmp.Lexicographic.{pointwise}
use Rattle.std.specs.List.{between}
use Rattle.std.proofs.Math.Decide.{dec_lt}
use Rattle.std.proofs.Common.{eq-eqb, ne_eqb, arith, ap, sym, ◌∙◌, append_assoc, length-append, drop-cons, get_or-take, take_all, ext_get_or, take_at, drop_at, length-take-le, lt-ltb, le-ltb}
use Rattle.std.proofs.Math.Numerals.{add-one}
use Rattle.std.proofs.Math.ListN.{get_or-append, drop_of_length-le}
use Rattle.slots.specs.Insertion.{stored}
use Rattle.resolving.specs.Distinct.{same_words, window, key_from, held_slots}
use Rattle.resolving.specs.Distinct.Laws.{same_true, same_cons, differ_cons, length_window, at_window}

-- ---- same_at: from word j on

module _ (a l : List ℕ) (p j : ℕ) (x : Bool) (v : same_words (drop j a) (drop j (window p 16 l)) ≡ x)
    (h : p + 16 ≤ length l) (k : length a ≡ 16) where
  size : length (window p 16 l) ≡ 16
  size = length_window p 16 l h

  pub same_none : 16 ≤ j → true ≡ x
  unfolding same_words
  same_none w =
      rw (drop_of_length-le a {i = j} (omega arith), drop_of_length-le (window p 16 l) {i = j} (omega (arith, size)))
      at v

  module _ (w : j < 16) where
    left : drop j a ≡ get_or a j 0 ∷ drop (suc j) a
    left = drop-cons a j 0 (omega arith)

    right : drop j (window p 16 l) ≡ get_or l (p + j) 0 ∷ drop (suc j) (window p 16 l)
    right =
        drop-cons (window p 16 l) j 0 (omega (arith, size))
        ∙ ap (λ (y : ℕ). y ∷ drop (suc j) (window p 16 l)) (at_window p 16 l j w)

    pub same_on : get_or a j 0 ≡ get_or l (p + j) 0 → same_words (drop (j + 1) a) (drop (j + 1) (window p 16 l)) ≡ x
    same_on e = rw add-one (sym (same_cons (get_or l (p + j) 0) _ _) ∙ (rw (left, right, e) at v))

    pub same_off : (get_or a j 0 ≡ get_or l (p + j) 0 → ⊥) → false ≡ x
    same_off e = sym (differ_cons _ _ (drop (suc j) a) (drop (suc j) (window p 16 l)) e) ∙ (rw (left, right) at v)

-- slices are equal where their words are
same_pointwise : (a b : List ℕ) → pointwise nat_eq a b ≡ same_words a b
unfolding same_words
same_pointwise [] [] = refl
same_pointwise [] (y ∷ b) = refl
same_pointwise (x ∷ a) [] = refl
same_pointwise (x ∷ a) (y ∷ b) = by (dec_lt x y) (dec_lt y x) (same_pointwise a b)
  where
    by : Dec (x < y) → Dec (y < x) → pointwise nat_eq a b ≡ same_words a b
        → pointwise nat_eq (x ∷ a) (y ∷ b) ≡ same_words (x ∷ a) (y ∷ b)
    by (yes h) k ih = let n : x ≡ y → ⊥ = λ e. omega arith in rw (ne_eqb x y n) (sym (differ_cons x y a b n))
    by (no h) (yes k) ih = let n : x ≡ y → ⊥ = λ e. omega arith in rw (ne_eqb x y n) (sym (differ_cons x y a b n))
    by (no h) (no k) ih = let e : x ≡ y = omega arith in rw (eq-eqb x y e, same_words) ih

pub same_slice : (a l : List ℕ) (p : ℕ) → pointwise nat_eq a (between p (p + 16) l) ≡ same_words a (window p 16 l)
unfolding window
same_slice a l p =
    let e : p + 16 - p ≡ 16 = omega arith in
    same_pointwise a (between p (p + 16) l) ∙ ap (λ (k : ℕ). same_words a (take k (drop p l))) e

-- ---- key_of: from word j on

module _ (s : List ℕ) (k j x : ℕ) (v : key_from k (drop j s) ≡ x) where
  pub key_none : length s ≤ j → k ≡ x
  unfolding key_from
  key_none h = rw (drop_of_length-le s {i = j} h) at v

  pub key_on : j < length s
      → key_from (k % 288230376151711744 * 31 + get_or s j 0 % 288230376151711744) (drop (j + 1) s) ≡ x
  unfolding key_from
  key_on h = rw add-one (rw (drop-cons s j 0 h, key_from) at v)

-- slots of different keys differ
pub differ_by : (a b : List ℕ) (x : Bool) → same_words a b ≡ x → (key_from 0 a ≡ key_from 0 b → ⊥) → same_words a b ≡ false
differ_by a b true e h = absurd (h (ap (key_from 0) (same_true a b e)))
differ_by a b false e h = e

-- ---- same_kept and hold: slots in a list

pub window_all : (s : List ℕ) → length s ≡ 16 → window 0 16 s ≡ s
unfolding window
window_all s e = take_all 16 s (omega arith)

-- a slot stored: its own words, and those before it
window_here : (l s : List ℕ) (p : ℕ) → p ≤ length l → length s ≡ 16 → window p 16 (stored l p s 16) ≡ s
unfolding window stored
window_here l s p h k =
    let a : take 16 s ≡ s = take_all 16 s (omega arith) in
    rw (
      append_assoc (take p l) (take 16 s) (drop (p + 16) l),
      drop_at (take p l) (take 16 s ++ drop (p + 16) l) p
          (length-take-le p l h),
      a,
      take_at s (drop (p + 16) l) 16 k,
    )

window_before : (l b : List ℕ) (p q : ℕ) → q + 16 ≤ p → p ≤ length l → window q 16 (take p l ++ b) ≡ window q 16 l
window_before l b p q h k =
    let w : length (take p l) ≡ p = length-take-le p l k in
    ext_get_or 0 _ _
    (length_window q 16 (take p l ++ b) (omega (arith, w, length-append (take p l) b))
    ∙ sym (length_window q 16 l (omega arith)))
    (λ j g.
    (let m : j < 16 = omega
    (arith, length_window q 16 (take p l ++ b) (omega (arith, w, length-append (take p l) b))) in
    at_window q 16 (take p l ++ b) j m ∙ get_or-append (take p l) b 0 (q + j) (omega (arith, w))
    ∙ get_or-take p l (q + j) 0 (omega arith) ∙ sym (at_window q 16 l j m)))

window_kept : (l s : List ℕ) (p q : ℕ) → q + 16 ≤ p → p ≤ length l → window q 16 (stored l p s 16) ≡ window q 16 l
unfolding stored
window_kept l s p q h k =
    rw (append_assoc (take p l) (take 16 s) (drop (p + 16) l))
    (window_before l (take 16 s ++ drop (p + 16) l) p q h k)

pub hold_here : (l s : List ℕ) (k : ℕ) → 128 ≤ length l → length s ≡ 16 → k < 8
    → window (k * 16) 16 (held_slots l k s) ≡ s
unfolding held_slots
hold_here l s k h e w = rw (lt-ltb _ _ w, cond) (window_here l s (k * 16) (omega arith) e)

pub hold_kept : (l s : List ℕ) (k j : ℕ) → 128 ≤ length l → j < k → Dec (k < 8)
    → window (j * 16) 16 (held_slots l k s) ≡ window (j * 16) 16 l
unfolding held_slots
hold_kept l s k j h w (yes z) = rw (lt-ltb _ _ z, cond) (window_kept l s (k * 16) (j * 16) (omega arith) (omega arith))
hold_kept l s k j h w (no z) = rw (le-ltb k 8 (omega arith), cond)

module _ (l s : List ℕ) (k : ℕ) where
  pub hold_first : (x : List ℕ) → x ≡ stored l (k * 16) s 16 → k < 8 → x ≡ held_slots l k s
  unfolding held_slots
  hold_first x e w = rw (lt-ltb _ _ w, cond) e

  pub hold_none : 8 ≤ k → l ≡ held_slots l k s
  unfolding held_slots
  hold_none w = rw (le-ltb k 8 w, cond)
