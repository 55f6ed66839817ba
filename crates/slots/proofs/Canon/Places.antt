-- The place of a slot among those that an area holds is its place in the list of them.
--     order_is                   the order of words is that of the slots
--     place_among                the place by the list
--     Split, split_place         what a place says of the list
--     held_same                  a slot that is held
--     place_in_lem               among ascending slots the last may be looked at first and the search be narrowed
-- Assumes nothing.
use Rattle.std.specs.Prelude.{ℕ, zero, suc, ◌+◌, ◌*◌, ◌≤◌, ◌<◌, ◌≡◌, refl, true, false, length, get_or, ltb, Some, None}
use Rattle.std.proofs.Common.{arith, ap, sym, ◌∙◌, length-append, get_or-append-add}
use mathlib.Core.List.{List, [], ◌∷◌, ◌++◌, append_assoc, flatten}
use Rattle.std.proofs.Math.ListN.{get_or-append}
use Rattle.numbers.specs.Every.{All}
use Rattle.slots.specs.Canon.{Order, below, same, above, compare_words, insert_sorted, AllSixteen}
use Rattle.slots.proofs.Canon.Comparison.{Less, above_less, less_trans, less_above}
use Rattle.slots.proofs.Canon.Canonical.{Ascending, insert_below, insert_same, insert_above}
use Rattle.slots.specs.Insertion.{Place, order, seek, place_by, is_above, place_in}
use Rattle.slots.proofs.Insertion.Narrow.{Ascends, above_of, place_seek}

-- ---- the search in an area

abbrev step_order : ℕ → ℕ → Order → Order
step_order y x o = elim (ltb y x) [ true ↦ below | false ↦ elim (ltb x y) [ true ↦ above | false ↦ o ] ]

-- the order of the words s, which the new slot has from q on, and y, which the area has from p on
pub order_is : (n : ℕ) (a : List ℕ) (p : ℕ) (b : List ℕ) (q : ℕ) (y s : List ℕ) → length y ≡ n → length s ≡ n
    → ((k : ℕ) → k < n → get_or a (p + k) 0 ≡ get_or y k 0) → ((k : ℕ) → k < n → get_or b (q + k) 0 ≡ get_or s k 0)
    → order n a p b q ≡ compare_words s y
unfolding order compare_words
order_is zero a p b q [] [] hy hs f g = refl
order_is zero a p b q (x ∷ y) s hy hs f g = absurd (omega arith)
order_is zero a p b q [] (z ∷ s) hy hs f g = absurd (omega arith)
order_is (suc n) a p b q [] s hy hs f g = absurd (omega arith)
order_is (suc n) a p b q (x ∷ y) [] hy hs f g = absurd (omega arith)
order_is (suc n) a p b q (x ∷ y) (z ∷ s) hy hs f g =
    let i : p ≡ p + 0 = omega arith in
    let j : q ≡ q + 0 = omega arith in
    let ea : get_or a p 0 ≡ x = ap (λ (k : ℕ). get_or a k 0) i ∙ f 0 (omega arith) in
    let eb : get_or b q 0 ≡ z = ap (λ (k : ℕ). get_or b k 0) j ∙ g 0 (omega arith) in
    ap (λ (k : ℕ). step_order k (get_or a p 0) (order n a (p + 1) b (q + 1))) eb
    ∙ ap (λ (k : ℕ). step_order z k (order n a (p + 1) b (q + 1))) ea
    ∙ ap (step_order z x) (order_is n a (p + 1) b (q + 1) y s (omega arith) (omega arith)
    (λ k h. let e : p + 1 + k ≡ p + suc k = omega arith in ap (λ (i : ℕ). get_or a i 0) e ∙ f (suc k) (omega arith))
    (λ k h. let e : q + 1 + k ≡ q + suc k = omega arith in ap (λ (i : ℕ). get_or b i 0) e ∙ g (suc k) (omega arith)))

-- the place among slots, the first of which is the i-th
pub place_among : List (List ℕ) → List ℕ → ℕ → Place
place_among [] s i = Some i
place_among (y ∷ ys) s i = place_by (compare_words s y) (Some i) (place_among ys s (i + 1))

-- slots in an area, past the first words `pre`
past : (y : List ℕ) (ys : List (List ℕ)) (pre zs : List ℕ) → pre ++ (flatten (y ∷ ys) ++ zs)
    ≡ (pre ++ y) ++ (flatten ys ++ zs)
unfolding flatten
past y ys pre zs =
    ap (λ (l : List ℕ). pre ++ l) (append_assoc y (flatten ys) zs) ∙ sym (append_assoc pre y (flatten ys ++ zs))

-- the order of a slot and the first of some in an area
order_first : (y : List ℕ) (ys : List (List ℕ)) (pre zs s : List ℕ) (i : ℕ) → length pre ≡ i * 16 → length y ≡ 16
    → length s ≡ 16 → order 16 (pre ++ (flatten (y ∷ ys) ++ zs)) (i * 16) s 0 ≡ compare_words s y
unfolding flatten
order_first y ys pre zs s i h w es =
    order_is 16 (pre ++ (flatten (y ∷ ys) ++ zs)) (i * 16) s 0 y s w es
    (λ k l. let z : i * 16 + k ≡ length pre + k = omega arith in
    ap (λ (j : ℕ). get_or (pre ++ (flatten (y ∷ ys) ++ zs)) j 0) z
    ∙ get_or-append-add pre (flatten (y ∷ ys) ++ zs) k 0
    ∙ ap (λ (u : List ℕ). get_or u k 0) (append_assoc y (flatten ys) zs)
    ∙ get_or-append y (flatten ys ++ zs) 0 k (omega arith))
    (λ k l. let z : 0 + k ≡ k = omega arith in ap (λ (j : ℕ). get_or s j 0) z)

seek_in : (ys : List (List ℕ)) (pre zs s : List ℕ) (i : ℕ) → length pre ≡ i * 16 → AllSixteen ys → length s ≡ 16
    → seek (length ys) (pre ++ (flatten ys ++ zs)) s i ≡ place_among ys s i
unfolding seek place_among
seek_in [] pre zs s i h v es = refl
seek_in (y ∷ ys) pre zs s i h v es =
    let r : seek (length ys) (pre ++ (flatten (y ∷ ys) ++ zs)) s (i + 1) ≡ place_among ys s (i + 1) =
    ap (λ (l : List ℕ). seek (length ys) l s (i + 1)) (past y ys pre zs)
    ∙ seek_in ys (pre ++ y) zs s (i + 1) (length-append pre y ∙ omega (arith, v.0)) v.1 es in
    rw (order_first y ys pre zs s i h v.0 es, r)

-- ---- what a place says of the list

pub record Split (xs : List (List ℕ)) (s : List ℕ) (i j : ℕ) : Type 0 where
  pub a : List (List ℕ)
  pub b : List (List ℕ)
  pub whole : xs ≡ a ++ b
  pub count : i + length a ≡ j
  pub put : insert_sorted s xs ≡ a ++ (s ∷ b)

at_inj : {i j : ℕ} → ◌≡◌ {A = Place} (Some i) (Some j) → i ≡ j
at_inj e = cc

held_not_at : {A : Type 0} {j : ℕ} → ◌≡◌ {A = Place} None (Some j) → A
held_not_at e = absurd (let z : ◌≡◌ {A = ℕ} 0 1 = cc in omega arith)

at_not_held : {A : Type 0} {j : ℕ} → ◌≡◌ {A = Place} (Some j) None → A
at_not_held e = absurd (let z : ◌≡◌ {A = ℕ} 0 1 = cc in omega arith)

split_by : (o : Order) (y : List ℕ) (ys : List (List ℕ)) (s : List ℕ) (i j : ℕ) → compare_words s y ≡ o
    → place_by o (Some i) (place_among ys s (i + 1)) ≡ Some j
    → (place_among ys s (i + 1) ≡ Some j → Split ys s (i + 1) j) → Split (y ∷ ys) s i j
split_by below y ys s i j eo e ih =
    record { a = []; b = y ∷ ys; whole = refl; count = omega (arith, at_inj e); put = insert_below s y ys eo }
split_by same y ys s i j eo e ih = held_not_at e
split_by above y ys s i j eo e ih =
    let r = ih e in
    record {
      a = y ∷ r.a;
      b = r.b;
      whole = ap (λ (l : List (List ℕ)). y ∷ l) r.whole;
      count = omega (arith, r.count);
      put = insert_above s y ys eo ∙ ap (λ (l : List (List ℕ)). y ∷ l) r.put;
    }

pub split_place : (xs : List (List ℕ)) (s : List ℕ) (i j : ℕ) → place_among xs s i ≡ Some j → Split xs s i j
unfolding place_among insert_sorted
split_place [] s i j e = record { a = []; b = []; whole = refl; count = omega (arith, at_inj e); put = refl }
split_place (y ∷ ys) s i j e = split_by (compare_words s y) y ys s i j refl e (split_place ys s (i + 1) j)

held_by : (o : Order) (y : List ℕ) (ys : List (List ℕ)) (s : List ℕ) (i : ℕ) → compare_words s y ≡ o
    → place_by o (Some i) (place_among ys s (i + 1)) ≡ None
    → (place_among ys s (i + 1) ≡ None → insert_sorted s ys ≡ ys) → insert_sorted s (y ∷ ys) ≡ y ∷ ys
held_by below y ys s i eo e ih = at_not_held e
held_by same y ys s i eo e ih = insert_same s y ys eo
held_by above y ys s i eo e ih = insert_above s y ys eo ∙ ap (λ (l : List (List ℕ)). y ∷ l) (ih e)

pub held_same : (xs : List (List ℕ)) (s : List ℕ) (i : ℕ) → place_among xs s i ≡ None → insert_sorted s xs ≡ xs
unfolding place_among
held_same [] s i e = at_not_held e
held_same (y ∷ ys) s i e = held_by (compare_words s y) y ys s i refl e (held_same ys s (i + 1))

-- ---- the i-th slot

abbrev slot_at : List (List ℕ) → ℕ → List ℕ
slot_at ys i = get_or ys i []

order_at : (ys : List (List ℕ)) (pre zs s : List ℕ) (k i : ℕ) → length pre ≡ k * 16 → AllSixteen ys → length s ≡ 16
    → i < length ys → order 16 (pre ++ (flatten ys ++ zs)) ((k + i) * 16) s 0 ≡ compare_words s (slot_at ys i)
order_at [] pre zs s k i h v es l = absurd (omega arith)
order_at (y ∷ ys) pre zs s k zero h v es l =
    let z : (k + 0) * 16 ≡ k * 16 = omega arith in
    ap (λ (n : ℕ). order 16 (pre ++ (flatten (y ∷ ys) ++ zs)) n s 0) z ∙ order_first y ys pre zs s k h v.0 es
order_at (y ∷ ys) pre zs s k (suc i) h v es l =
    let z : (k + suc i) * 16 ≡ (k + 1 + i) * 16 = omega arith in
    ap (λ (n : ℕ). order 16 (pre ++ (flatten (y ∷ ys) ++ zs)) n s 0) z
    ∙ ap (λ (w : List ℕ). order 16 w ((k + 1 + i) * 16) s 0) (past y ys pre zs)
    ∙ order_at ys (pre ++ y) zs s (k + 1) i (length-append pre y ∙ omega (arith, v.0)) v.1 es (omega arith)

first_below : (y : List ℕ) (ys : List (List ℕ)) (i : ℕ) → All (Less y) ys → i < length ys → Less y (slot_at ys i)
first_below y [] i u h = absurd (omega arith)
first_below y (x ∷ ys) zero u h = u.0
first_below y (x ∷ ys) (suc i) u h = first_below y ys i u.1 (omega arith)

-- what is above a slot is above those before it
above_earlier : (ys : List (List ℕ)) (s : List ℕ) (i j : ℕ) → Ascending ys → i ≤ j → j < length ys
    → compare_words s (slot_at ys j) ≡ above → compare_words s (slot_at ys i) ≡ above
above_earlier [] s i j u h l e = absurd (omega arith)
above_earlier (y ∷ ys) s zero zero u h l e = e
above_earlier (y ∷ ys) s zero (suc j) u h l e =
    less_above y s
    (less_trans y (slot_at ys j) s (first_below y ys j u.0 (omega arith)) (above_less s (slot_at ys j) e))
above_earlier (y ∷ ys) s (suc i) zero u h l e = absurd (omega arith)
above_earlier (y ∷ ys) s (suc i) (suc j) u h l e = above_earlier ys s i j u.1 (omega arith) (omega arith) e

module _ (s : List ℕ) (es : length s ≡ 16) (xs : List (List ℕ)) (zs : List ℕ) (v : AllSixteen xs) where
  order_of : (i : ℕ) → i < length xs → order 16 (flatten xs ++ zs) (i * 16) s 0 ≡ compare_words s (slot_at xs i)
  order_of i h =
      let z : i * 16 ≡ (0 + i) * 16 = omega arith in
      ap (λ (k : ℕ). order 16 (flatten xs ++ zs) k s 0) z ∙ order_at xs [] zs s 0 i refl v es h

  ascends : Ascending xs → Ascends (flatten xs ++ zs) s (length xs)
  ascends u i j h l e =
      ap is_above (order_of i (omega arith)
      ∙ above_earlier xs s i j u h l (sym (order_of j l) ∙ above_of _ e))

  -- among ascending slots in an area
  pub place_in_lem : Ascending xs → place_in (length xs) (flatten xs ++ zs) s ≡ place_among xs s 0
  place_in_lem u =
      place_seek (flatten xs ++ zs) s (length xs) (ascends u) ∙ seek_in xs [] zs s 0 refl v es
