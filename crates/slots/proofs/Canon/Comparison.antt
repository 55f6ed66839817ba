-- The order by first differing word is a strict order, and total. Assumes nothing.
use Rattle.std.specs.Prelude.{ℕ, ◌≤◌, ◌<◌, ◌≡◌, refl, List, [], ◌∷◌}
use Rattle.std.proofs.Common.{arith, ap₂, sym, ◌∙◌, le-ltb, lt-ltb}
use Rattle.std.proofs.Math.Decide.{dec_lt}
use Rattle.slots.specs.Canon.{Order, below, same, above, compare_words, Precedes, differs, agrees, begins}

abbrev pub Less : List ℕ → List ℕ → Type 0
Less a b = compare_words a b ≡ below

pub cmp_lt : (x y : ℕ) (a b : List ℕ) → x < y → compare_words (x ∷ a) (y ∷ b) ≡ below
unfolding compare_words
cmp_lt x y a b h = rw (lt-ltb _ _ h, compare_words)

pub cmp_gt : (x y : ℕ) (a b : List ℕ) → y < x → compare_words (x ∷ a) (y ∷ b) ≡ above
unfolding compare_words
cmp_gt x y a b h = let k : y ≤ x = omega arith in rw (le-ltb _ _ k, lt-ltb _ _ h, compare_words)

pub cmp_eq : (x y : ℕ) (a b : List ℕ) → x ≡ y → compare_words (x ∷ a) (y ∷ b) ≡ compare_words a b
unfolding compare_words
cmp_eq x y a b h =
    let k : y ≤ x = omega arith in
    let l : x ≤ y = omega arith in
    rw (le-ltb _ _ k, le-ltb _ _ l, compare_words)

apart : {X : Type 0} {o : Order} → o ≡ below → o ≡ above → X
apart e f = let z : ◌≡◌ {A = ℕ} 0 1 = cc in absurd (omega arith)

pub apart_same : {X : Type 0} {o : Order} → o ≡ below → o ≡ same → X
apart_same e f = let z : ◌≡◌ {A = ℕ} 0 1 = cc in absurd (omega arith)

pub apart_above : {X : Type 0} {o : Order} → o ≡ above → o ≡ same → X
apart_above e f = let z : ◌≡◌ {A = ℕ} 0 1 = cc in absurd (omega arith)

pub cmp_refl : (a : List ℕ) → compare_words a a ≡ same
unfolding compare_words
cmp_refl [] = refl
cmp_refl (x ∷ a) = cmp_eq x x a a refl ∙ cmp_refl a

pub same_eq : (a b : List ℕ) → compare_words a b ≡ same → a ≡ b
unfolding compare_words
same_eq [] [] e = refl
same_eq [] (y ∷ b) e = apart_same refl e
same_eq (x ∷ a) [] e = apart_above refl e
same_eq (x ∷ a) (y ∷ b) e = by (dec_lt x y) (dec_lt y x) (same_eq a b)
  where
    by : Dec (x < y) → Dec (y < x) → (compare_words a b ≡ same → a ≡ b) → x ∷ a ≡ y ∷ b
    by (yes h) k ih = apart_same (cmp_lt x y a b h) e
    by (no h) (yes k) ih = apart_above (cmp_gt x y a b k) e
    by (no h) (no k) ih = let n : x ≡ y = omega arith in ap₂ ◌∷◌ n (ih (sym (cmp_eq x y a b n) ∙ e))

pub above_less : (a b : List ℕ) → compare_words a b ≡ above → Less b a
unfolding compare_words
above_less [] [] e = absurd (let z : ◌≡◌ {A = ℕ} 0 1 = cc in omega arith)
above_less [] (y ∷ b) e = apart refl e
above_less (x ∷ a) [] e = refl
above_less (x ∷ a) (y ∷ b) e = by (dec_lt x y) (dec_lt y x) (above_less a b)
  where
    by : Dec (x < y) → Dec (y < x) → (compare_words a b ≡ above → Less b a) → compare_words (y ∷ b) (x ∷ a) ≡ below
    by (yes h) k ih = apart (cmp_lt x y a b h) e
    by (no h) (yes k) ih = cmp_lt y x b a k
    by (no h) (no k) ih = let n : y ≡ x = omega arith in cmp_eq y x b a n ∙ ih (sym (cmp_eq x y a b (sym n)) ∙ e)

pub less_trans : (a b c : List ℕ) → Less a b → Less b c → Less a c
unfolding compare_words
less_trans [] [] c e f = f
less_trans [] (y ∷ b) [] e f = absurd (let z : ◌≡◌ {A = ℕ} 0 1 = cc in omega arith)
less_trans [] (y ∷ b) (z ∷ c) e f = refl
less_trans (x ∷ a) [] c e f = absurd (let z : ◌≡◌ {A = ℕ} 0 1 = cc in omega arith)
less_trans (x ∷ a) (y ∷ b) [] e f = absurd (let z : ◌≡◌ {A = ℕ} 0 1 = cc in omega arith)
less_trans (x ∷ a) (y ∷ b) (z ∷ c) e f = by (dec_lt x y) (dec_lt y x) (dec_lt y z) (dec_lt z y) (less_trans a b c)
  where
    by : Dec (x < y) → Dec (y < x) → Dec (y < z) → Dec (z < y) → (Less a b → Less b c → Less a c)
        → compare_words (x ∷ a) (z ∷ c) ≡ below
    by h (yes k) l m ih = apart e (cmp_gt x y a b k)
    by h (no k) l (yes m) ih = apart f (cmp_gt y z b c m)
    by (yes h) (no k) l (no m) ih = cmp_lt x z a c (omega arith)
    by (no h) (no k) (yes l) (no m) ih = cmp_lt x z a c (omega arith)
    by (no h) (no k) (no l) (no m) ih =
        let n : x ≡ y = omega arith in
        let o : y ≡ z = omega arith in
        cmp_eq x z a c (n ∙ o) ∙ ih (sym (cmp_eq x y a b n) ∙ e) (sym (cmp_eq y z b c o) ∙ f)

pub less_not_eq : (a b : List ℕ) → Less a b → a ≡ b → ⊥
less_not_eq a b h e = apart_same h (rw e (cmp_refl b))

pub less_not_back : (a b : List ℕ) → Less a b → Less b a → ⊥
less_not_back a b h k = less_not_eq a a (less_trans a b a h k) refl

pub less_above : (a b : List ℕ) → Less a b → compare_words b a ≡ above
less_above a b h = by (compare_words b a) refl
  where
    by : (o : Order) → compare_words b a ≡ o → o ≡ above
    by below e = absurd (less_not_back a b h e)
    by same e = absurd (less_not_eq a b h (sym (same_eq b a e)))
    by above e = refl

-- what is below stands before
pub less_precedes : (a b : List ℕ) → Less a b → Precedes a b
unfolding compare_words
less_precedes [] [] e = apart_same e refl
less_precedes [] (y ∷ b) e = begins
less_precedes (x ∷ a) [] e = apart e refl
less_precedes (x ∷ a) (y ∷ b) e = by (dec_lt x y) (dec_lt y x) (less_precedes a b)
  where
    by : Dec (x < y) → Dec (y < x) → (Less a b → Precedes a b) → Precedes (x ∷ a) (y ∷ b)
    by (yes h) k ih = differs h
    by (no h) (yes k) ih = apart e (cmp_gt x y a b k)
    by (no h) (no k) ih = let n : x ≡ y = omega arith in agrees n (ih (sym (cmp_eq x y a b n) ∙ e))
