-- `canon` has the members of its list, is strictly ascending, and depends on the members only. Assumes nothing.
use Rattle.std.specs.Prelude.{ℕ, suc, ◌≤◌, ◌≡◌, refl, List, [], ◌∷◌, ◌++◌, ◌↔◌, ◌⊎◌, length}
use Rattle.std.proofs.Common.{arith, ap, ap₂, sym, ◌∙◌, append_assoc, append-nil, inl, inr, ⊎_elim}
use Rattle.numbers.specs.Every.{All, all_imp}
use Rattle.numbers.specs.Some.{any_append_left, any_append_right, any_append_cases}
use Rattle.slots.specs.Canon.{Order, below, same, above, compare_words, insert_sorted, canon, Precedes, Sorted, In}
use Rattle.slots.proofs.Canon.Comparison.{Less, same_eq, above_less, less_trans, less_not_eq, less_not_back}
use Rattle.slots.proofs.Canon.Comparison.{less_precedes}

abbrev pub Ascending : List (List ℕ) → Type 0
Ascending [] = Unit
Ascending (x ∷ l) = All (Less x) l × Ascending l

pub insert_below : (s x : List ℕ) (l : List (List ℕ)) → compare_words s x ≡ below → insert_sorted s (x ∷ l) ≡ s ∷ x ∷ l
unfolding insert_sorted
insert_below s x l e = rw (e, insert_sorted)

pub insert_same : (s x : List ℕ) (l : List (List ℕ)) → compare_words s x ≡ same → insert_sorted s (x ∷ l) ≡ x ∷ l
unfolding insert_sorted
insert_same s x l e = rw (e, insert_sorted)

pub insert_above : (s x : List ℕ) (l : List (List ℕ)) → compare_words s x ≡ above
    → insert_sorted s (x ∷ l) ≡ x ∷ insert_sorted s l
unfolding insert_sorted
insert_above s x l e = rw (e, insert_sorted)

pub in_insert : (a s : List ℕ) (l : List (List ℕ)) → In a (insert_sorted s l) ↔ (a ≡ s ⊎ In a l)
unfolding insert_sorted
in_insert a s [] = (λ h. h, λ h. h)
in_insert a s (x ∷ l) = by (compare_words s x) refl (in_insert a s l)
  where
    by : (o : Order) → compare_words s x ≡ o → (In a (insert_sorted s l) ↔ (a ≡ s ⊎ In a l))
        → In a (insert_sorted s (x ∷ l)) ↔ (a ≡ s ⊎ In a (x ∷ l))
    by below e ih = rw (insert_below s x l e) (λ h. h, λ h. h)
    by same e ih = rw (insert_same s x l e) (λ h. inr h, λ h. ⊎_elim (λ k. inl (k ∙ same_eq s x e)) (λ k. k) h)
    by above e ih = rw (insert_above s x l e) (
      λ h. ⊎_elim (λ k. inr (inl k)) (λ k. ⊎_elim (λ j. inl j) (λ j. inr (inr j)) (ih.0 k)) h,
      λ h. ⊎_elim (λ k. inr (ih.1 (inl k))) (λ k. ⊎_elim (λ j. inl j) (λ j. inr (ih.1 (inr j))) k) h,
    )

-- The members of a canon are those of its list.
pub in_canon : (a : List ℕ) (l : List (List ℕ)) → In a (canon l) ↔ In a l
unfolding canon
in_canon a [] = (λ h. h, λ h. h)
in_canon a (s ∷ l) =
    let i = in_insert a s (canon l) in
    let j = in_canon a l in (
      λ h. ⊎_elim (λ k. inl k) (λ k. inr (j.0 k)) (i.0 h),
      λ h. ⊎_elim (λ k. i.1 (inl k))
          (λ k. i.1 (inr (j.1 k))) h,
    )

-- what holds of a member, from all and from each
pub all_of : (X : List ℕ → Type 0) (l : List (List ℕ)) → ((a : List ℕ) → In a l → X a) → All X l
all_of X [] f = tt
all_of X (x ∷ l) f = (f x (inl refl), all_of X l (λ a h. f a (inr h)))

pub of_all : (X : List ℕ → Type 0) (l : List (List ℕ)) → All X l → (a : List ℕ) → In a l → X a
of_all X [] h a i = absurd i
of_all X (x ∷ l) h a i = ⊎_elim (λ e. rw e h.0) (λ k. of_all X l h.1 a k) i

-- Insertion of one slot keeps the order.
pub insert_ascending : (s : List ℕ) (l : List (List ℕ)) → Ascending l → Ascending (insert_sorted s l)
unfolding insert_sorted
insert_ascending s [] h = (tt, tt)
insert_ascending s (x ∷ l) h = by (compare_words s x) refl (insert_ascending s l h.1)
  where
    by : (o : Order) → compare_words s x ≡ o → Ascending (insert_sorted s l) → Ascending (insert_sorted s (x ∷ l))
    by below e ih = rw (insert_below s x l e)
        ((e, all_imp (Less x) (Less s) (λ y k. less_trans s x y e k) l h.0), h)
    by same e ih = rw (insert_same s x l e) h
    by above e ih =
        rw (insert_above s x l e) (
          all_of (Less x) (insert_sorted s l)
              (λ a i. ⊎_elim (λ k. rw k (above_less s x e)) (λ k. of_all (Less x) l h.0 a k)
              ((in_insert a s l).0 i)),
          ih,
        )

pub canon_ascending : (l : List (List ℕ)) → Ascending (canon l)
unfolding canon
canon_ascending [] = tt
canon_ascending (s ∷ l) = insert_ascending s (canon l) (canon_ascending l)

-- Two ascending lists with the same members are one.
pub ascending_unique : (l k : List (List ℕ)) → Ascending l → Ascending k → ((a : List ℕ) → In a l → In a k)
    → ((a : List ℕ) → In a k → In a l) → l ≡ k
ascending_unique [] [] h i f g = refl
ascending_unique [] (y ∷ k) h i f g = absurd (g y (inl refl))
ascending_unique (x ∷ l) [] h i f g = absurd (f x (inl refl))
ascending_unique (x ∷ l) (y ∷ k) h i f g =
    ap₂ ◌∷◌ first (ascending_unique l k h.1 i.1 (λ a j. rest a x y l k h.0 first (f a (inr j)) j)
    (λ a j. rest a y x k l i.0 (sym first) (g a (inr j)) j))
  where
    first : x ≡ y
    first =
        ⊎_elim
        (λ e. e)
        (λ m. ⊎_elim (λ e. sym e)
        (λ n. absurd (less_not_back x y (of_all (Less x) l h.0 y n) (of_all (Less y) k i.0 x m)))
        (g y (inl refl)))
        (f x (inl refl))

    rest : (a u v : List ℕ) (p q : List (List ℕ)) → All (Less u) p → u ≡ v → In a (v ∷ q) → In a p → In a q
    rest a u v p q b e j m = ⊎_elim (λ n. absurd (less_not_eq u a (of_all (Less u) p b a m) (e ∙ sym n))) (λ n. n) j

-- Two lists with the same members have the same canon.
pub canon_members : (l k : List (List ℕ)) → ((a : List ℕ) → In a l → In a k) → ((a : List ℕ) → In a k → In a l)
    → canon l ≡ canon k
canon_members l k f g =
    ascending_unique
    (canon l)
    (canon k)
    (canon_ascending l)
    (canon_ascending k)
    (λ a h. (in_canon a k).1 (f a ((in_canon a l).0 h)))
    (λ a h. (in_canon a l).1 (g a ((in_canon a k).0 h)))

-- ---- one slot after another, in whatever order they come

pub canon_snoc : (l : List (List ℕ)) (s : List ℕ) → canon (l ++ s ∷ []) ≡ insert_sorted s (canon l)
unfolding canon
canon_snoc l s = canon_members (l ++ s ∷ []) (s ∷ l) into back
  where
    into : (a : List ℕ) → In a (l ++ s ∷ []) → In a (s ∷ l)
    into a h = ⊎_elim (λ k. inr k) (λ k. ⊎_elim (λ e. inl e) (λ z. absurd z) k)
        (any_append_cases (λ x. a ≡ x) l (s ∷ []) h)

    back : (a : List ℕ) → In a (s ∷ l) → In a (l ++ s ∷ [])
    back a h = ⊎_elim (λ e. any_append_right (λ x. a ≡ x) l (s ∷ []) (inl e))
        (λ k. any_append_left (λ x. a ≡ x) l (s ∷ []) k) h

-- a slot put in makes a list longer by one at most, and no shorter
insert_length : (s : List ℕ) (l : List (List ℕ))
    → (length l ≤ length (insert_sorted s l)) × (length (insert_sorted s l) ≤ suc (length l))
unfolding insert_sorted
insert_length s [] = (omega arith, omega arith)
insert_length s (x ∷ l) = by (compare_words s x) refl (insert_length s l)
  where
    by : (o : Order) → compare_words s x ≡ o
        → (length l ≤ length (insert_sorted s l)) × (length (insert_sorted s l) ≤ suc (length l))
        → (length (x ∷ l) ≤ length (insert_sorted s (x ∷ l))) × (length (insert_sorted s (x ∷ l)) ≤ suc (length (x ∷ l)))
    by below e ih = rw (insert_below s x l e) (omega arith, omega arith)
    by same e ih = rw (insert_same s x l e) (omega arith, omega arith)
    by above e ih = let (a, b) = ih in rw (insert_above s x l e) (omega arith, omega arith)

pub canon_few : (l : List (List ℕ)) → length (canon l) ≤ length l
unfolding canon
canon_few [] = omega arith
canon_few (s ∷ l) = let a = canon_few l in let (b, c) = insert_length s (canon l) in omega arith

pub canon_grows : (l ss : List (List ℕ)) → length (canon l) ≤ length (canon (l ++ ss))
canon_grows l [] = rw (append-nil l) (omega arith)
canon_grows l (s ∷ ss) =
    let (a, b) = insert_length s (canon l) in
    let c = canon_grows (l ++ s ∷ []) ss in
    omega (
      arith,
      a,
      c,
      ap length (canon_snoc l s),
      ap (λ (k : List (List ℕ)). length (canon k)) (append_assoc l (s ∷ []) ss),
    )

sorted_of : (l : List (List ℕ)) → Ascending l → Sorted l
sorted_of [] h = tt
sorted_of (x ∷ l) h = (all_imp (Less x) (Precedes x) (less_precedes x) l h.0, sorted_of l h.1)

pub canon_sorted : (l : List (List ℕ)) → Sorted (canon l)
canon_sorted l = sorted_of (canon l) (canon_ascending l)
