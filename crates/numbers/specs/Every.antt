-- What holds of every element of a list, plain and with its index. No function of 01 stands here.
--     All            a property of each element
--     AllFrom        a property of each element and its index, counted from a start
--     all_imp, all_and, all_append, all_right, all_at    its laws;  from_imp, from_and, from_at: those with an index
-- Assumes nothing.
use Rattle.std.specs.Prelude.{ℕ, zero, suc, ◌+◌, ◌<◌, ◌≡◌, List, [], ◌∷◌, ◌++◌, length, get_or}
use Rattle.std.proofs.Common.{arith}

module _ {A : Type 0} where
  abbrev pub All : (A → Type 0) → List A → Type 0
  All X [] = Unit
  All X (x ∷ xs) = X x × All X xs

  -- X i x of each element x, where i is its index, counted from a start
  abbrev pub AllFrom : (ℕ → A → Type 0) → ℕ → List A → Type 0
  AllFrom X i [] = Unit
  AllFrom X i (x ∷ xs) = X i x × AllFrom X (suc i) xs

  pub all_imp : (X Y : A → Type 0) → ((x : A) → X x → Y x) → (l : List A) → All X l → All Y l
  all_imp X Y f [] h = tt
  all_imp X Y f (x ∷ xs) h = (f x h.0, all_imp X Y f xs h.1)

  pub all_and : (X Y : A → Type 0) (l : List A) → All X l → All Y l → All (λ x. X x × Y x) l
  all_and X Y [] h k = tt
  all_and X Y (x ∷ xs) h k = ((h.0, k.0), all_and X Y xs h.1 k.1)

  pub all_append : (X : A → Type 0) (l r : List A) → All X l → All X r → All X (l ++ r)
  all_append X [] r h k = k
  all_append X (x ∷ l) r h k = (h.0, all_append X l r h.1 k)

  pub all_right : (X : A → Type 0) (l r : List A) → All X (l ++ r) → All X r
  all_right X [] r h = h
  all_right X (x ∷ l) r h = all_right X l r h.1

  pub all_at : (X : A → Type 0) (z : A) (l : List A) (i : ℕ) → All X l → i < length l → X (get_or l i z)
  all_at X z [] i h b = absurd (omega arith)
  all_at X z (x ∷ xs) zero h b = h.0
  all_at X z (x ∷ xs) (suc i) h b = all_at X z xs i h.1 (omega arith)

  pub from_imp : (X Y : ℕ → A → Type 0) → ((i : ℕ) (x : A) → X i x → Y i x)
      → (i : ℕ) (l : List A) → AllFrom X i l → AllFrom Y i l
  from_imp X Y f i [] h = tt
  from_imp X Y f i (x ∷ xs) h = (f i x h.0, from_imp X Y f (suc i) xs h.1)

  pub from_and : (X Y : ℕ → A → Type 0) (i : ℕ) (l : List A)
      → AllFrom X i l → AllFrom Y i l → AllFrom (λ j x. X j x × Y j x) i l
  from_and X Y i [] h k = tt
  from_and X Y i (x ∷ xs) h k = ((h.0, k.0), from_and X Y (suc i) xs h.1 k.1)

  pub from_at : (X : ℕ → A → Type 0) (z : A) (i : ℕ) (l : List A)
      → AllFrom X i l → (j k : ℕ) → k ≡ i + j → j < length l → X k (get_or l j z)
  from_at X z i [] h j k e b = absurd (omega arith)
  from_at X z i (x ∷ xs) h zero k e b = let e' : k ≡ i = omega arith in rw e' h.0
  from_at X z i (x ∷ xs) h (suc j) k e b = from_at X z (suc i) xs h.1 j k (omega arith) (omega arith)
