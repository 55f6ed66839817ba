-- What holds of some element of a list, and of every element of a list that is mapped or flattened. No function of 01
-- stands here.
--     Any                          a property of some element
--     any_imp, any_all, any_out    its laws
--     any_append_*, any_map, any_unmap, any_flat, flat_any    by how the list is made
--     all_map, all_flat            of every element;  `Every` has the other laws of `All`
-- Assumes nothing.
use mathlib.Core.List.{List, [], ◌∷◌, ◌++◌, map, flat_map}
use Rattle.std.specs.Prelude.{◌⊎◌}
use Rattle.std.proofs.Math.Logic.{inl, inr, ⊎_elim}
use Rattle.numbers.specs.Every.{All, all_append}

module _ {A : Type 0} where
  abbrev pub Any : (A → Type 0) → List A → Type 0
  Any X [] = ⊥
  Any X (x ∷ xs) = X x ⊎ Any X xs

  pub any_imp : (X Y : A → Type 0) → ((x : A) → X x → Y x) → (l : List A) → Any X l → Any Y l
  any_imp X Y f [] h = h
  any_imp X Y f (x ∷ xs) h = ⊎_elim (λ a. inl (f x a)) (λ a. inr (any_imp X Y f xs a)) h

  pub any_all : (X Y Z : A → Type 0) → ((x : A) → Y x → X x → Z x) → (l : List A) → All Y l → Any X l → Any Z l
  any_all X Y Z f [] k h = h
  any_all X Y Z f (x ∷ xs) k h =
      ⊎_elim (λ a. inl (f x k.0 a)) (λ a. inr (any_all X Y Z f xs k.1 a)) h

  pub any_out : (X : A → Type 0) (C : Type 0) (l : List A) → All (λ x. X x → C) l → Any X l → C
  any_out X C [] k h = absurd h
  any_out X C (x ∷ xs) k h = ⊎_elim k.0 (any_out X C xs k.1) h

  pub any_append_left : (X : A → Type 0) (l r : List A) → Any X l → Any X (l ++ r)
  any_append_left X [] r h = absurd h
  any_append_left X (x ∷ l) r h = ⊎_elim (λ a. inl a) (λ a. inr (any_append_left X l r a)) h

  pub any_append_right : (X : A → Type 0) (l r : List A) → Any X r → Any X (l ++ r)
  any_append_right X [] r h = h
  any_append_right X (x ∷ l) r h = inr (any_append_right X l r h)

  pub any_append_cases : (X : A → Type 0) (l r : List A) → Any X (l ++ r) → Any X l ⊎ Any X r
  any_append_cases X [] r h = inr h
  any_append_cases X (x ∷ l) r h =
      ⊎_elim (λ a. inl (inl a)) (λ a. ⊎_elim (λ b. inl (inr b)) (λ b. inr b) (any_append_cases X l r a)) h

module _ {A B : Type 0} where
  pub any_map : (X : B → Type 0) (f : A → B) (l : List A) → Any (λ a. X (f a)) l → Any X (map f l)
  any_map X f [] h = h
  any_map X f (x ∷ l) h = ⊎_elim (λ a. inl a) (λ a. inr (any_map X f l a)) h

  pub any_unmap : (X : B → Type 0) (f : A → B) (l : List A) → Any X (map f l) → Any (λ a. X (f a)) l
  any_unmap X f [] h = h
  any_unmap X f (x ∷ l) h = ⊎_elim (λ a. inl a) (λ a. inr (any_unmap X f l a)) h

  pub all_map : (X : B → Type 0) (f : A → B) (l : List A) → All (λ a. X (f a)) l → All X (map f l)
  all_map X f [] h = tt
  all_map X f (x ∷ l) h = (h.0, all_map X f l h.1)

  pub any_flat : (X : B → Type 0) (f : A → List B) (l : List A) → Any (λ a. Any X (f a)) l → Any X (flat_map f l)
  unfolding flat_map
  any_flat X f [] h = h
  any_flat X f (x ∷ l) h =
      ⊎_elim
      (any_append_left X (f x) (flat_map f l))
      (λ a. any_append_right X (f x) (flat_map f l) (any_flat X f l a))
      h

  pub flat_any : (X : B → Type 0) (f : A → List B) (l : List A) → Any X (flat_map f l) → Any (λ a. Any X (f a)) l
  unfolding flat_map
  flat_any X f [] h = h
  flat_any X f (x ∷ l) h =
      ⊎_elim (λ a. inl a) (λ a. inr (flat_any X f l a)) (any_append_cases X (f x) (flat_map f l) h)

  pub all_flat : (X : B → Type 0) (f : A → List B) (l : List A) → All (λ a. All X (f a)) l → All X (flat_map f l)
  unfolding flat_map
  all_flat X f [] h = tt
  all_flat X f (x ∷ l) h = all_append X (f x) (flat_map f l) h.0 (all_flat X f l h.1)
