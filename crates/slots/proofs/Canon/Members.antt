-- Members of lists, of two lists together and of a list's images.
--     sub_append                                       two lists
--     Image, map_in, map_out, sub_map                  images
--     same_refl, same_trans, same_append, same_map     the same members
--     slots_in                                         members of slots are slots
-- Assumes nothing.
use Rattle.std.specs.Prelude.{ℕ, ◌≡◌, refl, List, [], ◌∷◌, ◌++◌, map}
use Rattle.std.proofs.Common.{ap, inl, inr, ⊎_elim}
use Rattle.numbers.specs.Some.{any_append_left, any_append_right, any_append_cases}
use Rattle.slots.specs.Canon.{Sixteen, AllSixteen, In, SameMembers}
use Rattle.slots.proofs.Canon.Canonical.{all_of, of_all}

abbrev pub Sub : List (List ℕ) → List (List ℕ) → Type 0
Sub a b = (z : List ℕ) → In z a → In z b

-- ---- two lists

pub sub_append : (a a' b b' : List (List ℕ)) → Sub a a' → Sub b b' → Sub (a ++ b) (a' ++ b')
sub_append a a' b b' f g z m =
    ⊎_elim (λ n. any_append_left (λ x. z ≡ x) a' b' (f z n)) (λ n. any_append_right (λ x. z ≡ x) a' b' (g z n))
    (any_append_cases (λ x. z ≡ x) a b m)

-- ---- images

pub record Image (g : List ℕ → List ℕ) (a : List (List ℕ)) (z : List ℕ) : Type 0 where
  pub x : List ℕ
  pub member : In x a
  pub is : z ≡ g x

pub map_in : (g : List ℕ → List ℕ) (a : List (List ℕ)) (x : List ℕ) → In x a → In (g x) (map g a)
map_in g [] x m = absurd m
map_in g (y ∷ a) x (inl e) = inl (ap g e)
map_in g (y ∷ a) x (inr m) = inr (map_in g a x m)

pub map_out : (g : List ℕ → List ℕ) (a : List (List ℕ)) (z : List ℕ) → In z (map g a) → Image g a z
map_out g [] z m = absurd m
map_out g (y ∷ a) z (inl e) = record { x = y; member = inl refl; is = e }
map_out g (y ∷ a) z (inr m) = let i = map_out g a z m in record { x = i.x; member = inr i.member; is = i.is }

pub sub_map : (g : List ℕ → List ℕ) (a b : List (List ℕ)) → ((z : List ℕ) → In z a → In z b) → (z : List ℕ)
    → In z (map g a) → In z (map g b)
sub_map g a b f z m = let i = map_out g a z m in rw i.is (map_in g b i.x (f i.x i.member))

-- ---- the same members

pub same_refl : (a : List (List ℕ)) → SameMembers a a
same_refl a = (λ z m. m, λ z m. m)

pub same_trans : (a b c : List (List ℕ)) → SameMembers a b → SameMembers b c → SameMembers a c
same_trans a b c f g = (λ z m. g.0 z (f.0 z m), λ z m. f.1 z (g.1 z m))

pub same_sym : (a b : List (List ℕ)) → SameMembers a b → SameMembers b a
same_sym a b f = (f.1, f.0)

pub same_append : (a a' b b' : List (List ℕ)) → SameMembers a a' → SameMembers b b' → SameMembers (a ++ b) (a' ++ b')
same_append a a' b b' f g = (sub_append a a' b b' f.0 g.0, sub_append a' a b' b f.1 g.1)

pub same_map : (g : List ℕ → List ℕ) (a b : List (List ℕ)) → SameMembers a b → SameMembers (map g a) (map g b)
same_map g a b f = (sub_map g a b f.0, sub_map g b a f.1)

-- ---- slots

pub slots_in : (xs ys : List (List ℕ)) → AllSixteen ys → Sub xs ys → AllSixteen xs
slots_in xs ys v f = all_of Sixteen xs (λ a i. of_all Sixteen ys v a (f a i))
