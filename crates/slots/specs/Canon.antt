-- Slots in their order (01, "Residuals": "An area holds slots ascending by first differing word, then zeros").
--     Order, compare_words   the order "by first differing word"
--     insert_sorted, canon   one slot put in its place; a list of slots ascending, each once
--     Precedes, Sorted       that order as a relation; strictly ascending
--     fill                   an area of n slots that holds some, and then zeros
--     Sixteen, AllSixteen    a list of sixteen words; a list of such
--     In, SameMembers        a slot is one of several; two lists have the same slots
-- The laws are in `proofs/Canon/`: `Comparison` (the order), `Canonical` (what comes out is ascending, and depends on
-- the members only), `Members`, `Areas`, `Places` and `Laws` (areas). Assumes nothing.
use Rattle.std.specs.Prelude.{ℕ, ◌-◌, ◌*◌, ◌<◌, ◌≡◌, true, false, length, replicate, ltb}
use mathlib.Core.List.{List, [], ◌∷◌, ◌++◌, flatten}
use Rattle.numbers.specs.Every.{All}
use Rattle.numbers.specs.Some.{Any}

pub data Order : Type 0 where
  below same above : Order

-- "ascending by first differing word"
unfoldable pub compare_words : List ℕ → List ℕ → Order
compare_words [] [] = same
compare_words [] (y ∷ ys) = below
compare_words (x ∷ xs) [] = above
compare_words (x ∷ xs) (y ∷ ys) =
    elim (ltb x y) [ true ↦ below | false ↦ elim (ltb y x) [ true ↦ above | false ↦ compare_words xs ys ] ]

-- "A residual already held is not held twice."
unfoldable pub insert_sorted : List ℕ → List (List ℕ) → List (List ℕ)
insert_sorted s [] = s ∷ []
insert_sorted s (x ∷ xs) = elim (compare_words s x) [ below ↦ s ∷ x ∷ xs | same ↦ x ∷ xs | above ↦ x ∷ insert_sorted s xs ]

-- "An area holds slots ascending"
unfoldable pub canon : List (List ℕ) → List (List ℕ)
canon [] = []
canon (s ∷ ss) = insert_sorted s (canon ss)

-- "by first differing word"; ours: a list stands before a longer one that it begins (slots are all of 16 words)
pub data Precedes : List ℕ → List ℕ → Type 0 where
  differs : {x y : ℕ} {xs ys : List ℕ} → x < y → Precedes (x ∷ xs) (y ∷ ys)
  agrees : {x y : ℕ} {xs ys : List ℕ} → x ≡ y → Precedes xs ys → Precedes (x ∷ xs) (y ∷ ys)
  begins : {y : ℕ} {ys : List ℕ} → Precedes [] (y ∷ ys)

abbrev pub Sorted : List (List ℕ) → Type 0
Sorted [] = Unit
Sorted (s ∷ ss) = All (Precedes s) ss × Sorted ss

-- "An area holds slots ascending by first differing word, then zeros": an area of n slots
unfoldable pub fill : ℕ → List (List ℕ) → List ℕ
fill n ss = flatten ss ++ replicate ((n - length ss) * 16) 0

abbrev pub Sixteen : List ℕ → Type 0
Sixteen s = length s ≡ 16

abbrev pub AllSixteen : List (List ℕ) → Type 0
AllSixteen = All Sixteen

-- ---- members

-- a slot is one of a list's
abbrev pub In : List ℕ → List (List ℕ) → Type 0
In a l = Any (λ x. a ≡ x) l

-- two lists have the same slots, in whatever order and however often
abbrev pub SameMembers : List (List ℕ) → List (List ℕ) → Type 0
SameMembers a b = ((z : List ℕ) → In z a → In z b) × ((z : List ℕ) → In z b → In z a)
