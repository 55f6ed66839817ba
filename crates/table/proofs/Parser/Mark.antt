-- Lists of marked numbers, and how a list is cut.
--     Cuts, cuts                   a list cut in two ways
-- Assumes nothing.
use Rattle.std.specs.Prelude.{ℕ, ◌≡◌, refl, List, [], ◌∷◌, ◌++◌}
use Rattle.std.proofs.Common.{ap}
use Rattle.table.specs.Parser.Mark.{Mark, numbers, Pass}

-- ---- lists of marks
pub numbers_append : (a b : List Mark) → numbers (a ++ b) ≡ numbers a ++ numbers b
numbers_append [] b = refl
numbers_append (m ∷ a) b = ap (λ (l : List ℕ). m.number ∷ l) (numbers_append a b)

pub pass_left : (a b : List Mark) → Pass (a ++ b) → Pass a
pass_left [] b h = tt
pass_left (m ∷ a) b h = (h.0, pass_left a b h.1)

pub pass_right : (a b : List Mark) → Pass (a ++ b) → Pass b
pass_right [] b h = h
pass_right (m ∷ a) b h = pass_right a b h.1

-- a list cut in two ways: the second cut stands in the first's front, or in its back
pub data Cuts (a b c : List Mark) (m : Mark) (d : List Mark) : Type 0 where
  in_front : (e : List Mark) → a ≡ c ++ (m ∷ e) → Cuts a b c m d
  in_back : (e : List Mark) → c ≡ a ++ e → b ≡ e ++ (m ∷ d) → Cuts a b c m d

pub cuts : (a b c : List Mark) (m : Mark) (d : List Mark) → a ++ b ≡ c ++ (m ∷ d) → Cuts a b c m d
cuts [] b c m d e = in_back c refl e
cuts (x ∷ a) b [] m d e = let f : x ≡ m = cc in in_front a (ap (λ (y : Mark). y ∷ a) f)
cuts (x ∷ a) b (y ∷ c) m d e =
    let f : x ≡ y = cc in
    let g : a ++ b ≡ c ++ (m ∷ d) = cc in
    go f (cuts a b c m d g)
  where
    go : x ≡ y → Cuts a b c m d → Cuts (x ∷ a) b (y ∷ c) m d
    go f (in_front k p) = in_front k (cc)
    go f (in_back k p q) = in_back k (cc) q
