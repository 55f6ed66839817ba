-- A timetable by conditions alone (02, W5: "A timetable lists windows in minutes of the week as pairs"). Nothing here
-- says how a list is judged.
--     Window, numbers_of    a window;  the list of some windows' numbers
--     Holds, Held           whether a window holds a minute of the week;  whether one of some windows does
--     GoodWindow, Before    what is asked of a window, and of an earlier and a later one
--     Windows               a list that is a timetable
-- The laws are in `proofs/Windows/Laws.antt`. Assumes nothing.
use Rattle.std.specs.Prelude.{ℕ, ◌≤◌, ◌<◌, ◌≡◌, List, [], ◌∷◌, ◌⊎◌}
use Rattle.numbers.specs.Every.{All}

-- "pairs, first minute, .. and last"
pub record Window : Type 0 where
  pub first : ℕ
  pub last : ℕ

unfoldable pub numbers_of : List Window → List ℕ
numbers_of [] = []
numbers_of (p ∷ ps) = p.first ∷ p.last ∷ numbers_of ps

-- "first minute, .. included and last, .. excluded"
abbrev pub Holds : Window → ℕ → Type 0
Holds p m = (p.first ≤ m) × (m < p.last)

abbrev pub Held : List Window → ℕ → Type 0
Held [] m = ⊥
Held (p ∷ ps) m = Holds p m ⊎ Held ps m

pub record GoodWindow (p : Window) : Type 0 where
  -- "first minute, 0 to 10,079", "last, up to 10,080"
  pub first_fits : p.first ≤ 10079
  pub last_fits : p.last ≤ 10080
  -- "Empty windows .. are bad"
  pub some : (m : ℕ) × Holds p m

-- "strictly ascending and not overlapping; touching is allowed"
pub record Before (p q : Window) : Type 0 where
  pub ascending : p.first < q.first
  pub apart : (m : ℕ) → Holds p m → Holds q m → ⊥

-- each window is before every later one
abbrev pub InOrder : List Window → Type 0
InOrder [] = Unit
InOrder (p ∷ ps) = All (Before p) ps × InOrder ps

-- the numbers of whole windows: "odd lists are bad"
pub record Windows (w : List ℕ) : Type 0 where
  pub windows : List Window
  pub pairs : w ≡ numbers_of windows
  pub good : All GoodWindow windows
  pub ordered : InOrder windows
