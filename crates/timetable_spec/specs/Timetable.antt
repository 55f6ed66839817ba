-- A timetable of wash hours (02, W5: "In wash hours another drawing applies"). It is a flat list of numbers: the first
-- and the last minute of a window, those of the next one, and so on. "Drawing" is a table here (docs/TERMS.md).
--     week, minute_bound     the minutes of a week;  the bound of absolute minutes
--     good_timetable         whether a list is a timetable;  `Windows.antt` says the same by conditions alone
--     wash_at, in_force      whether the table for wash hours is in force, at a minute of the week, at an absolute one
--     Changes                whether the table in force changes between two minutes, over every minute between them
--     changes                the same by one pass over the windows;  claim ChangesExactly says that they agree
-- The laws are in `proofs/Timetable/`. Assumes nothing.
use Rattle.std.specs.Prelude.{ℕ, ◌+◌, ◌-◌, ◌%◌, ◌≤◌, ◌<◌, Bool, true, false, cond, ◌&&◌, ◌||◌, List, [], ◌∷◌, ◌≢◌, ltb, leb}

-- "remainder by 10,080"
abbrev pub week : ℕ
week = 10080

-- "an absolute minute from 0 to 2^48-1"
abbrev pub minute_bound : ℕ
minute_bound = 281474976710656

-- ---- a timetable
-- one window, from a minute on: "first minute, 0 to 10,079, included and last, up to 10,080, excluded"; "Empty windows
-- .. are bad"
unfoldable pub good_window : ℕ → ℕ → ℕ → Bool
good_window floor a b = leb floor a && (ltb a b && leb b week)

-- the windows of a list, from a minute on: "strictly ascending and not overlapping; touching is allowed. .. odd lists
-- are bad"
unfoldable pub good_from : ℕ → List ℕ → Bool
good_from floor [] = true
good_from floor (a ∷ []) = false
good_from floor (a ∷ b ∷ w) = good_window floor a b && good_from b w

unfoldable pub good_timetable : List ℕ → Bool
good_timetable w = good_from 0 w

-- ours: whether a test holds of some window of a list; a number left over is no window
unfoldable pub some_window : (ℕ → ℕ → Bool) → List ℕ → Bool
some_window t [] = false
some_window t (a ∷ []) = false
some_window t (a ∷ b ∷ w) = t a b || some_window t w

-- ---- the table in force
-- "first minute .. included and last .. excluded": whether a window holds a minute of the week
unfoldable pub holds : ℕ → ℕ → ℕ → Bool
holds a b m = leb a m && ltb m b

unfoldable pub wash_at : List ℕ → ℕ → Bool
wash_at w m = some_window (λ a b. holds a b m) w

-- "an absolute minute .. whose remainder by 10,080 is its minute of the week": true where the table for wash hours is
-- in force, false where the everyday one is
unfoldable pub in_force : List ℕ → ℕ → Bool
in_force w m = wash_at w (m % week)

-- ---- a change of the table in force
-- "If the drawing in force changes at any minute after the last event's, up to and including the present one's": l is
-- the last event's minute, n the present one's
unfoldable pub Changes : List ℕ → ℕ → ℕ → Type 0
Changes w l n = (m : ℕ) × (l < m) × (m ≤ n) × (in_force w m ≢ in_force w (m - 1))

-- ours: from a minute of the week on, how many minutes later another minute of the week comes next, at least one
unfoldable pub distance : ℕ → ℕ → ℕ
distance r p = cond (ltb r p) (p - r) (p + week - r)

-- ours: whether a window, one that is not empty, begins within d minutes after the minute of the week r
unfoldable pub begins_by : ℕ → ℕ → ℕ → ℕ → Bool
begins_by a b r d = ltb a b && leb (distance r a) d

unfoldable pub begins : List ℕ → ℕ → ℕ → Bool
begins w r d = some_window (λ a b. begins_by a b r d) w

-- ours: the windows that a timetable leaves free, from a minute on; empty ones where windows touch
unfoldable pub gaps_from : ℕ → List ℕ → List ℕ
gaps_from p [] = p ∷ week ∷ []
gaps_from p (a ∷ []) = p ∷ week ∷ []
gaps_from p (a ∷ b ∷ w) = p ∷ a ∷ gaps_from b w

-- ours: "changes at any minute after the last event's": a window of the other table begins by the present minute
unfoldable pub changes : List ℕ → ℕ → ℕ → Bool
changes w l n = begins (cond (in_force w l) (gaps_from 0 w) w) (l % week) (n - l)
