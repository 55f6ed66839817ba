-- What this crate proves of the definitions that its contracts cite: statements only. The proof of each is in
-- `proofs/Theorems.antt`, under the same name.
--     GoodExactly       a list is judged good exactly where it is a timetable by the sentence's conditions
--     WashExactly       a minute of the week is in wash hours exactly where a window holds it
--     ChangesExactly    one pass over a good timetable says what every minute between two would say
--     WeekOrMore        in a week or more the table in force changes exactly where there are minutes of both
--     Examples          worked timetables, in `Examples.antt`
-- Assumes nothing.
use Rattle.std.specs.Prelude.{ℕ, ◌+◌, ◌≤◌, List, ◌↔◌, ◌≢◌, T}
use Rattle.timetable_spec.specs.Timetable.{week, good_timetable, wash_at, in_force, Changes, changes}
use Rattle.timetable_spec.specs.Windows.{Window, numbers_of, Held, Windows}

-- 02, W5: "A timetable lists windows in minutes of the week as pairs"
unfoldable pub GoodExactly : Type 0
GoodExactly = (w : List ℕ) → T (good_timetable w) ↔ Windows w

-- "first minute, .. included and last, .. excluded"
unfoldable pub WashExactly : Type 0
WashExactly = (ps : List Window) (m : ℕ) → T (wash_at (numbers_of ps) m) ↔ Held ps m

-- "If the drawing in force changes at any minute after the last event's, up to and including the present one's"
unfoldable pub ChangesExactly : Type 0
ChangesExactly = (w : List ℕ) (l n : ℕ) → T (good_timetable w) → T (changes w l n) ↔ Changes w l n

-- ours: how long an interval is matters up to a week
unfoldable pub WeekOrMore : Type 0
WeekOrMore = (w : List ℕ) (l n : ℕ) → T (good_timetable w) → l + week ≤ n
    → T (changes w l n) ↔ ((i : ℕ) × (j : ℕ) × (in_force w i ≢ in_force w j))
