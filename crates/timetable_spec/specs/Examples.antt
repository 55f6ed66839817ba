-- Worked timetables, at the bounds of 02, W5.
--     Judged, judged_all  a list, and whether it is good
--     Asked, asked_all    a timetable and two minutes, which table is in force at the second, whether it changed
--     Examples            all of them hold
-- Assumes nothing.
use Rattle.std.specs.Prelude.{ℕ, Bool, true, false, ◌&&◌, List, [], ◌∷◌, T}
use Rattle.std.specs.Bool.{beq}
use Rattle.timetable_spec.specs.Timetable.{good_timetable, in_force, changes}

pub record Judged : Type 0 where
  pub list : List ℕ
  pub good : Bool

pub record Asked : Type 0 where
  pub windows : List ℕ
  pub last : ℕ
  pub now : ℕ
  pub wash : Bool
  pub changed : Bool

abbrev pub judged_all : List Judged → Bool
judged_all [] = true
judged_all (r ∷ rs) = beq (good_timetable r.list) r.good && judged_all rs

abbrev pub asked_all : List Asked → Bool
asked_all [] = true
asked_all (r ∷ rs) =
    beq (good_timetable r.windows) true
    && (beq (in_force r.windows r.now) r.wash
    && (beq (changes r.windows r.last r.now) r.changed && asked_all rs))

abbrev pub list : List ℕ → Bool → Judged
list w b = record { list = w; good = b }

abbrev pub ask : List ℕ → ℕ → ℕ → Bool → Bool → Asked
ask w l n x y = record { windows = w; last = l; now = n; wash = x; changed = y }

abbrev pub lists : List Judged
lists =
    -- no window; the shortest at either end of the week; the whole week
    list [] true
    ∷ list (0 ∷ 1 ∷ []) true
    ∷ list (10079 ∷ 10080 ∷ []) true
    ∷ list (0 ∷ 10080 ∷ []) true
    -- "first minute, 0 to 10,079", "last, up to 10,080"
    ∷ list (10080 ∷ 10080 ∷ []) false
    ∷ list (10079 ∷ 10081 ∷ []) false
    ∷ list (10080 ∷ 10081 ∷ []) false
    -- "touching is allowed", "not overlapping"
    ∷ list (60 ∷ 120 ∷ 120 ∷ 180 ∷ []) true
    ∷ list (60 ∷ 120 ∷ 119 ∷ 180 ∷ []) false
    ∷ list (60 ∷ 180 ∷ 90 ∷ 120 ∷ []) false
    -- "strictly ascending"
    ∷ list (60 ∷ 120 ∷ 300 ∷ 360 ∷ []) true
    ∷ list (300 ∷ 360 ∷ 60 ∷ 120 ∷ []) false
    ∷ list (60 ∷ 120 ∷ 60 ∷ 120 ∷ []) false
    -- "Empty windows and odd lists are bad"
    ∷ list (60 ∷ 60 ∷ []) false
    ∷ list (120 ∷ 60 ∷ []) false
    ∷ list (60 ∷ 120 ∷ 120 ∷ 120 ∷ []) false
    ∷ list (60 ∷ []) false
    ∷ list (60 ∷ 120 ∷ 180 ∷ []) false
    ∷ []

-- one window
abbrev pub one : List ℕ
one = 60 ∷ 120 ∷ []

-- two that touch
abbrev pub touching : List ℕ
touching = 60 ∷ 120 ∷ 120 ∷ 180 ∷ []

-- two that touch round the week's end
abbrev pub round : List ℕ
round = 0 ∷ 60 ∷ 10020 ∷ 10080 ∷ []

-- the whole week, in two windows
abbrev pub whole : List ℕ
whole = 0 ∷ 5000 ∷ 5000 ∷ 10080 ∷ []

abbrev pub questions : List Asked
questions =
    -- "included" and "excluded"; at the minute of the change, and one before it
    ask one 58 59 false false
    ∷ ask one 59 60 true true
    ∷ ask one 118 119 true false
    ∷ ask one 119 120 false true
    -- "after the last event's": its own minute is no change after it
    ∷ ask one 60 60 true false
    ∷ ask one 60 119 true false
    ∷ ask one 120 120 false false
    -- a change and one back, between two events; out of the window and into the next week's
    ∷ ask one 59 120 false true
    ∷ ask one 60 10140 true true
    ∷ ask one 119 10139 false true
    ∷ ask one 120 10139 false false
    ∷ ask one 120 10140 true true
    -- a week or more
    ∷ ask one 0 10080 false true
    ∷ ask one 0 281474976710655 false true
    ∷ ask one 70 10150 true true
    -- windows that touch
    ∷ ask touching 60 179 true false
    ∷ ask touching 60 180 false true
    -- the week's end is no change where windows touch there, and none where no window does
    ∷ ask round 10079 10080 true false
    ∷ ask round 10020 10139 true false
    ∷ ask round 10020 10140 false true
    ∷ ask round 60 10019 false false
    ∷ ask round 60 10020 true true
    ∷ ask one 200 10100 false false
    -- no window, and the whole week
    ∷ ask [] 0 281474976710655 false false
    ∷ ask whole 0 281474976710655 true false
    -- a minute below the last
    ∷ ask one 60 59 false false
    ∷ []

unfoldable pub Examples : Type 0
Examples = T (judged_all lists && asked_all questions)
