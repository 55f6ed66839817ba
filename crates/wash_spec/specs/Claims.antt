-- What is proved of the wash hours' definitions (02, W5): statements only. The proofs are in `proofs/Theorems.antt`,
-- under the same names.
--     DrawingExactly          the table in force
--     TimedRefusedExactly     the refusals before the first event, on every input: 1 to 10 and 16
--     TimedStopsExactly       a call that stops at an event: 17, crowded settling, 11, 12, 13; place, and all of before
--     TimedGivesExactly       a call that takes all events;  TimedBuffers: areas and work words on every input
--     TimedHistories          over lists of calls, from the first event on: every start to the next
--     JoinsBeforeRefused      what a call along such a list joins
-- Assumes nothing.
use Rattle.std.specs.Prelude.{ℕ, ◌≤◌, ◌≡◌, List, [], ◌∷◌, ◌++◌, ◌↔◌, take, T}
use Rattle.table.specs.Table.{Table}
use Rattle.table.specs.Judge.{accepted, judge_list}
use Rattle.meaning.specs.Figure1.{Term}
use Rattle.meaning.specs.Figure2.{TraceSet, Model}
use Rattle.timetable_spec.specs.Timetable.{in_force}
use Rattle.timetable_spec.specs.Windows.{Windows}
use Rattle.wash_spec.specs.Timed.{TimedMonitor, refused}
use Rattle.wash_spec.specs.Taking.{drawing_at}
use Rattle.wash_spec.specs.Feed.{timed_of}
use Rattle.wash_spec.specs.Joined.{TimedCall, timed_joined}
use Rattle.wash_spec.specs.History.{unstarted, timed_history, TimedLeaves, TimedAlong, TimedJoins, TimedAfter}
use Rattle.wash_spec.specs.Refusals.{TimedRefused, TimedWorkLeft}
use Rattle.wash_spec.specs.Progress.{TimedLeavesAt, TimedStops, TimedGives}

-- "In wash hours another drawing applies."
unfoldable pub DrawingExactly : Type 0
DrawingExactly =
    (t u : Table) (windows : List ℕ) (minute : ℕ)
    → (T (in_force windows minute) → drawing_at t u windows minute ≡ u)
    × ((T (in_force windows minute) → ⊥) → drawing_at t u windows minute ≡ t)

-- "16 bad timetable, after both tables, the everyday one first, and before 10 (read on the drawing in force at the last
-- event's minute; before the first event, only zero areas)"
unfoldable pub TimedRefusedExactly : Type 0
TimedRefusedExactly =
    (l k windows : List ℕ) (m : TimedMonitor) (es ms w : List ℕ) (n p : ℕ)
    → ((timed_of l k windows m es ms w).answer ≡ refused n p) ↔ TimedRefused l k windows m es ms w n p

-- "Crowded settling, then 11 to 13, are met on the drawing and count so reached; a refused event restores all of
-- before."; "17 clock back, .. checked before crowded settling, both placed and answered like 11"
unfoldable pub TimedStopsExactly : Type 0
TimedStopsExactly =
    (l k windows : List ℕ) (m : TimedMonitor) (es ms w : List ℕ) (n p : ℕ) (left : TimedMonitor)
    → TimedLeavesAt (timed_of l k windows m es ms w) n p left ↔ TimedStops l k windows m es ms w n p left

-- "The monitor starts with its first event, on the drawing in force at that minute. If the drawing in force changes at
-- any minute after the last event's, up to and including the present one's, the monitor starts afresh"
unfoldable pub TimedGivesExactly : Type 0
TimedGivesExactly =
    (l k windows : List ℕ) (m : TimedMonitor) (es ms w : List ℕ) (left : TimedMonitor)
    → TimedLeaves (timed_of l k windows m es ms w) left ↔ TimedGives l k windows m es ms w left

-- "16 and later numbers but 17 return and keep what 10 does"; the work area is "all zero after each call, but kept on
-- refusal 1"
unfoldable pub TimedBuffers : Type 0
TimedBuffers =
    (l k windows : List ℕ) (m : TimedMonitor) (es ms w : List ℕ)
    → TimedWorkLeft m es ms w (timed_of l k windows m es ms w).work
    × ((n p : ℕ) → (timed_of l k windows m es ms w).answer ≡ refused n p
    → ((timed_of l k windows m es ms w).area0 ≡ m.area0) × ((timed_of l k windows m es ms w).area1 ≡ m.area1))

-- "From each such start to the next, if any, over lists of calls with the same tables and timetable, the judgement is
-- that of the drawing in force on the events joined since that start": of every beginning of the joined list, cut
-- inside a call too; and the monitor after the calls is that of the whole list
unfoldable pub TimedHistories : Type 1
TimedHistories =
    (l k windows ns ms : List ℕ) (t u : Table) → judge_list l ≡ accepted ns t → judge_list k ≡ accepted ms u
    → Windows windows
    → (n : ℕ) → 1 ≤ n → n ≤ 256
    → (H K : Term → TraceSet) → Model t H → Model u K
    → (calls : List TimedCall)
    → TimedAlong l k windows (unstarted n) calls
    × TimedAfter l k windows t u H K n (timed_joined t u windows n calls) (timed_history l k windows (unstarted n) calls)
    × ((i : ℕ) → (m : TimedMonitor) × TimedAfter l k windows t u H K n (take i (timed_joined t u windows n calls)) m)

-- "a call joins its events before the first one refused, 17 and crowded settling included"
unfoldable pub JoinsBeforeRefused : Type 0
JoinsBeforeRefused =
    (l k windows ns ms : List ℕ) (t u : Table) → judge_list l ≡ accepted ns t → judge_list k ≡ accepted ms u
    → Windows windows
    → (n : ℕ) → 1 ≤ n → n ≤ 256
    → (calls : List TimedCall) (c : TimedCall)
    → TimedJoins (timed_joined t u windows n calls) (timed_joined t u windows n (calls ++ c ∷ [])) c
    (timed_of l k windows (timed_history l k windows (unstarted n) calls) c.events c.minutes c.work).answer
