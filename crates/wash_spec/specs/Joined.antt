-- Lists of calls and their joined events, each with its minute (02, W5; 01, "Joined events"). From those sentences
-- alone: nothing here knows of the answers.
--     TimedCall, looked_at    a call's own events, minutes and work area; those that are looked at
--     Stretch, stretch        of a joined list: its last minute, and the events since its last start
--     timed_halts             the call stops before this event
--     timed_joined            the list after a list of calls
-- The laws are in `proofs/Joined/Laws.antt`. Assumes nothing.
use Rattle.std.specs.Prelude.{ℕ, Bool, true, false, ◌&&◌, ◌||◌, List, [], ◌∷◌, ◌++◌, map, length, eqb, leb, ltb}
use Rattle.std.proofs.Math.Option.{Option, none, some}
use Rattle.table.specs.Table.{Table}
use Rattle.monitor_spec.specs.State.{work_measured}
use Rattle.monitor_spec.specs.Fold.{extend_all}
use Rattle.monitor_spec.specs.Joined.{residual_count, halts}
use Rattle.timetable_spec.specs.Timetable.{minute_bound, changes}
use Rattle.wash_spec.specs.Taking.{drawing_at}
use Rattle.wash_spec.specs.Feed.{timed_pairs}

-- 01: "Events and work area are each call's own, of any content and length."; "Each event brings an absolute minute"
pub record TimedCall : Type 0 where
  pub events : List ℕ
  pub minutes : List ℕ
  pub work : List ℕ

-- 01: "A call refused before its events are looked at (here only with 1 ..) adds none."
unfoldable pub looked_at : TimedCall → List (ℕ × ℕ)
looked_at c =
    elim (work_measured c.work && eqb (length c.events) (length c.minutes)) [
      | true ↦ timed_pairs c.events c.minutes
      | false ↦ []
    ]

-- ---- where the starts of a list lie

pub record Stretch : Type 0 where
  pub last : Option ℕ
  pub events : List ℕ

-- "The monitor starts with its first event"; "If the drawing in force changes at any minute after the last event's, up
-- to and including the present one's, the monitor starts afresh"
unfoldable pub starts_at : List ℕ → Option ℕ → ℕ → Bool
starts_at windows none now = true
starts_at windows (some last) now = changes windows last now

-- the events since the start that an event at this minute counts from
unfoldable pub held_at : List ℕ → Stretch → ℕ → List ℕ
held_at windows x now = elim (starts_at windows x.last now) [ true ↦ [] | false ↦ x.events ]

-- one event more
unfoldable pub grown : List ℕ → Stretch → ℕ × ℕ → Stretch
grown windows x p = record { last = some p.1; events = held_at windows x p.1 ++ p.0 ∷ [] }

unfoldable pub stretch_from : List ℕ → Stretch → List (ℕ × ℕ) → Stretch
stretch_from windows x [] = x
stretch_from windows x (p ∷ ps) = stretch_from windows (grown windows x p) ps

unfoldable pub stretch : List ℕ → List (ℕ × ℕ) → Stretch
stretch windows ps = stretch_from windows (record { last = none; events = [] }) ps

-- ---- the joined list

-- "clock back, a minute below the last or 2^48 or more"
unfoldable pub backward : Option ℕ → ℕ → Bool
backward none now = leb minute_bound now
backward (some last) now = ltb now last || leb minute_bound now

-- "a call joins its events before the first one refused, 17 and crowded settling included": a minute that is back; a
-- start with more residuals than slots; and 01's conditions, on the table in force, of the events since the start
unfoldable pub halts_after : Table → Table → List ℕ → ℕ → Stretch → ℕ × ℕ → Bool
halts_after everyday wash windows n x p =
    let t = drawing_at everyday wash windows p.1 in
    backward x.last p.1
    || ((starts_at windows x.last p.1 && ltb n (residual_count t []))
    || halts t n (held_at windows x p.1) p.0)

unfoldable pub timed_halts : Table → Table → List ℕ → ℕ → List (ℕ × ℕ) → ℕ × ℕ → Bool
timed_halts everyday wash windows n s p = halts_after everyday wash windows n (stretch windows s) p

-- 01: "Each call goes through its events from the first. .. Every event before that goes to the list's end."
unfoldable pub timed_joined : Table → Table → List ℕ → ℕ → List TimedCall → List (ℕ × ℕ)
timed_joined everyday wash windows n calls = extend_all (timed_halts everyday wash windows n) [] (map looked_at calls)
