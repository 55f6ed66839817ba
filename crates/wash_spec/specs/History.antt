-- A monitor along a list of calls with the same tables and timetable, and what 02, W5, says of it.
--     unstarted                       the monitor that lists begin with
--     timed_call_on, timed_history    a monitor after one call; after a list of calls
--     TimedLeaves                     record and areas are an outcome's
--     TimedEventful, TimedAlong       no call of a list is refused with 2 to 10 or 16
--     TimedJoins                      what a call joins, by its answer
--     since_start                     the events since a list's last start
--     AfterStart, TimedAfter          the judgement on them; all that is said of the monitor by the joined list
-- Assumes nothing.
use Rattle.std.specs.Prelude.{ℕ, ◌*◌, ◌≤◌, ◌≡◌, cond, List, [], ◌∷◌, ◌++◌, ◌⊎◌, length, take, T}
use Rattle.table.specs.Table.{Table}
use Rattle.table.specs.Operations.{zeros}
use Rattle.meaning.specs.Figure1.{Term}
use Rattle.meaning.specs.Figure2.{TraceSet}
use Rattle.monitor_spec.specs.State.{State, work_measured, slot_count}
use Rattle.monitor_spec.specs.Open.{open_of}
use Rattle.monitor_spec.specs.Refusals.{Measured}
use Rattle.monitor_spec.specs.History.{Leaves, AfterEvents}
use Rattle.timetable_spec.specs.Timetable.{in_force}
use Rattle.wash_spec.specs.Timed.{TimedState, not_started, started, TimedMonitor, plain, TimedAnswer, given}
use Rattle.wash_spec.specs.Timed.{refused, stopped, TimedOutcome}
use Rattle.wash_spec.specs.Taking.{drawing_at}
use Rattle.wash_spec.specs.Feed.{timed_pairs, events_of, minutes_of, timed_of}
use Rattle.wash_spec.specs.Joined.{TimedCall, stretch}

-- "before the first event, only zero areas": with n slots
unfoldable pub unstarted : ℕ → TimedMonitor
unstarted n = record { state = not_started; area0 = zeros (n * 16); area1 = zeros (n * 16) }

-- 01: "After a refusal without a record, the record that went in stands."
unfoldable pub timed_standing : TimedState → TimedAnswer → TimedState
timed_standing s (given r) = r
timed_standing s (refused n p) = s
timed_standing s (stopped n p r) = r

module _ (everyday wash windows : List ℕ) where
  -- 01: "each later one the record and areas as the call before left them"
  unfoldable pub timed_call_on : TimedMonitor → TimedCall → TimedMonitor
  timed_call_on m c =
      let o = timed_of everyday wash windows m c.events c.minutes c.work in
      record { state = timed_standing m.state o.answer; area0 = o.area0; area1 = o.area1 }

  -- "over lists of calls with the same tables and timetable"
  unfoldable pub timed_history : TimedMonitor → List TimedCall → TimedMonitor
  timed_history m [] = m
  timed_history m (c ∷ cs) = timed_history (timed_call_on m c) cs

-- the call is not refused
pub record TimedLeaves (o : TimedOutcome) (m : TimedMonitor) : Type 0 where
  pub record_same : o.answer ≡ given m.state
  pub area0_same : o.area0 ≡ m.area0
  pub area1_same : o.area1 ≡ m.area1

-- lent lengths, where the areas are right
pub record Paired (c : TimedCall) : Type 0 where
  pub work : T (work_measured c.work)
  pub minutes : length c.events ≡ length c.minutes

-- a call is not refused, or at an event, with 11, 12, 13 or 17, or with 1 for a lent length
abbrev pub TimedEventful : TimedCall → TimedAnswer → Type 0
TimedEventful c (given r) = Paired c
TimedEventful c (refused n p) = (Paired c → ⊥) × (n ≡ 1) × (p ≡ 0)
TimedEventful c (stopped n p r) = Paired c × (((11 ≤ n) × (n ≤ 13)) ⊎ (n ≡ 17))

abbrev pub TimedAlong : List ℕ → List ℕ → List ℕ → TimedMonitor → List TimedCall → Type 0
TimedAlong everyday wash windows m [] = Unit
TimedAlong everyday wash windows m (c ∷ cs) =
    TimedEventful c (timed_of everyday wash windows m c.events c.minutes c.work).answer
    × TimedAlong everyday wash windows (timed_call_on everyday wash windows m c) cs

-- "a call joins its events before the first one refused, 17 and crowded settling included": from s to r
abbrev pub TimedJoins : List (ℕ × ℕ) → List (ℕ × ℕ) → TimedCall → TimedAnswer → Type 0
TimedJoins s r c (given x) = r ≡ s ++ timed_pairs c.events c.minutes
TimedJoins s r c (refused n p) = r ≡ s
TimedJoins s r c (stopped n p x) = r ≡ s ++ take p (timed_pairs c.events c.minutes)

-- "the events joined since that start"
abbrev pub since_start : List ℕ → List (ℕ × ℕ) → List ℕ
since_start windows s = (stretch windows s).events

-- "the judgement is that of the drawing in force on the events joined since that start": the number lists l and k are
-- the tables t and u, whose trace sets are H and K; of a joined list s whose last minute is now
pub record AfterStart (l k windows : List ℕ) (t u : Table) (H K : Term → TraceSet) (n : ℕ) (s : List (ℕ × ℕ)) (now : ℕ)
    (m : TimedMonitor) : Type 0 where
  pub state : State
  pub minute : m.state ≡ started state now
  pub judged : AfterEvents (drawing_at t u windows now) (cond (in_force windows now) K H) n (since_start windows s)
      (plain state m.area0 m.area1)
  -- and what one Open on them leaves, of that table alone, lent areas of as many slots and of any content (02, W7)
  pub as_opened : (a b work : List ℕ) → Measured a b work → slot_count a ≡ n
      → Leaves (open_of (cond (in_force windows now) k l) a b (since_start windows s) work)
      (plain state m.area0 m.area1)

-- of the joined list s and the monitor m
pub record TimedAfter (l k windows : List ℕ) (t u : Table) (H K : Term → TraceSet) (n : ℕ) (s : List (ℕ × ℕ))
    (m : TimedMonitor) : Type 0 where
  -- one call on them all, from the monitor that lists begin with, is not refused and leaves it
  pub one_call : (work : List ℕ) → T (work_measured work)
      → TimedLeaves (timed_of l k windows (unstarted n) (events_of s) (minutes_of s) work) m
  pub none_joined : s ≡ [] → m ≡ unstarted n
  pub some_joined : (before : List (ℕ × ℕ)) (e now : ℕ) → s ≡ before ++ (e, now) ∷ []
      → AfterStart l k windows t u H K n s now m
