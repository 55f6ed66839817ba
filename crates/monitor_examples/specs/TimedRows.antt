-- Worked calls in wash hours (ours, from 02, W5): whole outcomes with every lent word, beside what is expected.
--     TimedLeft    what a call leaves;  RowsStand: that each leaves what is expected
-- Table B of document 01 is the everyday one, but in one row `twofold`; the tables of the wash hours are `rinse`,
-- `forked` and `twofold`.
-- Assumes nothing.
use Rattle.std.specs.Prelude.{ℕ, ◌≡◌, List, [], ◌∷◌, ◌++◌, map, replicate}
use Rattle.table.specs.Table.{fixed, stop, prefix, choice, par, call, one}
use Rattle.table.specs.Writing.{numbers_of}
use Rattle.table.specs.Operations.{zeros}
use Rattle.table.specs.Examples.{table_b}
use Rattle.monitor_spec.specs.State.{running, failed_at}
use Rattle.monitor_spec.specs.Feed.{counter_most}
use Rattle.monitor_spec.specs.Examples.{drawn, a, b}
use Rattle.monitor_examples.specs.Cases.{peaked, st, def, one_node, word}
use Rattle.timetable_spec.specs.Timetable.{week, minute_bound}
use Rattle.wash_spec.specs.Timed.{TimedState, not_started, started, TimedMonitor, TimedAnswer, given, refused}
use Rattle.wash_spec.specs.Timed.{stopped, TimedOutcome}
use Rattle.wash_spec.specs.Feed.{timed_of}

-- words that nobody wrote
abbrev sevens : ℕ → List ℕ
sevens n = replicate n 7

-- A = 2: 1 for ever
abbrev rinse : List ℕ
rinse =
    numbers_of (record {
      alphabet = 2;
      sets = one (1 ∷ []) ∷ [];
      definitions = def 0 (prefix (fixed 0) (call 0)) ∷ [];
    })

-- K7: two residuals at the start;  K8: one, and two after 0
abbrev forked : List ℕ
forked = drawn (choice (a stop) (a (b stop)))

abbrev twofold : List ℕ
twofold = drawn (par (fixed 2) (a stop) (a stop))

-- a table and a number more
abbrev more : List ℕ → List ℕ
more l = l ++ 0 ∷ []

abbrev mon : TimedState → List ℕ → List ℕ → TimedMonitor
mon s x y = record { state = s; area0 = x; area1 = y }

-- one slot, before the first event
abbrev fresh : TimedMonitor
fresh = mon not_started (zeros 16) (zeros 16)

-- after 0 at minute k, on table B
abbrev first : ℕ → TimedState
first k = started (st 1 1 running) k

abbrev after : ℕ → TimedMonitor
after k = mon (first k) (zeros 16) (one_node (word 1 0))

-- from the sixtieth minute to the hundred and twentieth
abbrev hour : List ℕ
hour = 60 ∷ 120 ∷ []

pub record TimedLeft : Type 0 where
  pub got : TimedOutcome
  pub expected : TimedOutcome

abbrev timed_leaves : TimedOutcome → TimedAnswer → List ℕ → List ℕ → List ℕ → TimedLeft
timed_leaves o r x y w = record { got = o; expected = record { answer = r; area0 = x; area1 = y; work = w } }

-- table B, the wash table l, a timetable: what stands after the events, with one slot
abbrev goes : List ℕ → List ℕ → TimedMonitor → List ℕ → List ℕ → TimedAnswer → List ℕ → List ℕ → TimedLeft
goes l ws m es ms r x y = timed_leaves (timed_of table_b l ws m es ms (sevens 8192)) r x y (zeros 8192)

-- what stands after an odd number of events on `rinse`
abbrev rinsed : List ℕ → List ℕ → List ℕ → TimedState → TimedLeft
rinsed ws es ms s = goes rinse ws fresh es ms (given s) (zeros 16) (one_node 0)

abbrev pub started_rows : List TimedLeft
started_rows =
    -- "The monitor starts with its first event, on the drawing in force at that minute": a window's first minute is
    -- included, its last excluded
    goes rinse hour fresh (0 ∷ []) (59 ∷ []) (given (first 59)) (zeros 16) (one_node (word 1 0))
    ∷ rinsed hour (1 ∷ []) (60 ∷ []) (first 60)
    ∷ rinsed hour (1 ∷ []) (119 ∷ []) (first 119)
    ∷ goes rinse hour fresh (0 ∷ []) (120 ∷ []) (given (first 120)) (zeros 16) (one_node (word 1 0))
    -- no change: the same minute again
    ∷ goes rinse hour fresh (0 ∷ 1 ∷ []) (59 ∷ 59 ∷ []) (given (started (st 2 1 running) 59)) (one_node 0) (zeros 16)
    -- a change, up to and including the present minute; after a whole week
    ∷ rinsed hour (0 ∷ 1 ∷ []) (59 ∷ 60 ∷ []) (first 60)
    ∷ goes rinse hour fresh (0 ∷ 0 ∷ []) (0 ∷ week ∷ []) (given (first week)) (zeros 16) (one_node (word 1 0))
    -- a change and a change back
    ∷ goes rinse hour fresh (0 ∷ 0 ∷ []) (59 ∷ 120 ∷ []) (given (first 120)) (zeros 16) (one_node (word 1 0))
    -- touching windows, so at the week's end; the whole week; no window
    ∷ goes rinse (60 ∷ 90 ∷ 90 ∷ 120 ∷ []) fresh (1 ∷ 1 ∷ []) (60 ∷ 119 ∷ []) (given (started (st 2 1 running) 119))
    (one_node 0) (zeros 16)
    ∷ goes rinse (0 ∷ 60 ∷ 10020 ∷ week ∷ []) fresh (1 ∷ 1 ∷ []) (10079 ∷ week ∷ [])
    (given (started (st 2 1 running) week)) (one_node 0) (zeros 16)
    ∷ goes rinse (0 ∷ week ∷ []) fresh (1 ∷ 1 ∷ []) (0 ∷ 281474976710655 ∷ [])
    (given (started (st 2 1 running) 281474976710655)) (one_node 0) (zeros 16)
    ∷ goes rinse [] fresh (0 ∷ 1 ∷ []) (0 ∷ 281474976710655 ∷ [])
    (given (started (st 2 1 running) 281474976710655)) (one_node 0) (zeros 16)
    -- a failed record starts afresh; without a change its place stays
    ∷ rinsed hour (1 ∷ 1 ∷ []) (0 ∷ 60 ∷ []) (first 60)
    ∷ goes rinse hour fresh (1 ∷ 1 ∷ []) (0 ∷ 59 ∷ []) (given (started (peaked 2 0 1 (failed_at 1)) 59)) (zeros 16)
    (zeros 16)
    -- the largest count since the last start: 2 before it, 1 after it
    ∷ timed_leaves (timed_of twofold rinse hour (mon not_started (zeros 32) (zeros 32)) (0 ∷ 1 ∷ []) (0 ∷ 60 ∷ [])
    (sevens 8192))
    (given (first 60)) (zeros 32) (one_node 0 ++ zeros 16) (zeros 8192)
    -- no event: nothing changes
    ∷ goes rinse hour fresh [] [] (given not_started) (zeros 16) (zeros 16)
    ∷ goes rinse hour (after 59) [] [] (given (first 59)) (zeros 16) (one_node (word 1 0))
    ∷ []

abbrev pub refused_rows : List TimedLeft
refused_rows =
    -- 17: "a minute below the last or 2^48 or more", checked before crowded settling and 11; what stood still stands
    goes rinse hour fresh (9 ∷ []) (281474976710656 ∷ []) (stopped 17 0 not_started) (zeros 16) (zeros 16)
    ∷ goes forked hour (after 59) (9 ∷ []) (58 ∷ []) (stopped 17 0 (first 59)) (zeros 16) (one_node (word 1 0))
    ∷ goes forked hour (after 59) (9 ∷ []) (281474976716700 ∷ []) (stopped 17 0 (first 59)) (zeros 16)
    (one_node (word 1 0))
    -- a stored minute of 2^48 or more is read on its remainder, here 60; every event is then 17
    ∷ goes rinse hour (after 281474976716700) [] [] (refused 10 0) (zeros 16) (one_node (word 1 0))
    ∷ goes rinse hour (after minute_bound) (1 ∷ []) (minute_bound ∷ []) (stopped 17 0 (first minute_bound)) (zeros 16)
    (one_node (word 1 0))
    -- crowded settling, before 11: record, areas and minute are those of before; so before the first event
    ∷ goes forked hour fresh (0 ∷ 0 ∷ []) (59 ∷ 60 ∷ []) (stopped 13 1 (first 59)) (zeros 16) (one_node (word 1 0))
    ∷ goes forked hour (after 59) (9 ∷ []) (60 ∷ []) (stopped 13 0 (first 59)) (zeros 16) (one_node (word 1 0))
    ∷ goes forked hour fresh (9 ∷ []) (60 ∷ []) (stopped 13 0 not_started) (zeros 16) (zeros 16)
    -- 13 after the event of a fresh start
    ∷ goes twofold hour (after 59) (0 ∷ []) (60 ∷ []) (stopped 13 0 (first 59)) (zeros 16) (one_node (word 1 0))
    -- 11, by the alphabet of the table in force: 2 fails everyday and is none in wash hours
    ∷ goes rinse hour (after 59) (2 ∷ []) (59 ∷ []) (given (started (peaked 2 0 1 (failed_at 2)) 59)) (zeros 16)
    (zeros 16)
    ∷ goes rinse hour (after 59) (2 ∷ []) (60 ∷ []) (stopped 11 0 (first 59)) (zeros 16) (one_node (word 1 0))
    -- a place counts this call's events, through a start
    ∷ goes rinse hour fresh (0 ∷ 1 ∷ 1 ∷ 9 ∷ []) (0 ∷ 1 ∷ 60 ∷ 61 ∷ []) (stopped 11 3 (first 60)) (zeros 16) (one_node 0)
    -- 12, and not where a start is due
    ∷ goes rinse hour (mon (started (st counter_most 1 running) 0) (zeros 16) (one_node 0)) (0 ∷ []) (1 ∷ [])
    (stopped 12 0 (started (st counter_most 1 running) 0)) (zeros 16) (one_node 0)
    ∷ goes rinse hour (mon (started (st counter_most 1 running) 0) (zeros 16) (one_node 0)) (1 ∷ []) (60 ∷ [])
    (given (first 60)) (zeros 16) (one_node 0)
    -- 10: before the first event only the zeros are read; then the table in force at the last event's minute
    ∷ goes rinse hour (mon not_started (zeros 16) (sevens 16)) [] [] (refused 10 0) (zeros 16) (sevens 16)
    ∷ goes rinse hour (mon not_started (sevens 16) (zeros 16)) [] [] (refused 10 0) (sevens 16) (zeros 16)
    ∷ goes rinse hour (after 60) (1 ∷ []) (59 ∷ []) (refused 10 0) (zeros 16) (one_node (word 1 0))
    -- 16: an odd list, an empty window, a bound, a descent, an overlap; before 10
    ∷ goes rinse (60 ∷ 120 ∷ 121 ∷ []) (after 60) [] [] (refused 16 0) (zeros 16) (one_node (word 1 0))
    ∷ goes rinse (60 ∷ 60 ∷ []) (after 60) [] [] (refused 16 0) (zeros 16) (one_node (word 1 0))
    ∷ goes rinse (60 ∷ 10081 ∷ []) (after 60) [] [] (refused 16 0) (zeros 16) (one_node (word 1 0))
    ∷ goes rinse (60 ∷ 120 ∷ 0 ∷ 30 ∷ []) (after 60) [] [] (refused 16 0) (zeros 16) (one_node (word 1 0))
    ∷ goes rinse (60 ∷ 120 ∷ 119 ∷ 130 ∷ []) (after 60) [] [] (refused 16 0) (zeros 16) (one_node (word 1 0))
    -- "after both tables, the everyday one first"
    ∷ goes (more rinse) (60 ∷ []) fresh [] [] (refused 6 11) (zeros 16) (zeros 16)
    ∷ timed_leaves (timed_of (more table_b) (more rinse) (60 ∷ []) fresh [] [] (sevens 8192)) (refused 6 16) (zeros 16)
    (zeros 16) (zeros 8192)
    -- 1, before both: a minute is missing; lent lengths. All is kept
    ∷ timed_leaves (timed_of (more table_b) rinse hour (after 59) (0 ∷ 1 ∷ []) (59 ∷ []) (sevens 8192)) (refused 1 0)
    (zeros 16)
    (one_node (word 1 0)) (sevens 8192)
    ∷ timed_leaves (timed_of (more table_b) rinse hour (after 59) [] [] (sevens 8191)) (refused 1 0) (zeros 16)
    (one_node (word 1 0)) (sevens 8191)
    ∷ timed_leaves (timed_of table_b rinse hour (mon not_started (sevens 16) (sevens 32)) [] [] (sevens 8192)) (refused 1 0)
    (sevens 16) (sevens 32) (sevens 8192)
    ∷ []

abbrev stand : List TimedLeft → Type 0
stand rs = map (λ (x : TimedLeft). x.got) rs ≡ map (λ (x : TimedLeft). x.expected) rs

abbrev pub RowsStand : Type 0
RowsStand = stand started_rows × stand refused_rows
