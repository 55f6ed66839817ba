-- Calls on table B of 01 as C makes them, with two slots, as computed rows.
--     opened, fed        the words that an Open leaves; a Feed on them;  tried: a Try on them
--     RowsHold           what is returned and left
-- Assumes nothing.
use Rattle.std.specs.Prelude.{ℕ, ◌≡◌, List, [], ◌∷◌, ◌++◌, map, replicate}
use Rattle.table.specs.Operations.{zeros}
use Rattle.table.specs.Examples.{table_b}
use Rattle.monitor_spec.specs.State.{running, failed_at}
use Rattle.words_spec.specs.Words.{state_in}
use Rattle.words_spec.specs.Tables.{table_said, read_call, write_call}
use Rattle.words_spec.specs.Calls.{MonitorCall, OpenCall, OfferCall, ViewCall, open_call, feed_call, try_call, offer_call}
use Rattle.words_spec.specs.Calls.{view_call}
use Rattle.words_spec.specs.Calls as calls

-- A = 1, the set {0}: (0 to STOP) choice (0 to FAIL), two residuals; 0 to (0 to STOP) choice (0 to FAIL), one and then
-- two
abbrev pub two : List ℕ
two = 1 ∷ 1 ∷ 0 ∷ 1 ∷ 0 ∷ 1 ∷ 0 ∷ 3 ∷ 2 ∷ 0 ∷ 0 ∷ 2 ∷ 0 ∷ 1 ∷ []

abbrev pub forks : List ℕ
forks = 1 ∷ 1 ∷ 0 ∷ 1 ∷ 0 ∷ 1 ∷ 0 ∷ 2 ∷ 0 ∷ 3 ∷ 2 ∷ 0 ∷ 0 ∷ 2 ∷ 0 ∷ 1 ∷ []

-- a record's words
abbrev pub five : ℕ → ℕ → ℕ → ℕ → ℕ → List ℕ
five taken count failed place peak = taken ∷ count ∷ failed ∷ place ∷ peak ∷ []

-- two slots: a residual of one node, and none
abbrev pub slot : ℕ → List ℕ
slot term = 1 ∷ term ∷ zeros 30

-- words that nobody wrote
abbrev pub sevens : ℕ → List ℕ
sevens n = replicate n 7

-- a further record before a Try
abbrev pub further : List ℕ
further = sevens 5

-- whatever stood in the record and the areas
unfoldable pub opened : List ℕ → OpenCall
opened es = open_call table_b (sevens 5) (sevens 32) (sevens 32) es (zeros 8192)

unfoldable pub started : MonitorCall
started = (opened []).call

unfoldable pub fed : List ℕ → MonitorCall
fed es = feed_call table_b started.words started.area0 started.area1 es (zeros 8192)

-- the further record and areas are lent with the words r, c and d in them
unfoldable pub tried : List ℕ → List ℕ → List ℕ → List ℕ → MonitorCall
tried r c d es = try_call table_b started.words started.area0 started.area1 r c d es (zeros 8192)

unfoldable pub offered : MonitorCall → OfferCall
offered m = offer_call table_b m.words m.area0 m.area1 (zeros 8192)

unfoldable pub viewed : MonitorCall → ViewCall
viewed m = view_call m.words m.area0 m.area1

abbrev left : ℕ → ℕ → List ℕ → List ℕ → List ℕ → MonitorCall
left n p r a b = calls.monitor_said n p r a b (zeros 8192)

abbrev gave : ℕ → ℕ → ℕ → List ℕ → List ℕ → List ℕ → OpenCall
gave n p k r a b = calls.open_said n p k r a b (zeros 8192)

unfoldable pub RowsHold : Type 0
RowsHold =
    -- Read and Write: the count; "cut short" at the input's length; a short output
    (read_call table_b (zeros 16384) (zeros 8192) ≡ table_said 0 16 (table_b ++ zeros 16368) (zeros 8192))
    × (read_call (3 ∷ 2 ∷ []) (zeros 16384) (zeros 8192) ≡ table_said 3 2 (zeros 16384) (zeros 8192))
    × (write_call table_b (zeros 17) (zeros 8192) ≡ table_said 0 16 (table_b ++ 0 ∷ []) (zeros 8192))
    × (write_call table_b (zeros 15) (zeros 8192) ≡ table_said 1 0 (zeros 15) (zeros 8192))
    -- Open, with an empty list and with others; of areas that are not as long as each other
    × (opened [] ≡ gave 0 0 1 (five 0 1 0 0 1) (slot 0) (zeros 32))
    × (opened (0 ∷ 0 ∷ []) ≡ gave 0 0 1 (five 2 0 1 2 1) (zeros 32) (zeros 32))
    × (opened (0 ∷ 3 ∷ 1 ∷ []) ≡ gave 11 1 1 (five 1 1 0 0 1) (zeros 32) (slot 268435456))
    × (open_call table_b further (sevens 32) (sevens 16) [] (zeros 8192)
    ≡ gave 1 0 0 further (sevens 32) (sevens 16))
    -- 13 at place 0: while settling, with no record and the record's words kept; at the first event, with one
    × (open_call two further (sevens 16) (sevens 16) (0 ∷ []) (zeros 8192) ≡ gave 13 0 0 further (zeros 16) (zeros 16))
    × (open_call forks further (sevens 16) (sevens 16) (0 ∷ []) (zeros 8192)
    ≡ gave 13 0 1 (five 0 1 0 0 1) (1 ∷ zeros 15) (zeros 16))
    -- Feed on K3, K1, and on an event that is A
    × (fed (0 ∷ 1 ∷ 0 ∷ []) ≡ left 0 0 (five 3 1 0 0 1) (zeros 32) (slot 268435456))
    × (fed (0 ∷ 0 ∷ []) ≡ left 0 0 (five 2 0 1 2 1) (zeros 32) (zeros 32))
    × (fed (0 ∷ 3 ∷ 1 ∷ []) ≡ left 11 1 (five 1 1 0 0 1) (zeros 32) (slot 268435456))
    -- a record of four words, of six; one that the areas do not agree with
    × (open_call table_b (zeros 4) (zeros 32) (zeros 32) [] (zeros 9)
    ≡ calls.open_said 1 0 0 (zeros 4) (zeros 32) (zeros 32) (zeros 9))
    × (feed_call table_b (zeros 6) (zeros 32) (zeros 32) [] (zeros 8192) ≡ left 1 0 (zeros 6) (zeros 32) (zeros 32))
    × (feed_call table_b (five 0 1 0 0 1) (zeros 32) (zeros 32) [] (zeros 8192)
    ≡ left 10 0 (five 0 1 0 0 1) (zeros 32) (zeros 32))
    -- a peak above the count stays; one below it, one above the slots, and that after failure are refused
    × (feed_call table_b (five 0 1 0 0 2) (slot 0) (zeros 32) (0 ∷ []) (zeros 8192)
    ≡ left 0 0 (five 1 1 0 0 2) (zeros 32) (slot 268435456))
    × (feed_call table_b (five 0 1 0 0 0) (slot 0) (zeros 32) [] (zeros 8192)
    ≡ left 10 0 (five 0 1 0 0 0) (slot 0) (zeros 32))
    × (feed_call table_b (five 0 1 0 0 3) (slot 0) (zeros 32) [] (zeros 8192)
    ≡ left 10 0 (five 0 1 0 0 3) (slot 0) (zeros 32))
    × (feed_call table_b (five 2 0 1 2 3) (zeros 32) (zeros 32) [] (zeros 8192)
    ≡ left 10 0 (five 2 0 1 2 3) (zeros 32) (zeros 32))
    -- Try: as Feed, whatever stood in the further words; these are kept on 10, and where a length is wrong
    × (tried further (sevens 32) (sevens 32) (0 ∷ 1 ∷ 0 ∷ []) ≡ fed (0 ∷ 1 ∷ 0 ∷ []))
    × (tried further (sevens 32) (sevens 32) (0 ∷ 3 ∷ 1 ∷ []) ≡ fed (0 ∷ 3 ∷ 1 ∷ []))
    × (try_call table_b started.words (zeros 32) (zeros 32) further (sevens 32) (sevens 32) [] (zeros 8192)
    ≡ left 10 0 further (sevens 32) (sevens 32))
    × (tried further (sevens 32) (sevens 16) [] ≡ left 1 0 further (sevens 32) (sevens 16))
    × (tried (sevens 4) (sevens 32) (sevens 32) [] ≡ left 1 0 (sevens 4) (sevens 32) (sevens 32))
    -- Offer and View after 0, after 0 and 1, after failure
    × (offered (fed (0 ∷ [])) ≡ calls.offer_said 0 2 0 (zeros 32) (slot 268435456) (zeros 8192))
    × ((offered (fed (0 ∷ 1 ∷ []))).value ≡ 1)
    × ((offered (fed (0 ∷ 0 ∷ []))).value ≡ 0)
    × (map viewed (fed (0 ∷ []) ∷ fed (0 ∷ 1 ∷ []) ∷ fed (0 ∷ 0 ∷ []) ∷ [])
    ≡ calls.view_said 16 1 ∷ calls.view_said 16 0 ∷ calls.view_said 0 0 ∷ [])
    -- ours: no words of area 1 are said of area 0
    × (view_call (five 1 0 0 0 0) (zeros 32) (zeros 32) ≡ calls.view_said 0 0)
    -- View does not read the peak
    × (view_call (five 0 1 0 0 9) (slot 0) (zeros 32) ≡ calls.view_said 16 0)
    -- a word above 1 is read as failed; the place of a running record is not read
    × (state_in (five 5 0 7 2 4) ≡ record { taken = 5; count = 0; peak = 4; verdict = failed_at 2 })
    × (state_in (five 5 1 0 9 1) ≡ record { taken = 5; count = 1; peak = 1; verdict = running })
