-- Further worked cases (ours, from 01's sentences): memories, calls, one residual from two sides, the counter, lists
-- of calls, inconsistent states; refusals 1 and 10 to 13 with their places.
--     Case, is         what was got beside what is expected
--     fed              Feed on a record and two areas as they are
--     after_open       an Open and a list of calls;  after_first: with a list of its own
-- Assumes nothing.
use Rattle.std.specs.Prelude.{ℕ, ◌+◌, ◌*◌, ◌≡◌, List, [], ◌∷◌, ◌++◌, map, replicate}
use Rattle.std.proofs.Math.Option.{Option, none, some}
use Rattle.table.specs.Table.{fixed, family, Term, stop, fail, prefix, choice, par, call, one, each, Definition}
use Rattle.table.specs.Table.{SetDef}
use Rattle.table.specs.Writing.{numbers_of}
use Rattle.table.specs.Operations.{zeros}
use Rattle.table.specs.Examples.{table_b}
use Rattle.monitor_spec.specs.State.{Verdict, running, failed_at, State, Answer, given, refused, stopped}
use Rattle.monitor_spec.specs.State.{Outcome}
use Rattle.monitor_spec.specs.Feed.{counter_most, feed_of}
use Rattle.monitor_spec.specs.Open.{open_of}
use Rattle.monitor_spec.specs.Joined.{Call}
use Rattle.monitor_spec.specs.History.{record_in, history}
use Rattle.monitor_spec.specs.Examples.{drawn, a, b, opening}

pub record Case : Type 0 where
  pub got : Answer
  pub expected : Answer

abbrev pub is : Answer → Answer → Case
is x y = record { got = x; expected = y }

-- a record whose peak is p; one whose peak is its count
abbrev pub peaked : ℕ → ℕ → ℕ → Verdict → State
peaked k c p v = record { taken = k; count = c; peak = p; verdict = v }

abbrev pub st : ℕ → ℕ → Verdict → State
st k c v = peaked k c c v

abbrev pub given_peak : ℕ → ℕ → ℕ → Verdict → Answer
given_peak k c p v = given (peaked k c p v)

abbrev pub given_at_peak : ℕ → ℕ → Verdict → Answer
given_at_peak k c v = given_peak k c c v

-- Feed on a record and two areas, as they are
unfoldable pub fed : List ℕ → State → List ℕ → List ℕ → List ℕ → Answer
fed l s x y es = (feed_of l (record { state = s; area0 = x; area1 = y }) es (zeros 8192)).answer

-- the record after an Open with these events and so many slots, and then these calls
unfoldable pub after_calls : List ℕ → Outcome → Option State → List Call → Answer
after_calls l o (some s) cs = given (history l (record { state = s; area0 = o.area0; area1 = o.area1 }) cs).state
after_calls l o none cs = o.answer

unfoldable pub after_first : ℕ → List ℕ → List ℕ → List Call → Answer
after_first n l es cs =
    let o = open_of l (zeros (n * 16)) (zeros (n * 16)) es (zeros 8192) in
    after_calls l o (record_in o.answer) cs

abbrev pub after_open : ℕ → List ℕ → List Call → Answer
after_open n l cs = after_first n l [] cs

-- a call with a work area of the right length, of any words; one with a wrong length
abbrev pub feeds : List ℕ → Call
feeds es = record { events = es; work = replicate 8192 7 }

abbrev pub short : List ℕ → Call
short es = record { events = es; work = replicate 8191 7 }

abbrev pub def : ℕ → Term → Definition
def l p = record { level = l; body = p }

-- A = 3
abbrev pub table3 : List SetDef → List Definition → List ℕ
table3 ss ds = numbers_of (record { alphabet = 3; sets = ss; definitions = ds })

-- x in {0,1} to STOP, twice, over {}
abbrev twice : List ℕ
twice = table3 (one (0 ∷ 1 ∷ []) ∷ one [] ∷ [])
    (def 0 (par (fixed 1) (prefix (fixed 0) stop) (prefix (fixed 0) stop)) ∷ [])

-- x in {0,1}, then (1 to 1 to STOP) parallel over row x of ({1},{0},{}) (1 to STOP)
abbrev rowed : List ℕ
rowed =
    table3 (one (0 ∷ 1 ∷ []) ∷ each ((1 ∷ []) ∷ (0 ∷ []) ∷ [] ∷ []) ∷ one (1 ∷ []) ∷ [])
    (def 0 (prefix (fixed 0) (par (family 1 0) (prefix (fixed 2) (prefix (fixed 2) stop)) (prefix (fixed 2) stop)))
    ∷ [])

-- P = 0 to P; P parallel over {} P
abbrev loops : List ℕ
loops =
    table3 (one (0 ∷ []) ∷ one [] ∷ [])
    (def 0 (prefix (fixed 0) (call 0)) ∷ def 1 (par (fixed 1) (call 0) (call 0)) ∷ [])

-- a guarded call of a higher definition number
abbrev higher : List ℕ
higher = table3 (one (0 ∷ []) ∷ []) (def 0 (prefix (fixed 0) (call 1)) ∷ def 0 stop ∷ def 1 (call 0) ∷ [])

-- eight STOPs in parallel; 0 to those
abbrev wide : List ℕ
wide =
    let two = par (fixed 0) stop stop in
    let four = par (fixed 0) two two in
    table3 (one (0 ∷ []) ∷ []) (def 0 (par (fixed 0) four four) ∷ def 0 (prefix (fixed 0) (call 0)) ∷ [])

-- seven STOPs in parallel; 0 to those
abbrev narrower : List ℕ
narrower =
    let two = par (fixed 0) stop stop in
    let seven = par (fixed 0) (par (fixed 0) two two) (par (fixed 0) two stop) in
    table3 (one (0 ∷ []) ∷ []) (def 0 seven ∷ def 0 (prefix (fixed 0) (call 0)) ∷ [])

-- one slot with one node, and one with three
abbrev pub one_node : ℕ → List ℕ
one_node w = 1 ∷ w ∷ zeros 14

abbrev pub three_nodes : ℕ → ℕ → ℕ → List ℕ
three_nodes u v w = 3 ∷ u ∷ v ∷ w ∷ zeros 12

-- the node word of a term and the nearest event
abbrev pub word : ℕ → ℕ → ℕ
word n d = n * 268435456 + d * 2097152

-- the node word of a term and four events, the nearest first
abbrev full : ℕ → ℕ → ℕ → ℕ → ℕ → ℕ
full n d0 d1 d2 d3 = n * 268435456 + d0 * 2097152 + d1 * 16384 + d2 * 128 + d3

-- x in {0,1}
abbrev either : Term → Term
either p = prefix (fixed 3) p

-- (0 to STOP) choice ((0 to STOP) parallel over {} itself): slots of one node and of three
abbrev mixed : List ℕ
mixed = drawn (choice (a stop) (par (fixed 2) (a stop) (a stop)))

abbrev pub eight : List ℕ
eight = drawn (par (fixed 2) (a stop) (a stop))

-- an event set of a parameter k, behind four prefixes
abbrev behind : ℕ → List ℕ
behind k = drawn (either (either (either (either (prefix (family 4 k) stop)))))

abbrev pub cases : List Case
cases =
    -- "STOP and a prefix give themselves with their memory": STOP after 0 and after 1 are two residuals
    is (opening 4 twice (0 ∷ 1 ∷ [])) (given_at_peak 2 2 running)
    -- a pair's memory is "kept through later events"
    ∷ is (opening 4 rowed (0 ∷ 1 ∷ [])) (given_at_peak 2 1 running)
    ∷ is (opening 4 rowed (0 ∷ 1 ∷ 1 ∷ [])) (given_peak 3 0 1 (failed_at 3))
    ∷ is (opening 4 rowed (1 ∷ 1 ∷ [])) (given_at_peak 2 2 running)
    ∷ is (opening 4 rowed (1 ∷ 1 ∷ 1 ∷ 1 ∷ [])) (given_peak 4 1 2 running)
    -- "A residual already held is not held twice": the same from both sides
    ∷ is (opening 1 loops (0 ∷ [])) (given_at_peak 1 1 running)
    -- a follower may call a higher definition number
    ∷ is (opening 1 higher (0 ∷ [])) (given_at_peak 1 1 running)
    ∷ is (opening 1 higher (0 ∷ 0 ∷ [])) (given_peak 2 0 1 (failed_at 2))
    -- "memory (e, m0, m1, m2)": parameters 0 and 3
    ∷ is (opening 1 (behind 0) (1 ∷ 1 ∷ 1 ∷ 0 ∷ 1 ∷ [])) (given_at_peak 5 1 running)
    ∷ is (opening 1 (behind 3) (0 ∷ 1 ∷ 1 ∷ 1 ∷ 1 ∷ [])) (given_at_peak 5 1 running)
    ∷ is (opening 1 (behind 3) (0 ∷ 1 ∷ 1 ∷ 1 ∷ 0 ∷ [])) (given_peak 5 0 1 (failed_at 5))
    -- "Later events are taken; the place stays."
    ∷ is (opening 1 table_b (0 ∷ 0 ∷ 1 ∷ [])) (given_peak 3 0 1 (failed_at 2))
    -- 11: place "events taken by this call", also after failure
    ∷ is (opening 1 table_b (0 ∷ 9 ∷ 1 ∷ [])) (stopped 11 1 (st 1 1 running))
    ∷ is (opening 1 table_b (1 ∷ 3 ∷ [])) (stopped 11 1 (peaked 1 0 1 (failed_at 1)))
    -- 13 at place 0 and at place 1: K8, and 1 to K8
    ∷ is (opening 1 (drawn (par (fixed 2) (a stop) (a stop))) (0 ∷ [])) (stopped 13 0 (st 0 1 running))
    ∷ is (opening 1 (drawn (b (par (fixed 2) (a stop) (a stop)))) (1 ∷ 0 ∷ [])) (stopped 13 1 (st 1 1 running))
    -- lists of calls: one event at a time; a refused event is left out; a wrong work length adds none
    ∷ is (after_open 1 table_b []) (given_at_peak 0 1 running)
    ∷ is (after_open 1 table_b (feeds (0 ∷ []) ∷ feeds (0 ∷ []) ∷ [])) (given_peak 2 0 1 (failed_at 2))
    ∷ is (after_open 1 table_b (feeds (0 ∷ 9 ∷ []) ∷ feeds [] ∷ feeds (1 ∷ 0 ∷ []) ∷ [])) (given_at_peak 3 1 running)
    ∷ is (after_open 1 table_b (feeds (0 ∷ []) ∷ short (0 ∷ []) ∷ feeds (1 ∷ []) ∷ [])) (given_at_peak 2 1 running)
    ∷ is (after_open 1 (drawn (b (par (fixed 2) (a stop) (a stop)))) (feeds (1 ∷ 0 ∷ []) ∷ feeds (2 ∷ []) ∷ []))
    (given_peak 2 0 1 (failed_at 2))
    -- 02, W7: an Open refused midway with 11 or 13 begins a history, and nothing from the refused event on joins; after
    -- crowded settling none begins
    ∷ is (after_first 1 table_b (0 ∷ 9 ∷ 0 ∷ []) (feeds (1 ∷ 0 ∷ []) ∷ [])) (given_at_peak 3 1 running)
    ∷ is (after_first 1 table_b (9 ∷ 0 ∷ []) (feeds (0 ∷ []) ∷ [])) (given_at_peak 1 1 running)
    ∷ is (after_first 1 (drawn (b (par (fixed 2) (a stop) (a stop)))) (1 ∷ 0 ∷ 2 ∷ []) (feeds [] ∷ []))
    (given_at_peak 1 1 running)
    ∷ is (after_first 1 (drawn (choice (a stop) (a (b stop)))) (0 ∷ []) (feeds (0 ∷ []) ∷ [])) (refused 13 0)
    -- the counter: 11 before 12, 12 only with an event; 2^64-2 and 2^64-1
    ∷ is (fed table_b (st counter_most 1 running) (zeros 16) (one_node 0) []) (given_at_peak counter_most 1 running)
    ∷ is (fed table_b (st counter_most 1 running) (zeros 16) (one_node 0) (3 ∷ []))
    (stopped 11 0 (st counter_most 1 running))
    ∷ is (fed table_b (st counter_most 1 running) (zeros 16) (one_node 0) (0 ∷ []))
    (stopped 12 0 (st counter_most 1 running))
    ∷ is (fed table_b (st 18446744073709551614 1 running) (one_node 0) (zeros 16) (0 ∷ 1 ∷ []))
    (stopped 12 1 (st 18446744073709551615 1 running))
    -- 12 before 13: two residuals after 0, one slot; 12 after failure
    ∷ is (fed eight (st counter_most 1 running) (zeros 16) (three_nodes (word 0 0) (word 1 0) (word 3 0)) (0 ∷ []))
    (stopped 12 0 (st counter_most 1 running))
    ∷ is (fed eight (st 1 1 running) (zeros 16) (three_nodes (word 0 0) (word 1 0) (word 3 0)) (0 ∷ []))
    (stopped 13 0 (st 1 1 running))
    ∷ is (fed table_b (st counter_most 0 (failed_at 3)) (zeros 16) (zeros 16) (0 ∷ []))
    (stopped 12 0 (st counter_most 0 (failed_at 3)))
    -- 10: the wrong parity; failed above taken; residuals after failure; running with none, or more than fit
    ∷ is (fed table_b (st 1 1 running) (one_node 0) (zeros 16) []) (refused 10 0)
    ∷ is (fed table_b (st 1 0 (failed_at 2)) (zeros 16) (zeros 16) []) (refused 10 0)
    ∷ is (fed table_b (st 5 0 (failed_at 0)) (zeros 16) (zeros 16) (0 ∷ [])) (given_at_peak 6 0 (failed_at 0))
    ∷ is (fed table_b (st 1 1 (failed_at 1)) (zeros 16) (one_node 0) []) (refused 10 0)
    ∷ is (fed table_b (st 0 0 running) (zeros 16) (zeros 16) []) (refused 10 0)
    ∷ is (fed table_b (st 0 2 running) (one_node 0) (zeros 16) []) (refused 10 0)
    -- valid: the second prefix with its event; not: an event of 3, one beyond the enclosing prefixes, a call, no such
    -- term
    ∷ is (fed table_b (st 0 1 running) (one_node (word 1 2)) (zeros 16) (1 ∷ [])) (given_at_peak 1 1 running)
    ∷ is (fed table_b (st 0 1 running) (one_node (word 1 3)) (zeros 16) []) (refused 10 0)
    ∷ is (fed table_b (st 0 1 running) (one_node (word 0 1)) (zeros 16) []) (refused 10 0)
    ∷ is (fed table_b (st 0 1 running) (one_node (word 2 0)) (zeros 16) []) (refused 10 0)
    ∷ is (fed table_b (st 0 1 running) (one_node (word 3 0)) (zeros 16) []) (refused 10 0)
    -- "memory is below A, zero beyond the term's enclosing prefixes", event by event: four prefixes, three, two, one
    ∷ is (fed (behind 0) (st 0 1 running) (one_node (full 4 2 2 2 2)) (zeros 16) []) (given_at_peak 0 1 running)
    ∷ is (fed (behind 0) (st 0 1 running) (one_node (full 4 2 3 2 2)) (zeros 16) []) (refused 10 0)
    ∷ is (fed (behind 0) (st 0 1 running) (one_node (full 4 2 2 3 2)) (zeros 16) []) (refused 10 0)
    ∷ is (fed (behind 0) (st 0 1 running) (one_node (full 4 2 2 2 3)) (zeros 16) []) (refused 10 0)
    ∷ is (fed (behind 0) (st 0 1 running) (one_node (full 3 2 2 2 0)) (zeros 16) []) (given_at_peak 0 1 running)
    ∷ is (fed (behind 0) (st 0 1 running) (one_node (full 3 2 2 2 1)) (zeros 16) []) (refused 10 0)
    ∷ is (fed (behind 0) (st 0 1 running) (one_node (full 2 2 2 0 0)) (zeros 16) []) (given_at_peak 0 1 running)
    ∷ is (fed (behind 0) (st 0 1 running) (one_node (full 2 2 2 1 0)) (zeros 16) []) (refused 10 0)
    ∷ is (fed (behind 0) (st 0 1 running) (one_node (full 1 2 1 0 0)) (zeros 16) []) (refused 10 0)
    -- so of a parallel's own memory: an event; an event of 3; one beyond the enclosing prefixes
    ∷ is (fed rowed (st 1 1 running) (zeros 16) (three_nodes (word 1 2) (word 2 2) (word 5 2)) []) (given_at_peak 1 1 running)
    ∷ is (fed rowed (st 1 1 running) (zeros 16) (three_nodes (word 1 3) (word 2 2) (word 5 2)) []) (refused 10 0)
    ∷ is (fed eight (st 0 1 running) (three_nodes (word 0 1) (word 1 0) (word 3 0)) (zeros 16) []) (refused 10 0)
    -- equal slots twice; fewer counted than there are; the node count wrong; the other area not zero
    ∷ is (fed table_b (st 0 2 running) (one_node 0 ++ one_node 0) (zeros 32) []) (refused 10 0)
    ∷ is (fed table_b (st 0 1 running) (one_node 0 ++ one_node (word 1 0)) (zeros 32) []) (refused 10 0)
    ∷ is (fed table_b (st 0 1 running) (one_node 0 ++ 1 ∷ zeros 15) (zeros 32) []) (refused 10 0)
    ∷ is (fed table_b (st 0 1 running) (2 ∷ 0 ∷ zeros 14) (zeros 16) []) (refused 10 0)
    ∷ is (fed table_b (st 0 1 running) (one_node 0) (zeros 15 ++ 1 ∷ []) []) (refused 10 0)
    -- a slot that stands after failure; words that are not zero behind a slot's nodes; FAIL, and a choice
    ∷ is (fed table_b (st 0 0 (failed_at 0)) (one_node 0) (zeros 16) []) (refused 10 0)
    ∷ is (fed table_b (st 0 1 running) (1 ∷ 0 ∷ 1 ∷ zeros 13) (zeros 16) []) (refused 10 0)
    ∷ is (fed table_b (st 0 1 running) (1 ∷ 0 ∷ zeros 13 ++ 1 ∷ []) (zeros 16) []) (refused 10 0)
    ∷ is (fed (drawn (a fail)) (st 0 1 running) (one_node (word 1 0)) (zeros 16) []) (refused 10 0)
    ∷ is (fed mixed (st 0 1 running) (one_node (word 0 0)) (zeros 16) []) (refused 10 0)
    -- one node before three nodes stands, three before one does not
    ∷ is (fed mixed (st 0 2 running) (one_node (word 1 0) ++ three_nodes (word 3 0) (word 4 0) (word 6 0)) (zeros 32) [])
    (given_at_peak 0 2 running)
    ∷ is (fed mixed (st 0 2 running) (three_nodes (word 3 0) (word 4 0) (word 6 0) ++ one_node (word 1 0)) (zeros 32) [])
    (refused 10 0)
    -- "the leaves' reach sums to at most 8": the prefix beside a STOP has 8 + 1, where there is one STOP less 7 + 1; a
    -- pair of two STOPs stands
    ∷ is (fed wide (st 0 1 running) (three_nodes (word 0 0) (word 3 0) (word 15 0)) (zeros 16) []) (refused 10 0)
    ∷ is (fed narrower (st 0 1 running) (three_nodes (word 0 0) (word 3 0) (word 13 0)) (zeros 16) [])
    (given_at_peak 0 1 running)
    ∷ is (fed wide (st 0 1 running) (three_nodes (word 0 0) (word 3 0) (word 4 0)) (zeros 16) []) (given_at_peak 0 1 running)
    -- 1: lent lengths, before everything else; then 2 to 9, before 10
    ∷ is (fed table_b (st 0 1 running) (zeros 8) (zeros 8) []) (refused 1 0)
    ∷ is (fed table_b (st 0 1 running) (one_node 0) (zeros 32) []) (refused 1 0)
    ∷ is (fed (table_b ++ 0 ∷ []) (st 0 0 running) (zeros 8) (zeros 8) []) (refused 1 0)
    ∷ is (fed (table_b ++ 0 ∷ []) (st 0 0 running) (zeros 16) (zeros 16) []) (refused 6 16)
    ∷ []

abbrev pub cases_hold : List Case → Type 0
cases_hold cs = map (λ (c : Case). c.got) cs ≡ map (λ (c : Case). c.expected) cs
