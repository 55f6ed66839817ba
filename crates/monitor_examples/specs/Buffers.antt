-- What stands in each lent buffer after a call (01, "Operations", "When the monitor declines"): whole outcomes of
-- Open, Feed, Offer and View, word by word; the words themselves are written out here.
--     Left, outcomes      what Open and Feed leave, beside what is expected
--     Shown, offered      what Offer leaves;  Viewed, Seen, views: what View hands back
-- Assumes nothing.
use Rattle.std.specs.Prelude.{ℕ, ◌≡◌, List, [], ◌∷◌, ◌++◌, map, length, replicate}
use Rattle.table.specs.Table.{fixed, Term, stop, fail, prefix, choice, par, one}
use Rattle.table.specs.Writing.{numbers_of}
use Rattle.table.specs.Operations.{zeros}
use Rattle.table.specs.Examples.{table_b}
use Rattle.monitor_spec.specs.State.{Verdict, running, failed_at, Monitor, Answer, given, refused, stopped}
use Rattle.monitor_spec.specs.State.{Outcome}
use Rattle.monitor_spec.specs.Feed.{counter_most, feed_of}
use Rattle.monitor_spec.specs.Open.{open_of}
use Rattle.monitor_spec.specs.Offer as Offer
use Rattle.monitor_spec.specs.Offer.{OfferOutcome, offer_of}
use Rattle.monitor_spec.specs.View.{Part, view_part, view_of}
use Rattle.monitor_spec.specs.Examples.{drawn, a, b}
use Rattle.monitor_examples.specs.Cases.{peaked, st, one_node, three_nodes, word}

-- words that nobody wrote
abbrev sevens : ℕ → List ℕ
sevens n = replicate n 7

abbrev mon : ℕ → ℕ → Verdict → List ℕ → List ℕ → Monitor
mon k c v x y = record { state = st k c v; area0 = x; area1 = y }

pub record Left : Type 0 where
  pub got : Outcome
  pub expected : Outcome

abbrev leaves : Outcome → Answer → List ℕ → List ℕ → List ℕ → Left
leaves o r x y w = record { got = o; expected = record { answer = r; area0 = x; area1 = y; work = w } }

-- K7 and K8; B with a number left over
abbrev seven : List ℕ
seven = drawn (choice (a stop) (a (b stop)))

abbrev eight : List ℕ
eight = drawn (par (fixed 2) (a stop) (a stop))

abbrev trailing : List ℕ
trailing = table_b ++ 0 ∷ []

-- 1 to K8
abbrev delayed : List ℕ
delayed = drawn (b (par (fixed 2) (a stop) (a stop)))

-- an alphabet size, a set and a term: x in the set, four times, to the term
unfoldable pub deep : ℕ → List ℕ → Term → List ℕ
deep A es p =
    let any = prefix (fixed 0) in
    numbers_of (record {
      alphabet = A;
      sets = one es ∷ [];
      definitions = record { level = 0; body = any (any (any (any p))) } ∷ [];
    })

-- eight STOPs in parallel over {0}, and its slot: each of the fifteen terms is a node
abbrev full : List ℕ
full =
    let two = par (fixed 0) stop stop in
    let four = par (fixed 0) two two in
    drawn (par (fixed 0) four four)

abbrev full_slot : List ℕ
full_slot =
    15 ∷ map (λ (n : ℕ). word n 0)
    (0 ∷ 1 ∷ 2 ∷ 3 ∷ 4 ∷ 5 ∷ 6 ∷ 7 ∷ 8 ∷ 9 ∷ 10 ∷ 11 ∷ 12 ∷ 13 ∷ 14 ∷ [])

-- the slots of K7 before any event
abbrev both : List ℕ
both = one_node (word 1 0) ++ one_node (word 3 0)

abbrev pub outcomes : List Left
outcomes =
    -- Feed, refusal 1: everything is kept, the work area too; its length is 8,192 exactly
    leaves (feed_of table_b (mon 0 1 running (one_node 0) (zeros 16)) (0 ∷ []) (sevens 8191))
    (refused 1 0) (one_node 0) (zeros 16) (sevens 8191)
    ∷ leaves (feed_of table_b (mon 0 1 running (one_node 0) (zeros 16)) (0 ∷ []) (sevens 8193))
    (refused 1 0) (one_node 0) (zeros 16) (sevens 8193)
    ∷ leaves (feed_of trailing (mon 0 1 running (sevens 24) (sevens 24)) [] (sevens 8192))
    (refused 1 0) (sevens 24) (sevens 24) (sevens 8192)
    -- 2 to 9, then 10: the areas are kept, the work area is zero
    ∷ leaves (feed_of trailing (mon 0 1 running (sevens 16) (sevens 16)) (9 ∷ []) (sevens 8192))
    (refused 6 16) (sevens 16) (sevens 16) (zeros 8192)
    ∷ leaves (feed_of table_b (mon 0 1 running (sevens 16) (sevens 16)) (9 ∷ []) (sevens 8192))
    (refused 10 0) (sevens 16) (sevens 16) (zeros 8192)
    -- 11 at place 1: the areas after the event taken; a result after two, the memory of the called body all 0
    ∷ leaves (feed_of table_b (mon 0 1 running (one_node 0) (zeros 16)) (0 ∷ 9 ∷ []) (sevens 8192))
    (stopped 11 1 (st 1 1 running)) (zeros 16) (one_node (word 1 0)) (zeros 8192)
    ∷ leaves (feed_of table_b (mon 0 1 running (one_node 0) (zeros 16)) (0 ∷ 1 ∷ []) (sevens 8192))
    (given (st 2 1 running)) (one_node 0) (zeros 16) (zeros 8192)
    -- 13 at place 0: two residuals after the event, one slot; the residual before it still stands
    ∷ leaves (feed_of eight (mon 0 1 running (three_nodes (word 0 0) (word 1 0) (word 3 0)) (zeros 16)) (0 ∷ [])
    (sevens 8192))
    (stopped 13 0 (st 0 1 running)) (three_nodes (word 0 0) (word 1 0) (word 3 0)) (zeros 16) (zeros 8192)
    -- so with an odd taken, at place 1
    ∷ leaves (feed_of delayed (mon 0 1 running (one_node 0) (zeros 16)) (1 ∷ 0 ∷ []) (sevens 8192))
    (stopped 13 1 (st 1 1 running)) (zeros 16) (three_nodes (word 1 1) (word 2 1) (word 4 1)) (zeros 8192)
    -- 12: as before the event
    ∷ leaves (feed_of table_b (mon counter_most 1 running (zeros 16) (one_node 0)) (0 ∷ []) (sevens 8192))
    (stopped 12 0 (st counter_most 1 running)) (zeros 16) (one_node 0) (zeros 8192)
    -- 02, W6: term × 2^28 + m0 × 2^21 + m1 × 2^14 + m2 × 2^7 + m3: term 4 with the memory 4, 3, 2, 1; with 127 four
    -- times, and after 127 once more term 5
    ∷ leaves (feed_of (deep 5 (1 ∷ 2 ∷ 3 ∷ 4 ∷ []) stop) (mon 0 1 running (one_node 0) (zeros 16))
    (1 ∷ 2 ∷ 3 ∷ 4 ∷ []) (sevens 8192))
    (given (st 4 1 running)) (1 ∷ 1082179841 ∷ zeros 14) (zeros 16) (zeros 8192)
    ∷ leaves (feed_of (deep 128 (127 ∷ []) (prefix (fixed 0) stop)) (mon 4 1 running (one_node 1342177279) (zeros 16))
    (127 ∷ []) (sevens 8192))
    (given (st 5 1 running)) (zeros 16) (one_node 1610612735) (zeros 8192)
    -- "A slot is 16 words": one with no word left over
    ∷ leaves (open_of full (sevens 16) (sevens 16) [] (sevens 8192))
    (given (st 0 1 running)) full_slot (zeros 16) (zeros 8192)
    ∷ leaves (feed_of full (mon 0 1 running full_slot (zeros 16)) [] (sevens 8192))
    (given (st 0 1 running)) full_slot (zeros 16) (zeros 8192)
    -- failed: both areas zero
    ∷ leaves (feed_of table_b (mon 4 1 running (one_node 0) (zeros 16)) (2 ∷ []) (sevens 8192))
    (given (peaked 5 0 1 (failed_at 5))) (zeros 16) (zeros 16) (zeros 8192)
    -- two slots ascending, and the same descending
    ∷ leaves (feed_of seven (mon 0 2 running both (zeros 32)) [] (sevens 8192))
    (given (st 0 2 running)) both (zeros 32) (zeros 8192)
    ∷ leaves (feed_of seven (mon 0 2 running (one_node (word 3 0) ++ one_node (word 1 0)) (zeros 32)) [] (sevens 8192))
    (refused 10 0) (one_node (word 3 0) ++ one_node (word 1 0)) (zeros 32) (zeros 8192)
    -- Open of an empty list: a result; capacity exceeded; 2 to 9; 1
    ∷ leaves (open_of seven (sevens 32) (sevens 32) [] (sevens 8192))
    (given (st 0 2 running)) both (zeros 32) (zeros 8192)
    ∷ leaves (open_of seven (sevens 16) (sevens 16) [] (sevens 8192))
    (refused 13 0) (zeros 16) (zeros 16) (zeros 8192)
    ∷ leaves (open_of trailing (sevens 16) (sevens 16) [] (sevens 8192))
    (refused 6 16) (sevens 16) (sevens 16) (zeros 8192)
    ∷ leaves (open_of seven (sevens 16) (sevens 32) [] (sevens 8192))
    (refused 1 0) (sevens 16) (sevens 32) (sevens 8192)
    ∷ leaves (open_of seven (sevens 32) (sevens 16) [] (sevens 8192))
    (refused 1 0) (sevens 32) (sevens 16) (sevens 8192)
    -- "a multiple of 16 from 16 to 4,096": 0 and 4,112 are not, 4,096 is
    ∷ leaves (open_of table_b [] [] [] (sevens 8192)) (refused 1 0) [] [] (sevens 8192)
    ∷ leaves (open_of table_b (sevens 4112) (sevens 4112) [] (sevens 8192))
    (refused 1 0) (sevens 4112) (sevens 4112) (sevens 8192)
    ∷ leaves (open_of table_b (sevens 4096) (sevens 4096) [] (sevens 8192))
    (given (st 0 1 running)) (one_node 0 ++ zeros 4080) (zeros 4096) (zeros 8192)
    ∷ leaves (open_of table_b (sevens 16) (sevens 16) [] (sevens 8192))
    (given (st 0 1 running)) (one_node 0) (zeros 16) (zeros 8192)
    -- "failed, at .. (0 at Start)": K5
    ∷ leaves (open_of (drawn (par (fixed 2) stop fail)) (sevens 16) (sevens 16) [] (sevens 8192))
    (given (st 0 0 (failed_at 0))) (zeros 16) (zeros 16) (zeros 8192)
    -- and on 0,0 and 0,9: events are counted, and refused, after the failure too
    ∷ leaves (open_of (drawn (par (fixed 2) stop fail)) (sevens 16) (sevens 16) (0 ∷ 0 ∷ []) (sevens 8192))
    (given (st 2 0 (failed_at 0))) (zeros 16) (zeros 16) (zeros 8192)
    ∷ leaves (open_of (drawn (par (fixed 2) stop fail)) (sevens 16) (sevens 16) (0 ∷ 9 ∷ []) (sevens 8192))
    (stopped 11 1 (st 1 0 (failed_at 0))) (zeros 16) (zeros 16) (zeros 8192)
    -- K7 on 1: the peak is that of settling
    ∷ leaves (open_of seven (sevens 32) (sevens 32) (1 ∷ []) (sevens 8192))
    (given (peaked 1 0 2 (failed_at 1))) (zeros 32) (zeros 32) (zeros 8192)
    -- 02, W7: a list: all taken; 11 at place 1, record and areas after the event taken; 2 to 9 and 1 whatever it is
    ∷ leaves (open_of table_b (sevens 16) (sevens 16) (0 ∷ 1 ∷ []) (sevens 8192))
    (given (st 2 1 running)) (one_node 0) (zeros 16) (zeros 8192)
    ∷ leaves (open_of table_b (sevens 16) (sevens 16) (0 ∷ 9 ∷ 1 ∷ []) (sevens 8192))
    (stopped 11 1 (st 1 1 running)) (zeros 16) (one_node (word 1 0)) (zeros 8192)
    ∷ leaves (open_of trailing (sevens 16) (sevens 16) (9 ∷ []) (sevens 8192))
    (refused 6 16) (sevens 16) (sevens 16) (zeros 8192)
    ∷ leaves (open_of table_b (sevens 16) (sevens 16) (9 ∷ []) (sevens 8191))
    (refused 1 0) (sevens 16) (sevens 16) (sevens 8191)
    -- 13 at place 0 in two forms: while settling, with no record and both areas zero; at the first event, with the
    -- record and the settled areas
    ∷ leaves (open_of seven (sevens 16) (sevens 16) (9 ∷ []) (sevens 8192))
    (refused 13 0) (zeros 16) (zeros 16) (zeros 8192)
    ∷ leaves (open_of eight (sevens 16) (sevens 16) (0 ∷ []) (sevens 8192))
    (stopped 13 0 (st 0 1 running)) (three_nodes (word 0 0) (word 1 0) (word 3 0)) (zeros 16) (zeros 8192)
    ∷ leaves (open_of delayed (sevens 16) (sevens 16) (1 ∷ 0 ∷ []) (sevens 8192))
    (stopped 13 1 (st 1 1 running)) (zeros 16) (three_nodes (word 1 1) (word 2 1) (word 4 1)) (zeros 8192)
    ∷ []

pub record Shown : Type 0 where
  pub got : OfferOutcome
  pub expected : OfferOutcome

abbrev shows : OfferOutcome → Offer.Offered → List ℕ → List ℕ → List ℕ → Shown
shows o r x y w = record { got = o; expected = record { answer = r; area0 = x; area1 = y; work = w } }

abbrev gives : ℕ → ℕ → Offer.Offered
gives x y = Offer.offers (record { first = x; second = y })

-- "areas kept"; "0 after failure"; "crowded or not": with one slot too
abbrev pub offered : List Shown
offered =
    shows (offer_of seven (mon 0 2 running both (zeros 32)) (sevens 8192)) (gives 1 0) both (zeros 32)
    (zeros 8192)
    ∷ shows (offer_of table_b (mon 1 1 running (zeros 16) (one_node (word 1 0))) (sevens 8192))
    (gives 2 0) (zeros 16) (one_node (word 1 0)) (zeros 8192)
    ∷ shows (offer_of eight (mon 0 1 running (three_nodes (word 0 0) (word 1 0) (word 3 0)) (zeros 16)) (sevens 8192))
    (gives 1 0) (three_nodes (word 0 0) (word 1 0) (word 3 0)) (zeros 16) (zeros 8192)
    -- 02, W6: "two words, events 0 to 63 in the first"
    ∷ shows (offer_of (deep 64 (0 ∷ 63 ∷ []) stop) (mon 0 1 running (one_node 0) (zeros 16)) (sevens 8192))
    (gives 9223372036854775809 0) (one_node 0) (zeros 16) (zeros 8192)
    ∷ shows (offer_of (deep 128 (63 ∷ 64 ∷ 127 ∷ []) stop) (mon 0 1 running (one_node 0) (zeros 16)) (sevens 8192))
    (gives 9223372036854775808 9223372036854775809) (one_node 0) (zeros 16) (zeros 8192)
    ∷ shows (offer_of table_b (mon 3 0 (failed_at 2) (zeros 16) (zeros 16)) (sevens 8192)) (gives 0 0) (zeros 16)
    (zeros 16) (zeros 8192)
    ∷ shows (offer_of table_b (mon 3 0 (failed_at 4) (zeros 16) (zeros 16)) (sevens 8192)) (Offer.refused 10 0)
    (zeros 16) (zeros 16) (zeros 8192)
    ∷ shows (offer_of trailing (mon 3 0 (failed_at 4) (sevens 16) (zeros 16)) (sevens 8192)) (Offer.refused 6 16)
    (sevens 16) (zeros 16) (zeros 8192)
    ∷ shows (offer_of trailing (mon 3 0 (failed_at 4) (sevens 16) (zeros 16)) (sevens 1)) (Offer.refused 1 0)
    (sevens 16) (zeros 16) (sevens 1)
    ∷ []

-- a part, and its words
pub record Viewed : Type 0 where
  pub part : Part
  pub words : List ℕ

pub record Seen : Type 0 where
  pub got : Viewed
  pub expected : Viewed

abbrev sees : Monitor → ℕ → List ℕ → Seen
sees m k x =
    record {
      got = record { part = view_part m.state (length m.area0) (length m.area1); words = view_of m };
      expected = record { part = record { area = k; words = length x }; words = x };
    }

-- any lengths, any record
abbrev pub views : List Seen
views =
    sees (mon 0 1 running (one_node 0 ++ sevens 3) []) 0 (one_node 0)
    ∷ sees (mon 1 1 running (sevens 16) (one_node 0)) 1 (one_node 0)
    ∷ sees (mon 0 0 running (sevens 64) []) 0 []
    ∷ sees (mon 1 0 running (sevens 16) (sevens 16)) 1 []
    -- "the empty beginning of area 0": too many for area 0, and for area 1; after failure
    ∷ sees (mon 0 2 running (one_node 0) (sevens 64)) 0 []
    ∷ sees (mon 1 2 running (sevens 64) (one_node 0)) 0 []
    ∷ sees (mon 0 1 (failed_at 0) (sevens 64) []) 0 []
    ∷ sees (mon 1 1 (failed_at 1) (sevens 16) (sevens 16)) 0 []
    ∷ []

abbrev pub BuffersStand : Type 0
BuffersStand =
    (map (λ (x : Left). x.got) outcomes ≡ map (λ (x : Left). x.expected) outcomes)
    × (map (λ (x : Shown). x.got) offered ≡ map (λ (x : Shown). x.expected) offered)
    × (map (λ (x : Seen). x.got) views ≡ map (λ (x : Seen). x.expected) views)
