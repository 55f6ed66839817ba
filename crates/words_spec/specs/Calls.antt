-- `cspe_open`, `cspe_feed`, `cspe_try`, `cspe_offer` and `cspe_view`: what they return and what stands in the lent
-- words afterwards (01, "Operations"; 02, W4, W7). The record is five lent words (`Words`).
--     MonitorCall, MonitorTold, feed_call   of Feed
--     OpenCall, open_call                   of Open: also, whether there is a record
--     try_call                              of Try, in the further record and areas
--     OfferCall, OfferTold, offer_call      of Offer
--     ViewCall, view_call                   of View
-- The laws are in `proofs/Calls/Laws.antt`. Assumes nothing.
use Rattle.std.specs.Prelude.{ℕ, ◌≡◌, Bool, true, false, ◌&&◌, List, length, eqb}
use Rattle.monitor_spec.specs.State.{Monitor, Answer, given, refused, stopped, Outcome}
use Rattle.monitor_spec.specs.Open.{open_of}
use Rattle.monitor_spec.specs.Feed.{feed_of}
use Rattle.monitor_spec.specs.Try.{try_of}
use Rattle.monitor_spec.specs.Offer.{Offered, offers, OfferOutcome, offer_of}
use Rattle.monitor_spec.specs.Offer as operation
use Rattle.monitor_spec.specs.View.{Part, view_part}
use Rattle.words_spec.specs.Words.{record_measured, state_in, words_of}

-- ---- Open and Feed

pub record MonitorCall : Type 0 where
  pub number : ℕ
  pub place : ℕ
  pub words : List ℕ
  pub area0 : List ℕ
  pub area1 : List ℕ
  pub work : List ℕ

abbrev pub monitor_said : ℕ → ℕ → List ℕ → List ℕ → List ℕ → List ℕ → MonitorCall
monitor_said n p r a b w = record { number = n; place = p; words = r; area0 = a; area1 = b; work = w }

-- the refusal's number, 0 where there is none
unfoldable pub answer_number : Answer → ℕ
answer_number (given s) = 0
answer_number (refused n p) = n
answer_number (stopped n p s) = n

-- there is none
unfoldable pub is_given : Answer → Bool
is_given (given s) = true
is_given (refused n p) = false
is_given (stopped n p s) = false

-- its place, 0 where there is none
unfoldable pub answer_place : Answer → ℕ
answer_place (given s) = 0
answer_place (refused n p) = p
answer_place (stopped n p s) = p

-- the record given, or that after the events already taken; else the words that were lent are kept
unfoldable pub record_after : List ℕ → Answer → List ℕ
record_after r (given s) = words_of s
record_after r (refused n p) = r
record_after r (stopped n p s) = words_of s

-- the promise of `tell`: of an answer, where the words lent are r
pub record MonitorTold (x : Answer) (r : List ℕ) (n p : ℕ) (r' : List ℕ) : Type 0 where
  pub number : n ≡ answer_number x
  pub place : p ≡ answer_place x
  pub words : r' ≡ record_after r x

unfoldable pub monitor_call : List ℕ → Outcome → MonitorCall
monitor_call r o =
    record {
      number = answer_number o.answer;
      place = answer_place o.answer;
      words = record_after r o.answer;
      area0 = o.area0;
      area1 = o.area1;
      work = o.work;
    }

-- the monitor that the lent words and areas are
unfoldable pub monitor_in : List ℕ → List ℕ → List ℕ → Monitor
monitor_in r a b = record { state = state_in r; area0 = a; area1 = b }

-- a record that is not of five words: refusal 1, place 0, all kept
unfoldable pub unmeasured : List ℕ → List ℕ → List ℕ → List ℕ → MonitorCall
unmeasured r a b w = record { number = 1; place = 0; words = r; area0 = a; area1 = b; work = w }

-- whether an answer has a record: 1, or 0
unfoldable pub opened_of : Answer → ℕ
opened_of (given s) = 1
opened_of (refused n p) = 0
opened_of (stopped n p s) = 1

-- ours: a word more tells the two forms of 13 at place 0 apart
pub record OpenCall : Type 0 where
  pub call : MonitorCall
  pub opened : ℕ

abbrev pub open_said : ℕ → ℕ → ℕ → List ℕ → List ℕ → List ℕ → List ℕ → OpenCall
open_said n p k r a b w = record { call = monitor_said n p r a b w; opened = k }

-- number list, record, areas, events, work words
unfoldable pub open_call : List ℕ → List ℕ → List ℕ → List ℕ → List ℕ → List ℕ → OpenCall
open_call l r a b es w =
    elim (record_measured r) [
      | true ↦
          record { call = monitor_call r (open_of l a b es w); opened = opened_of (open_of l a b es w).answer }
      | false ↦ record { call = unmeasured r a b w; opened = 0 }
    ]

-- number list, record, areas, events, work words
unfoldable pub feed_call : List ℕ → List ℕ → List ℕ → List ℕ → List ℕ → List ℕ → MonitorCall
feed_call l r a b es w =
    elim (record_measured r) [
      | true ↦ monitor_call r (feed_of l (monitor_in r a b) es w)
      | false ↦ unmeasured r a b w
    ]

-- ---- Try

-- number list, record, areas, further record and areas, events, work words: what stands in the further ones; a record
-- or further record that is not of five words is refusal 1, place 0, all kept
unfoldable pub try_call : List ℕ → List ℕ → List ℕ → List ℕ → List ℕ → List ℕ → List ℕ → List ℕ → List ℕ → MonitorCall
try_call l r a b r' c d es w =
    elim (record_measured r && record_measured r') [
      | true ↦ monitor_call r' (try_of l (monitor_in r a b) c d es w)
      | false ↦ unmeasured r' c d w
    ]

-- ---- Offer

-- 02, W6: "Offer gives two words"
pub record OfferCall : Type 0 where
  pub number : ℕ
  pub value : ℕ
  pub second : ℕ
  pub area0 : List ℕ
  pub area1 : List ℕ
  pub work : List ℕ

abbrev pub offer_said : ℕ → ℕ → ℕ → List ℕ → List ℕ → List ℕ → OfferCall
offer_said n v s a b w = record { number = n; value = v; second = s; area0 = a; area1 = b; work = w }

unfoldable pub offer_number : Offered → ℕ
offer_number (offers bits) = 0
offer_number (operation.refused n p) = n

unfoldable pub is_offered : Offered → Bool
is_offered (offers bits) = true
is_offered (operation.refused n p) = false

-- the first word, or the refusal's place
unfoldable pub offer_value : Offered → ℕ
offer_value (offers bits) = bits.first
offer_value (operation.refused n p) = p

-- the second word, or 0
unfoldable pub offer_second : Offered → ℕ
offer_second (offers bits) = bits.second
offer_second (operation.refused n p) = 0

-- the promise of `tell_offer`
pub record OfferTold (x : Offered) (n v s : ℕ) : Type 0 where
  pub number : n ≡ offer_number x
  pub value : v ≡ offer_value x
  pub second : s ≡ offer_second x

unfoldable pub offering_call : OfferOutcome → OfferCall
offering_call o =
    record {
      number = offer_number o.answer;
      value = offer_value o.answer;
      second = offer_second o.answer;
      area0 = o.area0;
      area1 = o.area1;
      work = o.work;
    }

-- number list, record, areas, work words
unfoldable pub offer_call : List ℕ → List ℕ → List ℕ → List ℕ → List ℕ → OfferCall
offer_call l r a b w =
    elim (record_measured r) [
      | true ↦ offering_call (offer_of l (monitor_in r a b) w)
      | false ↦ record { number = 1; value = 0; second = 0; area0 = a; area1 = b; work = w }
    ]

-- ---- View

-- how many words the residuals' slots are, and in which area they stand
pub record ViewCall : Type 0 where
  pub count : ℕ
  pub area : ℕ

abbrev pub view_said : ℕ → ℕ → ViewCall
view_said n k = record { count = n; area = k }

-- of the part that View hands back; ours: any part without words is said of area 0
unfoldable pub viewing : Part → ViewCall
viewing p = record { count = p.words; area = elim (eqb p.words 0) [ true ↦ 0 | false ↦ p.area ] }

-- record, areas; View "never refuses", so a record that is not of five words has no words to show
unfoldable pub view_call : List ℕ → List ℕ → List ℕ → ViewCall
view_call r a b =
    elim (record_measured r) [
      | true ↦ viewing (view_part (state_in r) (length a) (length b))
      | false ↦ record { count = 0; area = 0 }
    ]
