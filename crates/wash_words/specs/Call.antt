-- `cspe_timed_feed`: what it returns and what stands in the lent words afterwards (02, W5). The record is seven lent
-- words (`Words`).
--     timed_number, timed_place, timed_record_after  an answer in words
--     TimedTold                                    the promise of `tell_timed`
--     timed_call                                   of all that is lent
--     TimedWay                                     the same by the operation's answer: every word of each way
-- The laws are in `proofs/Call/Laws.antt`. Assumes nothing.
use Rattle.std.specs.Prelude.{ℕ, ◌≡◌, Bool, true, false, List, length}
use Rattle.words_spec.specs.Calls.{MonitorCall, unmeasured}
use Rattle.wash_spec.specs.Timed.{TimedState, TimedMonitor, TimedAnswer, given, refused, stopped, TimedOutcome}
use Rattle.wash_spec.specs.Feed.{timed_of}
use Rattle.wash_words.specs.Words.{timed_record_measured, timed_in, timed_words}

-- ---- an answer

-- the refusal's number, 0 where there is none
unfoldable pub timed_number : TimedAnswer → ℕ
timed_number (given s) = 0
timed_number (refused n p) = n
timed_number (stopped n p s) = n

-- there is none
unfoldable pub is_timed_given : TimedAnswer → Bool
is_timed_given (given s) = true
is_timed_given (refused n p) = false
is_timed_given (stopped n p s) = false

-- its place, 0 where there is none
unfoldable pub timed_place : TimedAnswer → ℕ
timed_place (given s) = 0
timed_place (refused n p) = p
timed_place (stopped n p s) = p

-- what stands after the events taken; else the words that were lent are kept
unfoldable pub timed_record_after : List ℕ → TimedAnswer → List ℕ
timed_record_after r (given s) = timed_words s
timed_record_after r (refused n p) = r
timed_record_after r (stopped n p s) = timed_words s

-- the promise of `tell_timed`: of an answer, where the words lent are r
pub record TimedTold (x : TimedAnswer) (r : List ℕ) (n p : ℕ) (r' : List ℕ) : Type 0 where
  pub number : n ≡ timed_number x
  pub place : p ≡ timed_place x
  pub words : r' ≡ timed_record_after r x

-- ---- a call

unfoldable pub call_of : List ℕ → TimedOutcome → MonitorCall
call_of r o =
    record {
      number = timed_number o.answer;
      place = timed_place o.answer;
      words = timed_record_after r o.answer;
      area0 = o.area0;
      area1 = o.area1;
      work = o.work;
    }

-- the monitor that the lent words and areas are
unfoldable pub timed_monitor_in : List ℕ → List ℕ → List ℕ → TimedMonitor
timed_monitor_in r a b = record { state = timed_in r; area0 = a; area1 = b }

-- the everyday number list, that of the wash hours, timetable, record, areas, events, their minutes, work words; a
-- record that is not of seven words is refusal 1, place 0, all kept
unfoldable pub timed_call : List ℕ → List ℕ → List ℕ → List ℕ → List ℕ → List ℕ → List ℕ → List ℕ → List ℕ → MonitorCall
timed_call everyday wash windows r a b events minutes w =
    elim (timed_record_measured r) [
      | true ↦ call_of r (timed_of everyday wash windows (timed_monitor_in r a b) events minutes w)
      | false ↦ unmeasured r a b w
    ]

-- ---- its ways

pub data TimedWay (r a b w : List ℕ) (o : TimedOutcome) : MonitorCall → Type 0 where
  -- a record that is not of seven words (ours): "a lent length is not as above", 1 at place 0, all kept
  timed_unfit : (length r ≡ 7 → ⊥)
      → TimedWay r a b w o (record { number = 1; place = 0; words = r; area0 = a; area1 = b; work = w })
  -- what stands after all events
  timed_given : (s : TimedState) → length r ≡ 7 → o.answer ≡ given s
      → TimedWay r a b w o (record {
        number = 0;
        place = 0;
        words = timed_words s;
        area0 = o.area0;
        area1 = o.area1;
        work = o.work;
      })
  -- "16 and later numbers but 17 return and keep what 10 does": the words that were lent stand
  timed_refused : (n p : ℕ) → length r ≡ 7 → o.answer ≡ refused n p
      → TimedWay r a b w o (record {
        number = n;
        place = p;
        words = r;
        area0 = o.area0;
        area1 = o.area1;
        work = o.work;
      })
  -- "placed and answered like 11": what stands after the events already taken
  timed_stopped : (n p : ℕ) (s : TimedState) → length r ≡ 7 → o.answer ≡ stopped n p s
      → TimedWay r a b w o (record {
        number = n;
        place = p;
        words = timed_words s;
        area0 = o.area0;
        area1 = o.area1;
        work = o.work;
      })
