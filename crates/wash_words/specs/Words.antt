-- The record of wash hours in seven lent words (02, W5; the words are ours): the five of the record (crate words_spec),
-- then whether there is one, then the last event's minute.
--     timed_record_measured  a lent record is of seven words
--     timed_in               what seven words hold
--     timed_words            the words of a record, or of none yet
-- The laws are in `proofs/Words/Laws.antt`. Assumes nothing.
use Rattle.std.specs.Prelude.{ℕ, Bool, true, false, List, [], ◌∷◌, ◌++◌, length, get_or, replicate, eqb}
use Rattle.words_spec.specs.Words.{state_in, words_of}
use Rattle.wash_spec.specs.Timed.{TimedState, not_started, started}

-- a record slice that is not of seven words is refusal 1, "a lent length is not as above"
unfoldable pub timed_record_measured : List ℕ → Bool
timed_record_measured r = eqb (length r) 7

-- "The monitor starts with its first event": word 5 is 0 before it, and then no other word is read; any other word
-- there says that a record stands in the first five, and a minute in the last
unfoldable pub timed_in : List ℕ → TimedState
timed_in r = elim (eqb (get_or r 5 0) 0) [ true ↦ not_started | false ↦ started (state_in r) (get_or r 6 0) ]

-- all 0 before the first event
unfoldable pub timed_words : TimedState → List ℕ
timed_words not_started = replicate 7 0
timed_words (started s minute) = words_of s ++ 1 ∷ minute ∷ []
