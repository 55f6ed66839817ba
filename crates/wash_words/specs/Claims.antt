-- What is proved of the definitions that the contract of `cspe_timed_feed` cites: statements only. The proofs are in
-- `proofs/Theorems.antt`, under the same names.
--     TimedReadsBack    the words of a record, or of none yet, are read as that
--     TimedWritten      the words of a record, and of none yet, one by one
--     TimedReads        which words are read, by the word that says whether there is a record
--     TimedTells        what the call returns and leaves, by the operation's answer
--     ZeroExactly       the number returned is 0 exactly where the operation refused nothing
-- Assumes nothing.
use Rattle.std.specs.Prelude.{ℕ, ◌≡◌, ◌&&◌, List, [], ◌∷◌, ◌++◌, get_or, eqb}
use Rattle.words_spec.specs.Words.{state_in, words_of}
use Rattle.monitor_spec.specs.State.{State}
use Rattle.wash_spec.specs.Timed.{TimedState, not_started, started}
use Rattle.wash_spec.specs.Feed.{timed_of}
use Rattle.wash_words.specs.Words.{timed_record_measured, timed_in, timed_words}
use Rattle.wash_words.specs.Call.{is_timed_given, timed_monitor_in, timed_call, TimedWay}

unfoldable pub TimedReadsBack : Type 0
TimedReadsBack = (s : TimedState) → timed_in (timed_words s) ≡ s

-- ours: zeros before the first event; then the words of the record, 1, and the last event's minute
pub record TimedWritten : Type 0 where
  pub before : timed_words not_started ≡ 0 ∷ 0 ∷ 0 ∷ 0 ∷ 0 ∷ 0 ∷ 0 ∷ []
  pub after : (s : State) (minute : ℕ) → timed_words (started s minute) ≡ words_of s ++ 1 ∷ minute ∷ []

-- ours: before the first event no other word is read; any word but 0 is a record's
pub record TimedReads : Type 0 where
  pub before : (r : List ℕ) → get_or r 5 0 ≡ 0 → timed_in r ≡ not_started
  pub after : (r : List ℕ) → (get_or r 5 0 ≡ 0 → ⊥) → timed_in r ≡ started (state_in r) (get_or r 6 0)

unfoldable pub TimedTells : Type 0
TimedTells =
    (everyday wash windows r a b events minutes w : List ℕ)
    → TimedWay r a b w (timed_of everyday wash windows (timed_monitor_in r a b) events minutes w)
    (timed_call everyday wash windows r a b events minutes w)

-- a record that is not of seven words is a refusal too
unfoldable pub ZeroExactly : Type 0
ZeroExactly =
    (everyday wash windows r a b events minutes w : List ℕ)
    → eqb (timed_call everyday wash windows r a b events minutes w).number 0
    ≡ (timed_record_measured r
    && is_timed_given (timed_of everyday wash windows (timed_monitor_in r a b) events minutes w).answer)
