-- The state record in five lent words (01, "Operations": "The record holds taken, residual count, and running or
-- failed at a place"; 02, W1, the peak; the words are ours).
--     record_measured   a lent record is of five words
--     state_in          the record that five words hold
--     words_of           the words of a record
-- The laws are in `proofs/Words/Laws.antt`. Assumes nothing.
use Rattle.std.specs.Prelude.{ℕ, Bool, true, false, List, [], ◌∷◌, ◌++◌, length, get_or, eqb}
use Rattle.monitor_spec.specs.State.{Verdict, running, failed_at, State}

-- a record slice that is not of five words is refusal 1, "a lent length is not as above"
unfoldable pub record_measured : List ℕ → Bool
record_measured r = eqb (length r) 5

-- 0 is running; any other word is failed, at the place in the next word, which is not read otherwise
unfoldable pub verdict_in : ℕ → ℕ → Verdict
verdict_in failed place = elim (eqb failed 0) [ true ↦ running | false ↦ failed_at place ]

unfoldable pub state_in : List ℕ → State
state_in r =
    record {
      taken = get_or r 0 0;
      count = get_or r 1 0;
      peak = get_or r 4 0;
      verdict = verdict_in (get_or r 2 0) (get_or r 3 0);
    }

-- 0 and 0 while running; 1 and the place of the failure
unfoldable pub failure_words : Verdict → List ℕ
failure_words running = 0 ∷ 0 ∷ []
failure_words (failed_at place) = 1 ∷ place ∷ []

unfoldable pub words_of : State → List ℕ
words_of s = s.taken ∷ s.count ∷ (failure_words s.verdict ++ s.peak ∷ [])
