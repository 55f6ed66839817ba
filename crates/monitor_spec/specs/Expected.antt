-- The monitor that a list of events calls for, from the residuals alone (ours; 01, "Operations", "Joined events").
--     verdict_from     running, or failed at the length of the first beginning with no residual
--     record_of        the record of a list;  monitor_after: record and areas after a list, with n slots
--     verdict_onward, peak_onward, record_onward, monitor_onward
--                      the same from any record and residuals held
-- The laws are in `proofs/Expected/`: `Verdicts`, `Peaks`, `Records`, `Laid`, `Steps`; from any residuals, in
-- `proofs/Progress/Laws.antt`. Assumes nothing.
use Rattle.std.specs.Prelude.{ℕ, suc, max, ◌+◌, List, [], ◌∷◌, length}
use Rattle.table.specs.Table.{Table}
use Rattle.meaning.specs.Figure1.{body_count, last}
use Rattle.residuals.specs.Residual.{Residual, resolve_def, after_all, run, residuals_of}
use Rattle.residuals.specs.Slots.{slots_of}
use Rattle.monitor_spec.specs.State.{Verdict, running, failed_at, State, fresh_state, Monitor, laid}

unfoldable pub if_none : List Residual → Verdict → Verdict → Verdict
if_none [] v w = v
if_none (r ∷ rs) v w = w

unfoldable pub verdict_from : Table → List Residual → ℕ → List ℕ → Verdict
verdict_from t rs k [] = if_none rs (failed_at k) running
verdict_from t rs k (e ∷ s) = if_none rs (failed_at k) (verdict_from t (after_all t e rs) (suc k) s)

unfoldable pub verdict_after : Table → List ℕ → Verdict
verdict_after t s = verdict_from t (resolve_def t (body_count t) (last t)) 0 s

-- with k taken and a verdict before: "Later events are taken; the place stays."
unfoldable pub verdict_onward : Table → Verdict → List Residual → ℕ → List ℕ → Verdict
verdict_onward t (failed_at p) rs k es = failed_at p
verdict_onward t running rs k es = verdict_from t rs k es

-- from the peak p and the residuals rs: the larger of p and of the counts after each event
unfoldable pub peak_onward : Table → ℕ → List Residual → List ℕ → ℕ
peak_onward t p rs [] = p
peak_onward t p rs (e ∷ es) =
    peak_onward t (max p (length (slots_of (after_all t e rs)))) (after_all t e rs) es

-- the record after the events es, from the record s and the residuals rs: "The record holds taken, residual count, and
-- running or failed at a place."
unfoldable pub record_onward : Table → State → List Residual → List ℕ → State
record_onward t s rs es =
    record {
      taken = s.taken + length es;
      count = length (slots_of (run t rs es));
      peak = peak_onward t s.peak rs es;
      verdict = verdict_onward t s.verdict rs s.taken es;
    }

unfoldable pub monitor_onward : Table → ℕ → State → List Residual → List ℕ → Monitor
monitor_onward t n s rs es = laid n (record_onward t s rs es) (slots_of (run t rs es))

-- from the settled monitor on: `state_after` from `fresh_state` over the counts of the list's beginnings
-- (`proofs/Expected/Records.antt`)
unfoldable pub record_of : Table → List ℕ → State
record_of t s = record_onward t (fresh_state (length (slots_of (residuals_of t [])))) (residuals_of t []) s

unfoldable pub monitor_after : Table → ℕ → List ℕ → Monitor
monitor_after t n s = laid n (record_of t s) (slots_of (residuals_of t s))
