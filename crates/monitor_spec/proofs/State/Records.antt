-- The record, by its fields, and the verdict after an event, by the residuals that it leaves. Assumes nothing.
--     state_path                             records with the same fields
--     next_some, next_none, next_failed      the equations of next_verdict
use Rattle.std.specs.Prelude.{ℕ, zero, suc, ◌<◌, ◌≡◌, refl}
use Rattle.std.proofs.Common.{arith}
use Rattle.monitor_spec.specs.State.{running, failed_at, State, next_verdict}

pub state_path : (a b : State) → a.taken ≡ b.taken → a.count ≡ b.count → a.peak ≡ b.peak
    → a.verdict ≡ b.verdict → a ≡ b
state_path a b p q h r i = record { taken = p i; count = q i; peak = h i; verdict = r i }

-- ---- the equations of next_verdict

pub next_some : (k n : ℕ) → 0 < n → next_verdict running k n ≡ running
unfolding next_verdict
next_some k zero h = absurd (omega arith)
next_some k (suc n) h = refl

pub next_none : (k : ℕ) → next_verdict running k 0 ≡ failed_at k
unfolding next_verdict
next_none k = refl

pub next_failed : (p k n : ℕ) → next_verdict (failed_at p) k n ≡ failed_at p
unfolding next_verdict
next_failed p k n = refl
