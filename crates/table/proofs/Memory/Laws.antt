-- What a memory with one event more has at each place. Assumes nothing.
use Rattle.std.specs.Prelude.{ℕ, zero, suc, ◌≤◌, ◌≡◌, refl}
use Rattle.std.proofs.Common.{arith}
use Rattle.table.specs.Memory.{Memory, digit, remember}

pub digit_first : (e : ℕ) (m : Memory) → digit (remember e m) 0 ≡ e
unfolding digit remember
digit_first e m = refl

-- the fourth event is forgotten
pub digit_remember : (e i : ℕ) (m : Memory) → i ≤ 2 → digit (remember e m) (suc i) ≡ digit m i
unfolding digit remember
digit_remember e zero m h = refl
digit_remember e (suc zero) m h = refl
digit_remember e (suc (suc zero)) m h = refl
digit_remember e (suc (suc (suc i))) m h = absurd (omega arith)
