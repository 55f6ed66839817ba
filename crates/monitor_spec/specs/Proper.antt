-- The residuals whose slots are valid (01, "Disturbed": "A valid slot is one whole residual tree ..").
--     Remembers               of a memory: its events are below A, and zero from the count of enclosing prefixes on
--     MemoriesFit, Fitting    so at each node; and the leaves' reach sums to at most k
--     Proper                  a sound residual that fits, its reach at most 8
-- The laws are in `proofs/Proper/`: `Laws` (resolving and stepping keep it), `Nodes` (its slot has room). Assumes
-- nothing.
use Rattle.std.specs.Prelude.{ℕ, ◌≤◌, ◌<◌, ◌≡◌}
use Rattle.table.specs.Table.{Table, enclosing}
use Rattle.table.specs.Memory.{Memory, digit}
use Rattle.residuals.specs.Residual.{Residual, leaf, pair}
use Rattle.monitor_spec.specs.Meaning.{Sound}
use Rattle.monitor_spec.specs.Valid.{reach_sum}

-- "memory is below A, zero beyond the term's enclosing prefixes": A is a, and c prefixes enclose
abbrev pub Remembers : ℕ → ℕ → Memory → Type 0
Remembers a c m = (i : ℕ) → i ≤ 3 → (digit m i < a) × (c ≤ i → digit m i ≡ 0)

abbrev pub MemoriesFit : Table → Residual → Type 0
MemoriesFit t (leaf n m) = Remembers t.alphabet (enclosing t n) m
MemoriesFit t (pair n m l r) = Remembers t.alphabet (enclosing t n) m × MemoriesFit t l × MemoriesFit t r

-- "the leaves' reach sums to at most"
abbrev pub Fitting : Table → ℕ → Residual → Type 0
Fitting t k r = MemoriesFit t r × (reach_sum t r ≤ k)

abbrev pub Proper : Table → Residual → Type 0
Proper t r = Sound t r × Fitting t 8 r
