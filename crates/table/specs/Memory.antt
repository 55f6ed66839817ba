-- The events a term remembers (01, "Residuals": "Memory is four events, all 0 at a body's start").
--     Memory, no_memory   the last four events taken by enclosing prefixes, the nearest first; at a body's start
--     digit               the k-th remembered event
--     remember            a memory with one event more
-- The laws are in `proofs/Memory/Laws.antt`. Assumes nothing.
use Rattle.std.specs.Prelude.{ℕ, zero, suc}

-- "Memory is four events"
pub record Memory : Type 0 where
  pub m0 : ℕ
  pub m1 : ℕ
  pub m2 : ℕ
  pub m3 : ℕ

-- "all 0 at a body's start"
abbrev pub no_memory : Memory
no_memory = record { m0 = 0; m1 = 0; m2 = 0; m3 = 0 }

-- 01, "Numbers and table": "the event taken by the k-th enclosing prefix of this definition, the nearest being 0"
unfoldable pub digit : Memory → ℕ → ℕ
digit m zero = m.m0
digit m (suc zero) = m.m1
digit m (suc (suc zero)) = m.m2
digit m (suc (suc (suc k))) = m.m3

-- "settles its follower with memory (e, m0, m1, m2)"
unfoldable pub remember : ℕ → Memory → Memory
remember e m = record { m0 = e; m1 = m.m0; m2 = m.m1; m3 = m.m2 }
