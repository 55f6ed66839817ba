-- The rules on a call's number, as the laws have them.
--     Exist, Lower, Parallel, Guarded    it exists; its level is no higher, under a parallel lower; with no prefix around
--                                        the call it is a lower definition's
-- The laws are in `proofs/Rules/Laws.antt`. Assumes nothing.
use Rattle.std.specs.Prelude.{ℕ, ◌≤◌, ◌<◌, ◌≡◌, length, T}
use Rattle.table.specs.Table.{Definition, Table}
use Rattle.table.specs.Context.{Context}
use Rattle.table.specs.References.{level_in}

module _ (t : Table) where
  abbrev pub Exist : ℕ → Definition → Context → ℕ → Type 0
  Exist own d c e = e < length t.definitions

  abbrev pub Lower : ℕ → Definition → Context → ℕ → Type 0
  Lower own d c e = level_in t.definitions e ≤ d.level

  abbrev pub Parallel : ℕ → Definition → Context → ℕ → Type 0
  Parallel own d c e = T c.in_parallel → level_in t.definitions e < d.level

  abbrev pub Guarded : ℕ → Definition → Context → ℕ → Type 0
  Guarded own d c e = c.prefixes ≡ 0 → e < own
