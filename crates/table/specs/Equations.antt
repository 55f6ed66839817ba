-- What a call counts in the sentences that define width through calls (01, "Hands of a term").
--     call_count    "call to its own level 1, to a lower level that level's hands"
-- The equations are in `proofs/Equations.antt`. Assumes nothing.
use Prim.Native.Nat.{ℕ}
use Rattle.std.proofs.Math.Bool.{cond}
use Rattle.std.proofs.Math.Dec.{eqb}
use Rattle.table.specs.Table.{Table}
use Rattle.table.specs.References.{level_in}
use Rattle.table.specs.Width.{level_width}

-- what a call counts in level l: 1 for its own level, a lower level's width
unfoldable pub call_count : Table → ℕ → ℕ → ℕ
call_count t l e = cond (eqb (level_in t.definitions e) l) 1 (level_width t (level_in t.definitions e))
