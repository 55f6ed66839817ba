-- The table whose one definition is FAIL: a doomed call may be stuck.
--     only_fail   one definition, FAIL
-- What Theorem 3 does not see is in `proofs/Doom.antt`. Assumes nothing.
use Rattle.std.specs.Prelude.{[], ◌∷◌}
use Rattle.table.specs.Table
use Rattle.table.specs.Table.{Table}
use Rattle.meaning.specs.Figure1.{fail, body}

unfoldable pub only_fail : Table
only_fail = record { alphabet = 1; sets = []; definitions = record { level = 0; body = Table.fail } ∷ [] }
