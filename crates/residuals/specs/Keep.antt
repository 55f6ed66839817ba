-- The memory that a node keeps (01, "Residuals": "STOP and a prefix give themselves with their memory"; "parallel
-- itself, with its memory"): of a term, with the memory that resolving comes with. It keeps all of it.
-- The laws are in `proofs/Keep/Laws.antt`. Assumes nothing.
use Rattle.table.specs.Table.{Term}
use Rattle.table.specs.Memory.{Memory}

unfoldable pub keep : Term → Memory → Memory
keep p m = m
