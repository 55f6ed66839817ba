-- The invariant of `references.first_bad_reference`.
use Prim.Native.Nat.{◌≤◌}
use mathlib.Core.Path.{◌≡◌}
use Rattle.table.specs.Table.{term_count}
use Rattle.table_index.specs.Index.{table_in}
use Rattle.table_index.specs.Index.Heads.{heads_before}
use Rattle.table_index.specs.References.Words.{NoneBelow}
use Rattle.judge.proofs.references.first_bad_reference.Given as goal

abbrev pub invariant-loop-n : goal.invariant-loop-n
invariant-loop-n l =
    (l.terms ≡ term_count (table_in l.list)) × (l.n ≤ l.terms) × NoneBelow (table_in l.list) l.n × (l.p ≡ heads_before (table_in l.list) l.n)
