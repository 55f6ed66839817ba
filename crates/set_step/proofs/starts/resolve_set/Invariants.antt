-- The invariants and measures of `starts.resolve_set`.
use Prim.Native.Nat.{◌*◌, ◌≤◌}
use mathlib.Core.Path.{◌≡◌}
use lib.ListN.{length, drop}
use Rattle.table_index.specs.Index.{table_in}
use Rattle.meaning.specs.Figure1.{body_count}
use Rattle.residuals.specs.Residual.{resolve_def}
use Rattle.slots.specs.Holding.{put_all}
use Rattle.set_step.specs.Started.{initial}
use Rattle.set_step.proofs.starts.resolve_set.Given as goal

abbrev pub invariant-loop-i : goal.invariant-loop-i
invariant-loop-i l =
    (l.i ≤ l.n) × (l.n ≡ length (resolve_def (table_in l.table.list.now) (body_count (table_in l.table.list.now)) l.d)) × (length l.area ≡ length l.initial.area) ×
    (l.c * 16 ≤ length l.area) × (put_all l.area l.c (drop l.i (initial (table_in l.table.list.now) l.d)) ≡ put_all l.initial.area 0 (initial (table_in
    l.table.list.now) l.d))
