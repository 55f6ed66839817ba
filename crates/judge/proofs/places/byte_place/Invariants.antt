-- The invariant of `places.byte_place`.
use Prim.Native.Nat.{◌*◌, ◌≤◌}
use mathlib.Core.Path.{◌≡◌}
use Rattle.table.specs.BytesRefused.{byte_place}
use Rattle.judge.proofs.places.byte_place.Given as goal

abbrev pub invariant-loop-x : goal.invariant-loop-x
invariant-loop-x l = (l.n ≡ byte_place l.list l.x-index) × (l.n ≤ 3 * l.x-index)
