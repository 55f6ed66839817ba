-- The invariant of `valid.all_zero`.
use mathlib.Core.Path.{◌≡◌}
use lib.ListN.{drop}
use Rattle.monitor_spec.specs.Consistent.{all_zero}
use Rattle.valid_slots.proofs.valid.all_zero.Given as goal

abbrev pub invariant-loop-i : goal.invariant-loop-i
invariant-loop-i l = all_zero (drop l.i l.area) ≡ all_zero (drop l.from l.area)
