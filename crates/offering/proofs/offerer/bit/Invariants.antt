-- The invariant of `offerer.bit`.
use mathlib.Core.Path.{◌≡◌}
use Rattle.table_index.specs.Index.{table_in}
use Rattle.residuals.specs.Residual.{after_all}
use Rattle.monitor_spec.specs.Offer.{bit_of}
use Rattle.monitor_spec.specs.Holds.{held_in}
use Rattle.offering.proofs.offerer.BitTurn.{bit_from}
use Rattle.offering.proofs.offerer.bit.Given as goal

abbrev pub invariant-loop-i : goal.invariant-loop-i
invariant-loop-i l =
    bit_from (table_in l.table.list.now) l.e (held_in (table_in l.table.list.now) l.area l.count) l.i
    ≡ bit_of 0 (after_all (table_in l.table.list.now) l.e (held_in (table_in l.table.list.now) l.area l.count))
