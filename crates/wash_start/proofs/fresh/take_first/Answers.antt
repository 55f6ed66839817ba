-- `wash_start::fresh::take_first` meets its contract: the room is as long as the other area. Assumes nothing.
use Prim.Native.Nat.{◌-◌}
use native.Mathlib.Omega.{arith}
use lib.ListN.{length}
use Rattle.wash_start.proofs.fresh.Areas.{measured_most}
use Rattle.wash_start.proofs.fresh.Settled.{room_measured}
use Rattle.wash_start.proofs.fresh.take_first.Goals as goal

pub slice_bounds-room-end : goal.slice_bounds-room-end
slice_bounds-room-end c =
    omega (arith, measured_most _ c.requires.other_value)

pub take_settled-requires : goal.take_settled-requires
take_settled-requires c =
    let o = c.args.other.now in
    let part = room_measured o 4096 (length o - 0) c.requires.other_value (omega arith) (omega (
      arith,
      measured_most o c.requires.other_value,
    )) in
    record {
      other_value = part;
      store_len = c.requires.store_len;
    }
