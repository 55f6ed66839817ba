-- `taking::event::next_set` meets its contract: the tests are those of `event_refused`, in its order. Assumes nothing.
use native.Mathlib.Omega.{arith}
use Prim.Native.Nat.{◌<◌}
use Rattle.table_index.specs.Index.{table_in}
use Rattle.index.specs.Facts.{indexed_rules}
use Rattle.step_laws.specs.Filled.Laws.{holds_source}
use Rattle.taking.proofs.event.Sets.{next_unknown, next_full, next_exceeded, next_count}
use Rattle.taking.proofs.event.next_set.Goals as goal

-- an unknown event
pub returns-then-alphabet-event : goal.returns-then-alphabet-event
returns-then-alphabet-event c =
    let args = c.args in (
      next_unknown (table_in args.table.now.list.now) args.e args.taken args.source.now args.count
          args.destination.now
          c.requires.empty.0 (omega (arith, c.alphabet.ensures.0)),
      c.requires.empty.1,
    )

-- the counter is full
pub returns-then-taken-eq18446744073709551615 : goal.returns-then-taken-eq18446744073709551615
returns-then-taken-eq18446744073709551615 c =
    let args = c.args in
    let known : args.e < (table_in args.table.now.list.now).alphabet =
    omega (arith, c.alphabet.ensures.0, c.if-alphabet-event.false) in (
      next_full (table_in args.table.now.list.now) args.e args.taken args.source.now args.count
          args.destination.now
          c.requires.empty.0 known c.if-taken-eq18446744073709551615.true,
      c.requires.empty.1,
    )

pub step_set-requires : goal.step_set-requires
step_set-requires c =
    let args = c.args in
    let known : args.e < (table_in args.table.now.list.now).alphabet =
    omega (arith, c.alphabet.ensures.0, c.if-alphabet-event.false) in record {
      source = holds_source _ (indexed_rules c.args.table.now.indexed) _ known _ _ c.requires.area_holds;
      store_of = c.requires.empty.1;
    }

-- the residuals have room
pub returns-in-Ok : goal.returns-in-Ok
returns-in-Ok c =
    let args = c.args in
    let known : args.e < (table_in args.table.now.list.now).alphabet =
    omega (arith, c.alphabet.ensures.0, c.if-alphabet-event.false) in (
      next_count (table_in args.table.now.list.now) args.e args.taken args.source.now args.count
          args.destination.now c.requires.empty.0 (indexed_rules c.args.table.now.indexed) c.requires.area_holds known
          c.if-taken-eq18446744073709551615.false _ _
          c.step_set.ensures.0 _ c.in-Ok.is,
      c.step_set.ensures.1,
    )

-- they have none
pub returns-in-Err : goal.returns-in-Err
returns-in-Err c =
    let args = c.args in
    let known : args.e < (table_in args.table.now.list.now).alphabet =
    omega (arith, c.alphabet.ensures.0, c.if-alphabet-event.false) in (
      next_exceeded (table_in args.table.now.list.now) args.e args.taken args.source.now args.count
          args.destination.now c.requires.empty.0 (indexed_rules c.args.table.now.indexed) c.requires.area_holds known
          c.if-taken-eq18446744073709551615.false _ _
          c.step_set.ensures.0 c.in-Err.is _ c.clear_all.ensures
          c.step_set.auto.dst,
      c.step_set.ensures.1,
    )
