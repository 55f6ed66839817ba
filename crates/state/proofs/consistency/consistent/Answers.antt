-- `state::consistency::consistent` meets its contract: the record, and then the areas by the parity of the events
-- taken, decide. Assumes nothing.
use native.Mathlib.Omega.{arith}
use mathlib.Core.Path.{sym, ◌∙◌}
use Prim.Native.Nat.{◌/◌}
use lib.ListN.{length}
use Rattle.table_index.specs.Index.{table_in}
use Rattle.monitor_spec.proofs.Consistent.Reading.{record_room}
use Rattle.state.specs.Record.{state_of}
use Rattle.state.proofs.consistency.Cases.{record_unfit, areas_even, areas_odd}
use Rattle.state.proofs.consistency.consistent.Goals as goal

pub returns-then-not-record_fits : goal.returns-then-not-record_fits
returns-then-not-record_fits c =
    let if1 = c.if-not-record_fits in
    let record_fits_lem = c.record_fits in
    record_unfit (table_in c.args.table.now.list.now) c.args.state
    c.args.area0.now c.args.area1.now
    (sym record_fits_lem.ensures ∙ if1.true)

pub areas_fit-requires : goal.areas_fit-requires
areas_fit-requires c =
    let if1 = c.if-not-record_fits in
    let record_fits_lem = c.record_fits in
    let room = record_room (state_of c.args.state) (length c.args.area0.now / 16)
    (sym record_fits_lem.ensures ∙ if1.false) in
    record {
      count_in_bounds = omega arith;
    }

pub returns-then-state-eq0 : goal.returns-then-state-eq0
returns-then-state-eq0 c =
    let areas-fit = c.areas_fit in
    let if2 = c.if-state-eq0 in
    let if1 = c.if-not-record_fits in
    let record_fits_lem = c.record_fits in
    areas_even (table_in c.args.table.now.list.now) c.args.state
    c.args.area0.now c.args.area1.now _
    (sym record_fits_lem.ensures ∙ if1.false) if2.true areas-fit.ensures

pub areas_fit-requires-else-state-eq0 : goal.areas_fit-requires-else-state-eq0
areas_fit-requires-else-state-eq0 c =
    let if1 = c.if-not-record_fits in
    let record_fits_lem = c.record_fits in
    let room = record_room (state_of c.args.state) (length c.args.area0.now / 16)
    (sym record_fits_lem.ensures ∙ if1.false) in
    let same = c.requires.area0_len in
    record {
      count_in_bounds = omega arith;
    }

pub returns-else-state-eq0 : goal.returns-else-state-eq0
returns-else-state-eq0 c =
    let areas-fit2 = c.areas_fit-else-state-eq0 in
    let if2 = c.if-state-eq0 in
    let if1 = c.if-not-record_fits in
    let record_fits_lem = c.record_fits in
    areas_odd (table_in c.args.table.now.list.now) c.args.state
    c.args.area0.now c.args.area1.now _
    (sym record_fits_lem.ensures ∙ if1.false) if2.false areas-fit2.ensures
