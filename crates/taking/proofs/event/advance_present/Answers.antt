-- `taking::event::advance_present` meets its contract: by the parity of the events taken, area 0 or area 1 is present.
-- Assumes nothing.
use Rattle.index.specs.Facts.{indexed_rules}
use Rattle.monitor_spec.proofs.Regular.Laws.{regular}
use Rattle.taking.proofs.event.Parity.{holding_even, holding_odd, moved_even, moved_odd}
use Rattle.taking.proofs.event.advance_present.Goals as goal

pub advance-requires : goal.advance-requires
advance-requires c =
    let args = c.args in
    let holding = holding_even _ (regular _ (indexed_rules c.args.table.now.indexed)) args.state args.area0.now
    args.area1.now
    c.requires.standing c.if-taken-eq0.true in
    record {
      holding = holding;
      store_of = c.requires.store_of;
    }

-- area 0 is present
pub returns-then-taken-eq0 : goal.returns-then-taken-eq0
returns-then-taken-eq0 c =
    let args = c.args in (
      moved_even _ (regular _ (indexed_rules c.args.table.now.indexed)) args.state args.area0.now args.area1.now
          c.requires.standing c.if-taken-eq0.true _ _ _ _ c.advance.ensures.0,
      c.advance.ensures.1,
    )

pub advance-requires-2 : goal.advance-requires-2
advance-requires-2 c =
    let args = c.args in
    let holding = holding_odd _ (regular _ (indexed_rules c.args.table.now.indexed)) args.state args.area0.now
    args.area1.now
    c.requires.standing c.if-taken-eq0.false in
    record {
      holding = holding;
      store_of = c.requires.store_of;
    }

-- area 1 is present
pub returns : goal.returns
returns c =
    let args = c.args in (
      moved_odd _ (regular _ (indexed_rules c.args.table.now.indexed)) args.state args.area0.now args.area1.now
          c.requires.standing c.if-taken-eq0.false _ _ _ _ c.advance-2.ensures.0,
      c.advance-2.ensures.1,
    )
