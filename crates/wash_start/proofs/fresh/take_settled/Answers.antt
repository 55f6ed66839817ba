-- `wash_start::fresh::take_settled` meets its contract: what `resolve_last` holds is the settled monitor, or there is
-- no room for it. Assumes nothing.
use Rattle.opening.specs.Opening.Laws.{fresh_stands}
use Rattle.wash_start.proofs.fresh.Settled.{settled_first, settled_crowded}
use Rattle.wash_start.proofs.fresh.take_settled.Goals as goal

pub take_anew-requires : goal.take_anew-requires
take_anew-requires c =
    record {
      standing = fresh_stands c.args.table.now.indexed _ _ _ _
          (rw c.in-Ok.is at c.resolve_last.ensures) c.fresh-fresh.result
          c.fresh-fresh.ensures;
      store_len = c.requires.store_len;
    }

pub returns-in-Ok : goal.returns-in-Ok
returns-in-Ok c =
    settled_first c.args.table.now.indexed _ _ c.requires.other_value _ _ _
    (rw c.in-Ok.is at c.resolve_last.ensures) c.fresh-fresh.result
    c.fresh-fresh.ensures _ _ c.take_anew.new.area0 _
    c.take_anew.ensures

pub returns-in-Err : goal.returns-in-Err
returns-in-Err c =
    settled_crowded c.args.table.now.indexed _ _ c.requires.other_value _ _
    (rw c.in-Err.is at c.resolve_last.ensures) _
