-- `opening::opener::open_accepted` meets its contract: what is resolved is what Feed's run asks for, or there is no
-- room for it. Assumes nothing.
use Rattle.opening.specs.Opening.Laws.{fresh_stands, opened_run, opened_exceeded}
use Rattle.opening.proofs.opener.open_accepted.Goals as goal

pub take_all-requires : goal.take_all-requires
take_all-requires c =
    record {
      standing = fresh_stands c.args.table.now.indexed _ _ _ _ (rw c.in-Ok.is at c.resolve_last.ensures)
          c.fresh-fresh.result c.fresh-fresh.ensures;
    }

-- the slots suffice
pub returns-in-Ok : goal.returns-in-Ok
returns-in-Ok c =
    opened_run c.args.table.now.indexed _ _ _ _ (rw c.in-Ok.is at c.resolve_last.ensures)
    c.fresh-fresh.result c.fresh-fresh.ensures _ _ _ _ c.take_all.ensures

-- they do not
pub returns-in-Err : goal.returns-in-Err
returns-in-Err c =
    opened_exceeded c.args.table.now.indexed _ _ _ (rw c.in-Err.is at c.resolve_last.ensures) _
