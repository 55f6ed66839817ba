-- `entering::entry::enter` meets its contract: lent lengths are tried first, then the list. Assumes nothing.
use Rattle.entering.specs.Entered.Laws.{enter_unlent, enter_checked}
use Rattle.entering.proofs.entry.enter.Goals as goal

-- a lent length is wrong
pub returns-then-not-lent : goal.returns-then-not-lent
returns-then-not-lent c =
    let args = c.args in
    enter_unlent args.list.now args.work.now args.lent (c.if-not-lent.true)

-- the list is judged
pub returns : goal.returns
returns c =
    let args = c.args in
    enter_checked args.list.now args.work.now args.lent (c.if-not-lent.false) _ _
    c.check.ensures
