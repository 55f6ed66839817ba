-- `slots::slots::put` meets its contract: by the answer of insertion. Assumes nothing.
use Rattle.std.proofs.lemmas.Result.{err_from_is_err_and}
use Rattle.slots.proofs.Holding.Laws.{put_held, put_new, put_full}
use Rattle.slots.proofs.slots.put.Goals as goal

pub returns-in_err-new : goal.returns-in_err-new
returns-in_err-new c =
    let p = err_from_is_err_and c.from_residual.result c.from_residual.ensures.1 in
    rw p.1 (put_full _ _ _ _ _ c.insert.ensures.answer
    c.insert.ensures.words c.insert.auto.area
    c.requires.0 c.in_err-new.was)

pub returns-then-new : goal.returns-then-new
returns-then-new c =
    put_new _ _ _ _ _ c.insert.ensures.answer
    c.insert.ensures.words c.insert.auto.area
    c.requires.0 (rw c.if-new.true at c.in_ok-new.was)

pub returns : goal.returns
returns c =
    put_held _ _ _ _ _ c.insert.ensures.answer
    c.insert.ensures.words c.insert.auto.area
    c.requires.0 (rw c.if-new.false at c.in_ok-new.was)
