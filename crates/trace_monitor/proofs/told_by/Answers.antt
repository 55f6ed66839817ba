-- `told_by` meets its contract, by what was read of the front. Assumes nothing.
use mathlib.Core.Path.{sym, ap, ◌∙◌}
use Rattle.std.specs.Prelude.{Ok}
use Rattle.std.proofs.lemmas.Result.{err_from_is_err_and}
use lib.Seq.{length-take-le}
use Rattle.trace_monitor.specs.FrontTold.Laws.{whole_held, ended_held, told_whole, told_ended, told_broken}
use Rattle.trace_monitor.proofs.told_by.Goals as goal

pub slice_bounds-run-end : goal.slice_bounds-run-end
slice_bounds-run-end c =
    sym (length-take-le _ _ (whole_held c.args.front.now _ c.requires _
    (c.in_ok-n.was ∙ ap Ok c.in-Whole.is)).within)

pub run-requires : goal.run-requires
run-requires c =
    (whole_held c.args.front.now _ c.requires _ (c.in_ok-n.was ∙ ap Ok c.in-Whole.is)).fronts

pub slice_bounds-run-end-in-Ended : goal.slice_bounds-run-end-in-Ended
slice_bounds-run-end-in-Ended c =
    sym (length-take-le _ _ (ended_held c.args.front.now _ c.requires _ _
    (c.in_ok-n.was ∙ ap Ok c.in-Ended.is)).within)

pub run-requires-in-Ended : goal.run-requires-in-Ended
run-requires-in-Ended c =
    (ended_held c.args.front.now _ c.requires _ _ (c.in_ok-n.was ∙ ap Ok c.in-Ended.is)).fronts

pub returns-in-Whole : goal.returns-in-Whole
returns-in-Whole c =
    told_whole _ _ c.requires _ (c.in_ok-n.was ∙ ap Ok c.in-Whole.is) _ c.run.ensures

pub returns-in-Ended : goal.returns-in-Ended
returns-in-Ended c =
    told_ended _ _ c.requires _ _ (c.in_ok-n.was ∙ ap Ok c.in-Ended.is) _ c.run-in-Ended.ensures

pub returns-in_err-n : goal.returns-in_err-n
returns-in_err-n c =
    let p = err_from_is_err_and c.from_residual.result c.from_residual.ensures.1 in
    rw (p.1, p.2) (told_broken _ _ _ c.in_err-n.was)
