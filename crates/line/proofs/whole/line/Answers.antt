-- `whole::line` meets its contract, by what `open` gives; its record stands within the list and the input. Assumes
-- nothing.
use native.Mathlib.Omega.{arith}
use mathlib.Core.Path.{sym}
use lib.Seq.{length-take-le}
use Rattle.line.specs.Answers.Opening.{started_within}
use Rattle.line.specs.Answers.Whole.{line_started, line_refused}
use Rattle.line.proofs.whole.line.Goals as goal

pub slice_bounds-finish-end : goal.slice_bounds-finish-end
slice_bounds-finish-end c =
    let args = c.args in
    let within = started_within args.input.now args.list.now args.area0.now args.area1.now
    args.work.now _ _ _ _ _ c.«open».ensures _ c.in-Ok.is in
    omega arith

pub slice_bounds-finish-end-in-Ok : goal.slice_bounds-finish-end-in-Ok
slice_bounds-finish-end-in-Ok c =
    let args = c.args in
    let within = started_within args.input.now args.list.now args.area0.now args.area1.now
    args.work.now _ _ _ _ _ c.«open».ensures _ c.in-Ok.is in
    sym (length-take-le _ _ within.0)

pub slice_bounds-finish-count : goal.slice_bounds-finish-count
slice_bounds-finish-count c =
    let args = c.args in
    let within = started_within args.input.now args.list.now args.area0.now args.area1.now
    args.work.now _ _ _ _ _ c.«open».ensures _ c.in-Ok.is in
    omega arith

pub slice_bounds-finish-start : goal.slice_bounds-finish-start
slice_bounds-finish-start c =
    let args = c.args in
    let within = started_within args.input.now args.list.now args.area0.now args.area1.now
    args.work.now _ _ _ _ _ c.«open».ensures _ c.in-Ok.is in
    omega arith

pub returns-in-Ok : goal.returns-in-Ok
returns-in-Ok c =
    let args = c.args in
    line_started args.input.now args.list.now args.area0.now args.area1.now args.work.now _ _
    _ _ _ c.«open».ensures _ c.in-Ok.is c.finish.result _
    _ _ c.finish.ensures

pub returns-in-Err : goal.returns-in-Err
returns-in-Err c =
    let args = c.args in
    line_refused args.input.now args.list.now args.area0.now args.area1.now args.work.now _ _
    _ _ _ c.«open».ensures _ c.in-Err.is c.refused.result
    c.refused.ensures
