-- `line_monitor::pieces::open_front` meets its contract, by what `open` gives; its record stands within the list and
-- the front. Assumes nothing.
use native.Mathlib.Omega.{arith}
use mathlib.Core.Path.{sym}
use lib.Seq.{length-take-le}
use Rattle.line.specs.Answers.Opening.{started_within}
use Rattle.line_monitor.specs.Report.Front.{says_started, says_refused}
use Rattle.line_monitor.proofs.pieces.open_front.Goals as goal

pub slice_bounds-feed_front-end : goal.slice_bounds-feed_front-end
slice_bounds-feed_front-end c =
    let args = c.args in
    let within = started_within args.front.now args.list.now args.area0.now args.area1.now
    args.work.now _ _ _ _ _ c.open.ensures _ c.in-Ok.is in
    omega arith

pub slice_bounds-feed_front-end-in-Ok : goal.slice_bounds-feed_front-end-in-Ok
slice_bounds-feed_front-end-in-Ok c =
    let args = c.args in
    let within = started_within args.front.now args.list.now args.area0.now args.area1.now
    args.work.now _ _ _ _ _ c.open.ensures _ c.in-Ok.is in
    sym (length-take-le _ _ within.0)

pub slice_bounds-feed_front-count : goal.slice_bounds-feed_front-count
slice_bounds-feed_front-count c =
    let args = c.args in
    let within = started_within args.front.now args.list.now args.area0.now args.area1.now
    args.work.now _ _ _ _ _ c.open.ensures _ c.in-Ok.is in
    omega arith

pub slice_bounds-feed_front-start : goal.slice_bounds-feed_front-start
slice_bounds-feed_front-start c =
    let args = c.args in
    let within = started_within args.front.now args.list.now args.area0.now args.area1.now
    args.work.now _ _ _ _ _ c.open.ensures _ c.in-Ok.is in
    omega arith

pub returns-in-Ok : goal.returns-in-Ok
returns-in-Ok c =
    let args = c.args in
    says_started args.front.now args.list.now args.area0.now args.area1.now args.work.now
    c.requires.lengths args.last c.requires.in_bounds _ _ _ _ _ c.open.ensures _ c.in-Ok.is
    c.feed_front.result c.feed_front.ensures

pub returns-in-Err : goal.returns-in-Err
returns-in-Err c =
    let args = c.args in
    says_refused args.front.now args.list.now args.area0.now args.area1.now args.work.now
    c.requires.lengths args.last c.requires.in_bounds _ _ _ _ _ c.open.ensures _ c.in-Err.is
    c.refused.result c.refused.ensures
