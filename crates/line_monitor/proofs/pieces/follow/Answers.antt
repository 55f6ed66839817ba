-- `line_monitor::pieces::follow` meets its contract. The lent buffers keep their lengths; the monitor goes on after
-- full pieces, from the one that it began with. The measure is 2^64-1 less the events taken: a turn that goes on takes
-- the whole piece. Assumes nothing.
use Prim.Native.Nat.{◌-◌}
use native.Mathlib.Omega.{arith}
use mathlib.Core.Path.{refl, ◌∙◌}
use lib.ListN.{length}
use borrow.Author.Rules.{rules}
use Rattle.line_spec.proofs.Judged.Laws.{goes_first}
use Rattle.input.specs.Reading.Laws.{fills_part}
use Rattle.line_monitor.specs.Report.Laws.{turn_took, turn_on, turn_over}
use Rattle.line_monitor.proofs.pieces.follow.Goals as goal

pub loop-part-init : goal.loop-part-init
loop-part-init c = (refl, refl, refl, refl, search rules, goes_first _ _)

pub turn-requires : goal.turn-requires
turn-requires c =
    fills_part _ _ c.fill.ensures _ c.in_ok-part.was

pub loop-part-smaller : goal.loop-part-smaller
loop-part-smaller c =
    let loop = c.loop-part in
    let args = c.args in
    let size = c.fill.auto.buffer ∙ loop.invariant.2 in
    let fits = fills_part _ _ c.fill.ensures _ c.in_ok-part.was in
    let took = turn_took (length args.piece.now) _ size _ fits args.list.now loop.last loop.area0
    loop.area1 loop.work c.turn.result _ _ _ c.turn.ensures _ c.in-Continue.is in
    omega (arith, took.all, took.fits loop.invariant.4, c.requires)

pub loop-part-preserved : goal.loop-part-preserved
loop-part-preserved c =
    let loop = c.loop-part in
    let args = c.args in
    let size = c.fill.auto.buffer ∙ loop.invariant.2 in
    let fits = fills_part _ _ c.fill.ensures _ c.in_ok-part.was in
    let took = turn_took (length args.piece.now) _ size _ fits args.list.now loop.last loop.area0
    loop.area1 loop.work c.turn.result _ _ _ c.turn.ensures _ c.in-Continue.is in
    let kept = c.turn.auto in (
      kept.area0 ∙ loop.invariant.0,
      kept.area1 ∙ loop.invariant.1,
      size,
      kept.work ∙ loop.invariant.3,
      took.fits loop.invariant.4,
      turn_on (length args.piece.now) _ size _ fits args.list.now loop.last loop.area0 loop.area1
          loop.work c.turn.result _ _ _ c.turn.ensures _ loop.invariant.5 _
          c.in-Continue.is,
    )

pub returns-in-Break : goal.returns-in-Break
returns-in-Break c =
    let loop = c.loop-part in
    let args = c.args in
    let size = c.fill.auto.buffer ∙ loop.invariant.2 in
    let fits = fills_part _ _ c.fill.ensures _ c.in_ok-part.was in
    turn_over (length args.piece.now) _ size _ fits args.list.now loop.last loop.area0 loop.area1
    loop.work c.turn.result _ _ _ c.turn.ensures _ loop.invariant.5 _ c.in-Break.is
