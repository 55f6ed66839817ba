-- `runner::follow` meets its contract: the monitor stands some reads further. The lent buffers keep their lengths. The
-- measure is 2^64-1 less the events taken: a read brings an event at least. Assumes nothing.
use native.Mathlib.Omega.{arith}
use Prim.Native.Nat.{◌-◌, ◌<◌}
use mathlib.Core.Path.{refl, ◌∙◌}
use lib.ListN.{length}
use Rattle.course_spec.specs.Course.Steps.{gone_none, gone_then}
use Rattle.course_spec.specs.Course.Laws.{brought, follow_over}
use borrow.Author.Rules.{rules}
use Rattle.course.proofs.runner.follow.Goals as goal

pub loop-next-init : goal.loop-next-init
loop-next-init c = (
  refl,
  refl,
  refl,
  refl,
  refl,
  c.requires.rooms.0,
  c.requires.rooms.1,
  search rules,
  gone_none _ _ _,
  c.requires.tracing,
)

pub after_arrived-requires : goal.after_arrived-requires
after_arrived-requires c =
    record {
      tracing = c.loop-next.invariant.9;
      rooms = (
        (
          c.loop-next.invariant.3 ∙ c.loop-next.invariant.5.0,
          omega (
            arith,
            c.loop-next.invariant.4,
            c.loop-next.invariant.5.1,
          ),
        ),
        c.arrive-arrived.ensures,
      );
    }

pub loop-next-smaller : goal.loop-next-smaller
loop-next-smaller c =
    let room : 0 < length c.arrive-arrived.new.buffer = omega (
      arith,
      c.arrive-arrived.auto.buffer,
      c.loop-next.invariant.2,
      c.loop-next.invariant.6,
    ) in
    let more = brought _ _ _ _ _ room _ _ _ _ c.arrive-arrived.ensures c.after_arrived.ensures
    _ _ c.in-Continue.is in
    omega (arith, more.some, more.onward.took.all, more.onward.took.fits c.loop-next.invariant.7)

pub loop-next-preserved : goal.loop-next-preserved
loop-next-preserved c =
    let room : 0 < length c.arrive-arrived.new.buffer = omega (
      arith,
      c.arrive-arrived.auto.buffer,
      c.loop-next.invariant.2,
      c.loop-next.invariant.6,
    ) in
    let more = brought _ _ _ _ _ room _ _ _ _ c.arrive-arrived.ensures c.after_arrived.ensures
    _ _ c.in-Continue.is in (
      c.after_arrived.auto.area0 ∙ c.loop-next.invariant.0,
      c.after_arrived.auto.area1 ∙ c.loop-next.invariant.1,
      c.arrive-arrived.auto.buffer ∙
          c.loop-next.invariant.2,
      c.after_arrived.auto.store ∙ c.loop-next.invariant.3,
      c.after_arrived.auto.text ∙ c.loop-next.invariant.4,
      c.loop-next.invariant.5,
      c.loop-next.invariant.6,
      more.onward.took.fits c.loop-next.invariant.7,
      gone_then _ _ _ _
          _ c.loop-next.invariant.8 _ more.some _ _ more.onward,
      more.tracing,
    )

pub returns-in-Break : goal.returns-in-Break
returns-in-Break c =
    let room : 0 < length c.arrive-arrived.new.buffer = omega (
      arith,
      c.arrive-arrived.auto.buffer,
      c.loop-next.invariant.2,
      c.loop-next.invariant.6,
    ) in
    follow_over _ _ _ _ _ room _ _ _ _ _ c.loop-next.invariant.8 _ c.arrive-arrived.ensures
    c.after_arrived.ensures _ c.in-Break.is
