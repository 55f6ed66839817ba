-- `washing::feeder::take_all_timed` meets its contract. The invariant: lengths are kept, and `Head`: what the call
-- comes to is what the events left come to, from the monitor reached.
-- Assumes nothing.
use native.Mathlib.Omega.{arith}
use mathlib.Core.Path.{refl, sym, ◌∙◌}
use borrow.Author.Rules.{rules}
use Rattle.washing.proofs.feeder.Turn.{measured_kept, head_first, head_next, head_stopped, head_done}
use Rattle.washing.proofs.feeder.take_all_timed.Goals as goal

pub loop-i-init : goal.loop-i-init
loop-i-init c =
    (omega arith, search rules, refl, refl, refl, search rules, head_first _ _ _ _ _ _ _ _ _ c.requires.timed_ready)

pub bounds-minutes-i : goal.bounds-minutes-i
bounds-minutes-i c =
    omega (arith, c.requires.events_len)

pub slice_bounds-take_timed-end : goal.slice_bounds-take_timed-end
slice_bounds-take_timed-end c =
    sym c.loop-i.invariant.5

pub take_timed-requires : goal.take_timed-requires
take_timed-requires c =
    record {
      timed_ready = c.loop-i.invariant.6.ready;
      store_len = c.loop-i.invariant.5;
    }

pub loop-i-preserved : goal.loop-i-preserved
loop-i-preserved c = (
  omega arith,
  c.loop-i.invariant.1,
  c.take_timed.auto.area0 ∙ c.loop-i.invariant.2,
  c.take_timed.auto.area1 ∙ c.loop-i.invariant.3,
  c.take_timed.auto.work ∙ c.loop-i.invariant.4,
  c.take_timed.auto.store ∙ c.loop-i.invariant.5,
  head_next _ _ _ _ _ _ c.requires.events_len c.loop-i.reached _ _ _ _ c.loop-i.invariant.6
      c.loop-i-test.true _ _ _ _ c.take_timed.ensures _
      c.in-Ok.is (measured_kept _ _ _ _ c.loop-i.invariant.6.ready.measured
      c.take_timed.auto.area0
      c.take_timed.auto.area1)
      (c.take_timed.auto.work ∙ c.loop-i.invariant.6.ready.long),
)

pub returns-in-Err : goal.returns-in-Err
returns-in-Err c =
    head_stopped _ _ _ _ _ _ c.requires.events_len c.loop-i.reached _ _ _ _ c.loop-i.invariant.6
    c.loop-i-test.true _ _ _ _ c.take_timed.ensures _ c.in-Err.is

pub returns : goal.returns
returns c =
    head_done _ _ _ _ _ _ c.requires.events_len c.loop-i.reached _ _ _ _ c.loop-i.invariant.6
    c.loop-i-test.false
