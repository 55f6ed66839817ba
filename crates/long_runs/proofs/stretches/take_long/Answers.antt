-- `long_runs::stretches::take_long` meets its contract. The invariant: lengths are kept, and what the events come to is
-- what those left come to, from the monitor reached. The measure is what is left of the events. Assumes nothing.
use Prim.Native.Nat.{◌-◌}
use native.Mathlib.Omega.{arith}
use mathlib.Core.Path.{refl, sym, ◌∙◌}
use Rattle.table_index.specs.Index.{table_in}
use Rattle.state.specs.Record.{monitor_of}
use Rattle.taking.specs.Runs.Laws.{reached_start, reached_then, ended_then, ended_done, run_ended, run_left}
use borrow.Author.Rules.{rules}
use Rattle.long_runs.proofs.stretches.take_long.Goals as goal

-- ---- places of the code
-- the monitor from which the stretch goes
-- ---- the loop
pub loop-i-init : goal.loop-i-init
loop-i-init c = (
  omega arith,
  c.requires.from_in_bounds,
  search rules,
  refl,
  refl,
  c.requires.store_of,
  reached_start _ _ _ _ c.requires.standing,
)

pub further-to-requires : goal.further-to-requires
further-to-requires c = c.loop-i-test.true

pub take_stretch-requires : goal.take_stretch-requires
take_stretch-requires c =
    let inv = c.loop-i.invariant in record {
      standing = inv.6.standing;
      from_in_bounds = (inv.1, c.further-to.ensures.1);
      store_of = inv.5;
    }

pub shape_of-area0-in-Ended : goal.shape_of-area0-in-Ended
shape_of-area0-in-Ended c = c.take_stretch.auto.area0 ∙ c.loop-i.invariant.3

pub shape_of-area1-in-Ended : goal.shape_of-area1-in-Ended
shape_of-area1-in-Ended c = c.take_stretch.auto.area1 ∙ c.loop-i.invariant.4

pub shape_of-store-in-Ended : goal.shape_of-store-in-Ended
shape_of-store-in-Ended c = c.take_stretch.ensures.1.size ∙ sym c.requires.store_of.size

pub returns-in-Ended : goal.returns-in-Ended
returns-in-Ended c =
    ended_then _ _ _ _ (monitor_of c.loop-i.reached c.loop-i.area0 c.loop-i.area1) _ c.loop-i.invariant.6 _ _ _
    (run_ended (table_in c.args.table.now.list.now) (monitor_of c.loop-i.reached c.loop-i.area0 c.loop-i.area1) _ _ _ _ _ _ c.take_stretch.ensures.0 _
    c.in-Ended.is)

-- ---- a stretch that leaves events over
pub loop-i-smaller : goal.loop-i-smaller
loop-i-smaller c =
    let g = run_left (table_in c.args.table.now.list.now) (monitor_of c.loop-i.reached c.loop-i.area0 c.loop-i.area1) _ _ _ _ _ _
    c.take_stretch.ensures.0 _ _ c.in-Left.is in
    omega (arith, g.1, g.2, c.further-to.ensures.0)

pub loop-i-preserved : goal.loop-i-preserved
loop-i-preserved c =
    let g = run_left (table_in c.args.table.now.list.now) (monitor_of c.loop-i.reached c.loop-i.area0 c.loop-i.area1) _ _ _ _ _ _
    c.take_stretch.ensures.0 _ _ c.in-Left.is in (
      omega (arith, c.loop-i.invariant.0, g.1, c.further-to.ensures.0),
      g.2,
      c.loop-i.invariant.2,
      c.take_stretch.auto.area0 ∙ c.loop-i.invariant.3,
      c.take_stretch.auto.area1 ∙ c.loop-i.invariant.4,
      c.take_stretch.ensures.1,
      reached_then _ _ _ _ (monitor_of c.loop-i.reached c.loop-i.area0 c.loop-i.area1) _ c.loop-i.invariant.6 _ _
          (run_left (table_in c.args.table.now.list.now) (monitor_of c.loop-i.reached c.loop-i.area0 c.loop-i.area1) _ _ _ _ _ _ c.take_stretch.ensures.0 _ _
          c.in-Left.is).0,
    )

-- ---- none are left
pub shape_of-area0 : goal.shape_of-area0
shape_of-area0 c = c.loop-i.invariant.3

pub shape_of-area1 : goal.shape_of-area1
shape_of-area1 c = c.loop-i.invariant.4

pub shape_of-store : goal.shape_of-store
shape_of-store c = c.loop-i.invariant.5.size ∙ sym c.requires.store_of.size

pub returns : goal.returns
returns c = ended_done _ _ _ _ _ _ _ _ c.loop-i.invariant.6 (omega (arith, c.loop-i-test.false))
