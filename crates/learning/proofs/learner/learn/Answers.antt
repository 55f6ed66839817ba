-- `learning::learner::learn` meets its contract: one law of `specs/OverSets/Laws.antt` per way out. Assumes nothing.
use Prim.Native.Nat.{ℕ, ◌+◌, ◌<◌, ◌≤◌}
use native.Mathlib.Omega.{arith}
use mathlib.Core.Path.{◌≡◌}
use Rattle.index.specs.Facts.{indexed_rules}
use Rattle.monitor_spec.proofs.Regular.Laws.{regular}
use Rattle.taking.specs.Runs.{RunBy}
use Rattle.taking.specs.Runs.Laws.{ended_refused}
use Rattle.learning.specs.OverSets.Laws.{out_reached, out_room, learn_full, learn_alphabet, learn_link, learn_kept}
use Rattle.learning.proofs.learner.learn.Goals as goal

-- ---- numbers
past : {j n : ℕ} → j < n → (j < j + 1) × (j + 1 ≤ n)
past l = (omega arith, omega arith)

as_long : {x y z : ℕ} → x ≤ y → z ≡ y → x ≤ z
as_long l e = omega arith

pub pick_up-requires : goal.pick_up-requires
pick_up-requires c = record {
  count_in_bounds = out_room (regular _ (indexed_rules c.args.table.now.indexed)) c.requires.stays.out c.requires.at_in_bounds.0 _ _ _
      c.take_event.ensures.0 _ c.in-Ok.is;
}

pub begin_again-requires : goal.begin_again-requires
begin_again-requires c =
    let r = out_room (regular _ (indexed_rules c.args.table.now.indexed)) c.requires.stays.out c.requires.at_in_bounds.0 _ _ _
    c.take_event.ensures.0 _ c.in-Ok.is in
    record { count_in_bounds = (as_long r.0 c.pick_up.auto.area0, as_long r.1 c.pick_up.auto.area1) }

pub link-requires : goal.link-requires
link-requires c =
    learn_link (regular _ (indexed_rules c.args.table.now.indexed)) c.requires.stays.out c.requires.at_in_bounds.0 _ _ _
    c.take_event.ensures.0 _ c.in-Ok.is _ _ _ _ c.pick_up.ensures _ c.in-Some.is

-- the event is refused
pub returns-in-Err : goal.returns-in-Err
unfolding RunBy
returns-in-Err c = (
  record {
    from = λ m i h. ended_refused _ _ _ _ _ _ _ _ (out_reached (regular _ (indexed_rules c.args.table.now.indexed)) h)
        c.requires.at_in_bounds.0 _ _ _ c.take_event.ensures.0 _ c.in-Err.is;
  },
  c.take_event.ensures.1,
)

-- all sets are forgotten
pub returns-in-None : goal.returns-in-None
returns-in-None c = (
  record {
    from = λ m i h. c.begin_again.ensures.from _ (regular _ (indexed_rules c.args.table.now.indexed))
        (learn_alphabet (regular _ (indexed_rules c.args.table.now.indexed)) h c.requires.at_in_bounds.0 _ _ _ c.take_event.ensures.0 _ c.in-Ok.is _ _ _ _ c.pick_up.ensures c.in-None.is)
        m _ i _ (past c.requires.at_in_bounds.0).0 (past c.requires.at_in_bounds.0).1
        (learn_full (regular _ (indexed_rules c.args.table.now.indexed)) h c.requires.at_in_bounds.0 _ _ _ c.take_event.ensures.0 _ c.in-Ok.is _ _ _ _ c.pick_up.ensures c.in-None.is);
  },
  c.take_event.ensures.1,
)

-- the set is kept
pub returns-in-Some : goal.returns-in-Some
returns-in-Some c = (
  record {
    from = λ m i h. (
      learn_kept (regular _ (indexed_rules c.args.table.now.indexed)) h c.requires.at_in_bounds.0 _ _ _ c.take_event.ensures.0 _ c.in-Ok.is _ _ _ _ c.pick_up.ensures _ c.in-Some.is
          _ c.link.ensures,
      (past c.requires.at_in_bounds.0).0,
      (past c.requires.at_in_bounds.0).1,
    );
  },
  c.take_event.ensures.1,
)
