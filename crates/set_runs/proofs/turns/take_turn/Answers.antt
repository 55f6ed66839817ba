-- `set_runs::turns::take_turn` meets its contract: one law of `proofs/turns/Laws.antt` per way out. Assumes nothing.
use Prim.Native.Nat.{ℕ, ◌≤◌}
use native.Mathlib.Omega.{arith}
use Rattle.index.specs.Facts.{indexed_rules}
use Rattle.monitor_spec.proofs.Regular.Laws.{regular}
use Rattle.met_sets.specs.Sets.Laws.{shape_stands}
use Rattle.set_runs.proofs.turns.Laws.{going_within, going_stands, going_room, going_out, turn_out, turn_learnt}
use Rattle.set_runs.proofs.turns.take_turn.Goals as goal

-- ---- the next event may not be learnt
reaches : {m i j : ℕ} → m ≤ i → i ≤ j → m ≤ j
reaches l o = omega arith

-- ---- the known transitions
pub follow-reached-requires : goal.follow-reached-requires
follow-reached-requires c =
    record {
      set_bound = going_within (regular _ (indexed_rules c.args.table.now.indexed)) c.requires.goes.going;
      place_le_to = (c.requires.from_le_at.1, omega arith);
    }

pub lay_set-requires : goal.lay_set-requires
lay_set-requires c = record {
  set_stands = shape_stands c.requires.goes.going.met.met.shape _ (going_stands (regular _ (indexed_rules c.args.table.now.indexed)) c.requires.goes.going c.follow-reached.ensures);
  n_in_bounds = going_room (regular _ (indexed_rules c.args.table.now.indexed)) c.requires.goes.going c.follow-reached.ensures;
}

pub returns-then-to-reached : goal.returns-then-to-reached
returns-then-to-reached c = (
  turn_out (regular _ (indexed_rules c.args.table.now.indexed)) c.follow-reached.ensures c.lay_set.ensures,
  c.requires.store_of,
)

pub overflow_sub-since : goal.overflow_sub-since
overflow_sub-since c = reaches c.requires.from_le_at.0 c.follow-reached.ensures.onward

pub returns-then-not-may_learn : goal.returns-then-not-may_learn
returns-then-not-may_learn c = (
  turn_out (regular _ (indexed_rules c.args.table.now.indexed)) c.follow-reached.ensures c.lay_set.ensures,
  c.requires.store_of,
)

pub learn-requires : goal.learn-requires
learn-requires c = record {
  at_in_bounds = (c.if-to-reached.false, c.requires.from_le_at.2);
  stays = record {
    m = c.requires.goes.m;
    i = c.requires.goes.i;
    out = going_out (regular _ (indexed_rules c.args.table.now.indexed)) c.requires.goes.going c.follow-reached.ensures _ _ c.lay_set.ensures;
  };
  store_of = c.requires.store_of;
}

pub returns : goal.returns
returns c = (
  turn_learnt (regular _ (indexed_rules c.args.table.now.indexed)) c.follow-reached.ensures c.lay_set.ensures c.learn.ensures.0,
  c.learn.ensures.1,
)
