-- `set_runs::turns::take_kept` meets its contract: the first set is picked up, or has no room. Assumes nothing.
use native.Mathlib.Omega.{arith}
use mathlib.Core.Path.{sym, ◌∙◌}
use Rattle.index.specs.Facts.{indexed_rules}
use Rattle.monitor_spec.proofs.Regular.Laws.{regular}
use Rattle.state.specs.Record.{monitor_of}
use Rattle.met_sets.specs.Runs.Areas.{laid_room}
use Rattle.taking.specs.Runs.{RunBy}
use Rattle.taking.specs.Runs.Laws.{reached_start}
use Rattle.learning.specs.OverSets.Laws.{begun_full, begun_kept}
use Rattle.set_runs.proofs.turns.Laws.{goes_run}
use Rattle.set_runs.proofs.turns.take_kept.Goals as goal

pub pick_first-requires : goal.pick_first-requires
pick_first-requires c = record {
  count_in_bounds = laid_room (regular _ (indexed_rules c.args.table.now.indexed)) c.args.state _ _ c.requires.standing.laid;
}

-- it is kept, and nothing is taken yet
pub take_turns-requires : goal.take_turns-requires
take_turns-requires c = record {
  first_in_bounds = c.requires.from_in_bounds;
  goes = record {
    m = (monitor_of c.args.state c.args.area0.now c.args.area1.now);
    i = c.args.from;
    going = begun_kept (regular _ (indexed_rules c.args.table.now.indexed)) c.args.state c.args.area0.now
        c.args.area1.now c.begin.new.self (sym (c.begin.ensures.0 ∙ c.alphabet.ensures.0)) _ _ _ _ c.pick_first.ensures
        (reached_start _ _ _ _ c.requires.standing) _ c.in-Some.is;
  };
  store_of = c.requires.store_of;
}

pub returns-in-None : goal.returns-in-None
unfolding RunBy
returns-in-None c = (
  (
    begun_full (regular _ (indexed_rules c.args.table.now.indexed)) c.args.state c.args.area0.now
        c.args.area1.now c.begin.new.self (sym (c.begin.ensures.0 ∙ c.alphabet.ensures.0)) _ _ _ _ c.pick_first.ensures
        (reached_start _ _ _ _ c.requires.standing) c.in-None.is,
    omega arith,
    c.requires.from_in_bounds,
  ),
  c.requires.store_of,
)

pub returns-in-Some : goal.returns-in-Some
returns-in-Some c = (
  goes_run c.take_turns.ensures.0 (begun_kept (regular _ (indexed_rules c.args.table.now.indexed)) c.args.state c.args.area0.now
      c.args.area1.now c.begin.new.self (sym (c.begin.ensures.0 ∙ c.alphabet.ensures.0)) _ _ _ _ c.pick_first.ensures
      (reached_start _ _ _ _ c.requires.standing) _ c.in-Some.is),
  c.take_turns.ensures.1,
)
