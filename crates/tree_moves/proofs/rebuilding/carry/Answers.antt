-- `tree_moves::rebuilding::carry` meets its contract: one law for each way out. Assumes nothing.
use native.Mathlib.Omega.{arith}
use Rattle.index.specs.Facts.{terms_few}
use Rattle.resolving.specs.Lawful.{event_small}
use Rattle.tree_ways.specs.Only.Following.{carry_room, carry_keep, carry_resolves, carry_moved}
use Rattle.tree_moves.proofs.rebuilding.carry.Goals as goal

pub push_into-requires : goal.push_into-requires
push_into-requires c =
    (carry_room c.requires.carries c.if-marks-eq0.true, c.requires.carries.size)

pub returns-then-marks-eq0 : goal.returns-then-marks-eq0
returns-then-marks-eq0 c =
    carry_keep c.requires.carries c.if-marks-eq0.true _ c.push_into.ensures

pub remember-m-requires : goal.remember-m-requires
remember-m-requires c =
    let asked = c.requires.carries in
    (event_small asked.law asked.event, c.memory_of.ensures.1)

pub overflow_add-term_of : goal.overflow_add-term_of
overflow_add-term_of c =
    omega (
      arith,
      c.term_of.ensures,
      (c.requires.carries.single c.if-marks-eq0.false).active.within,
      terms_few
          c.args.table.now.indexed,
    )

pub resolve_into-requires : goal.resolve_into-requires
resolve_into-requires c =
    record {
      resolves = carry_resolves c.requires.carries c.if-marks-eq0.false _ _ _ c.term_of.ensures
          c.memory_of.ensures.0 c.remember-m.ensures.0;
      m_lt_memory_bound = c.remember-m.ensures.1;
    }

pub returns : goal.returns
returns c =
    carry_moved c.requires.carries c.if-marks-eq0.false _ _ _ c.term_of.ensures c.memory_of.ensures.0 c.remember-m.ensures.0 _ c.resolve_into.ensures
