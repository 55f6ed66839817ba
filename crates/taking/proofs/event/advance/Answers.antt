-- `taking::event::advance` meets its contract: the words of the present area that are not cleared were zero. Assumes
-- nothing.
use native.Mathlib.Omega.{arith}
use Rattle.std.proofs.lemmas.Result.{err_from_is_err_and}
use Rattle.index.specs.Facts.{indexed_rules}
use Rattle.step_laws.specs.HeldAreas.{holds_room}
use Rattle.taking.proofs.event.Areas.{holding_empty, advanced_count, advanced_refused}
use Rattle.taking.proofs.event.advance.Goals as goal

pub next_set-requires : goal.next_set-requires
next_set-requires c =
    let pre = c.requires in
    let empty = holding_empty _ (indexed_rules c.args.table.now.indexed) _ _ _ pre.holding in
    record {
      area_holds = pre.holding.held;
      empty = (empty, pre.store_of);
    }

pub overflow_mul-count : goal.overflow_mul-count
overflow_mul-count c =
    let pre = c.requires in
    let room = holds_room (indexed_rules c.args.table.now.indexed) pre.holding.held in
    omega arith

pub clear_first-requires : goal.clear_first-requires
clear_first-requires c =
    let pre = c.requires in
    holds_room (indexed_rules c.args.table.now.indexed) pre.holding.held

-- the event is taken
pub returns : goal.returns
returns c =
    let pre = c.requires in (
      advanced_count _ (indexed_rules c.args.table.now.indexed) _ _ _ pre.holding _ _ _ _ c.next_set.ensures.0 _
          c.in_ok-after.was _ c.clear_first.ensures,
      c.next_set.ensures.1,
    )

-- it is refused
pub returns-in_err-after : goal.returns-in_err-after
returns-in_err-after c =
    let pre = c.requires in
    let p = err_from_is_err_and c.from_residual.result c.from_residual.ensures.1 in (
      rw (p.1, p.2) (advanced_refused _ (indexed_rules c.args.table.now.indexed) _ _ _ pre.holding _ _ _ _
          c.next_set.ensures.0 _ c.in_err-after.was),
      c.next_set.ensures.1,
    )
