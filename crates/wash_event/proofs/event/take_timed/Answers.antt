-- `wash_event::event::take_timed` meets its contract: 17; then the event on the table in force. Assumes nothing.
use mathlib.Core.Path.{sym, ◌∙◌}
use Rattle.wash_start.specs.Standing.Laws.{list_wash, list_everyday}
use Rattle.wash_event.proofs.event.Timed.{timed_back, timed_ready, timed_taken}
use Rattle.wash_event.proofs.event.take_timed.Goals as goal

pub returns-then-clock_back : goal.returns-then-clock_back
returns-then-clock_back c =
    timed_back _ _ _ _ _ _ _ _ c.requires.timed_ready _ (sym c.clock_back.ensures ∙ c.if-clock_back.true)

pub take_on-requires : goal.take_on-requires
take_on-requires c =
    let ready = timed_ready _ _ _ _ _ _ _ _ c.requires.timed_ready (sym c.clock_back.ensures ∙
    c.if-clock_back.false) _ c.start_due-due.ensures _ (list_wash _ _ _ _ (sym
    c.in_force.ensures ∙ c.if-in_force.true)) in
    record {
      list_accepted = (c.requires.timed_ready.second, c.requires.timed_ready.long);
      area1_value = c.requires.timed_ready.measured;
      on_ready = ready;
      store_len = c.requires.store_len;
    }

pub returns-then-in_force : goal.returns-then-in_force
returns-then-in_force c =
    timed_taken _ _ _ _ _ _ _ _ c.requires.timed_ready (sym c.clock_back.ensures ∙ c.if-clock_back.false) _
    c.start_due-due.ensures _ _ _ _ _ _ (list_wash _ _ _ _ (sym c.in_force.ensures ∙
    c.if-in_force.true)) c.take_on.ensures

pub take_on-requires-2 : goal.take_on-requires-2
take_on-requires-2 c =
    let ready = timed_ready _ _ _ _ _ _ _ _ c.requires.timed_ready (sym c.clock_back.ensures ∙
    c.if-clock_back.false) _ c.start_due-due.ensures _ (list_everyday _ _ _ _ (sym
    c.in_force.ensures ∙ c.if-in_force.false)) in
    record {
      list_accepted = (c.requires.timed_ready.first, c.requires.timed_ready.long);
      area1_value = c.requires.timed_ready.measured;
      on_ready = ready;
      store_len = c.requires.store_len;
    }

pub returns : goal.returns
returns c =
    timed_taken _ _ _ _ _ _ _ _ c.requires.timed_ready (sym c.clock_back.ensures ∙ c.if-clock_back.false) _
    c.start_due-due.ensures _ _ _ _ _ _ (list_everyday _ _ _ _ (sym c.in_force.ensures ∙
    c.if-in_force.false)) c.take_on-2.ensures
