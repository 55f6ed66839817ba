-- `wash_event::event::take_on` meets its contract. Assumes nothing.
use mathlib.Core.Path.{refl}
use Rattle.wash_event.proofs.event.On.{ready_first, ready_free, ready_stands, on_first, on_due, on_taken}
use Rattle.wash_event.proofs.event.take_on.Goals as goal

pub take_fresh-requires : goal.take_fresh-requires
take_fresh-requires c =
    let args = c.args in record {
      list_accepted = c.requires.list_accepted;
      area1_value = c.requires.area1_value;
      free = ready_first args.list.now args.work.now args.due
          args.state args.area0.now args.area1.now c.requires.on_ready
          c.in-NotStarted.is;
      store_len = c.requires.store_len;
    }

pub take_fresh-requires-then-due : goal.take_fresh-requires-then-due
take_fresh-requires-then-due c =
    let args = c.args in record {
      list_accepted = c.requires.list_accepted;
      area1_value = c.requires.area1_value;
      free = ready_free args.list.now args.work.now args.due
          args.state args.area0.now args.area1.now c.requires.on_ready _ _
          c.in-Started.is _ refl;
      store_len = c.requires.store_len;
    }

pub returns-then-due : goal.returns-then-due
returns-then-due c =
    on_due _ _ _ _ _ _ _ _ _ _ _ _ c.in-Started.is c.if-due.true
    c.take_fresh-then-due.ensures

pub invariant_of-table : goal.invariant_of-table
invariant_of-table c =
    let args = c.args in
    record { indexed = (ready_stands args.list.now args.work.now args.due args.state args.area0.now args.area1.now c.requires.on_ready _ _ c.in-Started.is c.if-due.false).0 }

pub take_anew-requires : goal.take_anew-requires
take_anew-requires c =
    let args = c.args in
    let stands = ready_stands args.list.now args.work.now args.due args.state args.area0.now
    args.area1.now c.requires.on_ready _ _ c.in-Started.is c.if-due.false in
    record {
      standing = stands.1;
      store_len = c.requires.store_len;
    }

pub returns-in-NotStarted : goal.returns-in-NotStarted
returns-in-NotStarted c =
    on_first _ _ _ _ _ _ _ _ _ _ c.in-NotStarted.is c.take_fresh.ensures

pub returns-else-due : goal.returns-else-due
returns-else-due c =
    let args = c.args in
    let stands = ready_stands args.list.now args.work.now args.due args.state args.area0.now
    args.area1.now c.requires.on_ready _ _ c.in-Started.is c.if-due.false in
    on_taken _ _ _ _ _ _ _ _ _ _ _ _ c.in-Started.is c.if-due.false stands.0
    c.take_anew.ensures
