-- `taking::event::take_anew` meets its contract: a store that keeps nothing is one of the table. Assumes nothing.
use Rattle.taking.proofs.event.take_anew.Goals as goal

pub take_event-requires : goal.take_event-requires
take_event-requires c =
    record {
      standing = c.requires.standing;
      store_of = c.forget.ensures _;
    }

pub returns : goal.returns
returns c =
    c.take_event.ensures.0
