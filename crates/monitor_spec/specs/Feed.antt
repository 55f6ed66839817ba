-- Feed: its whole outcome (01, "Operations", "When the monitor declines").
--     present_slots, next_slots  the slots held; those of the residuals after an event
--     event_refused             one event: refusal 11, 12 or 13, or none
--     take_event                the monitor after it, or the refusal
--     feed_of                   answer, areas and work words of a call
-- The laws are in `proofs/Feed/Laws.antt`. Assumes nothing.
use Rattle.std.specs.Prelude.{ℕ, true, false, List, [], length, eqb, leb, ltb}
use Rattle.std.proofs.Math.Option.{Option, none, some}
use Rattle.table.specs.Table.{Table}
use Rattle.table.specs.Operations.{zeros}
use Rattle.residuals.specs.Residual.{Residual, after_all}
use Rattle.residuals.specs.Slots.{slots_of}
use Rattle.monitor_spec.specs.Valid.{held}
use Rattle.monitor_spec.specs.Fold.{StepEnd, went, stops, Ended, through}
use Rattle.monitor_spec.specs.State.{state_after, Monitor, given, stopped, Outcome, slot_count, even, choose}
use Rattle.monitor_spec.specs.State.{chunks, fill}
use Rattle.monitor_spec.specs.Entering.{entrance_on, entering, refusing}

-- 2^64-1
abbrev pub counter_most : ℕ
counter_most = 18446744073709551615

-- the slots of the residuals held: "The present area is taken mod 2"
unfoldable pub present_slots : Monitor → List (List ℕ)
present_slots m = chunks m.state.count (choose (even m.state.taken) m.area0 m.area1)

-- the residuals after an event, of those held
unfoldable pub next_slots : Table → Monitor → ℕ → List (List ℕ)
next_slots t m e = slots_of (after_all t e (held t (present_slots m)))

-- "each event fills the other and zeroes the first"
unfoldable pub taking : Monitor → List (List ℕ) → Monitor
taking m next =
    let n = slot_count m.area0 in
    let e = even m.state.taken in
    record {
      state = state_after m.state (length next);
      area0 = choose e (fill n []) (fill n next);
      area1 = choose e (fill n next) (fill n []);
    }

-- 11 "event A or more", 12 "taken is 2^64-1", 13 "residuals after the event .. exceed the slots" (capacity exceeded;
-- 01's crowded), in this order: with room for cap residuals, k events taken and the residuals rs held
unfoldable pub event_refused : Table → ℕ → ℕ → List Residual → ℕ → Option ℕ
event_refused t cap k rs e =
    elim (leb t.alphabet e) [
      | true ↦ some 11
      | false ↦ elim (eqb k counter_most) [
        | true ↦ some 12
        | false ↦ elim (ltb cap (length (slots_of (after_all t e rs)))) [ true ↦ some 13 | false ↦ none ]
      ]
    ]

unfoldable pub take_event : Table → Monitor → ℕ → StepEnd Monitor
take_event t m e =
    elim (event_refused t (slot_count m.area0) m.state.taken (held t (present_slots m)) e) [
      | some k ↦ stops k
      | none ↦ went (taking m (next_slots t m e))
    ]

-- "Refusals 11 to 13 also return the record after the events already taken, areas as then"; place: "events taken by
-- this call"; the work area, of n words, is "all zero after each call"
unfoldable pub ending_of : ℕ → Ended Monitor → Outcome
ending_of n x =
    record {
      answer = elim x.why [ none ↦ given x.at.state | some k ↦ stopped k x.taken x.at.state ];
      area0 = x.at.area0;
      area1 = x.at.area1;
      work = zeros n;
    }

-- "Order: 1; 2; .. 9; 10; per event 11, 12, 13."
unfoldable pub feed_of : List ℕ → Monitor → List ℕ → List ℕ → Outcome
feed_of l m es work =
    entering (refusing m.area0 m.area1)
    (λ t. ending_of (length work) (through (take_event t) m 0 es))
    (entrance_on l m work)
