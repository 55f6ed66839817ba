-- Holding the slots of residuals in a zeroed area: of the residuals after an event, of those of a definition.
--     step_holds, step_exceeds                  one event, from an area that holds residuals
--     definition_holds, definition_exceeds      the residuals of a definition
-- Assumes nothing.
use Rattle.std.specs.Prelude.{ℕ, ◌≤◌, ◌<◌, ◌≡◌, List, [], length, Ok, Err}
use Rattle.std.proofs.Math.Path.{refl}
use Rattle.numbers.specs.Every.{All}
use Rattle.table.specs.Table.{Table}
use Rattle.table.specs.Rules.{Rules}
use Rattle.meaning.specs.Figure1.{body_count}
use Rattle.residuals.specs.Residual.{Residual, resolve_def, after_all, run, from_definition}
use Rattle.residuals.specs.Slots.{slots_of}
use Rattle.monitor_spec.proofs.Regular.Laws.{regular}
use Rattle.monitor_spec.specs.State.{fill}
use Rattle.monitor_spec.specs.Proper.{Proper}
use Rattle.monitor_spec.specs.Valid.{held}
use Rattle.monitor_spec.proofs.Valid.Residuals.{slots_after}
use Rattle.slots.specs.Holding.{held_as, put_all, no_room}
use Rattle.slots.specs.Canon.{canon, SameMembers}
use Rattle.slots.proofs.Canon.Areas.{fill_none}
use Rattle.slots.proofs.Canon.Laws.{put_canon, put_exceeded_canon}
use Rattle.set_step.specs.Stepped.{gathered, Source}
use Rattle.set_step.specs.Successors.Laws.{stepped, exceeded}
use Rattle.set_step.specs.Successors.Room.{Within, sixteen_words}
use Rattle.set_step.specs.Started.{initial}
use Rattle.step_laws.specs.Areas.{held_length, holds_slots}
use Rattle.step_laws.specs.Asks.{step_source, definition_short}

module _ (t : Table) (rules : Rules t) where
  -- ---- one event, of slots with the members that the step promises

  module _ (rs : List Residual) (proper : All (Proper t) rs) (n : ℕ) (room : length (slots_of rs) ≤ n) (e : ℕ)
      (small : e < t.alphabet) (xs : List (List ℕ))
      (m : SameMembers xs (gathered t e (fill n (slots_of rs)) (length (slots_of rs)) 0)) where
    -- the residuals that are read from the slots
    abbrev hs : List Residual
    hs = held t (slots_of rs)

    same_slots : slots_of (after_all t e hs) ≡ slots_of (after_all t e rs)
    same_slots = slots_after t (regular t rules) e rs proper

    same_length : length hs ≡ length (slots_of rs)
    same_length = held_length t rules rs proper

    source : Source t e (fill n (slots_of rs)) (length hs)
    source = rw same_length (step_source t rules rs proper n room e small)

    pub step_holds : (cap : ℕ) → length (slots_of (after_all t e rs)) ≤ cap → put_all (fill cap []) 0 xs
        ≡ held_as (Ok (length (slots_of (after_all t e rs)))) (fill cap (slots_of (after_all t e rs)))
    step_holds cap k =
        rw (fill_none cap, ← same_slots)
        (stepped t e (fill n (slots_of rs)) hs (holds_slots t rules rs proper n) source cap xs (rw same_length m)
        (rw same_slots k))

    pub step_exceeds : (cap : ℕ) → cap < length (slots_of (after_all t e rs))
        → (put_all (fill cap []) 0 xs).held ≡ Err no_room
    step_exceeds cap k =
        rw (fill_none cap)
        (exceeded t e (fill n (slots_of rs)) hs (holds_slots t rules rs proper n) source cap xs (rw same_length m)
        (rw same_slots k))

  -- ---- a definition

  module _ (d : ℕ) (known : d < body_count t) where
    -- its residuals, before any event
    abbrev settled : List Residual
    settled = from_definition t d []

    first_is : settled ≡ resolve_def t (body_count t) d
    unfolding from_definition run
    first_is = refl

    first_short : All (Within 15) (resolve_def t (body_count t) d)
    first_short = definition_short t rules d known

    first_slots : canon (initial t d) ≡ slots_of settled
    unfolding slots_of
    first_slots = rw first_is

    pub definition_holds : (cap : ℕ) → length (slots_of settled) ≤ cap → put_all (fill cap []) 0 (initial t d)
        ≡ held_as (Ok (length (slots_of settled))) (fill cap (slots_of settled))
    definition_holds cap h =
        rw (← first_slots)
        (put_canon cap (initial t d) (sixteen_words (resolve_def t (body_count t) d) first_short) (rw first_slots h))

    pub definition_exceeds : (cap : ℕ) → cap < length (slots_of settled)
        → (put_all (fill cap []) 0 (initial t d)).held ≡ Err no_room
    definition_exceeds cap h =
        put_exceeded_canon cap (initial t d) (sixteen_words (resolve_def t (body_count t) d) first_short)
        (rw first_slots h)
