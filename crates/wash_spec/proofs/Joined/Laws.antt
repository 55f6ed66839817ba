-- The joined list, by its tests.
--     stretch_snoc         the stretch of a list with one event more
--     held_due, held_on    the events since the start that an event counts from: a start is due, or none
--     looked, unlooked     the events that a call looks at
--     halts_back, halts_exceeded, halts_room, halts_on    where it stops;  in_order: where not, minutes do not descend
-- Assumes nothing.
use Rattle.std.specs.Prelude.{ℕ, ◌≤◌, ◌≡◌, refl, Bool, true, false, ◌&&◌, ◌||◌, List, [], ◌∷◌, ◌++◌, length, eqb, ltb}
use Rattle.std.proofs.Math.Option.{none, some}
use Rattle.std.proofs.Common.{ltb-false}
use Rattle.table.specs.Table.{Table}
use Rattle.monitor_spec.specs.State.{work_measured}
use Rattle.monitor_spec.specs.Joined.{residual_count, halts}
use Rattle.monitor_spec.proofs.Refusals.Laws.{clash}
use Rattle.wash_spec.specs.Taking.{drawing_at}
use Rattle.wash_spec.specs.Feed.{timed_pairs}
use Rattle.wash_spec.specs.Joined.{TimedCall, looked_at, Stretch, starts_at, held_at, grown, stretch_from, stretch}
use Rattle.wash_spec.specs.Joined.{backward, halts_after}

-- ---- the stretch

stretch_from_lem : (windows : List ℕ) (s : List (ℕ × ℕ)) (p : ℕ × ℕ) (x : Stretch)
    → stretch_from windows x (s ++ p ∷ []) ≡ grown windows (stretch_from windows x s) p
unfolding stretch_from
stretch_from_lem windows [] p x = refl
stretch_from_lem windows (q ∷ s) p x = stretch_from_lem windows s p (grown windows x q)

pub stretch_snoc : (windows : List ℕ) (s : List (ℕ × ℕ)) (p : ℕ × ℕ)
    → stretch windows (s ++ p ∷ []) ≡ grown windows (stretch windows s) p
unfolding stretch
stretch_snoc windows s p = stretch_from_lem windows s p (record { last = none; events = [] })

pub held_due : (windows : List ℕ) (x : Stretch) (now : ℕ) → starts_at windows x.last now ≡ true
    → held_at windows x now ≡ []
unfolding held_at
held_due windows x now h = rw (h, held_at)

pub held_on : (windows : List ℕ) (x : Stretch) (now : ℕ) → starts_at windows x.last now ≡ false
    → held_at windows x now ≡ x.events
unfolding held_at
held_on windows x now h = rw (h, held_at)

-- ---- a call's events

pub looked : (c : TimedCall) → (work_measured c.work && eqb (length c.events) (length c.minutes)) ≡ true
    → looked_at c ≡ timed_pairs c.events c.minutes
unfolding looked_at
looked c e = rw (e, looked_at)

pub unlooked : (c : TimedCall) → (work_measured c.work && eqb (length c.events) (length c.minutes)) ≡ false
    → looked_at c ≡ []
unfolding looked_at
unlooked c e = rw (e, looked_at)

-- ---- where the list stops

or_left : (a b : Bool) → (a || b) ≡ false → a ≡ false
or_left true b e = clash refl e
or_left false b e = refl

pub in_order : (last now : ℕ) → backward (some last) now ≡ false → last ≤ now
unfolding backward
in_order last now e = ltb-false now last (or_left (ltb now last) _ e)

module _ (t u : Table) (windows : List ℕ) (n : ℕ) (x : Stretch) (p : ℕ × ℕ) where
  abbrev d : Table
  d = drawing_at t u windows p.1

  abbrev due : Bool
  due = starts_at windows x.last p.1

  pub halts_back : backward x.last p.1 ≡ true → halts_after t u windows n x p ≡ true
  unfolding halts_after
  halts_back e = rw (e, halts_after)

  pub halts_exceeded : backward x.last p.1 ≡ false → due ≡ true → ltb n (residual_count d []) ≡ true
      → halts_after t u windows n x p ≡ true
  unfolding halts_after
  halts_exceeded e f g = rw (e, f, g, halts_after)

  pub halts_room : backward x.last p.1 ≡ false → due ≡ true → ltb n (residual_count d []) ≡ false
      → halts_after t u windows n x p ≡ halts d n (held_at windows x p.1) p.0
  unfolding halts_after
  halts_room e f g = rw (e, f, g, halts_after)

  pub halts_on : backward x.last p.1 ≡ false → due ≡ false
      → halts_after t u windows n x p ≡ halts d n (held_at windows x p.1) p.0
  unfolding halts_after
  halts_on e f = rw (e, f, halts_after)
