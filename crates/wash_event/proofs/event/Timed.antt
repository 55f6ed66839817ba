-- An event with its minute: `take_timed`.
--     timed_back                  17
--     timed_ready                 what `take_on` asks for, on the table in force
--     timed_taken                 what it leaves
-- Assumes nothing.
use Prim.Native.Nat.{ℕ, ◌≤◌}
use native.Mathlib.Omega.{arith}
use mathlib.Core.Path.{◌≡◌, refl, ap, sym, subst, ◌∙◌}
use mathlib.Core.Bool.{Bool, true, false, ◌||◌}
use mathlib.Core.List.{List}
use lib.Dec.{ltb, leb}
use borrow.Author.Tests.{ltb-false}
use Rattle.table_index.specs.Index.{table_in, Indexed}
use Rattle.index.specs.Facts.{indexed_rules}
use Rattle.monitor_spec.proofs.Regular.Laws.{regular}
use Rattle.state.specs.declared.record.State.{State}
use Rattle.state.specs.Record.{monitor_of}
use Rattle.taking.specs.Taking.{Taken}
use Rattle.std.specs.declared.result.Result.TheVariants.{Ok, Err}
use Rattle.feeding.specs.Feeding.{Standing}
use Rattle.timetable_spec.specs.Timetable.{minute_bound, changes}
use Rattle.timetable_spec.proofs.Timetable.Exact.{unchanged_same}
use Rattle.wash_spec.specs.Taking.{clock_back, start_due, take_on, at_minute, take_timed}
use Rattle.wash_spec.proofs.Taking.Laws.{take_back}
use Rattle.wash_state.specs.declared.answer.TimedState.{TimedState}
use Rattle.wash_state.specs.declared.answer.TimedState.TheVariants.{NotStarted, Started}
use Rattle.wash_state.specs.Answers.{timed_state_of, timed_monitor_of}
use Rattle.wash_start.specs.Standing.{list_at, TimedStanding, TimedReady}
use Rattle.wash_start.specs.Standing.Laws.{list_drawing}
use Rattle.wash_event.specs.Event.{OnReady, AreasOn, OnBy, TimedBy}
use Rattle.wash_event.proofs.event.Standing.{standing_free, on_standing}

or_false_left : (x y : Bool) → (x || y) ≡ false → x ≡ false
or_false_left true y e = absurd (let z : ◌≡◌ {A = ℕ} 0 1 = cc in omega arith)
or_false_left false y e = refl

-- the clock did not go back
in_order : (s : State) (last minute : ℕ) → clock_back (timed_state_of (Started s last)) minute ≡ false → last ≤ minute
unfolding clock_back
in_order s last minute e = ltb-false minute last (or_false_left (ltb minute last) (leb minute_bound minute) e)

module _ (everyday wash windows : List ℕ) (x : TimedState) (minute : ℕ) (a b work : List ℕ)
    (h : TimedReady everyday wash windows x a b work) where
  abbrev now : List ℕ
  now = list_at everyday wash windows minute

  pub timed_back : (e : ℕ) → clock_back (timed_state_of x) minute ≡ true
      → TimedBy everyday wash windows x e minute a b (Err 17) a b work
  timed_back e q =
      (take_back (table_in everyday) (table_in wash) windows (timed_monitor_of x a b) (e, minute) q, refl, refl)

  module _ (back : clock_back (timed_state_of x) minute ≡ false) (due : Bool)
      (d : due ≡ start_due windows (timed_state_of x) minute) where
    -- the list in force did not change where no start is due
    same_list : (s : State) (last : ℕ) → x ≡ Started s last → due ≡ false → list_at everyday wash windows last ≡ now
    unfolding list_at start_due
    same_list s last q u =
        let c : clock_back (timed_state_of (Started s last)) minute ≡ false = rw q at back in
        let e : changes windows last minute ≡ false = sym (rw q at d) ∙ u in
        rw (unchanged_same windows last minute h.good (in_order s last minute c) e)

    stood : (s : State) (last : ℕ) → x ≡ Started s last → TimedStanding everyday wash windows (Started s last) a b work
    stood s last q = rw q at h.stands

    stands_now : (s : State) (last : ℕ) → x ≡ Started s last → due ≡ false
        → Indexed now work × Standing (table_in now) (monitor_of s a b)
    stands_now s last q u =
        subst (λ (l : List ℕ). Indexed l work × Standing (table_in l) (monitor_of s a b)) (same_list s last q u)
        (stood s last q)

    ready : (y : TimedState) → x ≡ y → OnReady now work due y a b
    ready NotStarted q = let z : TimedStanding everyday wash windows NotStarted a b work = rw q at h.stands in z.1
    ready (Started s last) q =
        (standing_free _ s a b (stood s last q).1, λ u. stands_now s last q u)

    -- of the list that the code takes
    pub timed_ready : (l : List ℕ) → now ≡ l → OnReady l work due x a b
    timed_ready l q = subst (λ (k : List ℕ). OnReady k work due x a b) q (ready x refl)

    module _ (e : ℕ) (r : Taken) (a' b' work' : List ℕ) where
      taken : take_timed (table_in everyday) (table_in wash) windows (timed_monitor_of x a b) (e, minute)
          ≡ at_minute minute (take_on (table_in now) due (timed_state_of x) a b e)
      unfolding take_timed
      taken = rw (back, take_timed, ← d, ← (list_drawing everyday wash windows minute))

      timed_now : OnBy now due x e a b r a' b' work'
          → TimedBy everyday wash windows x e minute a b r a' b' work'
      unfolding at_minute
      timed_now f = by r f.areas
        where
          by : (u : Taken) → AreasOn (table_in now) due x e a b u a' b'
              → TimedBy everyday wash windows x e minute a b u a' b' work'
          by (Ok s) g = (
            taken ∙ ap (at_minute minute) g,
            (
              f.index,
              on_standing (table_in now) (regular (table_in now) (indexed_rules f.index)) e due x a b
                  (monitor_of s a' b') g (λ u last q v. (stands_now u last q v).1),
            ),
          )
          by (Err k) g = (taken ∙ ap (at_minute minute) g.0, g.1, g.2)

      pub timed_taken : (l : List ℕ) → now ≡ l → OnBy l due x e a b r a' b' work'
          → TimedBy everyday wash windows x e minute a b r a' b' work'
      timed_taken l q f = timed_now (subst (λ (k : List ℕ). OnBy k due x e a b r a' b' work') (sym q) f)
