-- Which area is present, by the parity of the events taken: `advance_present`.
--     holding_even, holding_odd    the area of that parity holds the residuals, and the other is zero
--     moved_even, moved_odd        the areas after the event
-- Assumes nothing.
use Prim.Native.Nat.{ℕ, ◌/◌, ◌%◌}
use mathlib.Core.Path.{◌≡◌, refl, ap, ap₂, sym, ◌∙◌}
use mathlib.Core.List.{List, []}
use mathlib.Core.Option.{Option}
use lib.ListN.{length}
use Rattle.table.specs.Table.{Table}
use Rattle.monitor_spec.specs.Regular.{Regular}
use Rattle.residuals.specs.Residual.{Residual, after_all}
use Rattle.residuals.specs.Slots.{slots_of}
use Rattle.monitor_spec.specs.State.{Monitor, slot_count, even, choose, fill, laid}
use Rattle.monitor_spec.proofs.State.Areas.{present_even, present_odd}
use Rattle.monitor_spec.specs.Feed.{present_slots, next_slots, taking, event_refused}
use Rattle.monitor_spec.proofs.Feed.Laws.{met_by}
use Rattle.monitor_spec.proofs.Expected.Laid.{laid_lengths}
use Rattle.state.specs.declared.record.State.{State}
use Rattle.state.specs.Record.{state_of, monitor_of}
use Rattle.monitor_spec.specs.Holds.{held_in}
use Rattle.std.specs.Prelude.{Result, Ok, Err}
use Rattle.taking.specs.Taking.{Holding, Standing, Stepped, Advanced, Moved}

-- the same areas under other names
stepped_as : (met met' : Option ℕ) (next next' : List (List ℕ)) (a b x y x' y' : List ℕ) (r : Result ℕ ℕ) (a' b' : List ℕ)
    → met ≡ met' → next ≡ next' → x ≡ x' → y ≡ y' → Stepped met next a b x y r a' b'
    → Stepped met' next' a b x' y' r a' b'
stepped_as met met' next next' a b x y x' y' r a' b' p q u v h = rw (← p, ← q, ← u, ← v) h

swapped : (met : Option ℕ) (next : List (List ℕ)) (a b x y : List ℕ) (r : Result ℕ ℕ) (a' b' : List ℕ)
    → Stepped met next b a x y r b' a' → Stepped met next a b y x r a' b'
swapped met next a b x y (Ok c) a' b' h =
    record { passes = h.passes; count = h.count; first = h.second; second = h.first }
swapped met next a b x y (Err k) a' b' h =
    record { meets = h.meets; first = h.second; second = h.first }

module _ (t : Table) (regular : Regular t) (s : State) (a b : List ℕ) (h : Standing t (monitor_of s a b)) where
  abbrev n : ℕ
  n = h.slots

  abbrev rs : List Residual
  rs = h.laid.residuals

  area0_is : a ≡ choose (even s.taken) (fill n (slots_of rs)) (fill n [])
  unfolding laid
  area0_is = ap (λ (m : Monitor). m.area0) h.laid.same

  area1_is : b ≡ choose (even s.taken) (fill n []) (fill n (slots_of rs))
  unfolding laid
  area1_is = ap (λ (m : Monitor). m.area1) h.laid.same

  same_slots : slot_count a ≡ slot_count b
  unfolding slot_count
  same_slots =
      let (x, y) = laid_lengths t regular n (state_of s) rs h.laid.sensible in
      let u = ap (λ (m : Monitor). length m.area0) h.laid.same in
      let v = ap (λ (m : Monitor). length m.area1) h.laid.same in
      ap (λ (i : ℕ). i / 16) (u ∙ x ∙ sym y ∙ sym v)

  holds : (p o : List ℕ) → p ≡ fill n (slots_of rs) → o ≡ fill n [] → Holding t p o s.count
  holds p o x y =
      record {
        held = record {
          residuals = rs;
          slots = n;
          proper = h.laid.sensible.proper;
          room = h.laid.sensible.room;
          words = x;
          number = h.laid.sensible.counted;
        };
        other = y;
      }

  -- what stands after the event, by the area p that is present
  abbrev after : ℕ → List ℕ → List (List ℕ)
  after e p = slots_of (after_all t e (held_in t p s.count))

  next_at : (e : ℕ) (p : List ℕ) → choose (even s.taken) a b ≡ p
      → after e p ≡ next_slots t (monitor_of s a b) e
  unfolding next_slots present_slots held_in
  next_at e p x = ap (after e) (sym x)

  met_at : (e : ℕ) (p : List ℕ) → choose (even s.taken) a b ≡ p → slot_count p ≡ slot_count a
      → event_refused t (slot_count p) s.taken (held_in t p s.count) e ≡ met_by t (monitor_of s a b) e
  unfolding present_slots held_in
  met_at e p x y =
      ap₂ (λ (i : ℕ) (l : List ℕ). event_refused t i s.taken (held_in t l s.count) e) y (sym x)

  filled_at : (e : ℕ) (p : List ℕ) → choose (even s.taken) a b ≡ p → slot_count p ≡ slot_count a
      → fill (slot_count p) (after e p) ≡ fill (slot_count a) (next_slots t (monitor_of s a b) e)
  filled_at e p x y = ap₂ fill y (next_at e p x)

  module _ (parity : s.taken % 2 ≡ 0) where
    pub holding_even : Holding t a b s.count
    holding_even =
        holds a b (area0_is ∙ present_even s.taken _ _ parity)
        (area1_is ∙ present_even s.taken _ _ parity)

    pub moved_even : (e : ℕ) (r : Result ℕ ℕ) (a' b' : List ℕ)
        → Advanced t e s.taken s.count a b r a' b' → Moved t (monitor_of s a b) e r a' b'
    unfolding Advanced Moved taking
    moved_even e r a' b' g =
        let x = present_even s.taken a b parity in
        stepped_as _ _ _ _ a b _ _ _ _ r a' b' (met_at e a x refl) (next_at e a x)
        (sym (present_even s.taken _ _ parity))
        (filled_at e a x refl ∙ sym (present_even s.taken _ _ parity)) g

  module _ (parity : s.taken % 2 ≡ 0 → ⊥) where
    pub holding_odd : Holding t b a s.count
    holding_odd =
        holds b a (area1_is ∙ present_odd s.taken _ _ parity)
        (area0_is ∙ present_odd s.taken _ _ parity)

    pub moved_odd : (e : ℕ) (r : Result ℕ ℕ) (a' b' : List ℕ)
        → Advanced t e s.taken s.count b a r b' a' → Moved t (monitor_of s a b) e r a' b'
    unfolding Advanced Moved taking
    moved_odd e r a' b' g =
        let x = present_odd s.taken a b parity in
        let y = sym same_slots in
        stepped_as _ _ _ _ a b _ _ _ _ r a' b' (met_at e b x y) (next_at e b x)
        (filled_at e b x y ∙ sym (present_odd s.taken _ _ parity))
        (ap (λ (i : ℕ). fill i []) y ∙ sym (present_odd s.taken _ _ parity))
        (swapped _ _ a b _ _ r a' b' g)
