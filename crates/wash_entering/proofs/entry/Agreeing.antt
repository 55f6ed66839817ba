-- Whether state and areas agree, on the table in force at the last event's minute.
--     agreed_wash, agreed_everyday     `agrees_at`
--     agreed_none, agreed_started      `agrees`: before the first event, and after it
--     agreed_stands                    where they agree, all stands for the events
-- Assumes nothing.
use Prim.Native.Nat.{ℕ}
use native.Mathlib.Omega.{arith}
use mathlib.Core.Path.{◌≡◌, refl, ap, sym, subst, ◌∙◌}
use mathlib.Core.Bool.{Bool, true, false, ◌&&◌}
use mathlib.Core.List.{List, []}
use lib.ListN.{length}
use borrow.Author.Tests.{le-ltb}
use Rattle.table.specs.Table.{Table}
use Rattle.table.specs.Operations.{zeros}
use Rattle.table_index.specs.Index.{table_in, Indexed}
use Rattle.index.specs.Facts.{indexed_rules}
use Rattle.monitor_spec.proofs.Regular.Laws.{regular}
use Rattle.monitor_spec.specs.State.{State, holding, next_verdict, fresh_state, areas_measured, slot_count, even}
use Rattle.monitor_spec.specs.State.{choose, chunks, fill}
use Rattle.monitor_spec.proofs.Valid.Laws.{and_split}
use Rattle.monitor_spec.specs.Consistent.{every, ascends, all_zero, verdict_fits, peak_fits, record_fits, area_fits}
use Rattle.monitor_spec.specs.Consistent.{consistent}
use Rattle.monitor_spec.proofs.Consistent.Reading.{zero_split, consistent_laid}
use Rattle.state.specs.declared.record.State as code
use Rattle.state.specs.Record.{state_of, monitor_of}
use Rattle.opening.specs.Opening.Laws.{areas_cleared}
use Rattle.feeding.specs.Feeding.{Empty}
use Rattle.timetable_spec.specs.Timetable.{in_force}
use Rattle.wash_spec.specs.Entering.{agrees_by}
use Rattle.wash_state.specs.declared.answer.TimedState.{TimedState}
use Rattle.wash_state.specs.declared.answer.TimedState.TheVariants.{NotStarted, Started}
use Rattle.wash_start.specs.Standing.{list_at, TimedStanding}
use Rattle.wash_start.specs.Standing.Laws.{list_wash, list_everyday, list_drawing, measured_same}
use Rattle.wash_entering.specs.Entering.{AgreedAt, Agreed}

module _ (everyday wash windows : List ℕ) (a b : List ℕ) (r : Bool) (work' : List ℕ) where
  -- ---- after the first event
  module _ (s : code.State) (last : ℕ) where
    at_list : (l : List ℕ) → list_at everyday wash windows last ≡ l
        → r ≡ consistent (table_in l) (monitor_of s a b) → Indexed l work'
        → AgreedAt everyday wash windows s last a b r work'
    at_list l q e x =
        record {
          answer = e ∙ ap (λ (k : List ℕ). consistent (table_in k) (monitor_of s a b)) (sym q);
          index = subst (λ (k : List ℕ). Indexed k work') (sym q) x;
        }

    pub agreed_wash : in_force windows last ≡ true → r ≡ consistent (table_in wash) (monitor_of s a b)
        → Indexed wash work' → AgreedAt everyday wash windows s last a b r work'
    agreed_wash f = at_list wash (list_wash everyday wash windows last f)

    pub agreed_everyday : in_force windows last ≡ false → r ≡ consistent (table_in everyday) (monitor_of s a b)
        → Indexed everyday work' → AgreedAt everyday wash windows s last a b r work'
    agreed_everyday f = at_list everyday (list_everyday everyday wash windows last f)

    pub agreed_started : (x : TimedState) → x ≡ Started s last → AgreedAt everyday wash windows s last a b r work'
        → Agreed everyday wash windows x a b r work'
    unfolding agrees_by
    agreed_started x q h =
        record {
          answer = rw q (h.answer
              ∙ ap (λ (t : Table). consistent t (monitor_of s a b)) (list_drawing everyday wash windows last));
          index = rw q h.index;
        }

  -- ---- before it
  -- no residuals are held: both areas are zero
  none_held : (t : Table)
      → consistent t (record { state = fresh_state 0; area0 = a; area1 = b }) ≡ (all_zero a && all_zero b)
  unfolding consistent record_fits verdict_fits peak_fits area_fits fresh_state holding next_verdict even choose chunks every
      ascends
  none_held t = rw (le-ltb (slot_count a) 0 (omega arith))

  pub agreed_none : (x : TimedState) → x ≡ NotStarted → (s : code.State) → state_of s ≡ fresh_state 0
      → r ≡ consistent (table_in wash) (monitor_of s a b) → Agreed everyday wash windows x a b r work'
  unfolding agrees_by
  agreed_none x q s f e =
      record {
        answer = rw q (e
            ∙ ap (λ (z : State). consistent (table_in wash) (record { state = z; area0 = a; area1 = b })) f
            ∙ none_held (table_in wash));
        index = rw q tt;
      }

-- ---- where they agree
module _ (everyday wash windows : List ℕ) (a b work' : List ℕ) (m : areas_measured a b ≡ true) where
  empty : (o : List ℕ) (n : ℕ) → all_zero o ≡ true → zeros (length o) ≡ fill n [] → slot_count o ≡ n → Empty o
  unfolding Empty
  empty o n z e q = zero_split o z ∙ e ∙ ap (λ (i : ℕ). fill i []) (sym q)

  pub agreed_stands : (x : TimedState) → Agreed everyday wash windows x a b true work'
      → TimedStanding everyday wash windows x a b work'
  unfolding agrees_by
  agreed_stands NotStarted h =
      let z = and_split (all_zero a) (all_zero b) (sym h.answer) in
      let c = areas_cleared a b m in
      (empty a (slot_count a) z.0 c.0 refl, empty b (slot_count a) z.1 c.1 (measured_same a b m))
  agreed_stands (Started s last) h =
      let l = list_at everyday wash windows last in
      let e : consistent (table_in l) (monitor_of s a b) ≡ true =
      ap (λ (t : Table). consistent t (monitor_of s a b)) (list_drawing everyday wash windows last)
      ∙ sym h.answer in (
        h.index,
        record {
          slots = slot_count a;
          laid = consistent_laid (table_in l) (regular (table_in l) (indexed_rules h.index)) (monitor_of s a b) m e;
        },
      )
