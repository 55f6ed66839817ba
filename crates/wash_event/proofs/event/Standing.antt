-- What stands before and after an event.
--     standing_free    a monitor that is laid out of residuals has an area of zeros
--     on_standing      what an event leaves is laid out of residuals
-- Assumes nothing.
use Prim.Native.Nat.{ℕ}
use native.Mathlib.Omega.{arith}
use mathlib.Core.Path.{◌≡◌, refl, ap, ap₂, sym, ◌∙◌}
use mathlib.Core.Bool.{Bool, true, false}
use mathlib.Core.List.{List, []}
use lib.ListN.{length}
use lib.Dec.{ltb}
use borrow.Author.Tests.{ltb-false}
use Rattle.table.specs.Table.{Table}
use Rattle.residuals.specs.Residual.{residuals_of}
use Rattle.residuals.specs.Slots.{slots_of}
use Rattle.monitor_spec.specs.Regular.{Regular}
use Rattle.monitor_spec.specs.State.{Monitor, slot_count, even, choose, fill, laid}
use Rattle.monitor_spec.proofs.State.Areas.{choose_twice, slot_count_fill}
use Rattle.monitor_spec.specs.Fold.{went}
use Rattle.monitor_spec.proofs.Consistent.Laws.{take_laid}
use Rattle.monitor_spec.specs.Open.{fresh_monitor}
use Rattle.monitor_spec.specs.Joined.{residual_count}
use Rattle.monitor_spec.proofs.History.Begun.{fresh_laid}
use Rattle.state.specs.declared.record.State.{State}
use Rattle.state.specs.Record.{monitor_of}
use Rattle.feeding.specs.Feeding.{Empty, Standing}
use Rattle.wash_spec.specs.Taking.{take_fresh, take_on}
use Rattle.wash_spec.proofs.Taking.Laws.{fresh_crowded, fresh_room}
use Rattle.wash_state.specs.declared.answer.TimedState.{TimedState}
use Rattle.wash_state.specs.declared.answer.TimedState.TheVariants.{NotStarted, Started}
use Rattle.wash_state.specs.Answers.{timed_state_of}
use Rattle.wash_start.specs.Fresh.{Free}

-- ---- the area of zeros
module _ (t : Table) (s : State) (a b : List ℕ) (h : Standing t (monitor_of s a b)) where
  abbrev n : ℕ
  n = h.slots

  abbrev ss : List (List ℕ)
  ss = slots_of h.laid.residuals

  other_is : choose (even s.taken) b a ≡ fill n []
  unfolding laid
  other_is =
      ap₂ (choose (even s.taken)) (ap (λ (m : Monitor). m.area1) h.laid.same)
      (ap (λ (m : Monitor). m.area0) h.laid.same)
      ∙ choose_twice (even s.taken) (fill n []) (fill n ss)

  pub standing_free : Free (even s.taken) a b
  unfolding Free Empty
  standing_free =
      other_is
      ∙ ap (λ (i : ℕ). fill i []) (sym (ap slot_count other_is ∙ slot_count_fill n [] tt (omega arith)))

-- ---- after an event
module _ (t : Table) (regular : Regular t) (e : ℕ) where
  fresh_standing : (n : ℕ) (m' : Monitor) → take_fresh t n e ≡ went m' → Standing t m'
  unfolding residual_count
  fresh_standing n m' h = by (ltb n (length (slots_of (residuals_of t [])))) refl
    where
      by : (x : Bool) → ltb n (length (slots_of (residuals_of t []))) ≡ x → Standing t m'
      by true q =
          let z = sym (fresh_crowded t n e q) ∙ h in
          absurd (let y : ◌≡◌ {A = ℕ} 0 1 = cc in omega arith)
      by false q =
          record {
            slots = n;
            laid = take_laid t regular n (fresh_monitor t n) m' e (fresh_laid t regular n (ltb-false n _ q))
                (sym (fresh_room t n e q) ∙ h);
          }

  pub on_standing : (due : Bool) (x : TimedState) (a b : List ℕ) (m' : Monitor)
      → take_on t due (timed_state_of x) a b e ≡ went m'
      → ((s : State) (last : ℕ) → x ≡ Started s last → due ≡ false → Standing t (monitor_of s a b)) → Standing t m'
  unfolding take_on
  on_standing due NotStarted a b m' h f = fresh_standing (slot_count a) m' h
  on_standing true (Started s last) a b m' h f = fresh_standing (slot_count a) m' h
  on_standing false (Started s last) a b m' h f =
      let g = f s last refl refl in
      record {
        slots = g.slots;
        laid = take_laid t regular g.slots (monitor_of s a b) m' e g.laid h;
      }
