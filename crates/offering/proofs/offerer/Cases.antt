-- The bits that Offer gives on a consistent monitor, case by case. Assumes nothing.
use Prim.Native.Nat.{ℕ, ◌%◌}
use mathlib.Core.Path.{◌≡◌, ap, sym, subst, ◌∙◌}
use mathlib.Core.Bool.{true}
use mathlib.Core.List.{List}
use Rattle.table.specs.Table.{Table}
use Rattle.table.specs.Rules.{Rules}
use Rattle.state.specs.declared.answer.EventBits.{EventBits}
use Rattle.state.specs.declared.record.State.{State}
use Rattle.state.specs.declared.record.Verdict.{Verdict}
use Rattle.state.specs.declared.record.Verdict.TheVariants.{Running, Failed}
use Rattle.monitor_spec.specs.State.{areas_measured, even, choose}
use Rattle.monitor_spec.proofs.State.Areas.{present_even, present_odd}
use Rattle.monitor_spec.specs.Consistent.{consistent}
use Rattle.monitor_spec.specs.Feed.{present_slots}
use Rattle.monitor_spec.specs.Offer.{all_bits, offer_bits}
use Rattle.state.specs.Record.{verdict_of, monitor_of}
use Rattle.state.specs.Answers.{bits_of}
use Rattle.monitor_spec.specs.Holds.{AreaHolds, held_in}
use Rattle.step_laws.specs.HeldAreas.{present_holds}

module _ (t : Table) (s : State) (a b : List ℕ) where
  abbrev Bits : EventBits → Type 0
  Bits x = bits_of x ≡ offer_bits t (monitor_of s a b) (verdict_of s.verdict)

  pub bits_failed : (p : ℕ) → s.verdict ≡ Failed p → Bits (record { first = 0; second = 0 })
  unfolding offer_bits
  bits_failed p e = sym (ap (λ (v : Verdict). offer_bits t (monitor_of s a b) (verdict_of v)) e)

  by_area : (x : EventBits) (p : List ℕ) → s.verdict ≡ Running → choose (even s.taken) a b ≡ p
      → bits_of x ≡ all_bits t (held_in t p s.count) → Bits x
  unfolding offer_bits present_slots held_in
  by_area x p v e q =
      q ∙ ap (λ (y : List ℕ). all_bits t (held_in t y s.count)) (sym e)
      ∙ sym (ap (λ (v : Verdict). offer_bits t (monitor_of s a b) (verdict_of v)) v)

  pub bits_even : (x : EventBits) → s.verdict ≡ Running → s.taken % 2 ≡ 0
      → bits_of x ≡ all_bits t (held_in t a s.count) → Bits x
  bits_even x v e q = by_area x a v (present_even s.taken a b e) q

  pub bits_odd : (x : EventBits) → s.verdict ≡ Running → (s.taken % 2 ≡ 0 → ⊥)
      → bits_of x ≡ all_bits t (held_in t b s.count) → Bits x
  bits_odd x v e q = by_area x b v (present_odd s.taken a b e) q

-- the area that holds the residuals
module _ (t : Table) (rules : Rules t) (s : State) (a b : List ℕ) (m : areas_measured a b ≡ true)
    (agrees : consistent t (monitor_of s a b) ≡ true) where
  present : AreaHolds t (choose (even s.taken) a b) s.count
  present = present_holds t rules (monitor_of s a b) m agrees

  pub even_holds : s.taken % 2 ≡ 0 → AreaHolds t a s.count
  even_holds e = subst (λ (x : List ℕ). AreaHolds t x s.count) (present_even s.taken a b e) present

  pub odd_holds : (s.taken % 2 ≡ 0 → ⊥) → AreaHolds t b s.count
  odd_holds e = subst (λ (x : List ℕ). AreaHolds t x s.count) (present_odd s.taken a b e) present
