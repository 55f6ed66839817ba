-- Whether a record and its areas agree, case by case. Assumes nothing.
use Prim.Native.Nat.{ℕ, ◌*◌, ◌/◌, ◌%◌, ◌≤◌, ◌<◌}
use native.Mathlib.Omega.{arith}
use native.Mathlib.Decide.{dec_lt}
use mathlib.Core.Path.{◌≡◌, ap, ap₂, sym, ◌∙◌}
use mathlib.Core.Bool.{Bool, true, false, not, ◌&&◌}
use mathlib.Core.List.{List}
use lib.ListN.{length, drop}
use lib.Dec.{eqb, ltb, leb}
use borrow.Author.Tests.{lt-ltb, le-ltb, le-leb, lt-leb}
use Rattle.table.specs.Table.{Table}
use Rattle.state.specs.declared.record.State.{State}
use Rattle.state.specs.declared.record.Verdict.{Verdict as VerdictCode}
use Rattle.state.specs.declared.record.Verdict.TheVariants.{Running, Failed}
use Rattle.monitor_spec.specs.State.{Verdict, slot_count, even, choose, chunks}
use Rattle.monitor_spec.proofs.State.Areas.{present_even, present_odd}
use Rattle.monitor_spec.specs.Valid.{valid_slot}
use Rattle.monitor_spec.specs.Consistent.{every, ascends, all_zero, verdict_fits, peak_fits, record_fits, area_fits}
use Rattle.monitor_spec.specs.Consistent.{consistent}
use Rattle.state.specs.Record.{verdict_of, state_of, monitor_of}

not_above : (c n : ℕ) → leb c n ≡ not (ltb n c)
not_above c n = by (dec_lt n c)
  where
    by : Dec (n < c) → leb c n ≡ not (ltb n c)
    by (yes h) = lt-leb c n h ∙ ap not (sym (lt-ltb n c h))
    by (no h) =
        let k : c ≤ n = omega arith in
        le-leb c n k ∙ ap not (sym (le-ltb n c k))

-- ---- the verdict

module _ (v : VerdictCode) (k c n : ℕ) where
  abbrev fits : Verdict → Bool
  fits x = verdict_fits x k c n

  pub running_none : v ≡ Running → c ≡ 0 → false ≡ fits (verdict_of v)
  unfolding verdict_fits
  running_none e h =
      let z : c ≤ 0 = omega arith in
      sym (ap (λ x. fits (verdict_of x)) e ∙ ap (◌&& not (ltb n c)) (le-ltb 0 c z))

  pub running_some : v ≡ Running → (c ≡ 0 → ⊥) → leb c n ≡ fits (verdict_of v)
  unfolding verdict_fits
  running_some e h =
      let z : 0 < c = omega arith in
      not_above c n ∙ sym (ap (λ x. fits (verdict_of x)) e ∙ ap (◌&& not (ltb n c)) (lt-ltb 0 c z))

  pub failed_later : (p : ℕ) → v ≡ Failed p → k < p → false ≡ fits (verdict_of v)
  unfolding verdict_fits
  failed_later p e h =
      sym (ap (λ x. fits (verdict_of x)) e ∙ ap (λ (b : Bool). not b && eqb c 0) (lt-ltb k p h))

  pub failed_here : (p : ℕ) → v ≡ Failed p → p ≤ k → eqb c 0 ≡ fits (verdict_of v)
  unfolding verdict_fits
  failed_here p e h =
      sym (ap (λ x. fits (verdict_of x)) e ∙ ap (λ (b : Bool). not b && eqb c 0) (le-ltb k p h))

-- ---- the record

module _ (s : State) (n : ℕ) where
  abbrev agrees : Bool
  agrees = verdict_fits (verdict_of s.verdict) s.taken s.count n

  pub verdict_unfit : agrees ≡ false → false ≡ record_fits (state_of s) n
  unfolding record_fits
  verdict_unfit h = rw h

  pub peak_below : agrees ≡ true → s.peak < s.count → false ≡ record_fits (state_of s) n
  unfolding record_fits peak_fits
  peak_below h k = rw (h, lt-ltb s.peak s.count k)

  pub peak_within : agrees ≡ true → s.count ≤ s.peak
      → leb s.peak n ≡ record_fits (state_of s) n
  unfolding record_fits peak_fits
  peak_within h k = rw (h, le-ltb s.peak s.count k) (not_above s.peak n)

-- ---- an area

module _ (t : Table) (n : ℕ) (a : List ℕ) where
  pub slots_unfit : every (valid_slot t) (chunks n a) ≡ false → false ≡ area_fits t n a
  unfolding area_fits
  slots_unfit h = rw h

  pub slots_mixed : every (valid_slot t) (chunks n a) ≡ true → ascends (chunks n a) ≡ false → false ≡ area_fits t n a
  unfolding area_fits
  slots_mixed h k = rw (h, k)

  pub rest_zero : (r : Bool) → every (valid_slot t) (chunks n a) ≡ true → ascends (chunks n a) ≡ true
      → r ≡ all_zero (drop (n * 16) a) → r ≡ area_fits t n a
  unfolding area_fits
  rest_zero r h k e = rw (h, k) e

  pub area_unfit : (o : List ℕ) → area_fits t n a ≡ false → false ≡ (area_fits t n a && all_zero o)
  area_unfit o h = rw h

  pub other_zero : (o : List ℕ) (r : Bool) → area_fits t n a ≡ true → r ≡ all_zero o
      → r ≡ (area_fits t n a && all_zero o)
  other_zero o r h e = rw h e

-- ---- record and areas

module _ (t : Table) (s : State) (a b : List ℕ) where
  pub record_unfit : record_fits (state_of s) (length a / 16) ≡ false → false ≡ consistent t (monitor_of s a b)
  unfolding consistent slot_count
  record_unfit h = rw h

  by_areas : (p o : List ℕ) → record_fits (state_of s) (length a / 16) ≡ true → choose (even s.taken) a b ≡ p
      → choose (even s.taken) b a ≡ o → (area_fits t s.count p && all_zero o) ≡ consistent t (monitor_of s a b)
  unfolding consistent slot_count
  by_areas p o h e f =
      ap₂ (λ (x y : List ℕ). area_fits t s.count x && all_zero y) (sym e) (sym f)
      ∙ ap (◌&& (area_fits t s.count (choose (even s.taken) a b) && all_zero (choose (even s.taken) b a)))
      (sym h)

  pub areas_even : (r : Bool) → record_fits (state_of s) (length a / 16) ≡ true → s.taken % 2 ≡ 0
      → r ≡ (area_fits t s.count a && all_zero b) → r ≡ consistent t (monitor_of s a b)
  areas_even r h e q = q ∙ by_areas a b h (present_even s.taken a b e) (present_even s.taken b a e)

  pub areas_odd : (r : Bool) → record_fits (state_of s) (length a / 16) ≡ true → (s.taken % 2 ≡ 0 → ⊥)
      → r ≡ (area_fits t s.count b && all_zero a) → r ≡ consistent t (monitor_of s a b)
  areas_odd r h e q = q ∙ by_areas b a h (present_odd s.taken a b e) (present_odd s.taken b a e)
