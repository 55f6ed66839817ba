-- View goes one of its ways: part_way. Assumes nothing.
use Rattle.std.specs.Prelude.{ℕ, ◌*◌, ◌%◌, ◌≡◌, Bool, List, length, ltb}
use Rattle.std.proofs.Common.{arith, sym, subst, ◌∙◌}
use Rattle.std.proofs.Math.Path.{refl}
use Rattle.std.proofs.Math.Bool.{true, false}
use Rattle.std.proofs.Math.Dec.{eqb}
use borrow.Author.Tests.{ltb-true, ltb-false, eqb-true, eqb-false}
use Rattle.monitor_spec.specs.State.{Verdict, running, failed_at, Monitor, choose}
use Rattle.monitor_spec.specs.View.{Part, view_part, words_in, view_of}
use Rattle.monitor_spec.proofs.View.Laws.{part_fits, part_over, part_0, part_1, part_failed, view_in}
use Rattle.monitor_spec.specs.Views.{PartWay, after_failure, in_area0, in_area1, exceeds_area0, exceeds_area1}

module _ (m : Monitor) where
  abbrev part : Part
  part = view_part m.state (length m.area0) (length m.area1)

  shown : (p : Part) (w : List ℕ) → part ≡ p → words_in p m.area0 m.area1 ≡ w → PartWay m p w
      → PartWay m part (view_of m)
  shown p w e f h =
      subst (λ (x : Part). PartWay m x (view_of m)) (sym e) (subst (PartWay m p) (sym (view_in m p e ∙ f)) h)

  even_way : m.state.verdict ≡ running → m.state.taken % 2 ≡ 0
      → (x : Bool) → ltb (length m.area0) (m.state.count * 16) ≡ x → PartWay m part (view_of m)
  unfolding words_in choose
  even_way v e true q =
      let h = ltb-true _ _ q in
      shown _ _ (part_0 m.state _ _ v e ∙ part_over _ _ _ h) refl (exceeds_area0 v e h)
  even_way v e false q =
      let h = ltb-false _ _ q in
      shown _ _ (part_0 m.state _ _ v e ∙ part_fits _ _ _ h) refl (in_area0 v e h)

  odd_way : m.state.verdict ≡ running → m.state.taken % 2 ≡ 1
      → (x : Bool) → ltb (length m.area1) (m.state.count * 16) ≡ x → PartWay m part (view_of m)
  unfolding words_in choose
  odd_way v e true q =
      let h = ltb-true _ _ q in
      shown _ _ (part_1 m.state _ _ v e ∙ part_over _ _ _ h) refl (exceeds_area1 v e h)
  odd_way v e false q =
      let h = ltb-false _ _ q in
      shown _ _ (part_1 m.state _ _ v e ∙ part_fits _ _ _ h) refl (in_area1 v e h)

  pub part_way : PartWay m part (view_of m)
  unfolding words_in choose
  part_way = by m.state.verdict refl (eqb (m.state.taken % 2) 0) refl
    where
      by : (v : Verdict) → m.state.verdict ≡ v → (x : Bool) → eqb (m.state.taken % 2) 0 ≡ x
          → PartWay m part (view_of m)
      by (failed_at p) v x q = shown _ _ (part_failed m.state _ _ p v) refl (after_failure p v)
      by running v true q =
          even_way v (eqb-true _ _ q) (ltb (length m.area0) (m.state.count * 16)) refl
      by running v false q =
          let e = eqb-false (m.state.taken % 2) 0 q in
          odd_way v (omega arith) (ltb (length m.area1) (m.state.count * 16)) refl
