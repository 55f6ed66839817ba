-- The verdict that a list calls for is the one of the trace set: running exactly where it holds the list, failed
-- exactly at the length of the shortest beginning outside it. Assumes nothing.
use Rattle.std.specs.Prelude.{ℕ, zero, suc, ◌<◌, ◌≡◌, refl, List, [], ◌∷◌, ◌↔◌, take}
use native.Mathlib.Omega.{arith}
use Rattle.std.proofs.Math.Decide.{dec_lt}
use Rattle.std.proofs.Common.{ap, ◌∙◌}
use Rattle.std.proofs.Math.Path.{subst}
use Rattle.table.specs.Table.{Table}
use Rattle.meaning.specs.Figure1.{Term, body_count, last, WellFormed}
use Rattle.meaning.specs.Figure2.{TraceSet, Model}
use Rattle.monitor_spec.specs.Regular.{Regular}
use Rattle.residuals.specs.Residual.{Residual, resolve_def, after_all, run, from_definition, residuals_of}
use Rattle.monitor_spec.proofs.ResidualMeaning.Traces.{traces_last}
use Rattle.monitor_spec.specs.Meaning.{Some}
use Rattle.monitor_spec.specs.State.{Verdict, running, failed_at}
use Rattle.monitor_spec.specs.Expected.{verdict_after}
use Rattle.monitor_spec.proofs.Expected.Verdicts.{Says, verdict_after_says, run_none}
use Rattle.monitor_spec.specs.History.{start, ShortestOutside}

-- ---- a beginning of a trace is a trace

some_first : (t : Table) (s : List ℕ) (rs : List Residual) → Some (run t rs s) → Some rs
some_first t s [] h = rw (run_none t s) at h
some_first t s (r ∷ rs) h = tt

some_begins : (t : Table) (s : List ℕ) (p : ℕ) (rs : List Residual) → Some (run t rs s) → Some (run t rs (take p s))
unfolding run
some_begins t s zero rs h = some_first t s rs h
some_begins t [] (suc p) rs h = h
some_begins t (e ∷ s) (suc p) rs h = some_begins t s p (after_all t e rs) h

-- ---- the verdict and the traces

module _ (t : Table) (regular : Regular t) (H : Term → TraceSet) (model : Model t H) where
  pub held_some : (s : List ℕ) → H (start t) s ↔ Some (residuals_of t s)
  unfolding start
  held_some s = traces_last t regular H model s

  pub start_formed : WellFormed t (start t)
  unfolding start
  start_formed = let l = regular.some_definition in omega arith

  some_not_none : (rs : List Residual) → Some rs → rs ≡ [] → ⊥
  some_not_none [] h e = h
  some_not_none (r ∷ rs) h e = absurd (let z : ◌≡◌ {A = ℕ} 0 1 = cc in omega arith)

  abbrev pub Verdicts : List ℕ → Verdict → Type 0
  Verdicts s running = Some (residuals_of t s)
  Verdicts s (failed_at p) = (residuals_of t s ≡ []) × ShortestOutside (H (start t)) s p

  verdicts_by : (s : List ℕ) (v : Verdict) → Says t (resolve_def t (body_count t) (last t)) s 0 v → Verdicts s v
  unfolding residuals_of from_definition
  verdicts_by s running h = h
  verdicts_by s (failed_at p) (n, q, f) =
      let e : n ≡ p = omega arith in (
        f.at_end,
        subst (ShortestOutside (H (start t)) s) e (record {
          within = f.within;
          outside = λ h. some_not_none (residuals_of t (take n s)) ((held_some (take n s)).0 h) f.empty;
          inside = λ k l. (held_some (take k s)).1 (f.before k l);
        }),
      )

  pub verdicts : (s : List ℕ) → Verdicts s (verdict_after t s)
  verdicts s = verdicts_by s (verdict_after t s) (verdict_after_says t s)

  pub judged_running : (s : List ℕ) → (verdict_after t s ≡ running) ↔ H (start t) s
  judged_running s = (
    λ e. (held_some s).1 (subst (Verdicts s) e (verdicts s)),
    λ h. by (verdict_after t s) (verdicts s) ((held_some s).0 h),
  )
    where
      by : (v : Verdict) → Verdicts s v → Some (residuals_of t s) → v ≡ running
      by running x k = refl
      by (failed_at p) x k = absurd (some_not_none (residuals_of t s) k x.0)

  pub judged_failed : (s : List ℕ) → (H (start t) s → ⊥)
      → (p : ℕ) × (verdict_after t s ≡ failed_at p) × ShortestOutside (H (start t)) s p
  judged_failed s h = by (verdict_after t s) (verdicts s)
    where
      by : (v : Verdict) → Verdicts s v → (p : ℕ) × (v ≡ failed_at p) × ShortestOutside (H (start t)) s p
      by running x = absurd (h ((held_some s).1 x))
      by (failed_at p) x = (p, refl, x.1)

  -- ---- the shortest beginning outside is one

  closed : (s : List ℕ) (p : ℕ) → H (start t) s → H (start t) (take p s)
  unfolding residuals_of from_definition
  closed s p h = (held_some (take p s)).1 (some_begins t s p (resolve_def t (body_count t) (last t)) ((held_some s).0 h))

  outside_not : (s : List ℕ) (p : ℕ) → ShortestOutside (H (start t)) s p → H (start t) s → ⊥
  outside_not s p o h = o.outside (closed s p h)

  shortest_one : (s : List ℕ) (p q : ℕ) → ShortestOutside (H (start t)) s p → ShortestOutside (H (start t)) s q
      → p ≡ q
  shortest_one s p q x y = by (dec_lt p q) (dec_lt q p)
    where
      by : Dec (p < q) → Dec (q < p) → p ≡ q
      by (yes l) d = absurd (x.outside (y.inside p l))
      by (no l) (yes g) = absurd (y.outside (x.inside q g))
      by (no l) (no g) = omega arith

  pub fails_exactly : (s : List ℕ) (p : ℕ) → (verdict_after t s ≡ failed_at p) ↔ ShortestOutside (H (start t)) s p
  fails_exactly s p = (
    λ e. (subst (Verdicts s) e (verdicts s)).1,
    λ o. let (q, e, x) = judged_failed s (outside_not s p o) in e ∙ ap failed_at (shortest_one s q p x o),
  )
