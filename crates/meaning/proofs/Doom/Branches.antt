-- A closed term of the table is doomed exactly where it has no branches (01, "Openings": "FAIL 0"): both go through
-- choice, parallel and call alike.
--     doomed_branches    of the closed term of a table term
-- Assumes nothing.
use Prim.Native.Nat.{ℕ, zero, suc, ◌*◌, ◌<◌, ◌≤◌}
use native.Mathlib.Omega.{arith}
use Rattle.std.proofs.Common.{suc-mul, inl, inr, sym, ◌∙◌, subst}
use Rattle.std.proofs.Math.Nat.{zero-mul, mul-zero}
use Rattle.std.specs.Prelude.{◌↔◌, ◌⊎◌, ◌≡◌}
use Rattle.std.proofs.Math.Logic.{⊎_elim}
use Rattle.std.proofs.Math.Path.{refl, ap}
use Rattle.table.specs.Table
use Rattle.table.specs.Table.{Table, body_of}
use Rattle.table.specs.Memory.{Memory, no_memory}
use Rattle.table.specs.Branches.{branches_with, body_in, branches}
use Rattle.table.proofs.Rules.Laws.{no_wrong}
use Rattle.table.proofs.Equations.{branches_call}
use Rattle.table.specs.Rules.{Rules}
use Rattle.meaning.specs.Figure1.{SetRef, Term, choice, par, call, plain, body, body_count, Guarded, WellFormed}
use Rattle.meaning.specs.Figure3.{Doomed, d_fail, d_choice, d_left, d_right, d_call}
use Rattle.meaning.proofs.Figure3.Laws.{call_doomed}
use Rattle.meaning.specs.Closing.{close}
use Rattle.meaning.proofs.Closing.Laws.{close_plain}
use Rattle.meaning.proofs.Formed.{rules_guarded, rules_scoped}

product_zero : (a b : ℕ) → a * b ≡ 0 → (a ≡ 0) ⊎ (b ≡ 0)
product_zero zero b h = inl refl
product_zero (suc a) b h = inr (omega (arith, suc-mul a b))

module _ (t : Table) where
  -- ---- Doomed taken apart

  choice_doomed : {P Q : Term} → Doomed t (choice P Q) → Doomed t P × Doomed t Q
  choice_doomed (d_choice p q) = (p, q)

  par_doomed : {S : SetRef} {P Q : Term} → Doomed t (par S P Q) → Doomed t P ⊎ Doomed t Q
  par_doomed (d_left p) = inl p
  par_doomed (d_right q) = inr q

  -- ---- of a term, from the same of the definitions that it calls with no prefix around

  abbrev Barren : Table.Term → Term → Type 0
  Barren p P = Doomed t P ↔ (branches t p ≡ 0)

  module _ (n d : ℕ) (below : (e : ℕ) → e < d → Barren (Table.call e) (call e)) where
    term_barren : (p : Table.Term) → Guarded n d (plain p) → (c : ℕ) (m : Memory) → Barren p (close c m p)
    unfolding close plain branches branches_with
    term_barren Table.stop g c m = (λ h. elim h [ ], λ h. absurd (omega arith))
    term_barren Table.fail g c m = (λ h. refl, λ h. d_fail)
    term_barren (Table.prefix r p) g c m = (λ h. elim h [ ], λ h. absurd (omega arith))
    term_barren (Table.choice p q) g c m =
        let a = term_barren p g.0 c m in
        let b = term_barren q g.1 c m in (
          λ h. let x = choice_doomed h in let y = a.0 x.0 in let z = b.0 x.1 in omega arith,
          λ h. d_choice (a.1 (omega arith)) (b.1 (omega arith)),
        )
    term_barren (Table.par r p q) g c m =
        let a = term_barren p g.0 c m in
        let b = term_barren q g.1 c m in (
          λ h. ⊎_elim
              (λ x. ap (λ (k : ℕ). k * branches t q) (a.0 x) ∙ zero-mul (branches t q))
              (λ y. ap (λ (k : ℕ). branches t p * k) (b.0 y) ∙ mul-zero (branches t p))
              (par_doomed h),
          λ h. ⊎_elim (λ x. d_left (a.1 x)) (λ y. d_right (b.1 y)) (product_zero (branches t p) (branches t q) h),
        )
    term_barren (Table.call e) g c m = below e g

  -- ---- of a table that keeps the rules

  module _ (rules : Rules t) where
    call_barren : (d : ℕ) → d ≤ body_count t → (e : ℕ) → e < d → Barren (Table.call e) (call e)
    unfolding body_count body body_of body_in
    call_barren zero b e h = absurd (omega arith)
    call_barren (suc d) b e h =
        let l : e < body_count t = omega arith in
        let g = (rules_guarded t rules).bodies e l in
        let p = body_of t e in
        let x = term_barren (body_count t) e (λ e' k. call_barren d (omega arith) e' (omega arith)) p g 0 no_memory in
        let y : close 0 no_memory p ≡ body t e = close_plain 0 no_memory p (rules_scoped t rules e l) in
        let z = branches_call t (no_wrong t rules) e l in (
          λ k. z ∙ x.0 (subst (λ (P : Term). Doomed t P) (sym y) (call_doomed t k)),
          λ k. d_call (subst (λ (P : Term). Doomed t P) y (x.1 (sym z ∙ k))),
        )

    pub doomed_branches : (m : Memory) (p : Table.Term) → WellFormed t (plain p)
        → Doomed t (close 0 m p) ↔ (branches t p ≡ 0)
    doomed_branches m p g = term_barren (body_count t) (body_count t) (call_barren (body_count t) (omega arith)) p g 0 m
