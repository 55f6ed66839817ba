-- Figure 3's rules taken apart: the steps of a term, by its form.
--     fail_stuck, stop_stuck, prefix_viable    FAIL and STOP have no step; a prefix is not doomed
--     prefix_steps                             the steps of a prefix
--     call_steps, call_dooms                   a call has the steps and the doom of its body
-- Assumes nothing.
use Rattle.std.specs.Prelude.{ℕ, ◌↔◌, ◌≡◌, refl}
use Rattle.std.proofs.Common.{sym, subst}
use Rattle.table.specs.Table.{Table}
use Rattle.meaning.specs.Figure1.{SetRef, Term, stop, fail, prefix, call, body, sub}
use Rattle.meaning.specs.Figure3.{Action, event, Doomed, d_call, Viable, In, Step, prefix_step, call_step}

module _ (t : Table) where
  pub fail_stuck : {a : Action} {Q : Term} → Step t fail a Q → ⊥
  fail_stuck s = elim s [ ]

  pub stop_stuck : {a : Action} {Q : Term} → Step t stop a Q → ⊥
  stop_stuck s = elim s [ ]

  pub prefix_viable : {E : SetRef} {P : Term} → Viable t (prefix E P)
  prefix_viable d = elim d [ ]

  -- ---- a prefix

  abbrev Taken : SetRef → Term → Action → Term → Type 0
  Taken E P a Q = (e : ℕ) × (a ≡ event e) × In t E e × (Q ≡ sub 0 e P)

  prefix_out : {E : SetRef} {P Q : Term} {a : Action} → Step t (prefix E P) a Q → Taken E P a Q
  prefix_out (prefix_step {e = e} i) = (e, refl, i, refl)

  prefix_in : (E : SetRef) (P Q : Term) (a : Action) → Taken E P a Q → Step t (prefix E P) a Q
  prefix_in E P Q a (e, p, i, q) =
      subst (λ (b : Action). Step t (prefix E P) b Q) (sym p)
      (subst (λ (R : Term). Step t (prefix E P) (event e) R) (sym q) (prefix_step i))

  pub prefix_steps : (E : SetRef) (P Q : Term) (a : Action)
      → Step t (prefix E P) a Q ↔ ((e : ℕ) × (a ≡ event e) × In t E e × (Q ≡ sub 0 e P))
  prefix_steps E P Q a = (prefix_out, prefix_in E P Q a)

  -- ---- a call

  call_out : {d : ℕ} {Q : Term} {a : Action} → Step t (call d) a Q → Step t (body t d) a Q
  call_out (call_step s) = s

  pub call_steps : (d : ℕ) (a : Action) (Q : Term) → Step t (call d) a Q ↔ Step t (body t d) a Q
  call_steps d a Q = (call_out, call_step)

  pub call_doomed : {d : ℕ} → Doomed t (call d) → Doomed t (body t d)
  call_doomed (d_call p) = p

  pub call_dooms : (d : ℕ) → Doomed t (call d) ↔ Doomed t (body t d)
  call_dooms d = (call_doomed, d_call)
