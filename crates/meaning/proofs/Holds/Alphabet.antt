-- The traces of a table that keeps the rules are lists of its events (01, "Numbers and table": "events are 0 to A-1"),
-- and its steps emit no other, so Σ may be read as the alphabet or as all numbers.
--     member_below, holds_below, step_below    an event of a set, of a trace, of a step is below the alphabet size
-- Assumes nothing.
use Rattle.std.specs.Prelude.{ℕ, zero, suc, ◌<◌, Bool, ◌≡◌, get_or}
use Rattle.std.proofs.Math.Bool.{true, false}
use mathlib.Core.List.{List, [], ◌∷◌}
use Rattle.std.proofs.Math.Path.{refl, subst}
use Rattle.std.proofs.Common.{sym, eqb-true}
use Rattle.std.proofs.Math.Dec.{T, eqb}
use Rattle.numbers.specs.Every.{All}
use Rattle.table.specs.Table.{Table, SetDef, one, each}
use Rattle.table.specs.Fields.{EachRow, Fields}
use Rattle.table.specs.Member.{elem, row_in}
use Rattle.meaning.specs.Figure1.{var, ev, SetRef, fixed, family, Term, member}
use Rattle.meaning.specs.Figure3.{event, Step, prefix_step, choice_left, choice_right}
use Rattle.meaning.specs.Figure3.{par_left, par_right, par_both, call_step}
use Rattle.meaning.specs.Holds.{Merge, m_none, m_both, m_left, m_right}
use Rattle.meaning.specs.Holds.{Holds, h_stop, h_wait, h_prefix, h_left, h_right, h_par, h_call}

-- an element, or what stands for one beyond the end
all_get_d : {A : Type 0} (X : A → Type 0) (z : A) (l : List A) (i : ℕ) → X z → All X l → X (get_or l i z)
all_get_d X z [] i d h = d
all_get_d X z (x ∷ xs) zero d h = h.0
all_get_d X z (x ∷ xs) (suc i) d h = all_get_d X z xs i d h.1

module _ (A : ℕ) where
  abbrev Below : List ℕ → Type 0
  Below s = All (λ e. e < A) s

  elem_below : (e : ℕ) (l : List ℕ) → Below l → T (elem e l) → e < A
  unfolding elem
  elem_below e [] b h = absurd h
  elem_below e (x ∷ l) b h = by (eqb e x) refl (elem_below e l b.1) h
    where
      by : (v : Bool) → eqb e x ≡ v → (T (elem e l) → e < A) → T (elim v [ true ↦ true | false ↦ elem e l ]) → e < A
      by true q k i = subst (λ (y : ℕ). y < A) (sym (eqb-true e x q)) b.0
      by false q k i = k i

  row_below : (d : SetDef) (v : ℕ) → EachRow Below d → Below (row_in d v)
  unfolding row_in
  row_below (one r) v h = h
  row_below (each rs) v h = all_get_d Below [] rs v tt h

  merge_below : {E : ℕ → Bool} {r s u : List ℕ} → Merge E r s u → Below r → Below s → Below u
  merge_below m_none h k = tt
  merge_below (m_both i m) h k = (h.0, merge_below m h.1 k.1)
  merge_below (m_left i m) h k = (h.0, merge_below m h.1 k)
  merge_below (m_right i m) h k = (k.0, merge_below m h k.1)

module _ (t : Table) (fields : Fields t) where
  set_below : (n v e : ℕ) → T (elem e (row_in (get_or t.sets n (one [])) v)) → e < t.alphabet
  set_below n v e h =
      let d = get_or t.sets n (one []) in
      let r = all_get_d (EachRow (Below t.alphabet)) (one []) t.sets n tt fields.row_events in
      elem_below t.alphabet e (row_in d v) (row_below t.alphabet d v r) h

  pub member_below : (S : SetRef) (e : ℕ) → T (member t S e) → e < t.alphabet
  unfolding member
  member_below (fixed n) e h = set_below n 0 e h
  member_below (family n (ev v)) e h = set_below n v e h
  member_below (family n (var k)) e h = absurd h

  pub holds_below : {P : Term} {s : List ℕ} → Holds t P s → All (λ e. e < t.alphabet) s
  holds_below h_stop = tt
  holds_below h_wait = tt
  holds_below (h_prefix {E = E} {e = e} i h) = (member_below E e i, holds_below h)
  holds_below (h_left h) = holds_below h
  holds_below (h_right h) = holds_below h
  holds_below (h_par m h k) = merge_below t.alphabet m (holds_below h) (holds_below k)
  holds_below (h_call h) = holds_below h

  pub step_below : {P Q : Term} {e : ℕ} → Step t P (event e) Q → e < t.alphabet
  step_below (prefix_step {E = E} {e = e} i) = member_below E e i
  step_below (choice_left s) = step_below s
  step_below (choice_right s) = step_below s
  step_below (par_left s o v) = step_below s
  step_below (par_right s o v) = step_below s
  step_below (par_both v w s r i) = step_below s
  step_below (call_step s) = step_below s
