-- The outcomes of Try, by the further areas' lengths and by what stands before the events.
--     try_first, try_second      1, for the one and the other
--     try_declined, try_fed      refusals 1 to 10; the events
--     copy_stands, copy_ends     what `take_all` asks for, of the copy, and what it leaves
-- Assumes nothing.
use Rattle.std.specs.Prelude.{Err}
use Prim.Native.Nat.{ℕ}
use mathlib.Core.Path.{◌≡◌, ap, sym, ◌∙◌}
use mathlib.Core.Bool.{true}
use mathlib.Core.List.{List}
use lib.ListN.{length}
use borrow.Author.Tests.{eq-eqb, ne_eqb}
use Rattle.table.specs.Operations.{zeros}
use Rattle.table.specs.Table.{Table}
use Rattle.table_index.specs.Index.{table_in}
use Rattle.table.specs.declared.answer.Refusal.{Refusal}
use Rattle.std.specs.declared.result.Result.{Result}
use Rattle.std.specs.declared.result.Result.TheVariants.{Ok, Err}
use Rattle.monitor_spec.specs.State.{Monitor}
use Rattle.monitor_spec.specs.Entering.{entrance_on, refusing}
use Rattle.monitor_spec.specs.Try.{further_measured, try_of}
use Rattle.monitor_spec.proofs.Try.Laws.{try_unlike, try_shut, try_admits}
use Rattle.state.specs.declared.record.State.{State}
use Rattle.state.specs.Answers.{Answer}
use Rattle.state.specs.declared.answer.Declined.TheVariants.{Refused}
use Rattle.state.specs.Record.{monitor_of}
use Rattle.state.specs.Answers.{outcome}
use Rattle.entering.specs.Entered.{Entered}
use Rattle.entering.specs.Entered.Laws.{entered_shut, entered_open}
use Rattle.feeding.specs.Feeding.{Standing, EndedBy}

module _ (l : List ℕ) (s : State) (a b c d es work : List ℕ) where
  abbrev m : Monitor
  m = monitor_of s a b

  abbrev refusal_1 : Answer
  refusal_1 = Err (Refused (record { number = 1; place = 0 }))

  pub try_first : (length c ≡ length a → ⊥) → outcome refusal_1 c d work ≡ try_of l m c d es work
  unfolding refusing further_measured
  try_first h = sym (try_unlike l m c d es work (rw (ne_eqb (length c) (length a) h)))

  pub try_second : length c ≡ length a → (length d ≡ length b → ⊥)
      → outcome refusal_1 c d work ≡ try_of l m c d es work
  unfolding refusing further_measured
  try_second e h =
      sym (try_unlike l m c d es work (rw (eq-eqb (length c) (length a) e, ne_eqb (length d) (length b) h)))

  alike : length c ≡ length a → length d ≡ length b → further_measured m c d ≡ true
  unfolding further_measured
  alike e f = rw (eq-eqb (length c) (length a) e, eq-eqb (length d) (length b) f)

  module _ (j : Result Unit Refusal) (work₁ : List ℕ) (h : Entered (entrance_on l m work) l j work₁) (e : length c ≡ length a)
      (f : length d ≡ length b) where
    pub try_declined : (r : Refusal) → j ≡ Err r → outcome (Err (Refused r)) c d work₁ ≡ try_of l m c d es work
    unfolding refusing
    try_declined r q =
        sym (try_shut l m c d es work (alike e f) r.number r.place work₁
        (entered_shut (entrance_on l m work) l j work₁ h r q))

    pub try_fed : j ≡ Ok tt → (r : Answer) (c' d' work₂ : List ℕ) → EndedBy (table_in l) m es r c' d'
        → work₂ ≡ zeros (length work₁) → length work₁ ≡ length work
        → outcome r c' d' work₂ ≡ try_of l m c d es work
    unfolding EndedBy
    try_fed q r c' d' work₂ x z k =
        ap (outcome r c' d') (z ∙ ap zeros k) ∙ x (length work)
        ∙ sym (try_admits l m c d es work (alike e f) (table_in l)
        (entered_open (entrance_on l m work) l j work₁ h q).0)

-- ---- the run on the copy: c and d are the further areas once they are copies

module _ (t : Table) (s : State) (a b c d : List ℕ) (e : c ≡ a) (f : d ≡ b) where
  pub copy_stands : Standing t (monitor_of s a b) → Standing t (monitor_of s c d)
  copy_stands h = rw (e, f) h

  pub copy_ends : (es : List ℕ) (r : Answer) (c' d' : List ℕ) → EndedBy t (monitor_of s c d) es r c' d'
      → EndedBy t (monitor_of s a b) es r c' d'
  copy_ends es r c' d' h = rw (← e, ← f) h
