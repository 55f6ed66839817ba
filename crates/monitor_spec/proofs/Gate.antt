-- What stands before a call's events or Offer's word: 1 for lent lengths, 2 to 9 for the table, 10 for the monitor, or
-- none of them.
--     entrance_1, entrance_table, entrance_10, entrance_open  what an operation enters by
--     Gate, gate        one of the four
--     refused_exactly   an operation that refuses at the first three refuses exactly so
-- Assumes nothing.
use Prim.Native.Nat.{ℕ}
use mathlib.Core.Path.{◌≡◌, refl, sym, ◌∙◌}
use mathlib.Core.Bool.{Bool, true, false}
use mathlib.Core.List.{List}
use mathlib.Core.Logic.{◌↔◌}
use lib.ListN.{length}
use Rattle.table.specs.Table.{Table}
use Rattle.table.specs.Judge.{Judgement, accepted, declined, judge_list}
use Rattle.table.specs.Operations.{zeros}
use Rattle.table.proofs.Refusals.AtNumbers.{refused_in, refused_out}
use Rattle.monitor_spec.specs.State.{Monitor}
use Rattle.monitor_spec.specs.Consistent.{consistent}
use Rattle.monitor_spec.specs.Entering.{shut, admits, entrance, entrance_on}
use Rattle.monitor_spec.proofs.Entering.Laws.{entrance_unmeasured, entrance_declined, entrance_accepted}
use Rattle.monitor_spec.proofs.Entering.Laws.{on_shut, on_inconsistent, on_consistent}
use Rattle.monitor_spec.specs.Refusals.{CallRefused, wrong_length, bad_table, inconsistent}
use Rattle.monitor_spec.proofs.Refusals.Laws.{lent, measured_in, measured_out, unmeasured_in, unmeasured_out}
use Rattle.monitor_spec.proofs.Refusals.Laws.{clash, is_table_in, is_table_out, Lent, Held, held_in, held_out}
use Rattle.monitor_spec.proofs.Refusals.Laws.{unheld_in}

module _ (l : List ℕ) (m : Monitor) (w : List ℕ) where
  -- ---- what an operation enters by

  pub entrance_1 : (Lent l m w → ⊥) → entrance_on l m w ≡ shut 1 0 w
  entrance_1 x =
      on_shut l m w 1 0 w (entrance_unmeasured _ l w (unmeasured_in m.area0 m.area1 w x))

  pub entrance_table : Lent l m w → (n p : ℕ) → judge_list l ≡ declined n p
      → entrance_on l m w ≡ shut n p (zeros (length w))
  entrance_table x n p d =
      on_shut l m w n p (zeros (length w)) (entrance_declined _ l w n p (measured_in m.area0 m.area1 w x) d)

  accepts_in : Lent l m w → (ns : List ℕ) (t : Table) → judge_list l ≡ accepted ns t
      → entrance (lent m.area0 m.area1 w) l w ≡ admits t
  accepts_in x ns t d = entrance_accepted _ l w ns t (measured_in m.area0 m.area1 w x) d

  pub entrance_10 : Lent l m w → (ns : List ℕ) (t : Table) → judge_list l ≡ accepted ns t → (Held l m w t → ⊥)
      → entrance_on l m w ≡ shut 10 0 (zeros (length w))
  entrance_10 x ns t d h = on_inconsistent l m w t (accepts_in x ns t d) (unheld_in l m w x ns t d h)

  pub entrance_open : Lent l m w → (ns : List ℕ) (t : Table) → judge_list l ≡ accepted ns t → Held l m w t
      → entrance_on l m w ≡ admits t
  entrance_open x ns t d h = on_consistent l m w t (accepts_in x ns t d) (held_in l m w ns t d h)

  pub data Gate : Type 0 where
    shut_1 : (Lent l m w → ⊥) → Gate
    shut_table : Lent l m w → (n p : ℕ) → judge_list l ≡ declined n p → Gate
    shut_10 : Lent l m w → (ns : List ℕ) (t : Table) → judge_list l ≡ accepted ns t → (Held l m w t → ⊥) → Gate
    clear : Lent l m w → (ns : List ℕ) (t : Table) → judge_list l ≡ accepted ns t → Held l m w t → Gate

  pub gate : Gate
  gate = by (lent m.area0 m.area1 w) refl (judge_list l) refl
    where
      last : Lent l m w → (ns : List ℕ) (t : Table) → judge_list l ≡ accepted ns t → (c : Bool) → consistent t m ≡ c
          → Gate
      last x ns t j true c = clear x ns t j (held_out l m w x ns t j c)
      last x ns t j false c = shut_10 x ns t j (λ h. clash (held_in l m w ns t j h) c)

      by : (b : Bool) → lent m.area0 m.area1 w ≡ b → (j : Judgement) → judge_list l ≡ j → Gate
      by false e j d = shut_1 (unmeasured_out m.area0 m.area1 w e)
      by true e (declined n p) d = shut_table (measured_out m.area0 m.area1 w e) n p d
      by true e (accepted ns t) d = last (measured_out m.area0 m.area1 w e) ns t d (consistent t m) refl

  -- an answer o, where `no` is the form of a refusal
  module _ {X : Type 0} (no : ℕ → ℕ → X) (same : (n p k q : ℕ) → no n p ≡ no k q → (n ≡ k) × (p ≡ q)) (o : X)
      (on_1 : (Lent l m w → ⊥) → o ≡ no 1 0)
      (on_table : Lent l m w → (n p : ℕ) → judge_list l ≡ declined n p → o ≡ no n p)
      (on_10 : Lent l m w → (ns : List ℕ) (t : Table) → judge_list l ≡ accepted ns t → (Held l m w t → ⊥) → o ≡ no 10 0)
      (on_open : Lent l m w → (ns : List ℕ) (t : Table) → judge_list l ≡ accepted ns t → Held l m w t
      → (n p : ℕ) → o ≡ no n p → ⊥) where
    refused_to : (n p : ℕ) → o ≡ no n p → Gate → CallRefused l m w n p
    refused_to n p e (shut_1 x) = let (i, j) = same n p 1 0 (sym e ∙ on_1 x) in wrong_length x i j
    refused_to n p e (shut_table x k q d) =
        let (i, j) = same n p k q (sym e ∙ on_table x k q d) in
        bad_table x (rw (i, j) (refused_out l k q d))
    refused_to n p e (shut_10 x ns t d h) =
        let (i, j) = same n p 10 0 (sym e ∙ on_10 x ns t d h) in
        inconsistent x t (is_table_out l ns t d) h i j
    refused_to n p e (clear x ns t d h) = absurd (on_open x ns t d h n p e)

    refused_from : (n p : ℕ) → CallRefused l m w n p → o ≡ no n p
    refused_from n p (wrong_length x i j) = rw (i, j) (on_1 x)
    refused_from n p (bad_table x r) = on_table x n p (refused_in l n p r)
    refused_from n p (inconsistent x t i h j k) = rw (j, k) (on_10 x l t (is_table_in l t i) h)

    pub refused_exactly : (n p : ℕ) → (o ≡ no n p) ↔ CallRefused l m w n p
    refused_exactly n p = (λ e. refused_to n p e gate, refused_from n p)
