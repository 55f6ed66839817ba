-- Open on every input: its refusals without a record, and what stands in the lent buffers, case by case. What its list
-- comes to is in `Runs.antt`, the empty list in `Settled.antt`.
--     open_refused                          refusals without a record, exactly
--     opens                                 an answer with a record
--     open_work, open_keeps, open_zeroes    what stands in the lent buffers
-- Assumes nothing.
use Prim.Native.Nat.{ℕ, ◌-◌, ◌*◌, ◌/◌, ◌≤◌}
use native.Mathlib.Omega.{arith}
use mathlib.Core.Path.{◌≡◌, ap, sym, ◌∙◌}
use mathlib.Core.Bool.{true}
use mathlib.Core.List.{List, [], flatten}
use mathlib.Core.Logic.{◌↔◌}
use lib.ListN.{length}
use Rattle.table.specs.Table.{Table}
use Rattle.table.specs.Judge.{accepted, judge_list}
use Rattle.table.specs.Operations.{zeros}
use Rattle.table.specs.Refusals.{Refused, too_long, truncated_list, out_of_range, trailing_input, bad_reference}
use Rattle.table.specs.Refusals.{too_wide, too_many_branches}
use Rattle.table.proofs.Refusals.AtNumbers.{refused_in, refused_out}
use Rattle.monitor_spec.specs.State.{refused, Outcome, slot_count, fill}
use Rattle.monitor_spec.specs.Entering.{refusing}
use Rattle.monitor_spec.specs.Feed.{ending_of}
use Rattle.monitor_spec.specs.Open.{open_of}
use Rattle.monitor_spec.proofs.Open.Laws.{OpenCase, unmeasured, declines, exceeds, runs, open_case}
use Rattle.monitor_spec.proofs.Open.Laws.{open_unmeasured, open_declined, exceeded_of, open_exceeded, open_runs}
use Rattle.monitor_spec.specs.Joined.{residual_count}
use Rattle.monitor_spec.specs.Refusals.{Measured, OpenRefused, wrong_length, bad_table, exceeded, WorkLeft}
use Rattle.monitor_spec.proofs.Forms.{refused_same}
use Rattle.monitor_spec.proofs.Refusals.Laws.{lent, measured_out, measured_in, unmeasured_in, unmeasured_out}
use Rattle.monitor_spec.proofs.Refusals.Laws.{is_table_in, is_table_out}
use Rattle.monitor_spec.proofs.Endings.{ending_refused}

-- the table layer's refusals are 2 to 9
pub refused_low : (l : List ℕ) (n p : ℕ) → Refused l n p → n ≤ 9
refused_low l n p (too_long e x) = omega arith
refused_low l n p (truncated_list e x) = omega arith
refused_low l n p (out_of_range e x) = omega arith
refused_low l n p (trailing_input e x) = omega arith
refused_low l n p (bad_reference e x) = omega arith
refused_low l n p (too_wide e x) = omega arith
refused_low l n p (too_many_branches e x) = omega arith

module _ (l a b es w : List ℕ) where
  abbrev out : Outcome
  out = open_of l a b es w

  abbrev n : ℕ
  n = slot_count a

  says_shut : (k p : ℕ) (v : List ℕ) → out ≡ refusing a b k p v → out.answer ≡ refused k p
  unfolding refusing
  says_shut k p v e = ap (λ (z : Outcome). z.answer) e

  says_13 : out ≡ exceeded_of n (length w) → out.answer ≡ refused 13 0
  unfolding exceeded_of
  says_13 e = ap (λ (z : Outcome). z.answer) e

  -- ---- refusals without a record, exactly

  refused_to : (k p : ℕ) → out.answer ≡ refused k p → OpenCase l a b es w → OpenRefused l a b w k p
  refused_to k p e (unmeasured x) =
      let (i, j) = refused_same k p 1 0 (sym e ∙ says_shut 1 0 w (open_unmeasured l a b es w x)) in
      wrong_length (unmeasured_out a b w x) i j
  refused_to k p e (declines x m q d) =
      let (i, j) = refused_same k p m q (sym e ∙ says_shut m q _ (open_declined l a b es w x m q d)) in
      bad_table (measured_out a b w x) (rw (i, j) (refused_out l m q d))
  refused_to k p e (exceeds x ns t d h) =
      let (i, j) = refused_same k p 13 0 (sym e ∙ says_13 (open_exceeded l a b es w x ns t d h)) in
      exceeded (measured_out a b w x) t (is_table_out l ns t d) h i j
  refused_to k p e (runs x ns t d h) =
      ending_refused (length w) _ k p
      (sym (ap (λ (z : Outcome). z.answer) (open_runs l a b es w x ns t d h)) ∙ e)

  refused_from : (k p : ℕ) → OpenRefused l a b w k p → out.answer ≡ refused k p
  refused_from k p (wrong_length x i j) =
      rw (i, j) (says_shut 1 0 w (open_unmeasured l a b es w (unmeasured_in a b w x)))
  refused_from k p (bad_table x r) =
      says_shut k p _ (open_declined l a b es w (measured_in a b w x) k p (refused_in l k p r))
  refused_from k p (exceeded x t i h j q) =
      rw (j, q) (says_13 (open_exceeded l a b es w (measured_in a b w x) l t (is_table_in l t i) h))

  pub open_refused : (k p : ℕ) → (out.answer ≡ refused k p) ↔ OpenRefused l a b w k p
  open_refused k p = (λ e. refused_to k p e (open_case l a b es w), refused_from k p)

  -- an answer with a record
  pub opens : {X : Type 0} → ((k p : ℕ) → out.answer ≡ refused k p → ⊥)
      → (lent a b w ≡ true → (ns : List ℕ) (t : Table) → judge_list l ≡ accepted ns t → residual_count t [] ≤ n → X) → X
  opens {X} f g = by (open_case l a b es w)
    where
      by : OpenCase l a b es w → X
      by (unmeasured x) = absurd (f 1 0 (says_shut 1 0 w (open_unmeasured l a b es w x)))
      by (declines x k p d) = absurd (f k p (says_shut k p _ (open_declined l a b es w x k p d)))
      by (exceeds x ns t d h) = absurd (f 13 0 (says_13 (open_exceeded l a b es w x ns t d h)))
      by (runs x ns t d h) = g x ns t d h

  -- ---- what stands in the lent buffers

  pub open_work : WorkLeft a b w out.work
  unfolding refusing exceeded_of ending_of
  open_work =
      record {
        zeroed = λ x. by x (open_case l a b es w) ∙ ap zeros x.work;
        kept = λ x. ap (λ (z : Outcome). z.work) (open_unmeasured l a b es w (unmeasured_in a b w x));
      }
    where
      by : Measured a b w → OpenCase l a b es w → out.work ≡ zeros (length w)
      by x (unmeasured y) = absurd (unmeasured_out a b w y x)
      by x (declines y k p d) = ap (λ (z : Outcome). z.work) (open_declined l a b es w y k p d)
      by x (exceeds y ns t d h) = ap (λ (z : Outcome). z.work) (open_exceeded l a b es w y ns t d h)
      by x (runs y ns t d h) = ap (λ (z : Outcome). z.work) (open_runs l a b es w y ns t d h)

  pub open_keeps : (k p : ℕ) → out.answer ≡ refused k p → k ≤ 10 → (out.area0 ≡ a) × (out.area1 ≡ b)
  unfolding refusing
  open_keeps k p e i = by ((open_refused k p).0 e)
    where
      kept : (j q : ℕ) (v : List ℕ) → out ≡ refusing a b j q v → (out.area0 ≡ a) × (out.area1 ≡ b)
      kept j q v f = (ap (λ (z : Outcome). z.area0) f, ap (λ (z : Outcome). z.area1) f)

      by : OpenRefused l a b w k p → (out.area0 ≡ a) × (out.area1 ≡ b)
      by (wrong_length x j q) = kept 1 0 w (open_unmeasured l a b es w (unmeasured_in a b w x))
      by (bad_table x r) = kept k p _ (open_declined l a b es w (measured_in a b w x) k p (refused_in l k p r))
      by (exceeded x t d h j q) = absurd (omega arith)

  empty_area : Measured a b w → (fill n [] ≡ zeros (length a)) × (fill n [] ≡ zeros (length b))
  unfolding fill slot_count flatten
  empty_area x =
      let m = x.multiple in
      let i : (length a / 16 - 0) * 16 ≡ length a = omega arith in
      (ap zeros i, ap zeros (i ∙ x.equal))

  pub open_zeroes : (p : ℕ) → out.answer ≡ refused 13 p
      → (out.area0 ≡ zeros (length a)) × (out.area1 ≡ zeros (length b))
  unfolding exceeded_of
  open_zeroes p e = by ((open_refused 13 p).0 e)
    where
      by : OpenRefused l a b w 13 p → (out.area0 ≡ zeros (length a)) × (out.area1 ≡ zeros (length b))
      by (wrong_length x i j) = absurd (omega arith)
      by (bad_table x r) = absurd (let k = refused_low l 13 p r in omega arith)
      by (exceeded x t i h j q) =
          let o = open_exceeded l a b es w (measured_in a b w x) l t (is_table_in l t i) h in
          let (y, z) = empty_area x in
          (ap (λ (u : Outcome). u.area0) o ∙ y, ap (λ (u : Outcome). u.area1) o ∙ z)
