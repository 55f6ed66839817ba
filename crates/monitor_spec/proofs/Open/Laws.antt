-- Open, case by case.
--     open_shut, open_admits                          by what stands before it
--     OpenCase, open_case                             which of the four cases it is
--     open_unmeasured, open_declined, open_exceeded, open_runs      the whole outcome in each
--     empty_never                                     Open of an empty list gives no number with a record
-- Assumes nothing.
use Rattle.std.specs.Prelude.{ℕ, ◌≤◌, ◌<◌, ◌≡◌, refl, Bool, true, false, List, [], length, ltb}
use Rattle.std.proofs.Common.{arith, ap, sym, ◌∙◌, ltb-true, ltb-false, lt-ltb, le-ltb}
use Rattle.table.specs.Table.{Table}
use Rattle.table.specs.Judge.{Judgement, accepted, declined, judge_list}
use Rattle.table.specs.Operations.{zeros}
use Rattle.residuals.specs.Residual.{residuals_of}
use Rattle.residuals.specs.Slots.{slots_of}
use Rattle.monitor_spec.specs.State.{State, given, refused, stopped, Outcome, slot_count, fill}
use Rattle.monitor_spec.specs.Entering.{shut, admits, entrance, refusing}
use Rattle.monitor_spec.proofs.Entering.Laws.{entrance_unmeasured, entrance_declined, entrance_accepted}
use Rattle.monitor_spec.proofs.Entering.Laws.{entering_shut, entering_admits}
use Rattle.monitor_spec.proofs.Refusals.Laws.{lent}
use Rattle.monitor_spec.specs.Fold.{through}
use Rattle.monitor_spec.specs.Feed.{take_event, ending_of}
use Rattle.monitor_spec.specs.Joined.{residual_count}
use Rattle.monitor_spec.specs.Open.{fresh_monitor, open_accepted, open_of}

-- an accepted table whose settled residuals exceed the slots, with k work words
unfoldable pub exceeded_of : ℕ → ℕ → Outcome
exceeded_of n k = record { answer = refused 13 0; area0 = fill n []; area1 = fill n []; work = zeros k }

module _ (t : Table) (a es w : List ℕ) where
  pub accepted_exceeds : slot_count a < residual_count t [] → open_accepted t a es w ≡ exceeded_of (slot_count a) (length w)
  unfolding open_accepted residual_count exceeded_of
  accepted_exceeds h = rw (lt-ltb (slot_count a) (length (slots_of (residuals_of t []))) h, open_accepted)

  pub accepted_runs : residual_count t [] ≤ slot_count a
      → open_accepted t a es w ≡ ending_of (length w) (through (take_event t) (fresh_monitor t (slot_count a)) 0 es)
  unfolding open_accepted residual_count
  accepted_runs h = rw (le-ltb (slot_count a) (length (slots_of (residuals_of t []))) h, open_accepted)

-- a list is accepted as one table
pub accepted_same : (l ks ns : List ℕ) (s t : Table) → judge_list l ≡ accepted ks s → judge_list l ≡ accepted ns t
    → s ≡ t
accepted_same l ks ns s t d e = cc

module _ (l a b es w : List ℕ) where
  pub open_shut : (n p : ℕ) (v : List ℕ) → entrance (lent a b w) l w ≡ shut n p v
      → open_of l a b es w ≡ refusing a b n p v
  unfolding open_of
  open_shut n p v e = entering_shut _ _ _ n p v e

  pub open_admits : (t : Table) → entrance (lent a b w) l w ≡ admits t → open_of l a b es w ≡ open_accepted t a es w
  unfolding open_of
  open_admits t e = entering_admits _ _ _ t e

  -- ---- the whole outcome

  pub open_unmeasured : lent a b w ≡ false → open_of l a b es w ≡ refusing a b 1 0 w
  open_unmeasured e = open_shut 1 0 w (entrance_unmeasured _ l w e)

  pub open_declined : lent a b w ≡ true → (n p : ℕ) → judge_list l ≡ declined n p
      → open_of l a b es w ≡ refusing a b n p (zeros (length w))
  open_declined e n p d = open_shut n p (zeros (length w)) (entrance_declined _ l w n p e d)

  pub open_exceeded : lent a b w ≡ true → (ns : List ℕ) (t : Table) → judge_list l ≡ accepted ns t
      → slot_count a < residual_count t [] → open_of l a b es w ≡ exceeded_of (slot_count a) (length w)
  open_exceeded e ns t d h = open_admits t (entrance_accepted _ l w ns t e d) ∙ accepted_exceeds t a es w h

  pub open_runs : lent a b w ≡ true → (ns : List ℕ) (t : Table) → judge_list l ≡ accepted ns t
      → residual_count t [] ≤ slot_count a
      → open_of l a b es w ≡ ending_of (length w) (through (take_event t) (fresh_monitor t (slot_count a)) 0 es)
  open_runs e ns t d h = open_admits t (entrance_accepted _ l w ns t e d) ∙ accepted_runs t a es w h

  -- ---- one of the four

  pub data OpenCase : Type 0 where
    unmeasured : lent a b w ≡ false → OpenCase
    declines : lent a b w ≡ true → (n p : ℕ) → judge_list l ≡ declined n p → OpenCase
    exceeds : lent a b w ≡ true → (ns : List ℕ) (t : Table) → judge_list l ≡ accepted ns t
        → slot_count a < residual_count t [] → OpenCase
    runs : lent a b w ≡ true → (ns : List ℕ) (t : Table) → judge_list l ≡ accepted ns t
        → residual_count t [] ≤ slot_count a → OpenCase

  pub open_case : OpenCase
  open_case = by (lent a b w) refl (judge_list l) refl
    where
      room : lent a b w ≡ true → (ns : List ℕ) (t : Table) → judge_list l ≡ accepted ns t → (c : Bool)
          → ltb (slot_count a) (residual_count t []) ≡ c → OpenCase
      room e ns t d true c = exceeds e ns t d (ltb-true (slot_count a) (residual_count t []) c)
      room e ns t d false c = runs e ns t d (ltb-false (slot_count a) (residual_count t []) c)

      by : (x : Bool) → lent a b w ≡ x → (j : Judgement) → judge_list l ≡ j → OpenCase
      by false e j d = unmeasured e
      by true e (declined n p) d = declines e n p d
      by true e (accepted ns t) d = room e ns t d (ltb (slot_count a) (residual_count t [])) refl

-- ---- the empty list

pub empty_never : (l a b w : List ℕ) (n p : ℕ) (s : State) → (open_of l a b [] w).answer ≡ stopped n p s → ⊥
unfolding refusing exceeded_of ending_of through
empty_never l a b w n p s h = by (open_case l a b [] w)
  where
    says : (o : Outcome) → open_of l a b [] w ≡ o → o.answer ≡ stopped n p s
    says o e = sym (ap (λ (z : Outcome). z.answer) e) ∙ h

    no : (k q : ℕ) → refused k q ≡ stopped n p s → ⊥
    no k q e = let z : ◌≡◌ {A = ℕ} 0 1 = cc in omega arith

    not_both : (r : State) → given r ≡ stopped n p s → ⊥
    not_both r e = let z : ◌≡◌ {A = ℕ} 0 1 = cc in omega arith

    by : OpenCase l a b [] w → ⊥
    by (unmeasured e) = no 1 0 (says _ (open_unmeasured l a b [] w e))
    by (declines e k q d) = no k q (says _ (open_declined l a b [] w e k q d))
    by (exceeds e ns t d g) = no 13 0 (says _ (open_exceeded l a b [] w e ns t d g))
    by (runs e ns t d g) = not_both _ (says _ (open_runs l a b [] w e ns t d g))
