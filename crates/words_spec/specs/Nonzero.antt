-- No refusal has the number 0 (ours: 0 is returned where there is none).
--     list_some, bytes_some      2 to 9, of the table layer
--     Stop, Why                  a step that stops has another number than 0; so has a fold that does
--     event_stop                 11 to 13, of an event
--     through_why                a fold over such steps
-- Assumes nothing.
use Rattle.std.specs.Prelude.{ℕ, suc, ◌≡◌, refl, true, List, [], ◌∷◌, T}
use Rattle.std.proofs.Common.{arith, subst}
use Rattle.std.proofs.Math.Option.{Option, none, some}
use Rattle.numbers.specs.Number.{Bytes}
use Rattle.table.specs.Table.{Table}
use Rattle.table.specs.Judge.{declined, judge_list, judge_bytes}
use Rattle.table.specs.Refusals.{Refused, too_long, truncated_list, out_of_range, trailing_input, bad_reference}
use Rattle.table.specs.Refusals.{too_wide, too_many_branches}
use Rattle.table.proofs.Refusals.AtNumbers.{refused_out}
use Rattle.table.specs.BytesRefused.{RefusedBytes, long_bytes, short_bytes, malformed_number, off_bytes, over_number}
use Rattle.table.specs.BytesRefused.{over_bytes, wrong_bytes, wide_bytes, branches_bytes}
use Rattle.table.proofs.BytesRefused.Exact.{refused_bytes_out}
use Rattle.residuals.specs.Residual.{Residual}
use Rattle.monitor_spec.specs.State.{Monitor}
use Rattle.monitor_spec.specs.Fold.{StepEnd, went, stops, through}
use Rattle.monitor_spec.specs.Feed.{take_event}
use Rattle.monitor_spec.proofs.Feed.Laws.{EventCase, meets, passes, event_case, met_by, take_refused, take_passes}
use Rattle.monitor_spec.specs.Progress.{Meets, unknown, full, exceeded}

-- ---- the table layer

pub list_some : (l : List ℕ) (n at : ℕ) → judge_list l ≡ declined n at → n ≡ 0 → ⊥
list_some l n at h z = go (refused_out l n at h)
  where
    go : Refused l n at → ⊥
    go (too_long e x) = omega arith
    go (truncated_list e x) = omega arith
    go (out_of_range e x) = omega arith
    go (trailing_input e x) = omega arith
    go (bad_reference e x) = omega arith
    go (too_wide e x) = omega arith
    go (too_many_branches e x) = omega arith

pub bytes_some : (s : List ℕ) (n at : ℕ) → Bytes s → judge_bytes s ≡ declined n at → n ≡ 0 → ⊥
bytes_some s n at w h z = go (refused_bytes_out s n at h w)
  where
    go : RefusedBytes s n at → ⊥
    go (long_bytes e x y) = omega arith
    go (short_bytes ns tail e x d o y p) = omega arith
    go (malformed_number ns tail e x d o y p) = omega arith
    go (off_bytes ns tail i e x d o p) = omega arith
    go (over_number ns tail i e x d o p) = omega arith
    go (over_bytes ns b tail t e x d f y p) = omega arith
    go (wrong_bytes ns i e x d o p) = omega arith
    go (wide_bytes ns e x d o) = omega arith
    go (branches_bytes ns e x d o) = omega arith

-- ---- steps

abbrev pub Why : Option ℕ → Type 0
Why none = T true
Why (some n) = n ≡ 0 → ⊥

abbrev pub Stop : (C : Type 0) → StepEnd C → Type 0
Stop C (went m) = T true
Stop C (stops n) = n ≡ 0 → ⊥

meets_why : {t : Table} {cap k : ℕ} {rs : List Residual} {e n : ℕ} → Meets t cap k rs e n → n ≡ 0 → ⊥
meets_why (unknown a) h = omega arith
meets_why (full a b) h = omega arith
meets_why (exceeded a b c) h = omega arith

case_why : {t : Table} {cap k : ℕ} {rs : List Residual} {e : ℕ} {o : Option ℕ} → EventCase t cap k rs e o → Why o
case_why (meets n x) = meets_why x
case_why (passes a b c) = tt

pub event_stop : (t : Table) (m : Monitor) (e : ℕ) → Stop Monitor (take_event t m e)
event_stop t m e = go (met_by t m e) refl
  where
    go : (o : Option ℕ) → met_by t m e ≡ o → Stop Monitor (take_event t m e)
    go none h = rw (take_passes t m e h) tt
    go (some n) h = rw (take_refused t m e n h) (subst Why h (case_why (event_case t _ _ _ e)))

pub through_why : {C E : Type 0} (step : C → E → StepEnd C) → ((c : C) (e : E) → Stop C (step c e))
    → (es : List E) (c : C) (k : ℕ) → Why (through step c k es).why
unfolding through
through_why step all [] c k = tt
through_why {C} step all (e ∷ es) c k = go (step c e) refl (λ d. through_why step all es d (suc k))
  where
    go : (x : StepEnd C) → step c e ≡ x → ((d : C) → Why (through step d (suc k) es).why)
        → Why (through step c k (e ∷ es)).why
    go (went d) h later = rw (h, through) (later d)
    go (stops n) h later = rw (h, through) (subst (Stop C) h (all c e))
