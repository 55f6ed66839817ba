-- A whole call, by what stands before its events: `timed_feed`.
--     fed_declined, fed_given     refused before the first event; the events
--     fed_ready, fed_pairs        what `take_all_timed` asks for
-- Assumes nothing.
use Rattle.std.specs.Prelude.{Err}
use Prim.Native.Nat.{ℕ}
use native.Mathlib.Omega.{arith}
use mathlib.Core.Path.{◌≡◌, refl, ap, sym, ◌∙◌}
use mathlib.Core.Bool.{Bool, true, false, ◌&&◌}
use mathlib.Core.List.{List}
use lib.ListN.{length}
use lib.Dec.{eqb}
use borrow.Author.Tests.{eqb-true}
use Rattle.table.specs.Operations.{zeros}
use Rattle.table.specs.declared.answer.Refusal.{Refusal}
use Rattle.std.specs.declared.result.Result.{Result}
use Rattle.std.specs.declared.result.Result.TheVariants.{Ok, Err}
use Rattle.table_index.specs.Index.{table_in}
use Rattle.monitor_spec.specs.State.{areas_measured, work_measured}
use Rattle.monitor_spec.proofs.Valid.Laws.{and_split}
use Rattle.wash_spec.specs.Timed.{TimedMonitor}
use Rattle.wash_spec.specs.Entering.{timed_measured, timed_entrance}
use Rattle.wash_spec.proofs.Entering.Laws.{timed_1}
use Rattle.wash_spec.specs.Feed.{timed_refusing, timed_of}
use Rattle.wash_spec.proofs.Feed.Laws.{timed_shut, timed_admits}
use Rattle.wash_state.specs.declared.answer.TimedState.{TimedState}
use Rattle.wash_state.specs.Answers.{TimedAnswer}
use Rattle.state.specs.declared.answer.Declined.TheVariants.{Refused}
use Rattle.wash_state.specs.Answers.{timed_monitor_of, timed_outcome}
use Rattle.wash_start.specs.Standing.{TimedReady}
use Rattle.wash_entering.specs.Entering.{TimedEntered}
use Rattle.washing.specs.Washing.{TimedEndedBy}

module _ (everyday wash windows : List ℕ) (x : TimedState) (a b es ms w : List ℕ) (j : Result Unit Refusal) (w₁ : List ℕ)
    (h : TimedEntered (timed_entrance everyday wash windows (timed_monitor_of x a b)
    ((areas_measured a b && work_measured w) && eqb (length es) (length ms)) w) everyday wash windows x a b j w₁)
  where
    abbrev m : TimedMonitor
    m = timed_monitor_of x a b

    pub fed_declined : (r : Refusal) → j ≡ Err r
        → timed_outcome (Err (Refused r)) a b w₁ ≡ timed_of everyday wash windows m es ms w
    unfolding TimedEntered timed_measured timed_refusing
    fed_declined r q =
        sym (timed_shut everyday wash windows m es ms w r.number r.place w₁ (rw q at h))

    opened : j ≡ Ok tt → TimedEntered (timed_entrance everyday wash windows m
        ((areas_measured a b && work_measured w) && eqb (length es) (length ms)) w) everyday wash windows x a b (Ok tt)
        w₁
    opened q = rw q at h

    pub fed_ready : j ≡ Ok tt → TimedReady everyday wash windows x a b w₁
    unfolding TimedEntered
    fed_ready q = (opened q).1

    pub fed_pairs : j ≡ Ok tt → length es ≡ length ms
    unfolding TimedEntered
    fed_pairs q = by ((areas_measured a b && work_measured w) && eqb (length es) (length ms)) refl
      where
        by : (u : Bool) → ((areas_measured a b && work_measured w) && eqb (length es) (length ms)) ≡ u
            → length es ≡ length ms
        by true e =
            eqb-true (length es) (length ms)
            (and_split (areas_measured a b && work_measured w) (eqb (length es) (length ms)) e).1
        by false e =
            let z = sym (timed_1 everyday wash windows m
            ((areas_measured a b && work_measured w) && eqb (length es) (length ms)) w e) ∙ (opened q).0 in
            absurd (let y : ◌≡◌ {A = ℕ} 0 1 = cc in omega arith)

    pub fed_given : j ≡ Ok tt → (r : TimedAnswer) (a' b' w₂ w' : List ℕ)
        → TimedEndedBy everyday wash windows m es ms r a' b' → w' ≡ zeros (length w₂) → length w₂ ≡ length w
        → timed_outcome r a' b' w' ≡ timed_of everyday wash windows m es ms w
    unfolding TimedEntered TimedEndedBy timed_measured
    fed_given q r a' b' w₂ w' f z k =
        ap (timed_outcome r a' b') (z ∙ ap zeros k) ∙ f (length w)
        ∙ sym (timed_admits everyday wash windows m es ms w (table_in everyday) (table_in wash) (opened q).0)
