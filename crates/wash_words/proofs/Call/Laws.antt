-- What a call in wash hours comes to, case by case, and that it goes one of its ways. Assumes nothing.
use Rattle.std.specs.Prelude.{ℕ, ◌≡◌, Bool, List, length, eqb, Ok, Err}
use Rattle.std.proofs.Math.Path.{refl, ap, subst}
use Rattle.std.proofs.Common.{sym, ◌∙◌, eq-eqb, ne_eqb, eqb-true}
use Rattle.std.proofs.Math.Bool.{true, false}
use Rattle.std.proofs.lemmas.Bool.{eqb-false}
use Rattle.table.specs.declared.answer.Refusal.{Refusal}
use Rattle.words_spec.specs.Calls.{MonitorCall, monitor_said, unmeasured}
use Rattle.wash_state.specs.declared.answer.TimedState as kept
use Rattle.wash_state.specs.Answers as code
use Rattle.state.specs.declared.answer.Declined.TheVariants.{Refused, Stopped}
use Rattle.wash_state.specs.Answers.{timed_state_of, timed_monitor_of, timed_answer_of, timed_outcome}
use Rattle.wash_spec.specs.Timed.{TimedState, TimedAnswer, given, refused, stopped, TimedOutcome}
use Rattle.wash_spec.specs.Feed.{timed_of}
use Rattle.wash_words.specs.Words.{timed_record_measured, timed_in, timed_words}
use Rattle.wash_words.specs.Call.{timed_number, timed_place, timed_record_after, TimedTold, call_of, timed_monitor_in}
use Rattle.wash_words.specs.Call.{timed_call, TimedWay, timed_unfit, timed_given, timed_refused, timed_stopped}

-- ---- what `tell_timed` promises of each answer

pub tell_given : (x : code.TimedAnswer) (s : kept.TimedState) (r r' : List ℕ) → x ≡ Ok s
    → r' ≡ timed_words (timed_state_of s) → TimedTold (timed_answer_of x) r 0 0 r'
unfolding timed_number timed_place timed_record_after
tell_given x s r r' e h = rw e (record { number = refl; place = refl; words = h })

pub tell_refused : (x : code.TimedAnswer) (q : Refusal) (r : List ℕ) → x ≡ Err (Refused q)
    → TimedTold (timed_answer_of x) r q.number q.place r
unfolding timed_number timed_place timed_record_after
tell_refused x q r e = rw e (record { number = refl; place = refl; words = refl })

pub tell_stopped : (x : code.TimedAnswer) (q : Refusal) (s : kept.TimedState) (r r' : List ℕ) → x ≡ Err (Stopped q s)
    → r' ≡ timed_words (timed_state_of s) → TimedTold (timed_answer_of x) r q.number q.place r'
unfolding timed_number timed_place timed_record_after
tell_stopped x q s r r' e h = rw e (record { number = refl; place = refl; words = h })

-- ---- the call

-- a record that is not of seven words
pub timed_unmeasured : (everyday wash windows r a b es ms w : List ℕ) → (length r ≡ 7 → ⊥)
    → monitor_said 1 0 r a b w ≡ timed_call everyday wash windows r a b es ms w
unfolding timed_call timed_record_measured unmeasured
timed_unmeasured everyday wash windows r a b es ms w h = rw (ne_eqb (length r) 7 h, timed_call) refl

module _ (x : code.TimedAnswer) (n p : ℕ) (r r' a b w : List ℕ) (t : TimedTold (timed_answer_of x) r n p r') where
  told : (o : TimedOutcome) → timed_outcome x a b w ≡ o → monitor_said n p r' a b w ≡ call_of r o
  unfolding call_of
  told o e =
      (λ i. record { number = t.number i; place = t.place i; words = t.words i; area0 = a; area1 = b; work = w })
      ∙ ap (call_of r) e

  pub timed_told : (everyday wash windows a₀ b₀ es ms w₀ : List ℕ) (s : kept.TimedState) → length r ≡ 7
      → timed_state_of s ≡ timed_in r
      → timed_outcome x a b w ≡ timed_of everyday wash windows (timed_monitor_of s a₀ b₀) es ms w₀
      → monitor_said n p r' a b w ≡ timed_call everyday wash windows r a₀ b₀ es ms w₀
  unfolding timed_call timed_record_measured timed_monitor_in
  timed_told everyday wash windows a₀ b₀ es ms w₀ s h k e =
      rw (eq-eqb (length r) 7 h, timed_call)
      (told _ (e ∙ ap (λ (y : TimedState).
      timed_of everyday wash windows (record { state = y; area0 = a₀; area1 = b₀ }) es ms w₀) k))

-- ---- its ways

module _ (r a b w : List ℕ) (o : TimedOutcome) where
  -- a call by the operation's answer
  abbrev by : TimedAnswer → MonitorCall
  by x =
      record {
        number = timed_number x;
        place = timed_place x;
        words = timed_record_after r x;
        area0 = o.area0;
        area1 = o.area1;
        work = o.work;
      }

  goes : (x : TimedAnswer) → o.answer ≡ x → length r ≡ 7 → TimedWay r a b w o (call_of r o)
  unfolding call_of timed_number timed_place timed_record_after
  goes (given s) e h = subst (TimedWay r a b w o) (sym (ap by e)) (timed_given s h e)
  goes (refused n p) e h = subst (TimedWay r a b w o) (sym (ap by e)) (timed_refused n p h e)
  goes (stopped n p s) e h = subst (TimedWay r a b w o) (sym (ap by e)) (timed_stopped n p s h e)

  measured : (c : MonitorCall) (x : Bool) → eqb (length r) 7 ≡ x
      → c ≡ elim x as (λ y. MonitorCall) [ true ↦ call_of r o | false ↦ unmeasured r a b w ] → TimedWay r a b w o c
  unfolding unmeasured
  measured c true e k = subst (TimedWay r a b w o) (sym k) (goes o.answer refl (eqb-true _ _ e))
  measured c false e k = subst (TimedWay r a b w o) (sym k) (timed_unfit (eqb-false _ _ e))

pub timed_way : (everyday wash windows r a b es ms w : List ℕ)
    → TimedWay r a b w (timed_of everyday wash windows (timed_monitor_in r a b) es ms w)
    (timed_call everyday wash windows r a b es ms w)
unfolding timed_call timed_record_measured
timed_way everyday wash windows r a b es ms w =
    measured r a b w (timed_of everyday wash windows (timed_monitor_in r a b) es ms w)
    (timed_call everyday wash windows r a b es ms w) (eqb (length r) 7) refl refl
