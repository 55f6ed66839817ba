-- The small facts of the three figures hold.
--     facts    they hold
-- Assumes nothing.
use Rattle.std.specs.Prelude.{ℕ, Bool, [], ◌∷◌, ◌≡◌, refl, eqb}
use Rattle.std.proofs.Common.{inl, inr, ⊎_elim, ap₂}
use Rattle.table.specs.Table
use Rattle.table.specs.Table.{body_of}
use Rattle.table.specs.Member.{elem, row_in}
use Rattle.meaning.specs.Figure1.{var, fixed, family, Term, stop, fail, prefix, choice, par, call}
use Rattle.meaning.specs.Figure1.{plain_ref, plain, body, member, sub_arg, sub_set, sub}
use Rattle.meaning.specs.Figure2.{TraceSet, NonEmpty, after, Parallel, only_ε, first}
use Rattle.meaning.specs.Figure3.{event, τ, Doomed, d_fail, d_choice, d_call, Viable}
use Rattle.meaning.specs.Figure3.{Step, prefix_step, choice_τ_left, choice_τ_right, par_left, par_right, par_both}
use Rattle.meaning.specs.Figure3.{doomed_left, doomed_right, choice_fail, fail_left, fail_right, call_step}
use Rattle.meaning.specs.Figure3.{Chain, chain_none, chain_event, chain_τ}
use Rattle.meaning.proofs.Figure3.Laws.{fail_stuck, stop_stuck, prefix_viable}
use Rattle.meaning.specs.FigureExamples.{two, Facts}

-- the terms and trace sets that `specs/FigureExamples.antt` has for itself, again
abbrev a : Term → Term
a P = prefix (fixed 0) P

abbrev is : ℕ → ℕ → Bool
is n e = eqb e n

abbrev A : TraceSet
A = first (is 0) (λ e. only_ε)

abbrev moving : Term
moving = choice (par (fixed 1) fail stop) (a stop)

abbrev falling : Term
falling = choice fail fail

-- ---- Figure 3, by the rules that could apply

left_viable : {P : Term} → Viable two (choice P (a stop))
left_viable (d_choice p q) = prefix_viable two q

right_viable : {P : Term} → Viable two (choice (a stop) P)
right_viable (d_choice p q) = prefix_viable two p

silent_left : (P Q : Term) → Viable two P → Step two (par (fixed 1) P fail) τ Q → Q ≡ fail
silent_left P Q u (par_left s o v) = absurd (v d_fail)
silent_left P Q u (par_right s o v) = absurd (fail_stuck two s)
silent_left P Q u (doomed_left d e s) = absurd (u d)
silent_left P Q u (doomed_right d e s) = absurd (fail_stuck two s)
silent_left P Q u fail_left = refl
silent_left P Q u fail_right = refl

silent_right : (P Q : Term) → Viable two P → Step two (par (fixed 1) fail P) τ Q → Q ≡ fail
silent_right P Q u (par_left s o v) = absurd (fail_stuck two s)
silent_right P Q u (par_right s o v) = absurd (v d_fail)
silent_right P Q u (doomed_left d e s) = absurd (fail_stuck two s)
silent_right P Q u (doomed_right d e s) = absurd (u e)
silent_right P Q u fail_left = refl
silent_right P Q u fail_right = refl

event_left : (e : ℕ) (P Q : Term) → Step two (par (fixed 1) P fail) (event e) Q → ⊥
event_left e P Q (par_left s o v) = v d_fail
event_left e P Q (par_right s o v) = fail_stuck two s
event_left e P Q (par_both v w s r i) = w d_fail

event_right : (e : ℕ) (P Q : Term) → Step two (par (fixed 1) fail P) (event e) Q → ⊥
event_right e P Q (par_left s o v) = fail_stuck two s
event_right e P Q (par_right s o v) = v d_fail
event_right e P Q (par_both v w s r i) = v d_fail

a_moves : {P : Term} {e : ℕ} → Step two (a stop) (event e) P → P ≡ stop
unfolding sub
a_moves (prefix_step i) = refl

a_both : (Q : Term) → Step two (par (fixed 0) (a stop) (a stop)) (event 0) Q → Q ≡ par (fixed 0) stop stop
unfolding two member row_in elem
a_both Q (par_left s o v) = absurd o
a_both Q (par_right s o v) = absurd o
a_both Q (par_both v w s r i) = ap₂ (par (fixed 0)) (a_moves s) (a_moves r)

stop_viable : Viable two stop
stop_viable d = elim d [ ]

a_waits : (Q : Term) → Step two (a stop) (event 1) Q → ⊥
unfolding two member row_in elem
a_waits Q (prefix_step i) = i

choice_waits : (Q : Term) → Step two (choice fail (a stop)) τ Q → ⊥
choice_waits Q (choice_τ_left s) = fail_stuck two s
choice_waits Q (choice_τ_right s) = elim s [ ]

called_viable : Viable two (call 0)
unfolding two body body_of plain plain_ref
called_viable (d_call d) = prefix_viable two d

called_doomed : Doomed two (call 1)
unfolding two body body_of plain
called_doomed = d_call d_fail

called_moves : Step two (call 0) (event 0) stop
unfolding two body body_of plain plain_ref member row_in elem sub
called_moves = call_step (prefix_step tt)

fail_follows : Step two (a fail) (event 0) fail
unfolding two member row_in elem sub
fail_follows = prefix_step tt

left_then_whole : Chain two (par (fixed 0) falling stop) [] fail
left_then_whole = chain_τ (par_left choice_fail tt stop_viable) (chain_τ fail_left chain_none)

one_then_other : Chain two (a (prefix (family 2 (var 0)) stop)) (0 ∷ 1 ∷ []) stop
unfolding two member row_in elem sub sub_set sub_arg
one_then_other = chain_event (prefix_step tt) (chain_event (prefix_step tt) chain_none)

-- ---- Figure 2

a_once : Parallel (is 0) A A (0 ∷ 0 ∷ []) → ⊥
a_once h = ⊎_elim (λ p. ⊎_elim (λ q. q.1.0.1.1) (λ q. q.0) p.1.2) (λ p. p.0) h.2

-- a → STOP holds the empty trace at first, and after 0
at_first : NonEmpty A
at_first = ([], tt)

after_0 : NonEmpty (after A 0)
after_0 = ([], (tt, tt))

pub facts : Facts
unfolding two member row_in elem sub sub_set sub_arg
facts =
    record {
      row_has = refl;
      row_has_not = refl;
      shifted = refl;
      own = refl;
      beside_fail = λ h. h.1.1;
      both_once = a_once;
      left_goes_on =
          (([], tt), at_first, inl (tt, (([], (tt, tt)), after_0, inr (tt, inl (([], (tt, (tt, tt))), after_0)))));
      right_goes_on =
          (at_first, ([], tt), inl (tt, (after_0, ([], (tt, tt)), inr (tt, inr (after_0, ([], (tt, (tt, tt))))))));
      one_each = (at_first, at_first, inr (tt, inl (after_0, at_first, inr (tt, inr (after_0, after_0)))));
      choice_viable = left_viable;
      choice_viable_too = right_viable;
      call_doomed = called_doomed;
      call_viable = called_viable;
      emits = fail_follows;
      emits_its_set = a_waits;
      stop_stays = λ x Q s. stop_stuck two s;
      choice_left_moves = choice_τ_left fail_left;
      choice_right_moves = choice_τ_right fail_right;
      choice_falls = choice_fail;
      choice_stays = choice_waits;
      left_moves = par_left (choice_τ_left fail_left) tt stop_viable;
      right_moves = par_right (choice_τ_left fail_left) tt stop_viable;
      left_falls = par_left choice_fail tt stop_viable;
      right_falls = par_right choice_fail tt stop_viable;
      left_of_doomed = doomed_left (d_choice d_fail d_fail) (d_choice d_fail d_fail) choice_fail;
      right_of_doomed = doomed_right (d_choice d_fail d_fail) (d_choice d_fail d_fail) choice_fail;
      left_fails = λ P. fail_left;
      right_fails = λ P. fail_right;
      call_moves = called_moves;
      chain_silent = left_then_whole;
      chain_emits = one_then_other;
      left_silent = λ e Q s. event_left e (a stop) Q s;
      right_silent = λ e Q s. event_right e (a stop) Q s;
      left_waits = λ Q s. silent_left moving Q left_viable s;
      right_waits = λ Q s. silent_right moving Q left_viable s;
      both_move = a_both;
    }
