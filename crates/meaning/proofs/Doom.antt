-- What Theorem 3 does not see: a doomed term emits nothing and stays doomed (000, Proposition 2, first half), a silent
-- step changes no trace, and a doomed call may be stuck.
--     doomed_silent, doomed_stays    a doomed term's steps are silent, and lead to doomed terms
--     silent_complete                a silent step loses no trace
--     call_doomed, call_stuck        the call of `only_fail` is doomed and does not go on
--     choice_doomed, choice_stuck    nor does a choice of two such calls
-- So the second half of 000, Proposition 2 is false of named definitions; of terms without calls it is in
-- `Doom/Falls.antt`. No branches: `Doom/Branches.antt`. Assumes nothing.
use Rattle.std.specs.Prelude.{ℕ, List, ◌≡◌}
use Rattle.std.proofs.Common.{sym, subst}
use Rattle.table.specs.Table
use Rattle.table.specs.Table.{Table, body_of}
use Rattle.meaning.specs.Figure1.{Term, stop, fail, prefix, choice, par, call, plain, body}
use Rattle.meaning.specs.Figure3.{Action, event, τ, Doomed, d_fail, d_choice, d_left, d_right, d_call}
use Rattle.meaning.specs.Figure3.{Step, choice_τ_left, choice_τ_right, choice_left, choice_right}
use Rattle.meaning.specs.Figure3.{par_left, par_right, par_both, doomed_left, doomed_right, choice_fail}
use Rattle.meaning.specs.Figure3.{fail_left, fail_right, call_step}
use Rattle.meaning.proofs.Figure3.Laws.{fail_stuck}
use Rattle.meaning.specs.Holds.{Holds, h_left, h_right, h_par, h_call}
use Rattle.meaning.specs.Doom.{only_fail}
pub mod Branches
pub mod Falls

module _ (t : Table) where
  pub doomed_silent : {P Q : Term} {e : ℕ} → Doomed t P → Step t P (event e) Q → ⊥
  doomed_silent {Q = Q} {e = e} d_fail s = elim s [ ]
  doomed_silent (d_choice p q) (choice_left s) = doomed_silent p s
  doomed_silent (d_choice p q) (choice_right s) = doomed_silent q s
  doomed_silent (d_left p) (par_left s o v) = doomed_silent p s
  doomed_silent (d_left p) (par_right s o v) = v p
  doomed_silent (d_left p) (par_both v u r s i) = v p
  doomed_silent (d_right q) (par_left s o v) = v q
  doomed_silent (d_right q) (par_right s o v) = doomed_silent q s
  doomed_silent (d_right q) (par_both v u r s i) = u q
  doomed_silent (d_call p) (call_step s) = doomed_silent p s

  pub doomed_stays : {P Q : Term} → Doomed t P → Step t P τ Q → Doomed t Q
  doomed_stays {Q = Q} d_fail s = elim s [ ]
  doomed_stays (d_choice p q) (choice_τ_left s) = d_choice (doomed_stays p s) q
  doomed_stays (d_choice p q) (choice_τ_right s) = d_choice p (doomed_stays q s)
  doomed_stays (d_choice p q) choice_fail = d_fail
  doomed_stays (d_left p) (par_left s o v) = d_left (doomed_stays p s)
  doomed_stays (d_left p) (par_right s o v) = d_left p
  doomed_stays (d_left p) (doomed_left a b s) = d_left (doomed_stays p s)
  doomed_stays (d_left p) (doomed_right a b s) = d_left p
  doomed_stays (d_left p) fail_left = d_fail
  doomed_stays (d_left p) fail_right = d_fail
  doomed_stays (d_right q) (par_left s o v) = d_right q
  doomed_stays (d_right q) (par_right s o v) = d_right (doomed_stays q s)
  doomed_stays (d_right q) (doomed_left a b s) = d_right q
  doomed_stays (d_right q) (doomed_right a b s) = d_right (doomed_stays q s)
  doomed_stays (d_right q) fail_left = d_fail
  doomed_stays (d_right q) fail_right = d_fail
  doomed_stays (d_call p) (call_step s) = doomed_stays p s

  pub silent_complete : {P Q : Term} → Step t P τ Q → {s : List ℕ} → Holds t P s → Holds t Q s
  silent_complete (choice_τ_left p) (h_left h) = h_left (silent_complete p h)
  silent_complete (choice_τ_left p) (h_right h) = h_right h
  silent_complete (choice_τ_right p) (h_left h) = h_left h
  silent_complete (choice_τ_right p) (h_right h) = h_right (silent_complete p h)
  silent_complete (par_left p o v) (h_par m h k) = h_par m (silent_complete p h) k
  silent_complete (par_right p o v) (h_par m h k) = h_par m h (silent_complete p k)
  silent_complete (doomed_left a b p) (h_par m h k) = h_par m (silent_complete p h) k
  silent_complete (doomed_right a b p) (h_par m h k) = h_par m h (silent_complete p k)
  silent_complete choice_fail (h_left h) = h
  silent_complete choice_fail (h_right h) = h
  silent_complete fail_left (h_par m h k) = elim h [ ]
  silent_complete fail_right (h_par m h k) = elim k [ ]
  silent_complete (call_step p) (h_call h) = silent_complete p h

-- ---- a call of FAIL is doomed, is not FAIL, and has no step; likewise a choice of two

abbrev IsFail : Term → Type 0
IsFail stop = ⊥
IsFail fail = Unit
IsFail (prefix S P) = ⊥
IsFail (choice P Q) = ⊥
IsFail (par S P Q) = ⊥
IsFail (call d) = ⊥

pub call_is_no_fail : (d : ℕ) → call d ≡ fail → ⊥
call_is_no_fail d e = subst (λ (P : Term). IsFail P) (sym e) tt

pub choice_is_no_fail : (P Q : Term) → choice P Q ≡ fail → ⊥
choice_is_no_fail P Q e = subst (λ (R : Term). IsFail R) (sym e) tt

pub call_doomed : Doomed only_fail (call 0)
unfolding only_fail body body_of plain
call_doomed = d_call d_fail

pub call_stuck : {a : Action} {Q : Term} → Step only_fail (call 0) a Q → ⊥
unfolding only_fail body body_of plain
call_stuck (call_step s) = fail_stuck only_fail s

pub choice_doomed : Doomed only_fail (choice (call 0) (call 0))
choice_doomed = d_choice call_doomed call_doomed

pub choice_stuck : {a : Action} {Q : Term} → Step only_fail (choice (call 0) (call 0)) a Q → ⊥
choice_stuck (choice_τ_left s) = call_stuck s
choice_stuck (choice_τ_right s) = call_stuck s
choice_stuck (choice_left s) = call_stuck s
choice_stuck (choice_right s) = call_stuck s
