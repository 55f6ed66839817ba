-- A doomed term without calls goes silently to FAIL (000, Proposition 2: "a doomed term keeps transitioning until it
-- reaches FAIL"), one side after the other.
--     falls    it has such a chain
-- With calls it need not: `Doom.antt`, call_stuck. Assumes nothing.
use Rattle.std.proofs.Common.{arith, inl, inr, ⊎_elim}
use Rattle.std.specs.Prelude.{[], ◌⊎◌}
use Rattle.table.specs.Table.{Table}
use Rattle.meaning.specs.Figure1.{SetRef, Term, stop, fail, prefix, choice, par, call, CallFree}
use Rattle.meaning.specs.Figure3.{τ, Doomed, d_choice, d_left, d_right, Viable}
use Rattle.meaning.specs.Figure3.{Step, choice_τ_left, choice_τ_right, par_left, par_right, doomed_left}
use Rattle.meaning.specs.Figure3.{doomed_right, choice_fail, fail_left, fail_right, Chain, chain_none, chain_τ}
use Rattle.meaning.proofs.Theorem3.{doomed_empty, term_decided}
use Rattle.meaning.proofs.Doom.{doomed_stays}

module _ (t : Table) where
  doomed_or_viable : (P : Term) → CallFree P → Doomed t P ⊎ Viable t P
  doomed_or_viable P g =
      ⊎_elim inl (λ h. inr (λ d. doomed_empty t d h)) (term_decided t 0 0 (λ c l. absurd (omega arith)) P g)

  -- ---- a doomed side's silent step is one of the parallel, whatever the other side is

  left_step : {E : SetRef} {P P' Q : Term} → Doomed t P → Doomed t Q ⊎ Viable t Q → Step t P τ P'
      → Step t (par E P Q) τ (par E P' Q)
  left_step p (inl q) s = doomed_left p q s
  left_step p (inr v) s = par_left s tt v

  right_step : {E : SetRef} {P Q Q' : Term} → Doomed t P ⊎ Viable t P → Doomed t Q → Step t Q τ Q'
      → Step t (par E P Q) τ (par E P Q')
  right_step (inl p) q s = doomed_right p q s
  right_step (inr v) q s = par_right s tt v

  -- ---- a silent chain of one side, before a chain of the whole

  choice_first : {P P' Q R : Term} → Chain t P [] P' → Chain t (choice P' Q) [] R → Chain t (choice P Q) [] R
  choice_first chain_none k = k
  choice_first (chain_τ s c) k = chain_τ (choice_τ_left s) (choice_first c k)

  choice_second : {P Q Q' R : Term} → Chain t Q [] Q' → Chain t (choice P Q') [] R → Chain t (choice P Q) [] R
  choice_second chain_none k = k
  choice_second (chain_τ s c) k = chain_τ (choice_τ_right s) (choice_second c k)

  par_first : {E : SetRef} {P P' Q R : Term} → Doomed t P → Doomed t Q ⊎ Viable t Q
      → Chain t P [] P' → Chain t (par E P' Q) [] R → Chain t (par E P Q) [] R
  par_first p o chain_none k = k
  par_first p o (chain_τ s c) k = chain_τ (left_step p o s) (par_first (doomed_stays t p s) o c k)

  par_second : {E : SetRef} {P Q Q' R : Term} → Doomed t P ⊎ Viable t P → Doomed t Q
      → Chain t Q [] Q' → Chain t (par E P Q') [] R → Chain t (par E P Q) [] R
  par_second o q chain_none k = k
  par_second o q (chain_τ s c) k = chain_τ (right_step o q s) (par_second o (doomed_stays t q s) c k)

  pub falls : (P : Term) → CallFree P → Doomed t P → Chain t P [] fail
  falls stop g d = elim d [ ]
  falls fail g d = chain_none
  falls (prefix E P) g d = elim d [ ]
  falls (choice P Q) g (d_choice p q) =
      choice_first (falls P g.0 p) (choice_second (falls Q g.1 q) (chain_τ choice_fail chain_none))
  falls (par E P Q) g (d_left p) =
      par_first p (doomed_or_viable Q g.1) (falls P g.0 p) (chain_τ fail_left chain_none)
  falls (par E P Q) g (d_right q) =
      par_second (doomed_or_viable P g.0) q (falls Q g.1 q) (chain_τ fail_right chain_none)
  falls (call c) g d = absurd (omega arith)
