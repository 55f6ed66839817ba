-- Folding a step that may stop, over a list, and over a list of lists with a restart at each (ours).
--     StepEnd, Ended    what one step gives; where a fold ended, how many it took, and why it stopped
--     through           the fold over one list
--     took              the elements that it took
--     restarts, joins   over a list of lists: where it ends, and all that were taken
--     extend_by, extend_all  a list with the elements of another, and of each of several, up to the first that halts
-- The law, `restarts_join`, is in `proofs/Fold/Laws.antt`; that of a fold along such a list in
-- `proofs/Fold/Joined.antt`. Assumes nothing.
use Rattle.std.specs.Prelude.{ℕ, suc, Bool, true, false, List, [], ◌∷◌, ◌++◌}
use Rattle.std.proofs.Math.Option.{Option, none, some}

module _ (C : Type 0) where
  pub data StepEnd : Type 0 where
    went : C → StepEnd
    stops : ℕ → StepEnd

  pub record Ended : Type 0 where
    pub at : C
    pub taken : ℕ
    pub why : Option ℕ

module _ {C E : Type 0} (step : C → E → StepEnd C) where
  unfoldable pub through : C → ℕ → List E → Ended C
  through c k [] = record { at = c; taken = k; why = none }
  through c k (e ∷ es) =
      elim (step c e) [ went d ↦ through d (suc k) es | stops n ↦ record { at = c; taken = k; why = some n } ]

  unfoldable pub took : C → List E → List E
  took c [] = []
  took c (e ∷ es) = elim (step c e) [ went d ↦ e ∷ took d es | stops n ↦ [] ]

  unfoldable pub restarts : C → List (List E) → C
  restarts c [] = c
  restarts c (es ∷ ess) = restarts (through c 0 es).at ess

  unfoldable pub joins : C → List (List E) → List E
  joins c [] = []
  joins c (es ∷ ess) = took c es ++ joins (through c 0 es).at ess

module _ {E : Type 0} (halts : List E → E → Bool) where
  unfoldable pub extend_by : List E → List E → List E
  extend_by s [] = s
  extend_by s (e ∷ es) = elim (halts s e) [ true ↦ s | false ↦ extend_by (s ++ e ∷ []) es ]

  unfoldable pub extend_all : List E → List (List E) → List E
  extend_all s [] = s
  extend_all s (es ∷ ess) = extend_all (extend_by s es) ess
