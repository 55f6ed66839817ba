-- A fold whose state is, all along, the one that the list of the elements taken so far calls for, and which stops just
-- where a test of that list says so: what it takes is told by the test alone.
--     extend_snoc                one list more
--     Follows                    that a step is such
--     extended                   over one list;  all_ends, all_joins, all_keeps: over lists, with a restart at each
--     one_fold                   one fold over all that was taken;  fold_begins: over every beginning of it
-- Assumes nothing.
use Rattle.std.specs.Prelude.{ℕ, zero, suc, ◌≡◌, Bool, length, take}
use Rattle.std.proofs.Common.{arith, subst, ◌∙◌}
use Rattle.std.proofs.Math.Path.{refl, ap, ap₂, sym}
use Rattle.std.proofs.Math.Bool.{true, false}
use mathlib.Core.List.{List, [], ◌∷◌, ◌++◌, append_assoc, append-nil}
use Rattle.std.proofs.Math.Option.{none}
use Rattle.monitor_spec.specs.Fold.{StepEnd, went, stops, Ended, through, took, restarts, joins, extend_by}
use Rattle.monitor_spec.specs.Fold.{extend_all}
use Rattle.monitor_spec.proofs.Fold.Laws.{through_went, through_stops, took_went, took_stops, restarts_join}
use Rattle.monitor_spec.proofs.Fold.Laws.{none_took}

-- ---- a beginning of what is taken whole is taken whole

tail_same : {E : Type 0} {x y : E} {xs ys : List E} → x ∷ xs ≡ y ∷ ys → xs ≡ ys
tail_same e = cc

nil_cons : {E X : Type 0} {x : E} {xs : List E} → [] ≡ x ∷ xs → X
nil_cons e = absurd (let z : ◌≡◌ {A = ℕ} 0 1 = cc in omega arith)

took_take : {C E : Type 0} (step : C → E → StepEnd C) (es : List E) (c : C) (k : ℕ) → took step c es ≡ es
    → took step c (take k es) ≡ take k es
unfolding took
took_take step es c zero h = refl
took_take step [] c (suc k) h = refl
took_take {C} {E} step (e ∷ es) c (suc k) h = by (step c e) refl (λ d. took_take step es d k)
  where
    by : (x : StepEnd C) → step c e ≡ x → ((d : C) → took step d es ≡ es → took step d (take k es) ≡ take k es)
        → took step c (e ∷ take k es) ≡ e ∷ take k es
    by (went d) p ih =
        took_went step c d e (take k es) p ∙ ap (e ∷◌) (ih d (tail_same (sym (took_went step c d e es p) ∙ h)))
    by (stops n) p ih = nil_cons (sym (took_stops step c n e es p) ∙ h)

module _ {E : Type 0} (halts : List E → E → Bool) where
  extend_true : (s : List E) (e : E) (es : List E) → halts s e ≡ true → extend_by halts s (e ∷ es) ≡ s
  unfolding extend_by
  extend_true s e es h = rw (h, extend_by)

  extend_false : (s : List E) (e : E) (es : List E) → halts s e ≡ false
      → extend_by halts s (e ∷ es) ≡ extend_by halts (s ++ e ∷ []) es
  unfolding extend_by
  extend_false s e es h = rw (h, extend_by)

  -- one list more
  pub extend_snoc : (ess : List (List E)) (es s : List E)
      → extend_all halts s (ess ++ es ∷ []) ≡ extend_by halts (extend_all halts s ess) es
  unfolding extend_all
  extend_snoc [] es s = refl
  extend_snoc (fs ∷ ess) es s = extend_snoc ess es (extend_by halts s fs)

module _ {C E : Type 0} (step : C → E → StepEnd C) (halts : List E → E → Bool) (after : List E → C)
    (Ok : List E → Type 0) where
  pub record Follows : Type 0 where
    pub goes : (s : List E) (e : E) → Ok s → halts s e ≡ false → step (after s) e ≡ went (after (s ++ e ∷ []))
    pub keeps : (s : List E) (e : E) → Ok s → halts s e ≡ false → Ok (s ++ e ∷ [])
    pub refuses : (s : List E) (e : E) → Ok s → halts s e ≡ true → (k : ℕ) × (step (after s) e ≡ stops k)

  -- what the elements of one list do
  pub record Extended (s es : List E) : Type 0 where
    pub ends : (k : ℕ) → (through step (after s) k es).at ≡ after (extend_by halts s es)
    pub takes : extend_by halts s es ≡ s ++ took step (after s) es
    pub keeps : Ok (extend_by halts s es)

  module _ (follows : Follows) where
    pub extended : (es s : List E) → Ok s → Extended s es
    unfolding extend_by through took
    extended [] s ok = record { ends = λ k. refl; takes = sym (append-nil s); keeps = ok }
    extended (e ∷ es) s ok = by (halts s e) refl (extended es (s ++ e ∷ []))
      where
        by : (b : Bool) → halts s e ≡ b → (Ok (s ++ e ∷ []) → Extended (s ++ e ∷ []) es) → Extended s (e ∷ es)
        by true h ih =
            let (j, p) = follows.refuses s e ok h in
            let x : extend_by halts s (e ∷ es) ≡ s = extend_true halts s e es h in
            record {
              ends = λ k. ap (λ (z : Ended C). z.at) (through_stops step (after s) k j e es p) ∙ ap after (sym x);
              takes = x ∙ sym (append-nil s) ∙ ap (s ++◌) (sym (took_stops step (after s) j e es p));
              keeps = rw x ok;
            }
        by false h ih =
            let p = follows.goes s e ok h in
            let x : extend_by halts s (e ∷ es) ≡ extend_by halts (s ++ e ∷ []) es = extend_false halts s e es h in
            let i = ih (follows.keeps s e ok h) in
            record {
              ends = λ k. ap (λ (z : Ended C). z.at) (through_went step (after s) (after (s ++ e ∷ [])) k e es p)
                  ∙ i.ends (suc k) ∙ ap after (sym x);
              takes = x ∙ i.takes ∙ append_assoc s (e ∷ []) (took step (after (s ++ e ∷ [])) es)
                  ∙ ap (s ++◌) (sym (took_went step (after s) (after (s ++ e ∷ [])) e es p));
              keeps = rw x i.keeps;
            }

    -- ---- over lists

    pub all_keeps : (ess : List (List E)) (s : List E) → Ok s → Ok (extend_all halts s ess)
    unfolding extend_all
    all_keeps [] s ok = ok
    all_keeps (es ∷ ess) s ok = all_keeps ess (extend_by halts s es) (extended es s ok).keeps

    pub all_ends : (ess : List (List E)) (s : List E) → Ok s
        → restarts step (after s) ess ≡ after (extend_all halts s ess)
    unfolding extend_all restarts
    all_ends [] s ok = refl
    all_ends (es ∷ ess) s ok =
        let i = extended es s ok in
        ap (λ (c : C). restarts step c ess) (i.ends 0) ∙ all_ends ess (extend_by halts s es) i.keeps

    pub all_joins : (ess : List (List E)) (s : List E) → Ok s
        → extend_all halts s ess ≡ s ++ joins step (after s) ess
    unfolding extend_all joins
    all_joins [] s ok = sym (append-nil s)
    all_joins (es ∷ ess) s ok =
        let i = extended es s ok in
        all_joins ess (extend_by halts s es) i.keeps
        ∙ ap₂ (λ (x : List E) (c : C). x ++ joins step c ess) i.takes (sym (i.ends 0))
        ∙ append_assoc s (took step (after s) es) (joins step (through step (after s) 0 es).at ess)

    -- ---- one fold over all that was taken

    pub one_fold : Ok [] → (ess : List (List E)) → through step (after []) 0 (extend_all halts [] ess)
        ≡ record { at = after (extend_all halts [] ess); taken = length (extend_all halts [] ess); why = none }
    one_fold ok ess =
        let e : extend_all halts [] ess ≡ joins step (after []) ess = all_joins ess [] ok in
        ap (through step (after []) 0) e ∙ restarts_join step (after []) ess
        ∙ ap₂ (λ (c : C) (s : List E). record { at = c; taken = length s; why = none }) (all_ends ess [] ok) (sym e)

    -- every beginning of it is one that is taken whole
    begins_whole : Ok [] → (ess : List (List E)) (k : ℕ)
        → extend_all halts [] (take k (extend_all halts [] ess) ∷ []) ≡ take k (extend_all halts [] ess)
    unfolding extend_all
    begins_whole ok ess k =
        let J : List E = extend_all halts [] ess in
        let w : took step (after []) J ≡ J =
        none_took step (after []) 0 J (ap (λ (x : Ended C). x.why) (one_fold ok ess)) in
        (extended (take k J) [] ok).takes ∙ took_take step J (after []) k w

    pub fold_begins : Ok [] → (ess : List (List E)) (k : ℕ)
        → through step (after []) 0 (take k (extend_all halts [] ess))
        ≡ record {
          at = after (take k (extend_all halts [] ess));
          taken = length (take k (extend_all halts [] ess));
          why = none;
        }
    fold_begins ok ess k =
        let B : List E = take k (extend_all halts [] ess) in
        subst (λ (s : List E). through step (after []) 0 s ≡ record { at = after s; taken = length s; why = none })
        (begins_whole ok ess k) (one_fold ok (B ∷ []))

    pub begins_keeps : Ok [] → (ess : List (List E)) (k : ℕ) → Ok (take k (extend_all halts [] ess))
    begins_keeps ok ess k =
        subst Ok (begins_whole ok ess k) (all_keeps (take k (extend_all halts [] ess) ∷ []) [] ok)
