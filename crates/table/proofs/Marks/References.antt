-- The grammar of set references sees their marked writings.
--     RefR        a set reference's marked writing
--     sees_ref    the law
-- Assumes nothing.
use Rattle.std.specs.Prelude.{ℕ, ◌≡◌, refl, Bool, length, get_or, ltb, leb}
use Rattle.std.proofs.Common.{sym, ◌∙◌}
use Rattle.std.proofs.Math.Path.{ap, subst}
use mathlib.Core.List.{List, [], ◌∷◌}
use Rattle.table.specs.Table.{SetRef, fixed, family, SetDef, one, each}
use Rattle.table.specs.Fields.{IsOne, IsEach}
use Rattle.table.specs.Parser.Mark.{Mark, mark}
use Rattle.table.proofs.Parser.Sees.{Sees, sees_iff, NumberR, PureR, sees_pure}
use Rattle.table.proofs.Parser.SeesThen.{ThenR, sees_then}
use Rattle.table.specs.Grammar.{ref_of_kind, set_ref}
use Rattle.table.specs.Marks.{ref_marks, RefShape}
use Rattle.table.proofs.Marks.Sequence.{join, last, AnyForm, any_number, then_pure}

module _ (sets : List SetDef) where
  abbrev pub RefR : SetRef → List Mark → Type 0
  RefR r M = RefShape sets r × (M ≡ ref_marks sets r)

  abbrev set_ok : ℕ → Bool
  set_ok s = ltb s (length sets)

  abbrev param_ok : ℕ → Bool
  param_ok k = leb k 3

  abbrev RefKindR : ℕ → SetDef → SetRef → List Mark → Type 0
  RefKindR s (one r) = PureR (fixed s)
  RefKindR s (each rs) = ThenR (NumberR param_ok AnyForm) (λ k. PureR (family s k))

  abbrev RefT : SetRef → List Mark → Type 0
  RefT = ThenR (NumberR set_ok AnyForm) (λ s. RefKindR s (get_or sets s (one [])))

  ref_kind_to : (s : ℕ) (d : SetDef) → get_or sets s (one []) ≡ d → (r : SetRef) (M N : List Mark) → RefKindR s d r N
      → M ≡ mark s (set_ok s) ∷ N → RefR r M
  unfolding ref_marks
  ref_kind_to s (one z) q r M N x e =
      subst (λ (y : SetRef). RefR y M) (sym x.0)
      (subst IsOne (sym q) tt, e ∙ ap (λ (L : List Mark). mark s (set_ok s) ∷ L) x.1)
  ref_kind_to s (each z) q r M N x e =
      let y = x.writes_two in
      subst (λ (v : SetRef). RefR v M) (sym y.0) (
        subst IsEach (sym q) tt,
        e ∙ ap (λ (L : List Mark). mark s (set_ok s) ∷ L)
            (last N x.one x.two x.whole y.1 ∙ x.writes_one.1),
      )

  ref_to : (r : SetRef) (M : List Mark) → RefT r M → RefR r M
  ref_to r M x =
      ref_kind_to x.first _ refl r M x.two x.writes_two
      (join M x.one x.two (mark x.first (set_ok x.first) ∷ []) x.two x.whole x.writes_one.1 refl)

  kind_one : (s : ℕ) (d : SetDef) → IsOne d → RefKindR s d (fixed s) []
  kind_one s (one r) h = (refl, refl)
  kind_one s (each rs) h = absurd h

  kind_each : (s k : ℕ) (d : SetDef) → IsEach d → RefKindR s d (family s k) (mark k (param_ok k) ∷ [])
  kind_each s k (one r) h = absurd h
  kind_each s k (each rs) h =
      then_pure (NumberR param_ok AnyForm) (family s) k (mark k (param_ok k) ∷ []) (tt, refl)

  ref_from : (r : SetRef) (M : List Mark) → RefR r M → RefT r M
  unfolding ref_marks
  ref_from (fixed s) M x =
      record {
        first = s;
        one = mark s (set_ok s) ∷ [];
        two = [];
        writes_one = (tt, refl);
        writes_two = kind_one s (get_or sets s (one [])) x.0;
        whole = x.1;
      }
  ref_from (family s k) M x =
      record {
        first = s;
        one = mark s (set_ok s) ∷ [];
        two = mark k (param_ok k) ∷ [];
        writes_one = (tt, refl);
        writes_two = kind_each s k (get_or sets s (one [])) x.0;
        whole = x.1;
      }

  sees_ref_kind : (s : ℕ) (d : SetDef) → Sees (RefKindR s d) (ref_of_kind s d)
  unfolding ref_of_kind
  sees_ref_kind s (one r) = sees_pure (fixed s)
  sees_ref_kind s (each rs) =
      sees_then (NumberR param_ok AnyForm) (λ k. PureR (family s k)) _ _ (any_number param_ok)
      (λ k M r. sees_pure (family s k))

  pub sees_ref : Sees RefR (set_ref sets)
  unfolding set_ref
  sees_ref =
      sees_iff RefT RefR _ ref_to ref_from
      (sees_then (NumberR set_ok AnyForm) (λ s. RefKindR s (get_or sets s (one []))) _ _ (any_number set_ok)
      (λ s M r. sees_ref_kind s (get_or sets s (one []))))
