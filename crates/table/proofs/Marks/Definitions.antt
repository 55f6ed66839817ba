-- The grammar of definitions sees their marked writings.
--     DefinitionsR        the marked writing of so many definitions, the first of whose terms has a given number
--     sees_definitions    the law
-- Assumes nothing.
use Prim.Native.Nat.{ℕ, zero, suc, ◌+◌}
use native.Mathlib.Omega.{arith}
use Rattle.std.specs.Prelude.{◌≡◌, refl, Bool, length, leb}
use Rattle.std.proofs.Common.{sym, ◌∙◌}
use Rattle.std.proofs.Math.Path.{ap, subst}
use mathlib.Core.List.{List, [], ◌∷◌}
use Rattle.numbers.specs.Every.{All}
use Rattle.table.specs.Table.{Term, SetDef, Definition, size}
use Rattle.table.specs.Parser.{pure}
use Rattle.table.specs.Parser.Mark.{Mark, mark}
use Rattle.table.proofs.Parser.Sees.{Sees, sees_iff, NumberR, PureR, sees_pure}
use Rattle.table.proofs.Parser.SeesThen.{ThenR, sees_then}
use Rattle.table.specs.Grammar.{definition, definitions_of}
use Rattle.table.specs.Marks.{term_marks, definition_marks, definitions_marks, BodyShape}
use Rattle.table.proofs.Marks.Sequence.{join, last, AnyForm, any_number, then_pure}
use Rattle.table.proofs.Marks.TooDeep.{TermR}
use Rattle.table.proofs.Marks.Terms.{sees_term}

module _ (sets : List SetDef) where
  abbrev level_ok : ℕ → Bool
  level_ok l = leb l 7

  abbrev defined : ℕ → Term → Definition
  defined l p = record { level = l; body = p }

  abbrev DefinitionR : ℕ → Definition → List Mark → Type 0
  DefinitionR n d M = BodyShape sets d × (M ≡ definition_marks sets n d)

  abbrev DefinitionT : ℕ → Definition → List Mark → Type 0
  DefinitionT n = ThenR (NumberR level_ok AnyForm) (λ l. ThenR (TermR sets 32 n) (λ p. PureR (defined l p)))

  definition_to : (n : ℕ) (d : Definition) (M : List Mark) → DefinitionT n d M → DefinitionR n d M
  unfolding definition_marks
  definition_to n d M x =
      let y = x.writes_two in
      let z = y.writes_two in
      let l = x.first in
      subst (λ (v : Definition). DefinitionR n v M) (sym z.0) (
        y.writes_one.0,
        join M x.one x.two (mark l (level_ok l) ∷ []) (term_marks sets 32 n y.first) x.whole
            x.writes_one.1
            (last x.two y.one y.two y.whole z.1 ∙ y.writes_one.1),
      )

  definition_from : (n : ℕ) (d : Definition) (M : List Mark) → DefinitionR n d M → DefinitionT n d M
  unfolding definition_marks
  definition_from n d M x =
      let P = term_marks sets 32 n d.body in
      record {
        first = d.level;
        one = mark d.level (level_ok d.level) ∷ [];
        two = P;
        writes_one = (tt, refl);
        writes_two = then_pure (TermR sets 32 n) (defined d.level) d.body P (x.0, refl);
        whole = x.1;
      }

  sees_definition : (n : ℕ) → Sees (DefinitionR n) (definition sets n)
  unfolding definition
  sees_definition n =
      sees_iff (DefinitionT n) (DefinitionR n) _ (definition_to n) (definition_from n)
      (sees_then (NumberR level_ok AnyForm) (λ l. ThenR (TermR sets 32 n) (λ p. PureR (defined l p))) _ _
      (any_number level_ok)
      (λ l M r. sees_then (TermR sets 32 n) (λ p. PureR (defined l p)) _ _ (sees_term sets 32 n)
      (λ p N q. sees_pure (defined l p))))

  abbrev pub DefinitionsR : ℕ → ℕ → List Definition → List Mark → Type 0
  DefinitionsR c n ds M = (length ds ≡ c) × All (BodyShape sets) ds × (M ≡ definitions_marks sets n ds)

  abbrev DefinitionsT : ℕ → ℕ → List Definition → List Mark → Type 0
  DefinitionsT c n = ThenR (DefinitionR n) (λ d. ThenR (DefinitionsR c (n + size d.body)) (λ ds. PureR (d ∷ ds)))

  definitions_to : (c n : ℕ) (ds : List Definition) (M : List Mark) → DefinitionsT c n ds M
      → DefinitionsR (suc c) n ds M
  unfolding definitions_marks
  definitions_to c n ds M x =
      let y = x.writes_two in
      let d = x.first in
      let v = y.writes_one in
      let z = y.writes_two in
      let k = v.0 in
      subst (λ (b : List Definition). DefinitionsR (suc c) n b M) (sym z.0) (
        ap suc k,
        (x.writes_one.0, v.1),
        join M x.one x.two (definition_marks sets n d) (definitions_marks sets (n + size d.body) y.first)
            x.whole x.writes_one.1
            (last x.two y.one y.two y.whole z.1 ∙ v.2),
      )

  definitions_from : (c n : ℕ) (ds : List Definition) (M : List Mark) → DefinitionsR (suc c) n ds M
      → DefinitionsT c n ds M
  unfolding definitions_marks
  definitions_from c n [] M x = let k = x.0 in absurd (omega arith)
  definitions_from c n (d ∷ ds) M x =
      let k = x.0 in
      let D = definitions_marks sets (n + size d.body) ds in
      record {
        first = d;
        one = definition_marks sets n d;
        two = D;
        writes_one = (x.1.0, refl);
        writes_two = then_pure (DefinitionsR c (n + size d.body)) (λ b. d ∷ b) ds D (omega arith, x.1.1, refl);
        whole = x.2;
      }

  none_is : (l : List Definition) → length l ≡ 0 → l ≡ []
  none_is [] h = refl
  none_is (a ∷ l) h = absurd (omega arith)

  pub sees_definitions : (c n : ℕ) → Sees (DefinitionsR c n) (definitions_of sets c n)
  unfolding definitions_of definitions_marks
  sees_definitions zero n =
      sees_iff (PureR []) (DefinitionsR zero n) (pure [])
      (λ l M x. subst (λ (b : List Definition). DefinitionsR zero n b M) (sym x.0) (refl, tt, x.1))
      (λ l M x. let e = none_is l x.0 in (e, x.2 ∙ ap (definitions_marks sets n) e)) (sees_pure [])
  sees_definitions (suc c) n =
      sees_iff (DefinitionsT c n) (DefinitionsR (suc c) n) _ (definitions_to c n) (definitions_from c n)
      (sees_then (DefinitionR n) (λ d. ThenR (DefinitionsR c (n + size d.body)) (λ ds. PureR (d ∷ ds))) _ _
      (sees_definition n)
      (λ d M r. sees_then (DefinitionsR c (n + size d.body)) (λ ds. PureR (d ∷ ds)) _ _
      (sees_definitions c (n + size d.body)) (λ ds N q. sees_pure (d ∷ ds))))
