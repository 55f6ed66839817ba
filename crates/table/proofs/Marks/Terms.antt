-- The grammar of terms sees their marked writings: one level of terms from the level below it.
--     sees_term    the law
-- Assumes nothing.
use Prim.Native.Nat.{ℕ, zero, suc, ◌+◌, ◌<◌}
use native.Mathlib.Omega.{arith}
use Rattle.std.specs.Prelude.{◌≡◌, refl, Bool, ◌&&◌, ltb}
use Rattle.std.proofs.Common.{sym, ap, ◌∙◌, ltb→lt}
use Rattle.std.proofs.Math.Path.{subst}
use Rattle.std.proofs.Math.Bool.{true}
use mathlib.Core.List.{List, [], ◌∷◌, ◌++◌}
use Rattle.numbers.specs.Choice.{both, true_T}
use Rattle.table.specs.Table.{Term, stop, fail, prefix, choice, par, call, SetDef, size}
use Rattle.table.specs.Parser.{Parser}
use Rattle.table.specs.Parser.Mark.{Mark, mark}
use Rattle.table.proofs.Parser.Sees.{Sees, sees_iff, NumberR, sees_number, PureR, sees_pure}
use Rattle.table.proofs.Parser.SeesThen.{ThenR, sees_then}
use Rattle.table.specs.Grammar.{term_of_kind, term_with}
use Rattle.table.specs.Marks.{ref_marks, kind_ok, one_less, term_marks}
use Rattle.table.proofs.Marks.Sequence.{join, last, AnyForm, any_number, then_pure}
use Rattle.table.proofs.Marks.References.{RefR, sees_ref}
use Rattle.table.proofs.Marks.TooDeep.{TermR, sees_deep}

module _ (sets : List SetDef) where
  module _ (deep n : ℕ) where
    abbrev kind_test : ℕ → Bool
    kind_test k = ltb k 6 && ltb n 1024

    abbrev Sub : ℕ → Term → List Mark → Type 0
    Sub m = TermR sets deep m

    abbrev PrefixR : Term → List Mark → Type 0
    PrefixR = ThenR (RefR sets) (λ r. ThenR (Sub (suc n)) (λ p. PureR (prefix r p)))

    abbrev ChoiceR : Term → List Mark → Type 0
    ChoiceR = ThenR (Sub (suc n)) (λ p. ThenR (Sub (suc n + size p)) (λ q. PureR (choice p q)))

    abbrev ParR : Term → List Mark → Type 0
    ParR = ThenR (RefR sets) (λ r. ThenR (Sub (suc n)) (λ p. ThenR (Sub (suc n + size p)) (λ q. PureR (par r p q))))

    abbrev CallR : Term → List Mark → Type 0
    CallR = ThenR (NumberR (λ d. true) AnyForm) (λ d. PureR (call d))

    abbrev KindR : ℕ → Term → List Mark → Type 0
    KindR zero = PureR stop
    KindR (suc zero) = PureR fail
    KindR (suc (suc zero)) = PrefixR
    KindR (suc (suc (suc zero))) = ChoiceR
    KindR (suc (suc (suc (suc zero)))) = ParR
    KindR (suc (suc (suc (suc (suc k))))) = CallR

    abbrev TermT : Term → List Mark → Type 0
    TermT = ThenR (NumberR kind_test (λ k. k < 6)) KindR

    under : (k : ℕ) (M N L : List Mark) → M ≡ mark k (ltb n 1024) ∷ N → N ≡ L → M ≡ mark k (ltb n 1024) ∷ L
    under k M N L e f = e ∙ ap (λ (x : List Mark). mark k (ltb n 1024) ∷ x) f

    -- two things, and nothing
    two_of : (N a b c d b' c' : List Mark) → N ≡ a ++ b → b ≡ c ++ d → d ≡ [] → a ≡ b' → c ≡ c' → N ≡ b' ++ c'
    two_of N a b c d b' c' e f z p q = join N a b b' c' e p (last b c d f z ∙ q)

    kind_to : (k : ℕ) → k < 6 → (p : Term) (M N : List Mark) → KindR k p N → M ≡ mark k (kind_test k) ∷ N
        → TermR sets (suc deep) n p M
    unfolding term_marks kind_ok one_less
    kind_to zero b p M N x e =
        subst (λ (y : Term). TermR sets (suc deep) n y M) (sym x.0) (tt, under 0 M N [] e x.1)
    kind_to (suc zero) b p M N x e =
        subst (λ (y : Term). TermR sets (suc deep) n y M) (sym x.0) (tt, under 1 M N [] e x.1)
    kind_to (suc (suc zero)) b p M N x e =
        let y = x.writes_two in
        let z = y.writes_two in
        subst (λ (v : Term). TermR sets (suc deep) n v M) (sym z.0) (
          (x.writes_one.0, y.writes_one.0),
          under 2 M N _ e
              (two_of N x.one x.two y.one y.two _ _ x.whole y.whole z.1 x.writes_one.1
              y.writes_one.1),
        )
    kind_to (suc (suc (suc zero))) b p M N x e =
        let y = x.writes_two in
        let z = y.writes_two in
        subst (λ (v : Term). TermR sets (suc deep) n v M) (sym z.0) (
          (tt, x.writes_one.0, y.writes_one.0),
          under 3 M N _ e
              (two_of N x.one x.two y.one y.two _ _ x.whole y.whole z.1 x.writes_one.1
              y.writes_one.1),
        )
    kind_to (suc (suc (suc (suc zero)))) b p M N x e =
        let w = x.writes_two in
        let y = w.writes_two in
        let z = y.writes_two in
        subst (λ (v : Term). TermR sets (suc deep) n v M) (sym z.0) (
          (x.writes_one.0, w.writes_one.0, y.writes_one.0),
          under 4 M N _ e
              (join N x.one x.two _ _ x.whole x.writes_one.1
              (two_of x.two w.one w.two y.one y.two _ _ w.whole y.whole z.1 w.writes_one.1
              y.writes_one.1)),
        )
    kind_to (suc (suc (suc (suc (suc k))))) b p M N x e =
        let y = x.writes_two in
        let q : suc (suc (suc (suc (suc k)))) ≡ 5 = omega arith in
        let e' = subst (λ (j : ℕ). M ≡ mark j (kind_test j) ∷ N) q e in
        subst (λ (v : Term). TermR sets (suc deep) n v M) (sym y.0)
        (tt, under 5 M N _ e' (last N x.one x.two x.whole y.1 ∙ x.writes_one.1))

    term_to : (p : Term) (M : List Mark) → TermT p M → TermR sets (suc deep) n p M
    term_to p M x =
        kind_to x.first x.writes_one.0 p M x.two x.writes_two
        (join M x.one x.two (mark x.first (kind_test x.first) ∷ []) x.two x.whole
        x.writes_one.1 refl)

    term_from : (p : Term) (M : List Mark) → TermR sets (suc deep) n p M → TermT p M
    unfolding term_marks kind_ok one_less
    term_from stop M x =
        record {
          first = 0;
          one = mark 0 (ltb n 1024) ∷ [];
          two = [];
          writes_one = (omega arith, refl);
          writes_two = (refl, refl);
          whole = x.1;
        }
    term_from fail M x =
        record {
          first = 1;
          one = mark 1 (ltb n 1024) ∷ [];
          two = [];
          writes_one = (omega arith, refl);
          writes_two = (refl, refl);
          whole = x.1;
        }
    term_from (prefix r p) M x =
        let R = ref_marks sets r in
        let P = term_marks sets deep (suc n) p in
        record {
          first = 2;
          one = mark 2 (ltb n 1024) ∷ [];
          two = R ++ P;
          writes_one = (omega arith, refl);
          writes_two = record {
            first = r;
            one = R;
            two = P;
            writes_one = (x.0.0, refl);
            writes_two = then_pure (Sub (suc n)) (prefix r) p P (x.0.1, refl);
            whole = refl;
          };
          whole = x.1;
        }
    term_from (choice p q) M x =
        let P = term_marks sets deep (suc n) p in
        let Q = term_marks sets deep (suc n + size p) q in
        record {
          first = 3;
          one = mark 3 (ltb n 1024) ∷ [];
          two = P ++ Q;
          writes_one = (omega arith, refl);
          writes_two = record {
            first = p;
            one = P;
            two = Q;
            writes_one = (x.0.1, refl);
            writes_two = then_pure (Sub (suc n + size p)) (choice p) q Q (x.0.2, refl);
            whole = refl;
          };
          whole = x.1;
        }
    term_from (par r p q) M x =
        let R = ref_marks sets r in
        let P = term_marks sets deep (suc n) p in
        let Q = term_marks sets deep (suc n + size p) q in
        record {
          first = 4;
          one = mark 4 (ltb n 1024) ∷ [];
          two = R ++ (P ++ Q);
          writes_one = (omega arith, refl);
          writes_two = record {
            first = r;
            one = R;
            two = P ++ Q;
            writes_one = (x.0.0, refl);
            writes_two = record {
              first = p;
              one = P;
              two = Q;
              writes_one = (x.0.1, refl);
              writes_two = then_pure (Sub (suc n + size p)) (par r p) q Q (x.0.2, refl);
              whole = refl;
            };
            whole = refl;
          };
          whole = x.1;
        }
    term_from (call d) M x =
        record {
          first = 5;
          one = mark 5 (ltb n 1024) ∷ [];
          two = mark d true ∷ [];
          writes_one = (omega arith, refl);
          writes_two = then_pure (NumberR (λ c. true) AnyForm) call d (mark d true ∷ []) (tt, refl);
          whole = x.1;
        }

    module _ (sub : ℕ → Parser Term) (s : (m : ℕ) → Sees (Sub m) (sub m)) where
      sees_kind : (k : ℕ) → Sees (KindR k) (term_of_kind sets n sub k)
      unfolding term_of_kind
      sees_kind zero = sees_pure stop
      sees_kind (suc zero) = sees_pure fail
      sees_kind (suc (suc zero)) =
          sees_then (RefR sets) (λ r. ThenR (Sub (suc n)) (λ p. PureR (prefix r p))) _ _ (sees_ref sets)
          (λ r M x. sees_then (Sub (suc n)) (λ p. PureR (prefix r p)) _ _ (s (suc n)) (λ p N y. sees_pure (prefix r p)))
      sees_kind (suc (suc (suc zero))) =
          sees_then (Sub (suc n)) (λ p. ThenR (Sub (suc n + size p)) (λ q. PureR (choice p q))) _ _ (s (suc n))
          (λ p M x. sees_then (Sub (suc n + size p)) (λ q. PureR (choice p q)) _ _ (s (suc n + size p))
          (λ q N y. sees_pure (choice p q)))
      sees_kind (suc (suc (suc (suc zero)))) =
          sees_then (RefR sets) (λ r. ThenR (Sub (suc n)) (λ p. ThenR (Sub (suc n + size p)) (λ q. PureR (par r p q))))
          _ _
          (sees_ref sets)
          (λ r M x. sees_then (Sub (suc n)) (λ p. ThenR (Sub (suc n + size p)) (λ q. PureR (par r p q))) _ _ (s (suc n))
          (λ p N y. sees_then (Sub (suc n + size p)) (λ q. PureR (par r p q)) _ _ (s (suc n + size p))
          (λ q L z. sees_pure (par r p q))))
      sees_kind (suc (suc (suc (suc (suc k))))) =
          sees_then (NumberR (λ d. true) AnyForm) (λ d. PureR (call d)) _ _ (any_number (λ d. true))
          (λ d M x. sees_pure (call d))

    kind_form : (v : ℕ) → kind_test v ≡ true → v < 6
    kind_form v e = ltb→lt v 6 (both (ltb v 6) (ltb n 1024) (true_T (kind_test v) e)).0

  pub sees_term : (deep n : ℕ) → Sees (TermR sets deep n) (term_with sets deep n)
  unfolding term_with
  sees_term zero n = sees_deep sets n
  sees_term (suc deep) n =
      sees_iff (TermT deep n) (TermR sets (suc deep) n) _ (term_to deep n) (term_from deep n)
      (sees_then (NumberR (kind_test deep n) (λ k. k < 6)) (KindR deep n) _ _
      (sees_number (kind_test deep n) (λ k. k < 6) 0 (omega arith) (kind_form deep n))
      (λ k M r. sees_kind deep n (λ m. term_with sets deep m) (λ m. sees_term deep m) k))
