-- Marked writings put together: one after another, and so many of one kind.
--     join, last           a list of marks in two parts, each known; the second of them empty
--     AnyForm, any_number  one number of any form
--     then_pure            a writing and nothing after it
--     ItemR, SeqR          the marked writings of one thing, of so many things
--     sees_times           `Sees` is kept by `times`
-- Assumes nothing.
use Prim.Native.Nat.{ℕ, zero, suc}
use native.Mathlib.Omega.{arith}
use Rattle.std.specs.Prelude.{◌≡◌, refl, Bool, length}
use Rattle.std.proofs.Common.{sym, ◌∙◌}
use Rattle.std.proofs.Math.Path.{ap, subst}
use mathlib.Core.List.{List, [], ◌∷◌, ◌++◌, flat_map, append-nil}
use Rattle.numbers.specs.Every.{All}
use Rattle.table.specs.Parser.{Parser, number, pure, times}
use Rattle.table.specs.Parser.Mark.{Mark}
use Rattle.table.proofs.Parser.Sees.{Sees, sees_iff, NumberR, sees_number, PureR, sees_pure}
use Rattle.table.proofs.Parser.SeesThen.{ThenR, sees_then}

-- ---- lists of marks
pub join : (M a b a' b' : List Mark) → M ≡ a ++ b → a ≡ a' → b ≡ b' → M ≡ a' ++ b'
join M a b a' b' e p q = cc

pub last : (M a b : List Mark) → M ≡ a ++ b → b ≡ [] → M ≡ a
last M a b e p = e ∙ ap (λ (x : List Mark). a ++ x) p ∙ append-nil a

abbrev pub AnyForm : ℕ → Type 0
AnyForm v = Unit

pub any_number : (ok : ℕ → Bool) → Sees (NumberR ok AnyForm) (number ok)
any_number ok = sees_number ok AnyForm 0 tt (λ v e. tt)

module _ {A B : Type 0} (R : A → List Mark → Type 0) (f : A → B) where
  pub then_pure : (a : A) (M : List Mark) → R a M → ThenR R (λ x. PureR (f x)) (f a) M
  then_pure a M h =
      record { first = a; one = M; two = []; writes_one = h; writes_two = (refl, refl); whole = sym (append-nil M) }

-- ---- so many things
module _ {A : Type 0} (X : A → Type 0) (w : A → List Mark) where
  abbrev pub ItemR : A → List Mark → Type 0
  ItemR a M = X a × (M ≡ w a)

  abbrev pub SeqR : ℕ → List A → List Mark → Type 0
  SeqR n l M = (length l ≡ n) × All X l × (M ≡ flat_map w l)

  abbrev SeqT : ℕ → List A → List Mark → Type 0
  SeqT n = ThenR ItemR (λ a. ThenR (SeqR n) (λ l. PureR (a ∷ l)))

  seq_to : (n : ℕ) (l : List A) (M : List Mark) → SeqT n l M → SeqR (suc n) l M
  unfolding flat_map
  seq_to n l M x =
      let y = x.writes_two in
      let a = x.first in
      let v = y.writes_one in
      let z = y.writes_two in
      let k = v.0 in
      subst (λ (b : List A). SeqR (suc n) b M) (sym z.0) (
        ap suc k,
        (x.writes_one.0, v.1),
        join M x.one x.two (w a) (flat_map w y.first) x.whole x.writes_one.1
            (last x.two y.one y.two y.whole z.1 ∙ v.2),
      )

  seq_from : (n : ℕ) (l : List A) (M : List Mark) → SeqR (suc n) l M → SeqT n l M
  unfolding flat_map
  seq_from n [] M x = let k = x.0 in absurd (omega arith)
  seq_from n (a ∷ l) M x =
      let k = x.0 in
      record {
        first = a;
        one = w a;
        two = flat_map w l;
        writes_one = (x.1.0, refl);
        writes_two = then_pure (SeqR n) (λ b. a ∷ b) l (flat_map w l) (omega arith, x.1.1, refl);
        whole = x.2;
      }

  none_is : (l : List A) → length l ≡ 0 → l ≡ []
  none_is [] h = refl
  none_is (a ∷ l) h = absurd (omega arith)

  pub sees_times : (p : Parser A) → Sees ItemR p → (n : ℕ) → Sees (SeqR n) (times n p)
  unfolding times flat_map
  sees_times p s zero =
      sees_iff (PureR []) (SeqR zero) (pure [])
      (λ l M x. subst (λ (b : List A). SeqR zero b M) (sym x.0) (refl, tt, x.1))
      (λ l M x. let e = none_is l x.0 in (e, x.2 ∙ ap (flat_map w) e)) (sees_pure [])
  sees_times p s (suc n) =
      sees_iff (SeqT n) (SeqR (suc n)) _ (seq_to n) (seq_from n)
      (sees_then ItemR (λ a. ThenR (SeqR n) (λ l. PureR (a ∷ l))) _ _ s
      (λ a M r. sees_then (SeqR n) (λ l. PureR (a ∷ l)) _ _ (sees_times p s n) (λ l N q. sees_pure (a ∷ l))))
