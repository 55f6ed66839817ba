-- Conditionals and computed tests, by cases. No function of 01 stands here.
--     cond_cases                a property of a conditional's value, from its two branches
--     T_true, true_T            a test that holds is true, and back
--     both, both_in             a conjunction taken apart, and made
--     either, either_left/right a disjunction taken apart, and made
-- Assumes nothing.
use Rattle.std.specs.Prelude.{◌≡◌, refl, ◌⊎◌, T}
use mathlib.Core.Bool.{Bool, true, false, cond, ◌&&◌, ◌||◌}
use Rattle.std.proofs.Common.{inl, inr}

pub cond_cases : {A : Type 0} (P : A → Type 0) (b : Bool) (x y : A)
    → (b ≡ true → P x) → (b ≡ false → P y) → P (cond b x y)
cond_cases P true x y f g = f refl
cond_cases P false x y f g = g refl

pub T_true : (b : Bool) → T b → b ≡ true
T_true true h = refl
T_true false h = absurd h

pub true_T : (b : Bool) → b ≡ true → T b
true_T true h = tt
true_T false h = let z : ◌≡◌ {A = Bool} false true = h in mathlib.Core.Bool.false≢true z

pub both : (a b : Bool) → T (a && b) → T a × T b
both true b h = (tt, h)
both false b h = absurd h

pub both_in : (a b : Bool) → T a → T b → T (a && b)
both_in true b x y = y
both_in false b x y = x

pub either : (a b : Bool) → T (a || b) → T a ⊎ T b
either true b h = inl tt
either false b h = inr h

pub either_left : (a b : Bool) → T a → T (a || b)
either_left true b h = tt
either_left false b h = absurd h

pub either_right : (a b : Bool) → T b → T (a || b)
either_right true b h = tt
either_right false b h = h
