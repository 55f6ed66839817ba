-- The equations of `or_else`, `unless` and `first_false`: no place is found exactly where all is as it should be, and a
-- place that is found is the first.
--     or_else_out, or_else_in, unless_out, unless_in  into and out of no place
--     first_false_append                              of two lists of tests, one after the other
--     first_in, first_out, pass_in, pass_out          `first_false` against `FirstAt` and `AllPass`
--     first_short                                     the first test that fails is one of the list
-- Assumes nothing.
use Rattle.std.specs.Prelude.{ℕ, zero, suc, ◌+◌, ◌<◌, ◌≡◌, refl, Bool, true, false, List, [], ◌∷◌, ◌++◌, length, T}
use Rattle.std.proofs.Common.{arith, sym, ap, ◌∙◌, get_or}
use Rattle.std.proofs.Math.Option.{Option, none, some}
use Rattle.table.specs.First.{or_else, unless, first_false, FirstAt, AllPass}

-- ---- or_else and unless
pub or_else_out : (a b : Option ℕ) → or_else a b ≡ none → (a ≡ none) × (b ≡ none)
unfolding or_else
or_else_out none b h = (refl, h)
or_else_out (some n) b h = let z : ◌≡◌ {A = ℕ} 0 1 = cc in absurd (omega arith)

pub or_else_in : (a b : Option ℕ) → a ≡ none → b ≡ none → or_else a b ≡ none
unfolding or_else
or_else_in a b h k = rw (h, k) refl

pub unless_out : (b : Bool) (at : ℕ) → unless b at ≡ none → T b
unfolding unless
unless_out true at h = tt
unless_out false at h = let z : ◌≡◌ {A = ℕ} 0 1 = cc in absurd (omega arith)

pub unless_in : (b : Bool) (at : ℕ) → T b → unless b at ≡ none
unfolding unless
unless_in true at h = refl
unless_in false at h = absurd h

pub or_else_assoc : (a b c : Option ℕ) → or_else (or_else a b) c ≡ or_else a (or_else b c)
unfolding or_else
or_else_assoc none b c = refl
or_else_assoc (some n) b c = refl

-- ---- first_false
pub first_false_append : (i : ℕ) (a b : List Bool)
    → first_false i (a ++ b) ≡ or_else (first_false i a) (first_false (i + length a) b)
unfolding first_false
first_false_append i [] b = let e : i + 0 ≡ i = omega arith in rw e (unfold or_else in refl)
first_false_append i (x ∷ a) b =
    let e : i + suc (length a) ≡ suc i + length a = omega arith in
    ap (or_else (unless x i)) (rw e (first_false_append (suc i) a b))
    ∙ sym (or_else_assoc (unless x i) (first_false (suc i) a) (first_false (i + suc (length a)) b))

pub first_in : (i j : ℕ) (l : List Bool) → FirstAt j l → first_false i l ≡ some (i + j)
unfolding first_false or_else unless
first_in i j [] f = let x = f.fails in let z : ◌≡◌ {A = ℕ} 0 1 = cc in absurd (omega arith)
first_in i zero (true ∷ l) f = let x = f.fails in let z : ◌≡◌ {A = ℕ} 0 1 = cc in absurd (omega arith)
first_in i zero (false ∷ l) f = let e : i ≡ i + 0 = omega arith in ap some e
first_in i (suc j) (true ∷ l) f =
    let e : suc i + j ≡ i + suc j = omega arith in
    first_in (suc i) j l (record { fails = f.fails; before = λ k h. f.before (suc k) (omega arith) }) ∙ ap some e
first_in i (suc j) (false ∷ l) f =
    let x = f.before 0 (omega arith) in let z : ◌≡◌ {A = ℕ} 0 1 = cc in absurd (omega arith)

pub pass_in : (i : ℕ) (l : List Bool) → AllPass l → first_false i l ≡ none
unfolding first_false or_else unless
pass_in i [] f = refl
pass_in i (true ∷ l) f = pass_in (suc i) l (λ j. f (suc j))
pass_in i (false ∷ l) f = let x = f 0 in let z : ◌≡◌ {A = ℕ} 0 1 = cc in absurd (omega arith)

pub pass_out : (i : ℕ) (l : List Bool) → first_false i l ≡ none → AllPass l
unfolding first_false or_else unless
pass_out i [] f j = refl
pass_out i (true ∷ l) f zero = refl
pass_out i (true ∷ l) f (suc j) = pass_out (suc i) l f j
pass_out i (false ∷ l) f j = let z : ◌≡◌ {A = ℕ} 0 1 = cc in absurd (omega arith)

pub first_out : (i k : ℕ) (l : List Bool) → first_false i l ≡ some k → (j : ℕ) × (k ≡ i + j) × FirstAt j l
unfolding first_false or_else unless
first_out i k [] h = let z : ◌≡◌ {A = ℕ} 0 1 = cc in absurd (omega arith)
first_out i k (true ∷ l) h =
    let r = first_out (suc i) k l h in
    let e = r.1 in
    let f = r.2 in (
      suc r.0,
      omega arith,
      record {
        fails = f.fails;
        before = λ j. elim j as (λ (v : ℕ). v < suc r.0 → get_or (true ∷ l) v true ≡ true)
            [ zero ↦ λ b. refl | suc m ↦ λ b. f.before m (omega arith) ];
      },
    )
first_out i k (false ∷ l) h =
    let e : k ≡ i = cc in (0, omega arith, record { fails = refl; before = λ j b. absurd (omega arith) })

pub first_short : (i : ℕ) (l : List Bool) → FirstAt i l → i < length l
first_short i [] f = let x = f.fails in let z : ◌≡◌ {A = ℕ} 0 1 = cc in absurd (omega arith)
first_short zero (b ∷ l) f = omega arith
first_short (suc i) (b ∷ l) f =
    let r = first_short i l (record { fails = f.fails; before = λ j h. f.before (suc j) (omega arith) }) in
    omega arith
