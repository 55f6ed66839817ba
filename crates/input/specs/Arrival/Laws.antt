-- What one read brings.
--     arrival_broken, arrival_full, arrival_ended, arrival_some    by what it answered
--     arrives                                                      it is what `arrive` promises
--     arrives_bytes                                                the bytes that came
-- Assumes nothing.
use Rattle.std.specs.Prelude.{ℕ, ◌≤◌, ◌<◌, ◌≡◌, Bool, cond, ltb, eqb, Result, Ok, Err}
use Rattle.std.proofs.Common.{subst, Continue, Break}
use Rattle.std.specs.declared.io.Error.{Error}
use native.Mathlib.Omega.{arith}
use Rattle.std.proofs.Math.Path.{refl}
use Rattle.std.proofs.Math.Bool.{true, false}
use borrow.Author.Tests.{ltb-true, eqb-false, lt-ltb, le-ltb, eq-eqb, ne_eqb}
use Rattle.input.specs.Arrival.{Arrived, after_arrival, Arrives}

-- ---- by what it answered

module _ (size : ℕ) where
  pub arrival_broken : (e : Error) → Err (record { error = e }) ≡ after_arrival size (Err e)
  unfolding after_arrival
  arrival_broken e = refl

  pub arrival_full : (k : ℕ) → size ≤ k → Ok (Continue size) ≡ after_arrival size (Ok k)
  unfolding after_arrival
  arrival_full k h = rw (le-ltb k size h)

  pub arrival_ended : (k : ℕ) → k < size → k ≡ 0 → Ok (Break (record { seal = tt })) ≡ after_arrival size (Ok k)
  unfolding after_arrival
  arrival_ended k h g = rw (lt-ltb k size h, eq-eqb k 0 g)

  pub arrival_some : (k : ℕ) → k < size → (k ≡ 0 → ⊥) → Ok (Continue k) ≡ after_arrival size (Ok k)
  unfolding after_arrival
  arrival_some k h g = rw (lt-ltb k size h, ne_eqb k 0 g)

  -- ---- what it promises

  -- k bytes, by the tests
  told : Bool → Bool → ℕ → Arrived
  told x y k = Ok (cond x (cond y (Break (record { seal = tt })) (Continue k)) (Continue size))

  by_tests : (k : ℕ) (x y : Bool) → ltb k size ≡ x → eqb k 0 ≡ y → Arrives size (told x y k)
  unfolding told
  by_tests k true true e f = omega (arith, ltb-true k size e)
  by_tests k true false e f =
      let n = eqb-false k 0 f in
      let l = ltb-true k size e in
      (omega arith, λ h. omega arith)
  by_tests k false y e f = (omega arith, λ h. h)

  pub arrives : (got : Result ℕ Error) → Arrives size (after_arrival size got)
  unfolding after_arrival told
  arrives (Ok k) = by_tests k (ltb k size) (eqb k 0) refl refl
  arrives (Err e) = tt

  pub arrives_bytes : (r : Arrived) → Arrives size r → (n : ℕ) → r ≡ Ok (Continue n) → (n ≤ size) × (0 < size → 0 < n)
  arrives_bytes r h n e = subst (Arrives size) e h
