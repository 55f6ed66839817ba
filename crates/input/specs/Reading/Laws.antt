-- What a read leaves.
--     read_broken, read_full, read_ended, read_more    by what it answered
--     more_grows, done_fills                           reading on goes further; what the buffer holds at the end
--     fills_part                                       the part of it that is the input's
-- Assumes nothing.
use Rattle.std.specs.Prelude.{ℕ, ◌+◌, ◌-◌, ◌≤◌, ◌<◌, Bool, cond, ltb, eqb, Result, Ok, Err}
use Rattle.std.proofs.Common.{Continue, Break}
use Rattle.std.specs.declared.ops.ControlFlow.{ControlFlow}
use Rattle.std.specs.declared.io.Error.{Error}
use native.Mathlib.Omega.{arith}
use Rattle.std.proofs.Math.Path.{◌≡◌, refl, subst}
use Rattle.std.proofs.Math.Bool.{true, false}
use borrow.Author.Tests.{ltb-true, eqb-false, lt-ltb, le-ltb, eq-eqb, ne_eqb}
use Rattle.input.specs.declared.reading.Part.{Part}
use Rattle.input.specs.declared.reading.Failure.{Failure}
use Rattle.input.specs.Reading.{after_read, Parts, Fills}

-- ---- by what it answered

pub negative : {X : Type 0} → true ≡ false → X
negative e = absurd (let z : ◌≡◌ {A = ℕ} 0 1 = cc in omega arith)

module _ (size n : ℕ) where
  pub read_broken : (e : Error) → Err (record { error = e }) ≡ after_read size n (Err e)
  unfolding after_read
  read_broken e = refl

  module _ (low : n ≤ size) where
    pub read_full : (k : ℕ) → size - n ≤ k
        → Ok (Break (record { count = size; last = false })) ≡ after_read size n (Ok k)
    unfolding after_read
    read_full k h = rw (le-ltb (n + k) size (omega arith))

    pub read_ended : (k : ℕ) → k < size - n → k ≡ 0
        → Ok (Break (record { count = n; last = true })) ≡ after_read size n (Ok k)
    unfolding after_read
    read_ended k h g = rw (lt-ltb (n + k) size (omega arith), eq-eqb k 0 g)

    pub read_more : (k : ℕ) → k < size - n → (k ≡ 0 → ⊥) → Ok (Continue (n + k)) ≡ after_read size n (Ok k)
    unfolding after_read
    read_more k h g = rw (lt-ltb (n + k) size (omega arith), ne_eqb k 0 g)

  -- ---- what it promises

  -- of k bytes more, by the tests
  told : Bool → Bool → ℕ → ControlFlow Part ℕ
  told x y k =
      cond x (cond y (Break (record { count = n; last = true })) (Continue (n + k)))
      (Break (record { count = size; last = false }))

  more_by : (m k : ℕ) (x y : Bool) → ltb (n + k) size ≡ x → eqb k 0 ≡ y → told x y k ≡ Continue m
      → (n < m) × (m < size)
  unfolding told
  more_by m k true false e f h =
      let g : n + k ≡ m = cc in
      let less = ltb-true (n + k) size e in
      (omega (arith, eqb-false k 0 f), omega arith)
  more_by m k true true e f h = absurd (let z : ◌≡◌ {A = ℕ} 0 1 = cc in omega arith)
  more_by m k false y e f h = absurd (let z : ◌≡◌ {A = ℕ} 0 1 = cc in omega arith)

  pub more_grows : (got : Result ℕ Error) (m : ℕ) → after_read size n got ≡ Ok (Continue m) → (n < m) × (m < size)
  unfolding after_read told
  more_grows (Ok k) m h =
      let g : told (ltb (n + k) size) (eqb k 0) k ≡ Continue m = cc in
      more_by m k (ltb (n + k) size) (eqb k 0) refl refl g
  more_grows (Err e) m h = absurd (let z : ◌≡◌ {A = ℕ} 0 1 = cc in omega arith)

  done_by : (p : Part) (k : ℕ) (x y : Bool) → ltb (n + k) size ≡ x → told x y k ≡ Break p → Parts size p
  unfolding told
  done_by p k true true e h =
      let g : ◌≡◌ {A = Part} (record { count = n; last = true }) p = cc in
      let less = ltb-true (n + k) size e in
      subst (Parts size) g (record { within = omega arith; full = λ i. negative i; short = λ i. omega arith })
  done_by p k true false e h = absurd (let z : ◌≡◌ {A = ℕ} 0 1 = cc in omega arith)
  done_by p k false y e h =
      let g : ◌≡◌ {A = Part} (record { count = size; last = false }) p = cc in
      subst (Parts size) g (record {
        within = omega arith;
        full = λ i. refl;
        short = λ i. absurd (let z : ◌≡◌ {A = ℕ} 0 1 = cc in omega arith);
      })

  pub done_fills : (got : Result ℕ Error) (p : Part) → after_read size n got ≡ Ok (Break p) → Fills size (Ok p)
  unfolding after_read told
  done_fills (Ok k) p h =
      let g : told (ltb (n + k) size) (eqb k 0) k ≡ Break p = cc in done_by p k (ltb (n + k) size) (eqb k 0) refl g
  done_fills (Err e) p h = absurd (let z : ◌≡◌ {A = ℕ} 0 1 = cc in omega arith)

pub fills_part : (size : ℕ) (f : Result Part Failure) → Fills size f → (p : Part) → f ≡ Ok p → Parts size p
fills_part size f h p e = subst (Fills size) e h
