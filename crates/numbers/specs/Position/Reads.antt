-- read_at, case by case: one law for each way out of `read`. a, b and c are the bytes that stand there.
--     cut1, cut2, cut3        the bytes end before the first, second and third
--     one, two, three         a number of so many bytes
--     loose2, loose3, large3  a second or third byte of 0; a third above 3
--     drop_head               the bytes from a position on: the one there, and those after it
-- Not here: what callers need, `Position/Laws.antt`. Assumes nothing.
use Rattle.std.specs.Prelude.{ℕ, ◌+◌, ◌-◌, ◌*◌, ◌≤◌, ◌<◌, ◌≡◌, List, ◌∷◌, length, get_or, drop}
use native.Mathlib.Omega.{arith}
use Rattle.std.proofs.Common.{add-one, ap, sym, ◌∙◌, drop-cons}
use Rattle.std.proofs.Math.Path.{refl}
use Rattle.std.proofs.Math.ListN.{drop_of_length-le}
use borrow.Author.Tests.{le-ltb, lt-ltb, le-leb, lt-leb, eq-eqb, ne_eqb}
use Rattle.std.specs.declared.result.Result.{Result}
use Rattle.std.specs.declared.result.Result.TheVariants.{Ok, Err}
use Rattle.numbers.specs.declared.Reading.{Reading}
use Rattle.numbers.specs.declared.ReadError.{ReadError}
use Rattle.numbers.specs.declared.ReadError.TheVariants.{Truncated, Malformed}
use Rattle.numbers.specs.Number.{carry, later, scan_with, read_number}
use Rattle.numbers.specs.Position.{found, read_at}

pub drop_head : (s : List ℕ) (at : ℕ) → at < length s → drop at s ≡ get_or s at 0 ∷ drop (at + 1) s
drop_head s at h = rw (add-one, drop-cons s at 0) refl

-- what `read` answers of a number v and the position q after it
abbrev Value : ℕ → ℕ → Result Reading ReadError
Value v q = Ok (record { value = v; next = q })

value_path : (v w p q : ℕ) → v ≡ w → p ≡ q → Value v p ≡ Value w q
value_path v w p q e f = rw (e, f) refl

module _ (s : List ℕ) (at : ℕ) where
  pub cut1 : length s ≤ at → Err Truncated ≡ read_at s at
  unfolding read_at read_number scan_with found
  cut1 h = rw (drop_of_length-le s h) refl

  pub one : (a : ℕ) → at < length s → a ≡ get_or s at 0 → a < 128 → Value a (at + 1) ≡ read_at s at
  unfolding read_at read_number scan_with found
  one a h e l = rw (drop_head s at h, ← e) (simp (lt-ltb _ _ l))

  -- past a first byte that says that more follows
  more1 : at < length s → 128 ≤ get_or s at 0
      → found at (carry (get_or s at 0 - 128) (later 1 3 (drop (at + 1) s))) ≡ read_at s at
  unfolding read_at read_number scan_with
  more1 h l = rw (drop_head s at h) (simp (le-ltb _ _ l))

  pub cut2 : at < length s → 128 ≤ get_or s at 0 → length s ≤ at + 1 → Err Truncated ≡ read_at s at
  unfolding later carry found
  cut2 h l k = rw (← more1 h l, drop_of_length-le s k) refl

  module _ (h : at + 1 < length s) (l : 128 ≤ get_or s at 0) where
    at_second : found at (carry (get_or s at 0 - 128) (later 1 3 (get_or s (at + 1) 0 ∷ drop (at + 1 + 1) s))) ≡ read_at s at
    at_second =
        let h' : at < length s = omega arith in
        ap (λ (t : List ℕ). found at (carry (get_or s at 0 - 128) (later 1 3 t))) (sym (drop_head s (at + 1) h))
        ∙ more1 h' l

    pub loose2 : get_or s (at + 1) 0 ≡ 0 → Err Malformed ≡ read_at s at
    unfolding later carry found
    loose2 z = rw (← at_second) (simp (eq-eqb _ _ z))

    pub two : (a b : ℕ) → a ≡ get_or s at 0 → b ≡ get_or s (at + 1) 0 → (b ≡ 0 → ⊥) → b < 128
        → Value ((a - 128) + b * 128) (at + 1 + 1) ≡ read_at s at
    unfolding later carry found
    two a b e f z m =
        rw (← at_second, ← e, ← f) (simp (ne_eqb _ _ z, lt-ltb _ _ m) (value_path _ _ _ _ refl (omega arith)))

    module _ (m : 128 ≤ get_or s (at + 1) 0) where
      at_third :
          found at (carry (get_or s at 0 - 128) (carry (get_or s (at + 1) 0 - 128) (later 0 3 (drop (at + 1 + 1) s))))
          ≡ read_at s at
      unfolding later
      at_third =
          let z : (get_or s (at + 1) 0 ≡ 0 → ⊥) = λ q. omega arith in
          rw (← at_second) (simp (ne_eqb _ _ z, le-ltb _ _ m))

      pub cut3 : length s ≤ at + 1 + 1 → Err Truncated ≡ read_at s at
      unfolding later carry found
      cut3 k = rw (← at_third, drop_of_length-le s k) refl

      module _ (k : at + 1 + 1 < length s) where
        pub loose3 : get_or s (at + 1 + 1) 0 ≡ 0 → Err Malformed ≡ read_at s at
        unfolding later carry found
        loose3 z = rw (← at_third, drop_head s (at + 1 + 1) k) (simp (eq-eqb _ _ z))

        pub large3 : 3 < get_or s (at + 1 + 1) 0 → Err Malformed ≡ read_at s at
        unfolding later carry found
        large3 g =
            let z : (get_or s (at + 1 + 1) 0 ≡ 0 → ⊥) = λ q. omega arith in
            rw (← at_third, drop_head s (at + 1 + 1) k) (simp (ne_eqb _ _ z, lt-leb _ _ g))

        pub three : (a b c : ℕ) → a ≡ get_or s at 0 → b ≡ get_or s (at + 1) 0 → c ≡ get_or s (at + 1 + 1) 0
            → (c ≡ 0 → ⊥) → c ≤ 3
            → Value ((a - 128) + (b - 128) * 128 + c * 16384) (at + 1 + 1 + 1) ≡ read_at s at
        unfolding later carry found
        three a b c e f g z y =
            rw (← at_third, drop_head s (at + 1 + 1) k, ← e, ← f, ← g)
            (simp (ne_eqb _ _ z, le-leb _ _ y) (value_path _ _ _ _ (omega arith) (omega arith)))
