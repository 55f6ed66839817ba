-- The word of a pair by its tests: one law per way out of `either_code`, `both_code` and `pair_code`. Assumes nothing.
use Rattle.std.specs.Prelude.{ℕ, ◌+◌, ◌*◌, ◌<◌, ◌≤◌, ◌≡◌, Bool, true, false}
use borrow.Author.Tests.{eq-eqb, ne_eqb, lt-ltb, le-ltb}
use Rattle.tree_ways.specs.Code.{many_code, each_in, also_in, either_code, lone_both, both_code, pair_code}

module _ (a b : ℕ) where
  pub either_told : also_in a + also_in b ≡ 0 → each_in a + each_in b + 8589934592 ≡ either_code a b
  unfolding either_code
  either_told z = rw (eq-eqb _ _ z, either_code)

  pub either_more : (also_in a + also_in b ≡ 0 → ⊥) → many_code ≡ either_code a b
  unfolding either_code
  either_more z = rw (ne_eqb _ _ z, either_code)

  pub both_more_first : many_code ≤ a → many_code ≡ both_code a b
  unfolding both_code
  both_more_first h = rw (le-ltb _ _ h, both_code)

  module _ (h : a < many_code) where
    pub both_more_second : many_code ≤ b → many_code ≡ both_code a b
    unfolding both_code
    both_more_second k = rw (lt-ltb _ _ h, le-ltb _ _ k, both_code)

    module _ (k : b < many_code) where
      pub both_lone_first : a < 8589934592 → b + (each_in a + also_in a) * 65536 ≡ both_code a b
      unfolding both_code lone_both
      both_lone_first z = rw (lt-ltb _ _ h, lt-ltb _ _ k, lt-ltb _ _ z, both_code, lone_both)

      pub both_lone_second : 8589934592 ≤ a → b < 8589934592 → a + (each_in b + also_in b) * 65536 ≡ both_code a b
      unfolding both_code lone_both
      both_lone_second z y = rw (lt-ltb _ _ h, lt-ltb _ _ k, le-ltb _ _ z, lt-ltb _ _ y, both_code, lone_both)

      pub both_neither : 8589934592 ≤ a → 8589934592 ≤ b → many_code ≡ both_code a b
      unfolding both_code lone_both
      both_neither z y = rw (lt-ltb _ _ h, lt-ltb _ _ k, le-ltb _ _ z, le-ltb _ _ y, both_code, lone_both)

  module _ (held : Bool) where
    pub pair_first_held : held ≡ true → a ≡ 0 → 0 ≡ pair_code a b held
    unfolding pair_code
    pair_first_held h z = rw (eq-eqb a 0 z, h)

    pub pair_first : held ≡ false → a ≡ 0 → b ≡ pair_code a b held
    unfolding pair_code
    pair_first h z = rw (eq-eqb a 0 z, h)

    module _ (z : a ≡ 0 → ⊥) where
      pub pair_second_held : held ≡ true → b ≡ 0 → 0 ≡ pair_code a b held
      unfolding pair_code
      pair_second_held h y = rw (ne_eqb a 0 z, eq-eqb b 0 y, h)

      pub pair_second : held ≡ false → b ≡ 0 → a ≡ pair_code a b held
      unfolding pair_code
      pair_second h y = rw (ne_eqb a 0 z, eq-eqb b 0 y, h)

      module _ (y : b ≡ 0 → ⊥) (v : ℕ) where
        pub pair_both : held ≡ true → v ≡ both_code a b → v ≡ pair_code a b held
        unfolding pair_code
        pair_both h e = rw (ne_eqb a 0 z, ne_eqb b 0 y, h) e

        pub pair_either : held ≡ false → v ≡ either_code a b → v ≡ pair_code a b held
        unfolding pair_code
        pair_either h e = rw (ne_eqb a 0 z, ne_eqb b 0 y, h) e
