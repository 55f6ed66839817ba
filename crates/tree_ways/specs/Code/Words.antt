-- The word of a leaf, and the way that a word says: one law per way out of `leaf_code` and `decode`.
--     leaf_still, leaf_none, leaf_lone, leaf_several    `leaf_code`
--     decode_still, decode_many, decode_moving          `decode`
-- Assumes nothing.
use Rattle.std.specs.Prelude.{ℕ, zero, suc, ◌+◌, ◌*◌, ◌%◌, ◌<◌, ◌≤◌, ◌^◌, ◌≡◌, refl, Bool, true, false, ltb}
use Rattle.std.proofs.Common.{arith, mod-eq_of_lt, ap, sym, ◌∙◌, pow_mono, lt-ltb, le-ltb}
use Rattle.table.specs.Table.{Table}
use Rattle.table.specs.Branches.{branches}
use Rattle.table.specs.Branches.Capped.{capped}
use Rattle.table.specs.Node.{term_of}
use Rattle.tree_ways.specs.declared.only.Way.{Way}
use Rattle.tree_ways.specs.declared.only.Way.TheVariants.{Still, Moving, Many}
use Rattle.tree_ways.specs.declared.only.Moves.{Moves}
use Rattle.node_word.specs.Word.{term_of_word}
use Rattle.resolving.specs.Words.{kind_at, holds_at}
use Rattle.tree_ways.specs.Only.{marks_of, leaf_moves, count_way, leaf_way}
use Rattle.tree_ways.specs.Only.Laws.{way_held}
use Rattle.tree_ways.specs.Code.{many_code, code_by, way_code, each_in, also_in, DecodedWay}
use Rattle.tree_ways.specs.Code.Laws.{parts_in, below_many, not_none}

-- ---- leaf_code

several : (c : ℕ) → 2 ≤ c → count_way c ≡ Moving (leaf_moves false)
several zero h = absurd (omega arith)
several (suc zero) h = absurd (omega arith)
several (suc (suc c)) h = refl

count_capped : (x : ℕ) → count_way (capped x) ≡ count_way x
unfolding capped
count_capped zero = refl
count_capped (suc zero) = refl
count_capped (suc (suc x)) = several (capped (suc (suc x))) (omega arith)

bit_small : (j : ℕ) → j < 15 → 1 * 2 ^ j < 32768
bit_small j h =
    let z : 2 ^ j ≤ 2 ^ 14 = pow_mono {i = j} {j = 14} (omega arith) in
    omega (arith, z)

bit_whole : (j : ℕ) → j < 15 → 1 * 2 ^ j % 18446744073709551616 ≡ 1 * 2 ^ j
bit_whole j h = mod-eq_of_lt (omega (arith, bit_small j h))

pub bit_shifted : (j : ℕ) → j < 15 → 1 * 2 ^ j % 18446744073709551616 < 32768
bit_shifted j h = omega (arith, bit_small j h, bit_whole j h)

bit_code : (j b k : ℕ) → j < 15 → b ≡ 1 * 2 ^ j % 18446744073709551616 → b + k ≡ 1 * 2 ^ j + 0 * 2 ^ j * 65536 + k
bit_code j b k h e = omega (arith, e, bit_whole j h)

module _ (t : Table) (e w j : ℕ) where
  pub leaf_still : Still ≡ leaf_way t e w → 0 ≡ way_code (leaf_way t e w) j
  leaf_still h = ap (λ (v : Way). way_code v j) h

  module _ (k : kind_at t w ≡ 2) (h : holds_at t e w ≡ true) (i c : ℕ) (ei : i ≡ term_of_word w)
      (ec : c ≡ capped (branches t (term_of t (i + 1)))) where
    counted : leaf_way t e w ≡ count_way c
    counted =
        way_held t e w k h ∙ sym (count_capped (branches t (term_of t (term_of_word w + 1)))) ∙ rw (← ei, ← ec)

    pub leaf_none : c ≡ 0 → 0 ≡ way_code (leaf_way t e w) j
    leaf_none z = leaf_still (sym (counted ∙ ap count_way z))

    module _ (small : j < 15) (b : ℕ) (eb : b ≡ 1 * 2 ^ j % 18446744073709551616) where
      pub leaf_lone : c ≡ 1 → b + 4294967296 ≡ way_code (leaf_way t e w) j
      leaf_lone z =
          bit_code j b 4294967296 small eb ∙ sym (ap (λ (v : Way). way_code v j) (counted ∙ ap count_way z))

      pub leaf_several : 2 ≤ c → b + 8589934592 ≡ way_code (leaf_way t e w) j
      leaf_several z =
          bit_code j b 8589934592 small eb ∙ sym (ap (λ (v : Way). way_code v j) (counted ∙ several c z))

-- ---- decode

same_moves : (m : Moves) (x u : ℕ) (o : Bool) → x ≡ m.each → u ≡ m.also → o ≡ m.lone
    → ◌≡◌ {A = Moves} (record { each = x; also = u; lone = o }) m
same_moves m x u o p q r = rw (p, q, r)

lone_in : (x u : ℕ) (o : Bool) → x + u < 65536 → ltb (code_by x u o) 8589934592 ≡ o
lone_in x u true h = lt-ltb (code_by x u true) 8589934592 (omega arith)
lone_in x u false h = le-ltb (code_by x u false) 8589934592 (omega arith)

at_root : (m : Moves) → way_code (Moving m) 0 ≡ code_by m.each m.also m.lone
at_root m =
    let x : m.each * 2 ^ 0 ≡ m.each = omega arith in
    let u : m.also * 2 ^ 0 ≡ m.also = omega arith in
    rw (x, u)

module _ (v : ℕ) where
  pub decode_still : v ≡ 0 → DecodedWay v Still
  decode_still z = record { of = told }
    where
      told : (w : Way) → marks_of w < 65536 → v ≡ way_code w 0 → Still ≡ w
      told Still h g = refl
      told (Moving m) h g = absurd (not_none _ _ m.lone (sym g ∙ z))
      told Many h g = absurd (omega arith)

  pub decode_many : many_code ≤ v → DecodedWay v Many
  decode_many z = record { of = told }
    where
      told : (w : Way) → marks_of w < 65536 → v ≡ way_code w 0 → Many ≡ w
      told Still h g = absurd (omega arith)
      told (Moving m) h g =
          absurd (omega (arith, below_many m.each m.also m.lone h, g ∙ at_root m, z))
      told Many h g = refl

  pub decode_moving : (v ≡ 0 → ⊥) → v < many_code
      → DecodedWay v (Moving (record { each = each_in v; also = also_in v; lone = ltb v 8589934592 }))
  decode_moving z y = record { of = told }
    where
      told : (w : Way) → marks_of w < 65536 → v ≡ way_code w 0
          → Moving (record { each = each_in v; also = also_in v; lone = ltb v 8589934592 }) ≡ w
      told Still h g = absurd (z g)
      told (Moving m) h g =
          let c : v ≡ code_by m.each m.also m.lone = g ∙ at_root m in
          let parts = parts_in m.each m.also m.lone (omega (arith, h)) (omega (arith, h)) in
          ap (λ (x : Moves). Moving x)
          (same_moves m _ _ _ (ap each_in c ∙ parts.0) (ap also_in c ∙ parts.1)
          (ap (λ (x : ℕ). ltb x 8589934592) c ∙ lone_in m.each m.also m.lone h))
      told Many h g = absurd (omega (arith, g, y))
