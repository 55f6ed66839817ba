-- The word of a pair is made of those of its sides.
--     parts_in, below_many, not_none    the word of moves
--     both-.., either-..                both sides move
--     bits_at                           the bits of a pair at its place
--     code_small, code_pair             a way's word is below the bound; the word of a pair
--     marks_one, marks_fit              the marks of a residual and of a pair's sides have sixteen bits
-- Assumes nothing.
use Rattle.std.specs.Prelude.{ℕ, suc, ◌+◌, ◌*◌, ◌<◌, ◌≤◌, ◌^◌, ◌≡◌, refl, Bool, true, false, length}
use Rattle.std.proofs.Common.{arith, add-one, pow-suc, mul_assoc, mul_comm, mul-le-mul_left, mul-le-mul_right, suc-mul, add-mul, sym, ◌∙◌, pow-add, pow_mono, pow_pos, eq-eqb, ne_eqb}
use Rattle.std.proofs.Math.Decide.{ℕ_discrete}
use Rattle.table.specs.Table.{Table}
use Rattle.residuals.specs.Residual.{Residual}
use Rattle.residuals.specs.Slots.{nodes}
use Rattle.tree_ways.specs.declared.only.Way.{Way}
use Rattle.tree_ways.specs.declared.only.Way.TheVariants.{Still, Moving, Many}
use Rattle.tree_ways.specs.declared.only.Moves.{Moves}
use Rattle.tree_ways.specs.Only.{marks_of, bits_of, pair_moves, either_way, both_by, pair_way, way_of}
use Rattle.tree_ways.specs.Only.Marks.{combined, marks_small}
use Rattle.tree_ways.specs.Code.{many_code, code_bound, code_by, way_code, each_in, also_in}
use Rattle.tree_ways.specs.Code.{either_code, both_code, pair_code}
use Rattle.tree_ways.specs.Code.Cases.{either_told, either_more, both_more_first, both_more_second}
use Rattle.tree_ways.specs.Code.Cases.{both_lone_first, both_lone_second, both_neither}
use Rattle.tree_ways.specs.Code.Cases.{pair_first_held, pair_first, pair_second_held, pair_second}
use Rattle.tree_ways.specs.Code.Cases.{pair_both, pair_either}

-- ---- words

pub parts_in : (x u : ℕ) (o : Bool) → x < 65536 → u < 65536
    → (each_in (code_by x u o) ≡ x) × (also_in (code_by x u o) ≡ u)
parts_in x u true h k = (omega arith, omega arith)
parts_in x u false h k = (omega arith, omega arith)

pub below_many : (x u : ℕ) (o : Bool) → x + u < 65536 → code_by x u o < many_code
below_many x u true h = omega arith
below_many x u false h = omega arith

pub not_none : (x u : ℕ) (o : Bool) → code_by x u o ≡ 0 → ⊥
not_none x u true h = omega arith
not_none x u false h = omega arith

module _ (x u y v : ℕ) (f : x + u + (y + v) < 65536) where
  pub both_first : (q : Bool) → both_code (code_by x u true) (code_by y v q) ≡ code_by y (x + u + v) q
  both_first q =
      let parts = parts_in x u true (omega arith) (omega arith) in
      sym (both_lone_first _ _ (below_many x u true (omega arith)) (below_many y v q (omega arith)) (omega arith))
      ∙ rw (parts.0, parts.1) (omega arith)

  pub both_second : both_code (code_by x u false) (code_by y v true) ≡ code_by x (u + (y + v)) false
  both_second =
      let parts = parts_in y v true (omega arith) (omega arith) in
      sym (both_lone_second (code_by x u false) (code_by y v true) (omega arith) (omega arith) (omega arith)
      (omega arith))
      ∙ rw (parts.0, parts.1) (omega arith)

  pub both_many : both_code (code_by x u false) (code_by y v false) ≡ many_code
  both_many =
      sym (both_neither (code_by x u false) (code_by y v false) (omega arith) (omega arith) (omega arith) (omega arith))

  module _ (o q : Bool) where
    also_sum : also_in (code_by x u o) + also_in (code_by y v q) ≡ u + v
    also_sum =
        rw ((parts_in x u o (omega arith) (omega arith)).1, (parts_in y v q (omega arith) (omega arith)).1)

    pub either_none : u + v ≡ 0 → either_code (code_by x u o) (code_by y v q) ≡ code_by (x + y) 0 false
    either_none z =
        sym (either_told _ _ (also_sum ∙ z))
        ∙ rw ((parts_in x u o (omega arith) (omega arith)).0, (parts_in y v q (omega arith) (omega arith)).0)
        (omega arith)

    pub either_some : (u + v ≡ 0 → ⊥) → either_code (code_by x u o) (code_by y v q) ≡ many_code
    either_some z = sym (either_more _ _ (λ s. z (sym also_sum ∙ s)))

-- ---- a side is perhaps more, or still

many_some : many_code ≡ 0 → ⊥
many_some z = omega arith

also_first : (x : ℕ) → also_in many_code + x ≡ 0 → ⊥
also_first x z = omega arith

also_second : (x : ℕ) → x + also_in many_code ≡ 0 → ⊥
also_second x z = omega arith

still_first : (b : ℕ) → (pair_code 0 b true ≡ 0) × (pair_code 0 b false ≡ b)
still_first b = (sym (pair_first_held 0 b true refl refl), sym (pair_first 0 b false refl refl))

still_second : (a : ℕ) → (a ≡ 0 → ⊥) → (pair_code a 0 true ≡ 0) × (pair_code a 0 false ≡ a)
still_second a z = (sym (pair_second_held a 0 true z refl refl), sym (pair_second a 0 false z refl refl))

none_still : (a b : ℕ) → (a ≡ 0 → ⊥) → (b ≡ 0 → ⊥) → (pair_code a b true ≡ both_code a b)
    × (pair_code a b false ≡ either_code a b)
none_still a b z y = (sym (pair_both a b true z y _ refl refl), sym (pair_either a b false z y _ refl refl))

-- ---- the bits of a pair at its place

pub bits_at : (x y n p : ℕ) → bits_of x y n * 2 ^ p ≡ x * 2 ^ (p + 1) + y * 2 ^ (p + n)
bits_at x y n p =
    let first : 2 ^ (p + 1) ≡ 2 * 2 ^ p = rw (add-one p, pow-suc 2 p) (mul_comm (2 ^ p) 2) in
    let second : 2 ^ (p + n) ≡ 2 ^ n * 2 ^ p = pow-add 2 p n ∙ mul_comm (2 ^ p) (2 ^ n) in
    let a : x * 2 ^ (p + 1) ≡ x * 2 * 2 ^ p = rw first (sym (mul_assoc x 2 (2 ^ p))) in
    let b : y * 2 ^ (p + n) ≡ y * 2 ^ n * 2 ^ p = rw second (sym (mul_assoc y (2 ^ n) (2 ^ p))) in
    rw (a, b) (add-mul (x * 2) (y * 2 ^ n) (2 ^ p))

same_code : {x x' u u' : ℕ} (o : Bool) → x ≡ x' → u ≡ u' → code_by x u o ≡ code_by x' u' o
same_code o h k = rw (h, k)

code_moves : (x u y v n p : ℕ) (o : Bool) → way_code (Moving (pair_moves x u y v n o)) p
    ≡ code_by (x * 2 ^ (p + 1) + y * 2 ^ (p + n)) (u * 2 ^ (p + 1) + v * 2 ^ (p + n)) o
code_moves x u y v n p o = same_code o (bits_at x y n p) (bits_at u v n p)

below_power : (x n : ℕ) → x ≤ x * 2 ^ n
below_power x n =
    let z : x * 1 ≤ x * 2 ^ n = mul-le-mul_left x (pow_pos n) in
    omega (arith, z)

-- ---- a way's word

marks_at : (m : Moves) (p : ℕ) → marks_of (Moving m) * 2 ^ p ≡ m.each * 2 ^ p + m.also * 2 ^ p
marks_at m p = add-mul m.each m.also (2 ^ p)

small_by : (x u : ℕ) (o : Bool) → x + u < 65536 → code_by x u o < code_bound
small_by x u true h = omega arith
small_by x u false h = omega arith

pub code_small : (w : Way) (p : ℕ) → marks_of w * 2 ^ p < 65536 → way_code w p < code_bound
code_small Still p h = omega arith
code_small (Moving m) p h = small_by _ _ m.lone (rw (marks_at m p) at h)
code_small Many p h = omega arith

-- ---- both sides move

module _ (a b : Moves) (n p : ℕ)
    (f : a.each * 2 ^ (p + 1) + a.also * 2 ^ (p + 1) + (b.each * 2 ^ (p + n) + b.also * 2 ^ (p + n)) < 65536) where
  code_both : (o q : Bool)
      → both_code (code_by (a.each * 2 ^ (p + 1)) (a.also * 2 ^ (p + 1)) o)
      (code_by (b.each * 2 ^ (p + n)) (b.also * 2 ^ (p + n)) q)
      ≡ way_code (both_by o q a b n) p
  code_both true q =
      both_first _ _ _ _ f q
      ∙ sym (code_moves 0 (a.each + a.also) b.each b.also n p q
      ∙ same_code q (omega arith) (omega (arith, marks_at a (p + 1))))
  code_both false true =
      both_second _ _ _ _ f
      ∙ sym (code_moves a.each a.also 0 (b.each + b.also) n p false
      ∙ same_code false (omega arith) (omega (arith, marks_at b (p + n))))
  code_both false false = both_many _ _ _ _ f

  code_either : (o q : Bool)
      → either_code (code_by (a.each * 2 ^ (p + 1)) (a.also * 2 ^ (p + 1)) o)
      (code_by (b.each * 2 ^ (p + n)) (b.also * 2 ^ (p + n)) q)
      ≡ way_code (either_way a b n) p
  code_either o q =
      elim (ℕ_discrete (a.also + b.also) 0) [
        | yes z ↦ alone z
        | no z ↦ either_some _ _ _ _ f o q
            (λ s. z (omega (arith, s, below_power a.also (p + 1), below_power b.also (p + n))))
            ∙ rw (ne_eqb (a.also + b.also) 0 z)
      ]
    where
      alone : a.also + b.also ≡ 0
          → either_code (code_by (a.each * 2 ^ (p + 1)) (a.also * 2 ^ (p + 1)) o)
          (code_by (b.each * 2 ^ (p + n)) (b.also * 2 ^ (p + n)) q)
          ≡ way_code (either_way a b n) p
      alone z =
          let za : a.also ≡ 0 = omega arith in
          let zb : b.also ≡ 0 = omega arith in
          let zu : a.also * 2 ^ (p + 1) ≡ 0 = rw za (omega arith) in
          let zv : b.also * 2 ^ (p + n) ≡ 0 = rw zb (omega arith) in
          either_none _ _ _ _ f o q (omega (arith, zu, zv))
          ∙ rw (eq-eqb (a.also + b.also) 0 z)
          (sym (code_moves a.each 0 b.each 0 n p false ∙ same_code {u' = 0} false refl (omega arith)))

-- ---- a pair

module _ (n p : ℕ) where
  many_second : (m : Moves) → marks_of (Moving m) * 2 ^ (p + 1) < 65536
      → both_code (way_code (Moving m) (p + 1)) many_code ≡ many_code
  many_second m h =
      sym (both_more_second _ _ (below_many _ _ m.lone (omega (arith, marks_at m (p + 1)))) (omega arith))

  pub code_pair : (l r : Way) (h : Bool) → marks_of l * 2 ^ (p + 1) + marks_of r * 2 ^ (p + n) < 65536
      → pair_code (way_code l (p + 1)) (way_code r (p + n)) h ≡ way_code (pair_way l r h n) p
  code_pair Still Still true f = (still_first _).0
  code_pair Still Still false f = (still_first _).1
  code_pair Still (Moving b) true f = (still_first _).0
  code_pair Still (Moving b) false f =
      (still_first _).1
      ∙ sym (code_moves 0 0 b.each b.also n p b.lone ∙ same_code b.lone (omega arith) (omega arith))
  code_pair Still Many true f = (still_first _).0
  code_pair Still Many false f = (still_first _).1
  code_pair (Moving a) Still true f = (still_second _ (not_none _ _ a.lone)).0
  code_pair (Moving a) Still false f =
      (still_second _ (not_none _ _ a.lone)).1
      ∙ sym (code_moves a.each a.also 0 0 n p a.lone ∙ same_code a.lone (omega arith) (omega arith))
  code_pair (Moving a) (Moving b) true f =
      (none_still _ _ (not_none _ _ a.lone) (not_none _ _ b.lone)).0
      ∙ code_both a b n p (omega (arith, f, marks_at a (p + 1), marks_at b (p + n))) a.lone b.lone
  code_pair (Moving a) (Moving b) false f =
      (none_still _ _ (not_none _ _ a.lone) (not_none _ _ b.lone)).1
      ∙ code_either a b n p (omega (arith, f, marks_at a (p + 1), marks_at b (p + n))) a.lone b.lone
  code_pair (Moving a) Many true f =
      (none_still _ _ (not_none _ _ a.lone) many_some).0 ∙ many_second a (omega (arith, f))
  code_pair (Moving a) Many false f =
      (none_still _ _ (not_none _ _ a.lone) many_some).1 ∙ sym (either_more _ _ (also_second _))
  code_pair Many Still true f = (still_second _ many_some).0
  code_pair Many Still false f = (still_second _ many_some).1
  code_pair Many (Moving b) true f =
      (none_still _ _ many_some (not_none _ _ b.lone)).0 ∙ sym (both_more_first _ _ (omega arith))
  code_pair Many (Moving b) false f =
      (none_still _ _ many_some (not_none _ _ b.lone)).1 ∙ sym (either_more _ _ (also_first _))
  code_pair Many Many true f =
      (none_still _ _ many_some many_some).0 ∙ sym (both_more_first many_code many_code (omega arith))
  code_pair Many Many false f =
      (none_still _ _ many_some many_some).1 ∙ sym (either_more many_code many_code (also_first (also_in many_code)))

-- ---- the marks of trees at their places

scaled : (x p j : ℕ) → x < 2 ^ p → p + j ≤ 15 → x * 2 ^ j < 65536
scaled x p j h k =
    let z : suc x * 2 ^ j ≤ 2 ^ p * 2 ^ j = mul-le-mul_right (2 ^ j) h in
    let y : 2 ^ (p + j) ≤ 2 ^ 15 = pow_mono {i = p + j} {j = 15} k in
    omega (arith, z, y, suc-mul x (2 ^ j), pow-add 2 p j, pow_pos j)

module _ (t : Table) (e : ℕ) where
  pub marks_one : (r : Residual) → length (nodes r) ≤ 15 → marks_of (way_of t e r) < 65536
  marks_one r h =
      let z = scaled (marks_of (way_of t e r)) (length (nodes r)) 0 (marks_small t e r) (omega arith) in
      omega (arith, z)

  pub marks_fit : (l r : Residual) (j : ℕ) → j + suc (length (nodes l) + length (nodes r)) ≤ 15
      → marks_of (way_of t e l) * 2 ^ (j + 1) + marks_of (way_of t e r) * 2 ^ (j + (length (nodes l) + 1)) < 65536
  marks_fit l r j h =
      let x = marks_of (way_of t e l) in
      let y = marks_of (way_of t e r) in
      rw (← (bits_at x y (length (nodes l) + 1) j)) (scaled _ (suc (length (nodes l) + length (nodes r))) j
      (combined x y (length (nodes l)) (length (nodes r)) (marks_small t e l) (marks_small t e r)) (omega arith))
