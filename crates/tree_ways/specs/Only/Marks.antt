-- Marks, and the node words rebuilt by them.
--     grown_kept, grown_moved                     one word
--     rebuilt_none, rebuilt_append, marked-.., movable-..     the words of two trees; where nothing is marked
--     combined, marks_small                       a pair's marks, from those of its sides; a residual's marks
-- Assumes nothing.
use Rattle.std.specs.Prelude.{ℕ, zero, suc, ◌+◌, ◌*◌, ◌/◌, ◌%◌, ◌<◌, ◌≤◌, ◌^◌, ◌≡◌, Bool, true, false, length, eqb}
use native.Mathlib.Omega.{arith}
use Rattle.std.proofs.Common.{add-one, pow-suc, mul_assoc, mul_comm, mul-le-mul_right, suc-mul, add-mul, sym, ◌∙◌, length-append, pow-add, pow_pos, eq-eqb, ne_eqb}
use Rattle.std.proofs.Math.Path.{refl}
use mathlib.Core.List.{List, [], ◌∷◌, ◌++◌, append_assoc}
use Rattle.table.specs.Table.{Table}
use Rattle.table.specs.Branches.{branches}
use Rattle.table.specs.Node.{term_of}
use Rattle.tree_ways.specs.declared.only.Way.{Way}
use Rattle.tree_ways.specs.declared.only.Way.TheVariants.{Still, Moving, Many}
use Rattle.node_word.specs.Word.{pack, term_of_word}
use Rattle.residuals.specs.Residual.{Residual, leaf, pair}
use Rattle.residuals.specs.Slots.{nodes}
use Rattle.resolving.specs.Words.{kind_at, holds_at}
use Rattle.tree_walk.specs.Walk.{option}
use Rattle.tree_ways.specs.declared.only.Moves.{Moves}
use Rattle.tree_ways.specs.Only.{marks_of, count_way, leaf_way, bits_of, pair_moves, either_by, both_by, pair_way, way_of}
use Rattle.tree_ways.specs.Only.{grown, rebuilt, Movable, Marked}

-- ---- node words

module _ (t : Table) (e : ℕ) where
  pub grown_kept : (w m : ℕ) → m ≡ 0 → grown t e w m ≡ w ∷ []
  unfolding grown
  grown_kept w m z = rw (eq-eqb _ _ z, grown)

  pub grown_moved : (w m : ℕ) → (m ≡ 0 → ⊥) → grown t e w m ≡ option t e w 0
  unfolding grown
  grown_moved w m z = rw (ne_eqb _ _ z, grown)

  pub rebuilt_none : (ws : List ℕ) → rebuilt t e ws 0 ≡ ws
  unfolding rebuilt
  rebuilt_none [] = refl
  rebuilt_none (w ∷ ws) = rw (grown_kept w 0 refl, rebuilt_none ws)

  pub marked_none : (ws : List ℕ) → Marked t e ws 0
  marked_none [] = tt
  marked_none (w ∷ ws) = (λ z. absurd (z refl), marked_none ws)

  pub movable_none : (ws : List ℕ) → Movable t e ws 0
  movable_none [] = refl
  movable_none (w ∷ ws) = (λ z. absurd (z refl), movable_none ws)

  -- the marks of one list above those of another
  pub above : (a b k : ℕ) → ((a + b * 2 ^ suc k) % 2 ≡ a % 2) × ((a + b * 2 ^ suc k) / 2 ≡ a / 2 + b * 2 ^ k)
  above a b k =
      let z : b * 2 ^ suc k ≡ 2 * (b * 2 ^ k) =
      rw (pow-suc 2 k) (sym (mul_assoc b (2 ^ k) 2) ∙ mul_comm (b * 2 ^ k) 2) in
      (omega (arith, z), omega (arith, z))

  pub half_small : (a k : ℕ) → a < 2 ^ suc k → a / 2 < 2 ^ k
  half_small a k h = omega (arith, pow-suc 2 k)

  pub rebuilt_append : (xs ys : List ℕ) (a b : ℕ) → a < 2 ^ length xs
      → rebuilt t e (xs ++ ys) (a + b * 2 ^ length xs) ≡ rebuilt t e xs a ++ rebuilt t e ys b
  unfolding rebuilt
  rebuilt_append [] ys a b h = let z : a + b * 2 ^ 0 ≡ b = omega arith in rw z
  rebuilt_append (x ∷ xs) ys a b h =
      rw (
        (above a b (length xs)).0,
        (above a b (length xs)).1,
        rebuilt_append xs ys (a / 2) b (half_small a (length xs) h),
      )
      (sym (append_assoc (grown t e x (a % 2)) (rebuilt t e xs (a / 2)) (rebuilt t e ys b)))

  pub marked_append : (xs ys : List ℕ) (a b : ℕ) → a < 2 ^ length xs → Marked t e xs a → Marked t e ys b
      → Marked t e (xs ++ ys) (a + b * 2 ^ length xs)
  marked_append [] ys a b h p q = let z : a + b * 2 ^ 0 ≡ b = omega arith in rw z q
  marked_append (x ∷ xs) ys a b h p q =
      rw ((above a b (length xs)).0, (above a b (length xs)).1)
      (p.0, marked_append xs ys (a / 2) b (half_small a (length xs) h) p.1 q)

  pub movable_append : (xs ys : List ℕ) (a b : ℕ) → a < 2 ^ length xs → Movable t e xs a → Movable t e ys b
      → Movable t e (xs ++ ys) (a + b * 2 ^ length xs)
  movable_append [] ys a b h p q = let z : a + b * 2 ^ 0 ≡ b = omega arith in rw z q
  movable_append (x ∷ xs) ys a b h p q =
      rw ((above a b (length xs)).0, (above a b (length xs)).1)
      (p.0, movable_append xs ys (a / 2) b (half_small a (length xs) h) p.1 q)

-- ---- marks

-- the bits of a pair, of both kinds
pub bits_sum : (x u y v n : ℕ) → bits_of x y n + bits_of u v n ≡ bits_of (x + u) (y + v) n
bits_sum x u y v n = omega (arith, add-mul y v (2 ^ n))

pub combined : (a b p q : ℕ) → a < 2 ^ p → b < 2 ^ q → a * 2 + b * 2 ^ (p + 1) < 2 ^ suc (p + q)
combined a b p q h k =
    let x : b * 2 ^ (p + 1) ≡ b * 2 ^ p * 2 = rw (add-one p, pow-suc 2 p) (sym (mul_assoc b (2 ^ p) 2)) in
    let y : 2 ^ suc (p + q) ≡ 2 ^ q * 2 ^ p * 2 = rw (pow-suc 2 (p + q), pow-add 2 p q, mul_comm (2 ^ p) (2 ^ q)) in
    let z : suc b * 2 ^ p ≤ 2 ^ q * 2 ^ p = mul-le-mul_right (2 ^ p) k in
    omega (arith, x, y, z, suc-mul b (2 ^ p))

pair_small : (x u y v p q : ℕ) (o : Bool) → x + u < 2 ^ p → y + v < 2 ^ q
    → marks_of (Moving (pair_moves x u y v (p + 1) o)) < 2 ^ suc (p + q)
pair_small x u y v p q o h k = rw (bits_sum x u y v (p + 1)) (combined (x + u) (y + v) p q h k)

none_small : (p q : ℕ) → 0 < 2 ^ suc (p + q)
none_small p q = pow_pos (suc (p + q))

module _ (a b : Moves) (p q : ℕ) (h : a.each + a.also < 2 ^ p) (k : b.each + b.also < 2 ^ q) where
  either_small : (x : Bool) → marks_of (either_by x a b (p + 1)) < 2 ^ suc (p + q)
  either_small true = pair_small a.each 0 b.each 0 p q false (omega arith) (omega arith)
  either_small false = none_small p q

  both_small : (x y : Bool) → marks_of (both_by x y a b (p + 1)) < 2 ^ suc (p + q)
  both_small true y = pair_small 0 (a.each + a.also) b.each b.also p q y (omega arith) k
  both_small false true = pair_small a.each a.also 0 (b.each + b.also) p q false h (omega arith)
  both_small false false = none_small p q

ways_small : (a b : Way) (h : Bool) (p q : ℕ) → marks_of a < 2 ^ p → marks_of b < 2 ^ q
    → marks_of (pair_way a b h (p + 1)) < 2 ^ suc (p + q)
ways_small Still Still h p q x y = none_small p q
ways_small Still (Moving b) true p q x y = none_small p q
ways_small Still (Moving b) false p q x y =
    pair_small 0 0 b.each b.also p q b.lone (omega (arith, pow_pos p)) y
ways_small Still Many true p q x y = none_small p q
ways_small Still Many false p q x y = none_small p q
ways_small (Moving a) Still true p q x y = none_small p q
ways_small (Moving a) Still false p q x y =
    pair_small a.each a.also 0 0 p q a.lone x (omega (arith, pow_pos q))
ways_small (Moving a) (Moving b) true p q x y = both_small a b p q x y a.lone b.lone
ways_small (Moving a) (Moving b) false p q x y = either_small a b p q x y (eqb (a.also + b.also) 0)
ways_small (Moving a) Many h p q x y = none_small p q
ways_small Many Still true p q x y = none_small p q
ways_small Many Still false p q x y = none_small p q
ways_small Many (Moving b) h p q x y = none_small p q
ways_small Many Many h p q x y = none_small p q

leaf_small : (t : Table) (e w : ℕ) → marks_of (leaf_way t e w) < 2
unfolding leaf_way
leaf_small t e w = by_tests (eqb (kind_at t w) 2) (holds_at t e w) (branches t (term_of t (term_of_word w + 1)))
  where
    by_tests : (a b : Bool) (c : ℕ)
        → marks_of
        (elim a as (λ x. Way) [ true ↦ elim b as (λ x. Way) [ true ↦ count_way c | false ↦ Still ] | false ↦ Still ]) < 2
    by_tests true true zero = omega arith
    by_tests true true (suc zero) = omega arith
    by_tests true true (suc (suc c)) = omega arith
    by_tests true false c = omega arith
    by_tests false b c = omega arith

pub marks_small : (t : Table) (e : ℕ) (r : Residual) → marks_of (way_of t e r) < 2 ^ length (nodes r)
unfolding way_of nodes
marks_small t e (leaf n m) = leaf_small t e (pack n m)
marks_small t e (pair n m l r) =
    rw (length-append (nodes l) (nodes r))
    (ways_small (way_of t e l) (way_of t e r) (holds_at t e (pack n m)) (length (nodes l)) (length (nodes r))
    (marks_small t e l) (marks_small t e r))
