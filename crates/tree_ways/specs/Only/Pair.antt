-- The residuals after the event, of a pair, by the ways of its sides; of any residual.
--     moved_pair, rebuilt_pair, build     the words and the moves of a pair
--     pair_became, became                 what the way of a pair, of any residual says
-- Assumes nothing.
use Rattle.std.specs.Prelude.{ℕ, zero, suc, ◌+◌, ◌*◌, ◌/◌, ◌%◌, ◌<◌, ◌^◌, Bool, length, eqb}
use native.Mathlib.Omega.{arith}
use Rattle.std.proofs.Common.{add-one, suc-mul, ◌∙◌, pow_pos, eqb-true}
use Rattle.std.proofs.Math.Path.{◌≡◌, refl, ap, ap₂, sym}
use Rattle.std.proofs.Math.Bool.{true, false}
use mathlib.Core.List.{List, [], ◌∷◌, ◌++◌, map, flat_map, append-nil, map-append}
use Rattle.table.specs.Table.{Table}
use Rattle.table.specs.Node.{term_of, kind_of, ref_of}
use Rattle.tree_ways.specs.declared.only.Moves.{Moves}
use Rattle.tree_ways.specs.declared.only.Way.{Way}
use Rattle.tree_ways.specs.declared.only.Way.TheVariants.{Still, Moving, Many}
use Rattle.table.specs.Memory.{Memory}
use Rattle.table.specs.Member.{member}
use Rattle.node_word.specs.Word.{pack, Digits}
use Rattle.residuals.specs.Residual.{Residual, leaf, pair, pairs, after}
use Rattle.residuals.specs.Slots.{nodes}
use Rattle.resolving.specs.Words.{holds_at}
use Rattle.resolving.specs.Lawful.{Lawful}
use Rattle.resolving.specs.ResidualWords.After.{after_both, after_either}
use Rattle.tree_walk.specs.Walk.{joins, before}
use Rattle.tree_walk.specs.Forest.{Valid}
use Rattle.tree_walk.specs.Forest.Words.{holds_of_node, nodes_pairs}
use Rattle.tree_ways.specs.Only.{marks_of, bits_of, pair_moves, either_by, both_by, pair_way}
use Rattle.tree_ways.specs.Only.{way_of, rebuilt, ending, starting, moved, Movable, Marked}
use Rattle.tree_ways.specs.Only.Marks.{grown_kept, rebuilt_none, rebuilt_append, marked_none}
use Rattle.tree_ways.specs.Only.Marks.{marked_append, movable_none, movable_append, above, bits_sum, marks_small}
use Rattle.tree_ways.specs.Only.Moved.{joins_one_right, joins_one_left, moved_none, moved_append}
use Rattle.tree_ways.specs.Only.Moved.{moved_node}
use Rattle.tree_ways.specs.Only.Laws.{MovedBy, Became, leaf_became}

pairs_nil : (n : ℕ) (m : Memory) (ls : List Residual) → pairs n m ls [] ≡ []
unfolding pairs flat_map
pairs_nil n m [] = refl
pairs_nil n m (l ∷ ls) = pairs_nil n m ls

module _ (t : Table) (e n : ℕ) (m : Memory) (l r : Residual) (v : Digits m) (q : kind_of (term_of t n) ≡ 4) where
  abbrev ll : ℕ
  ll = length (nodes l)

  bits_above : (a b : ℕ) → (bits_of a b (ll + 1) % 2 ≡ 0) × (bits_of a b (ll + 1) / 2 ≡ a + b * 2 ^ ll)
  bits_above a b =
      let z = above t e (a * 2) b ll in rw (add-one ll) (omega (arith, z.0), omega (arith, z.1))

  moved_pair : (x u y v : ℕ) → x < 2 ^ ll → u < 2 ^ ll
      → moved t e (nodes (pair n m l r)) (bits_of x y (ll + 1)) (bits_of u v (ll + 1))
      ≡ before (pack n m) (ending (rebuilt t e (nodes r) v) (moved t e (nodes l) x u)
      ++ starting (rebuilt t e (nodes l) u) (moved t e (nodes r) y v))
  unfolding nodes
  moved_pair x u y v h k =
      moved_node t e (pack n m) (nodes l ++ nodes r) (bits_of x y (ll + 1)) (bits_of u v (ll + 1))
      (bits_above x y).0 (bits_above u v).0
      ∙ rw ((bits_above x y).1, (bits_above u v).1, moved_append t e (nodes l) (nodes r) x y u v h k)

  rebuilt_pair : (u v : ℕ) → u < 2 ^ ll → rebuilt t e (nodes (pair n m l r)) (bits_of u v (ll + 1))
      ≡ pack n m ∷ (rebuilt t e (nodes l) u ++ rebuilt t e (nodes r) v)
  unfolding nodes rebuilt
  rebuilt_pair u v h =
      rw (
        (bits_above u v).0,
        (bits_above u v).1,
        grown_kept t e (pack n m) 0 refl,
        rebuilt_append t e (nodes l) (nodes r) u v h,
      )

  movable_pair : (x y : ℕ) → x < 2 ^ ll → Movable t e (nodes l) x → Movable t e (nodes r) y
      → Movable t e (nodes (pair n m l r)) (bits_of x y (ll + 1))
  unfolding nodes
  movable_pair x y h p q =
      rw ((bits_above x y).0, (bits_above x y).1)
      (λ z. absurd (z refl), movable_append t e (nodes l) (nodes r) x y h p q)

  marked_pair : (u v : ℕ) → u < 2 ^ ll → Marked t e (nodes l) u → Marked t e (nodes r) v
      → Marked t e (nodes (pair n m l r)) (bits_of u v (ll + 1))
  unfolding nodes
  marked_pair u v h p q =
      rw ((bits_above u v).0, (bits_above u v).1)
      (λ z. absurd (z refl), marked_append t e (nodes l) (nodes r) u v h p q)

  set_of : (h : Bool) → holds_at t e (pack n m) ≡ h → member t (ref_of (term_of t n)) m e ≡ h
  set_of h z = sym (holds_of_node n m v t e) ∙ z

  both : holds_at t e (pack n m) ≡ true → after t e (pair n m l r) ≡ pairs n m (after t e l) (after t e r)
  both z = after_both t e n m l r q (set_of true z)

  either : holds_at t e (pack n m) ≡ false → after t e (pair n m l r)
      ≡ pairs n m (after t e l) (r ∷ []) ++ pairs n m (l ∷ []) (after t e r)
  either z = after_either t e n m l r q (set_of false z)

  -- the same in words
  both_words : holds_at t e (pack n m) ≡ true → map nodes (after t e (pair n m l r))
      ≡ before (pack n m) (joins (map nodes (after t e l)) (map nodes (after t e r)))
  both_words z = ap (map nodes) (both z) ∙ nodes_pairs n m (after t e l) (after t e r)

  either_words : holds_at t e (pack n m) ≡ false → map nodes (after t e (pair n m l r))
      ≡ before (pack n m) (ending (nodes r) (map nodes (after t e l))
      ++ starting (nodes l) (map nodes (after t e r)))
  unfolding before
  either_words z =
      ap (map nodes) (either z)
      ∙ map-append nodes (pairs n m (after t e l) (r ∷ [])) (pairs n m (l ∷ []) (after t e r))
      ∙ ap₂ (λ (p q : List (List ℕ)). p ++ q)
      (nodes_pairs n m (after t e l) (r ∷ [])
      ∙ ap (before (pack n m)) (joins_one_right (map nodes (after t e l)) (nodes r)))
      (nodes_pairs n m (l ∷ []) (after t e r)
      ∙ ap (before (pack n m)) (joins_one_left (nodes l) (map nodes (after t e r))))
      ∙ sym (map-append (λ c. pack n m ∷ c) (ending (nodes r) (map nodes (after t e l)))
      (starting (nodes l) (map nodes (after t e r))))

  still_left : holds_at t e (pack n m) ≡ true → after t e l ≡ [] → after t e (pair n m l r) ≡ []
  unfolding pairs flat_map
  still_left z k = both z ∙ rw k

  still_right : holds_at t e (pack n m) ≡ true → after t e r ≡ [] → after t e (pair n m l r) ≡ []
  still_right z k = both z ∙ rw (k, pairs_nil)

  still_both : (h : Bool) → holds_at t e (pack n m) ≡ h → after t e l ≡ [] → after t e r ≡ []
      → after t e (pair n m l r) ≡ []
  unfolding pairs flat_map
  still_both true z k j = still_left z k
  still_both false z k j = either z ∙ rw (k, j)

  -- the moves of the pair, from those of its sides
  build : (x u y v : ℕ) (o : Bool) → x + u < 2 ^ ll → 0 < x + y
      → map nodes (after t e (pair n m l r)) ≡ before (pack n m)
      (ending (rebuilt t e (nodes r) v) (moved t e (nodes l) x u)
      ++ starting (rebuilt t e (nodes l) u) (moved t e (nodes r) y v))
      → Movable t e (nodes l) x → Movable t e (nodes r) y → Marked t e (nodes l) u → Marked t e (nodes r) v
      → (o ≡ true → map nodes (after t e (pair n m l r))
      ≡ (pack n m ∷ (rebuilt t e (nodes l) (x + u) ++ rebuilt t e (nodes r) (y + v))) ∷ [])
      → (o ≡ true → Marked t e (nodes l) (x + u) × Marked t e (nodes r) (y + v))
      → MovedBy t e (pair n m l r) (pair_moves x u y v (ll + 1) o)
  build x u y v o s p f cl cr ml mr g d = record {
    all = f ∙ sym (moved_pair x u y v (omega arith) (omega arith));
    some = positive y p;
    can = movable_pair x y (omega arith) cl cr;
    marked = marked_pair u v (omega arith) ml mr;
    only = λ z. g z ∙ sym (rw (bits_sum x u y v (ll + 1), rebuilt_pair (x + u) (y + v) s));
    single = λ z. rw (bits_sum x u y v (ll + 1)) (marked_pair (x + u) (y + v) s (d z).0 (d z).1);
  }
    where
      positive : (y : ℕ) → 0 < x + y → 0 < bits_of x y (ll + 1)
      positive zero p = omega arith
      positive (suc y) p = omega (arith, suc-mul y (2 ^ (ll + 1)), pow_pos (ll + 1))

  module _ (a : Moves) (s : a.each + a.also < 2 ^ ll) (x : MovedBy t e l a) where
    left_moves : holds_at t e (pack n m) ≡ false → after t e r ≡ []
        → MovedBy t e (pair n m l r) (pair_moves a.each a.also 0 0 (ll + 1) a.lone)
    unfolding before
    left_moves z k =
        build a.each a.also 0 0 a.lone s (omega (arith, x.some))
        (either_words z ∙ rw (k, x.all, rebuilt_none t e (nodes r), moved_none t e (nodes r) 0)) x.can
        (movable_none t e (nodes r)) x.marked (marked_none t e (nodes r))
        (λ o. either_words z ∙ rw (k, x.only o, rebuilt_none t e (nodes r)))
        (λ o. (x.single o, marked_none t e (nodes r)))

  module _ (b : Moves) (y : MovedBy t e r b) where
    right_moves : holds_at t e (pack n m) ≡ false → after t e l ≡ []
        → MovedBy t e (pair n m l r) (pair_moves 0 0 b.each b.also (ll + 1) b.lone)
    unfolding before
    right_moves z k =
        build 0 0 b.each b.also b.lone (pow_pos ll) (omega (arith, y.some))
        (either_words z ∙ rw (k, y.all, rebuilt_none t e (nodes l), moved_none t e (nodes l) 0))
        (movable_none t e (nodes l)) y.can (marked_none t e (nodes l)) y.marked
        (λ o. either_words z ∙ rw (k, y.only o, rebuilt_none t e (nodes l)))
        (λ o. (marked_none t e (nodes l), y.single o))

  module _ (a b : Moves) (s : a.each + a.also < 2 ^ ll) (x : MovedBy t e l a) (y : MovedBy t e r b) where
    either_moves : (q : Bool) → eqb (a.also + b.also) 0 ≡ q → holds_at t e (pack n m) ≡ false
        → Became t e (pair n m l r) (either_by q a b (ll + 1))
    either_moves false eq z = tt
    either_moves true eq z =
        let u : a.also ≡ 0 = omega (arith, eqb-true (a.also + b.also) 0 eq) in
        let v : b.also ≡ 0 = omega (arith, eqb-true (a.also + b.also) 0 eq) in
        build a.each 0 b.each 0 false (omega arith) (omega (arith, x.some))
        (either_words z ∙ rw (x.all, y.all, u, v, rebuilt_none t e (nodes l), rebuilt_none t e (nodes r))) x.can
        y.can (marked_none t e (nodes l)) (marked_none t e (nodes r))
        (λ o. absurd (let y : ◌≡◌ {A = ℕ} 0 1 = cc in omega arith))
        (λ o. absurd (let y : ◌≡◌ {A = ℕ} 0 1 = cc in omega arith))

    both_moves : (p q : Bool) → a.lone ≡ p → b.lone ≡ q → holds_at t e (pack n m) ≡ true
        → Became t e (pair n m l r) (both_by p q a b (ll + 1))
    unfolding before
    both_moves true q ep eq z =
        let i : 0 + (a.each + a.also) ≡ a.each + a.also = omega arith in
        build 0 (a.each + a.also) b.each b.also q (omega arith) (omega (arith, y.some))
        (both_words z ∙ rw (x.only ep, y.all, joins_one_left, moved_none t e (nodes l) (a.each + a.also)))
        (movable_none t e (nodes l)) y.can (x.single ep) y.marked
        (λ o. both_words z ∙ rw (x.only ep, y.only (eq ∙ o), joins_one_left, i))
        (λ o. rw i (x.single ep, y.single (eq ∙ o)))
    both_moves false true ep eq z =
        build a.each a.also 0 (b.each + b.also) false s (omega (arith, x.some))
        (both_words z
        ∙ rw (
          x.all,
          y.only eq,
          joins_one_right,
          moved_none t e (nodes r) (b.each + b.also),
          append-nil (ending (rebuilt t e (nodes r) (b.each + b.also)) (moved t e (nodes l) a.each a.also)),
        )) x.can (movable_none t e (nodes r)) x.marked
        (y.single eq)
        (λ o. absurd (let y : ◌≡◌ {A = ℕ} 0 1 = cc in omega arith))
        (λ o. absurd (let y : ◌≡◌ {A = ℕ} 0 1 = cc in omega arith))
    both_moves false false ep eq z = tt

  pair_became : (a b : Way) (h : Bool) → holds_at t e (pack n m) ≡ h → marks_of a < 2 ^ ll
      → Became t e l a → Became t e r b → Became t e (pair n m l r) (pair_way a b h (ll + 1))
  pair_became Still Still h z s x y = still_both h z x y
  pair_became Still (Moving b) true z s x y = still_left z x
  pair_became Still (Moving b) false z s x y = right_moves b y z x
  pair_became Still Many true z s x y = still_left z x
  pair_became Still Many false z s x y = tt
  pair_became (Moving a) Still true z s x y = still_right z y
  pair_became (Moving a) Still false z s x y = left_moves a s x z y
  pair_became (Moving a) (Moving b) true z s x y = both_moves a b s x y a.lone b.lone refl refl z
  pair_became (Moving a) (Moving b) false z s x y = either_moves a b s x y (eqb (a.also + b.also) 0) refl z
  pair_became (Moving a) Many h z s x y = tt
  pair_became Many Still true z s x y = still_right z y
  pair_became Many Still false z s x y = tt
  pair_became Many (Moving b) h z s x y = tt
  pair_became Many Many h z s x y = tt

pub became : (t : Table) → Lawful t → (e : ℕ) (r : Residual) → Valid t r → Became t e r (way_of t e r)
unfolding way_of
became t law e (leaf n m) v = leaf_became t law e n m v
became t law e (pair n m l r) v =
    pair_became t e n m l r v.0.0 v.1 (way_of t e l) (way_of t e r) _ refl (marks_small t e l)
    (became t law e l v.2)
    (became t law e r v.3)
