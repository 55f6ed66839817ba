-- The residuals after an event, with and without a leaf's repeats, have the same words.
--     same_after                 the members of `after_kept` are those of `after`
--     Short, short_of            a residual whose leaves have short results; it is where they have room
-- A leaf is in `Covering.antt`. Assumes nothing.
use Rattle.std.specs.Prelude.{ℕ, ◌+◌, ◌≤◌, ◌≡◌, refl, Bool, true, false, List, [], ◌∷◌, ◌++◌, map, length}
use Rattle.std.proofs.Common.{arith, inl, inr, ⊎_elim}
use Rattle.std.proofs.lemmas.List.{map-append}
use Rattle.table.specs.Table.{Table}
use Rattle.table.specs.Node.{term_of, kind_of, ref_of}
use Rattle.table.specs.Memory.{Memory, remember}
use Rattle.table.specs.Member.{member}
use Rattle.node_word.specs.Word.{pack, Digits}
use Rattle.node_word.proofs.Word.Laws.{term_pack, memory_pack}
use Rattle.residuals.specs.Residual.{Residual, leaf, pair, pairs, resolve, after}
use Rattle.residuals.specs.Slots.{nodes}
use Rattle.resolving.specs.ResidualWords.{nth}
use Rattle.resolving.specs.ResidualWords.After.{after_both, after_either}
use Rattle.tree_walk.specs.Walk.{leaf_kept, leaf_results, joins, before, longest, room}
use Rattle.tree_walk.specs.Forest.{Valid, after_kept}
use Rattle.tree_walk.specs.Forest.Words.{nodes_pairs}
use Rattle.numbers.specs.Some.{any_append_left, any_append_right, any_append_cases}
use Rattle.slots.specs.Canon.{In, SameMembers}
use Rattle.slots.proofs.Canon.Members.{Sub, map_in, map_out, sub_map, same_refl, same_append}
use Rattle.tree_ways.specs.Covering.{follower, leaf_both}

-- ---- products and unions

sub_before : (w : ℕ) (a b : List (List ℕ)) → Sub a b → Sub (before w a) (before w b)
unfolding before
sub_before w a b f = sub_map (λ c. w ∷ c) a b f

joins_in : (x y : List ℕ) (a b : List (List ℕ)) → In x a → In y b → In (x ++ y) (joins a b)
unfolding joins
joins_in x y [] b m n = absurd m
joins_in x y (o ∷ a) b (inl e) n =
    any_append_left (λ z. x ++ y ≡ z) (map (λ c. o ++ c) b) (joins a b) (rw e (map_in (λ c. o ++ c) b y n))
joins_in x y (o ∷ a) b (inr m) n =
    any_append_right (λ z. x ++ y ≡ z) (map (λ c. o ++ c) b) (joins a b) (joins_in x y a b m n)

sub_joins : (a a' b b' : List (List ℕ)) → Sub a a' → Sub b b' → Sub (joins a b) (joins a' b')
unfolding joins
sub_joins [] a' b b' f g z m = absurd m
sub_joins (o ∷ a) a' b b' f g z m =
    ⊎_elim
    (λ n. let i = map_out (λ c. o ++ c) b z n in rw i.is
    (joins_in o i.x a' b' (f o (inl refl)) (g i.x i.member)))
    (λ n. sub_joins a a' b b' (λ y k. f y (inr k)) g z n)
    (any_append_cases (λ x. z ≡ x) (map (λ c. o ++ c) b) (joins a b) m)

-- ---- a tree

abbrev pub Short : Table → ℕ → Residual → Type 0
Short t e (leaf n m) = longest (map nodes (after t e (leaf n m))) ≤ 15
Short t e (pair n m l r) = Short t e l × Short t e r

pairs_both : (n : ℕ) (m : Memory) (ls ls' rs rs' : List Residual) → SameMembers (map nodes ls) (map nodes ls')
    → SameMembers (map nodes rs) (map nodes rs') → SameMembers (map nodes (pairs n m ls rs))
    (map nodes (pairs n m ls' rs'))
pairs_both n m ls ls' rs rs' f g =
    rw (nodes_pairs n m ls rs, nodes_pairs n m ls' rs') (
      sub_before (pack n m) _ _
          (sub_joins (map nodes ls) (map nodes ls') (map nodes rs) (map nodes rs') f.0 g.0),
      sub_before (pack n m) _ _
          (sub_joins (map nodes ls') (map nodes ls) (map nodes rs') (map nodes rs) f.1 g.1),
    )

pub append_both : (a a' b b' : List Residual) → SameMembers (map nodes a) (map nodes a')
    → SameMembers (map nodes b) (map nodes b')
    → SameMembers (map nodes (a ++ b)) (map nodes (a' ++ b'))
append_both a a' b b' f g =
    rw (map-append nodes a b, map-append nodes a' b')
    (same_append (map nodes a) (map nodes a') (map nodes b) (map nodes b') f g)

pair_by : (t : Table) (e n : ℕ) (m : Memory) (l r : Residual) (b : Bool) → kind_of (term_of t n) ≡ 4
    → member t (ref_of (term_of t n)) m e ≡ b
    → SameMembers (map nodes (after_kept t e l)) (map nodes (after t e l))
    → SameMembers (map nodes (after_kept t e r)) (map nodes (after t e r))
    → SameMembers (map nodes (after_kept t e (pair n m l r))) (map nodes (after t e (pair n m l r)))
unfolding after_kept
pair_by t e n m l r true k h f g =
    rw (after_both t e n m l r k h, h, after_kept)
    (pairs_both n m (after_kept t e l) (after t e l) (after_kept t e r) (after t e r) f g)
pair_by t e n m l r false k h f g =
    rw (after_either t e n m l r k h, h, after_kept)
    (append_both (pairs n m (after_kept t e l) (r ∷ [])) (pairs n m (after t e l) (r ∷ []))
    (pairs n m (l ∷ []) (after_kept t e r)) (pairs n m (l ∷ []) (after t e r))
    (pairs_both n m (after_kept t e l) (after t e l) (r ∷ []) (r ∷ []) f (same_refl (map nodes (r ∷ []))))
    (pairs_both n m (l ∷ []) (l ∷ []) (after_kept t e r) (after t e r) (same_refl (map nodes (l ∷ []))) g))

pub node_results : (t : Table) (e n : ℕ) (m : Memory) → Digits m → leaf_results t e (pack n m) ≡ after t e (leaf n m)
unfolding leaf_results
node_results t e n m h = rw (term_pack n m h, memory_pack n m h)

node_follower : (t : Table) (e n : ℕ) (m : Memory) → Digits m → follower t e (pack n m)
    ≡ resolve t (n + 1) (remember e m)
unfolding follower
node_follower t e n m h = rw (term_pack n m h, memory_pack n m h)

leaf_same : (t : Table) (e n : ℕ) (m : Memory) → Digits m → longest (map nodes (after t e (leaf n m))) ≤ 15
    → SameMembers (map nodes (map (nth (resolve t (n + 1) (remember e m))) (leaf_kept t e (pack n m))))
    (map nodes (after t e (leaf n m)))
leaf_same t e n m h s =
    let b : longest (map nodes (leaf_results t e (pack n m))) ≤ 15 = rw (node_results t e n m h) s in
    rw (node_results t e n m h, node_follower t e n m h) at (leaf_both t e (pack n m) b)

pub same_after : (t : Table) (e : ℕ) (r : Residual) → Valid t r → Short t e r
    → SameMembers (map nodes (after_kept t e r)) (map nodes (after t e r))
unfolding after_kept
same_after t e (leaf n m) v s = leaf_same t e n m v.0.0 s
same_after t e (pair n m l r) v s =
    pair_by t e n m l r _ v.1 refl (same_after t e l v.2 s.0) (same_after t e r v.3 s.1)

-- ---- a residual whose results have room is short

pub room_append : (t : Table) (e : ℕ) (a b : List ℕ) → room t e (a ++ b) ≡ room t e a + room t e b
unfolding room
room_append t e [] b = omega arith
room_append t e (w ∷ a) b = omega (arith, room_append t e a b)

-- each node has room for a word
pub nodes_room : (t : Table) (e : ℕ) (ws : List ℕ) → length ws ≤ room t e ws
unfolding room
nodes_room t e [] = omega arith
nodes_room t e (w ∷ ws) = omega (arith, nodes_room t e ws)

room_leaf : (t : Table) (e n : ℕ) (m : Memory) → room t e (nodes (leaf n m)) ≤ 15
    → longest (map nodes (leaf_results t e (pack n m))) ≤ 15
unfolding room nodes
room_leaf t e n m k = omega arith

room_pair : (t : Table) (e n : ℕ) (m : Memory) (l r : Residual) → room t e (nodes (pair n m l r)) ≤ 15
    → (room t e (nodes l) ≤ 15) × (room t e (nodes r) ≤ 15)
unfolding room nodes
room_pair t e n m l r k =
    (omega (arith, room_append t e (nodes l) (nodes r)), omega (arith, room_append t e (nodes l) (nodes r)))

pub short_of : (t : Table) (e : ℕ) (r : Residual) → Valid t r → room t e (nodes r) ≤ 15 → Short t e r
short_of t e (leaf n m) v k = rw (node_results t e n m v.0.0) at (room_leaf t e n m k)
short_of t e (pair n m l r) v k =
    let b = room_pair t e n m l r k in (short_of t e l v.2 b.0, short_of t e r v.3 b.1)
