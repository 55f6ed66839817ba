-- A place in the walk over one residual, and the next one: one law per way out of `walk`.
--     split, known, pair_here, leaf_here            the node at a place, and the first tree there
--     next_place, next_kept, next_leaf              the next place, and its trees
--     walk_end, walk_kept_pair, walk_kept_leaf      `walk`
--     kept-..                                       `walk_kept`: a word is pushed, the walk goes on, the word is popped
--     pop_room                                      a place's slot can be popped
-- Assumes nothing.
use Rattle.std.specs.Prelude.{ℕ, ◌+◌, ◌-◌, ◌*◌, ◌/◌, ◌%◌, ◌<◌, ◌≤◌, max, ◌^◌, ◌≡◌, List, ◌∷◌, map, length, get_or}
use Rattle.std.proofs.Common.{arith, add-one, pow-suc, ap, ◌∙◌, pow_mono}
use Rattle.table.specs.Table.{Table}
use Rattle.residuals.specs.Slots.{nodes}
use Rattle.slots.specs.Holding.{put_one, Gave, Held}
use Rattle.slots.proofs.Holding.Laws.{put_single}
use Rattle.resolving.specs.ResidualWords.Pushed.{head_pushed}
use Rattle.resolving.specs.ResidualWords.Popped.{clean_pushed, pop_back_one}
use Rattle.resolving.specs.Words.{kind_at, KnownWord}
use Rattle.resolving.specs.ResidualWords.{pushed, push_all, pop_all, Clean}
use Rattle.tree_walk.specs.Walk.{before, results, leaf_results, longest, room, onto}
use Rattle.tree_walk.specs.Walk.Results.{onto_before, kept_pair, kept_leaf}
use Rattle.tree_walk.specs.Course.{node_count, nodes_from, Ready, Trees, Place, walked}
use Rattle.tree_walk.specs.Course.Nodes.{nodes_none, nodes_cons}
use Rattle.tree_walk.specs.Course.Turns.{PairTurn, LeafTurn, pair_turn, leaf_turn, node_known, next_sides}

-- ---- the walk

module _ {t : Table} {bound e : ℕ} {store : List ℕ} (ready : Ready t bound e store) (k modes : ℕ) (slot area : List ℕ)
    (count : ℕ) where
  pub walk_end : node_count store < k → (r : Held) (l : List ℕ) → Gave (put_one area count slot) r l
      → Gave (walked t e store k modes slot area count) r l
  unfolding walked results onto push_all
  walk_end h r l g =
      record { same = g.same ∙ put_single area count slot ∙ rw (nodes_none store k h); fits = g.fits }

  module _ (p : Place t e store k modes slot area count) (h : k ≤ node_count store) where
    pub split : nodes_from store k ≡ get_or store k 0 ∷ nodes_from store (k + 1)
    split = nodes_cons store k h (omega (arith, ready.size, ready.few))

    pub spare : get_or slot 0 0 +
        (max 1 (longest (map nodes (leaf_results t e (get_or store k 0)))) + room t e (nodes_from store (k + 1))) ≤ 15
    unfolding room
    spare = rw split at p.room

    pub bits_next : (x : ℕ) → x ≤ 2 * modes + 1 → x < 2 ^ (k + 1)
    bits_next x w = rw add-one (omega (arith, p.bits, pow-suc 2 k))

    pub bits_fit : modes < 65536
    bits_fit = omega (arith, p.bits, pow_mono {i = k} {j = 16} (omega (arith, ready.few)))

    pub pair_here : kind_at t (get_or store k 0) ≡ 4
        → PairTurn t e store k modes (get_or store k 0) (nodes_from store (k + 1))
    pair_here q = pair_turn t e store k modes _ _ split p.trees q

    pub leaf_here : (kind_at t (get_or store k 0) ≡ 4 → ⊥)
        → LeafTurn t e store k modes (get_or store k 0) (nodes_from store (k + 1))
    leaf_here q = leaf_turn t e store k modes _ _ split p.trees q

    -- the trees after a node that is kept, and after a leaf
    pub next_kept : kind_at t (get_or store k 0) ≡ 4 → Trees t e store (k + 1) (modes / 2 * 4)
    next_kept q =
        next_sides (pair_here q) (modes / 2 * 4) (omega arith) (λ z. absurd (z (omega arith)))
        (λ z. absurd (z (omega arith)))

    pub next_leaf : (kind_at t (get_or store k 0) ≡ 4 → ⊥) → Trees t e store (k + 1) (modes / 2)
    next_leaf q = let turn = leaf_here q in record { forest = turn.forest; served = turn.served }

    pub known : KnownWord t (get_or store k 0)
    known = node_known t e store k modes _ _ split p.trees

    pub next_place : (x : ℕ) (a : List ℕ) (c : ℕ) → x ≤ 2 * modes + 1 → c * 16 ≤ length a → Trees t e store (k + 1) x
        → Place t e store (k + 1) x (pushed slot (get_or store k 0)) a c
    next_place x a c w f g = record {
      first = omega arith;
      last = omega arith;
      bits = bits_next x w;
      clean = clean_pushed slot _ p.clean;
      room = omega (arith, spare, head_pushed slot (get_or store k 0) p.clean.whole);
      held = f;
      trees = g;
    }

    pub go : (x : ℕ) → results t e (nodes_from store k) modes
        ≡ before (get_or store k 0) (results t e (nodes_from store (k + 1)) x)
        → (r : Held) (l : List ℕ)
        → Gave (walked t e store (k + 1) x (pushed slot (get_or store k 0)) area count) r l
        → Gave (walked t e store k modes slot area count) r l
    unfolding walked
    go x q r l g = record { same = g.same ∙ rw (q, onto_before); fits = g.fits }

    pub walk_kept_pair : modes % 2 ≡ 0 → kind_at t (get_or store k 0) ≡ 4 → (r : Held) (l : List ℕ)
        → Gave (walked t e store (k + 1) (modes / 2 * 4) (pushed slot (get_or store k 0)) area count) r l
        → Gave (walked t e store k modes slot area count) r l
    walk_kept_pair z q = go (modes / 2 * 4) (rw split (kept_pair t e _ _ modes z q))

    pub walk_kept_leaf : modes % 2 ≡ 0 → (kind_at t (get_or store k 0) ≡ 4 → ⊥) → (r : Held) (l : List ℕ)
        → Gave (walked t e store (k + 1) (modes / 2) (pushed slot (get_or store k 0)) area count) r l
        → Gave (walked t e store k modes slot area count) r l
    walk_kept_leaf z q = go (modes / 2) (rw split (kept_leaf t e _ _ modes z q))

-- ---- a node that stands in each result

-- a place's slot can be popped
pub pop_room : {t : Table} {e : ℕ} {store : List ℕ} {k modes : ℕ} {slot area : List ℕ} {count : ℕ}
    → Place t e store k modes slot area count → (s : List ℕ) → s ≡ slot → (get_or s 0 0 < 16) × (length s ≡ 16)
pop_room p s es = rw es (omega (arith, p.room), p.clean.whole)

module _ (t : Table) (e : ℕ) (store : List ℕ) (k modes : ℕ) (slot area : List ℕ) (count : ℕ) (c : Clean slot)
    (p : Place t e store (k + 1) modes (pushed slot (get_or store k 0)) area count) where
  pub kept_room : (get_or slot 0 0 < 15) × (length slot ≡ 16)
  kept_room = (omega (arith, p.room, head_pushed slot (get_or store k 0) c.whole), c.whole)

  module _ (s : List ℕ) (es : s ≡ pushed slot (get_or store k 0)) where
    pub kept_place : Place t e store (k + 1) modes s area count
    kept_place = rw es p

    pub kept_gave : {r : Held} {l : List ℕ} → Gave (walked t e store (k + 1) modes s area count) r l
        → Gave (walked t e store (k + 1) modes (pushed slot (get_or store k 0)) area count) r l
    kept_gave g = rw es at g

    pub kept_back : (s1 s2 : List ℕ) → s1 ≡ s → s2 ≡ pop_all s1 (get_or s1 0 0 - get_or slot 0 0) → s2 ≡ slot
    kept_back s1 s2 e1 e2 =
        e2 ∙ ap (λ (x : List ℕ). pop_all x (get_or x 0 0 - get_or slot 0 0)) (e1 ∙ es)
        ∙ pop_back_one slot (get_or store k 0) c

-- ---- odd modes, as the code has them

module _ (t : Table) (e : ℕ) (store : List ℕ) (k modes : ℕ) (slot area : List ℕ) (count : ℕ) (h : modes % 2 ≡ 0 → ⊥)
  where
    halves : modes / 2 * 2 + 1 ≡ modes
    halves = omega arith

    pub odd_place : Place t e store k modes slot area count → Place t e store k (modes / 2 * 2 + 1) slot area count
    odd_place p = rw halves p

    pub odd_gave : {r : Held} {l : List ℕ} → Gave (walked t e store k (modes / 2 * 2 + 1) slot area count) r l
        → Gave (walked t e store k modes slot area count) r l
    odd_gave g = rw halves at g
