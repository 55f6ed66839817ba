-- The first tree at a place, and the place after its first node.
--     PairTurn, LeafTurn, pair_turn, leaf_turn     a pair and a leaf at a place
--     node_known                                   the first node is a known term
--     next_sides                                   the place after a pair's node
-- Assumes nothing.
use Prim.Native.Nat.{ℕ, suc, ◌+◌, ◌*◌, ◌/◌, ◌%◌}
use Rattle.std.proofs.Common.{arith, sym, ◌∙◌}
use Rattle.std.specs.Prelude.{◌≡◌, refl}
use Rattle.std.proofs.Math.Path.{ap}
use mathlib.Core.List.{List, [], ◌∷◌, ◌++◌, append_assoc}
use Rattle.std.proofs.Math.ListN.{length, length-append}
use Rattle.table.specs.Table.{Table}
use Rattle.table.specs.Memory.{Memory}
use Rattle.node_word.specs.Word.{pack}
use Rattle.residuals.specs.Residual.{Residual, leaf, pair}
use Rattle.residuals.specs.Slots.{nodes, nodes_all}
use Rattle.resolving.specs.Words.{kind_at, KnownWord}
use Rattle.tree_walk.specs.Forest.{Valid, AllValid, Forest}
use Rattle.tree_walk.specs.Forest.Words.{kind_of_node, known_node}
use Rattle.tree_walk.specs.Course.{nodes_from, LeafAt, Prepared, Served, Trees}

pub head_is : {x y : ℕ} {xs ys : List ℕ} → x ∷ xs ≡ y ∷ ys → x ≡ y
head_is e = cc

pub tail_is : {x y : ℕ} {xs ys : List ℕ} → x ∷ xs ≡ y ∷ ys → xs ≡ ys
tail_is e = cc

pub no_cons : {A : Type 0} {x : ℕ} {xs : List ℕ} → x ∷ xs ≡ [] → A
no_cons e = absurd (let z : ◌≡◌ {A = ℕ} 0 1 = cc in omega arith)

module _ (t : Table) (e : ℕ) (store : List ℕ) (k modes w : ℕ) (ws : List ℕ) where
  pub record PairTurn : Type 0 where
    pub n : ℕ
    pub m : Memory
    pub l : Residual
    pub r : Residual
    pub tail : List ℕ
    pub node : w ≡ pack n m
    pub valid : Valid t (pair n m l r)
    pub spelt : ws ≡ nodes l ++ (nodes r ++ tail)
    pub others : Forest t tail
    pub prepared : (modes % 2 ≡ 0 → ⊥) → Prepared t e store k (pair n m l r)
    pub served : Served t e store (k + 1 + length (nodes l) + length (nodes r)) (modes / 2) others.trees

  pub record LeafTurn : Type 0 where
    pub prepared : (modes % 2 ≡ 0 → ⊥) → LeafAt t e store (k * 257) w
    pub forest : Forest t ws
    pub served : Served t e store (k + 1) (modes / 2) forest.trees

  pair_turn_of : (rs : List Residual) → w ∷ ws ≡ nodes_all rs → AllValid t rs → kind_at t w ≡ 4
      → Served t e store k modes rs → PairTurn
  unfolding nodes_all nodes
  pair_turn_of [] g v q s = no_cons g
  pair_turn_of (leaf n m ∷ rs) g v q s =
      absurd (v.0.1 (sym (kind_of_node n m v.0.0.0 t) ∙ ap (kind_at t) (sym (head_is g)) ∙ q))
  pair_turn_of (pair n m l r ∷ rs) g v q s =
      let z : k + suc (length (nodes l ++ nodes r)) ≡ k + 1 + length (nodes l) + length (nodes r)
      = omega (arith, length-append (nodes l) (nodes r)) in
      record {
        n = n;
        m = m;
        l = l;
        r = r;
        tail = nodes_all rs;
        node = head_is g;
        valid = v.0;
        spelt = tail_is g ∙ append_assoc (nodes l) (nodes r) (nodes_all rs);
        others = record { trees = rs; spelt = refl; valid = v.1 };
        prepared = s.0;
        served = rw (← z) s.1;
      }

  leaf_turn_of : (rs : List Residual) → w ∷ ws ≡ nodes_all rs → AllValid t rs → (kind_at t w ≡ 4 → ⊥)
      → Served t e store k modes rs → LeafTurn
  unfolding nodes_all nodes
  leaf_turn_of [] g v q s = no_cons g
  leaf_turn_of (leaf n m ∷ rs) g v q s = record {
    prepared = λ z. rw (head_is g) (s.0 z);
    forest = record { trees = rs; spelt = tail_is g; valid = v.1 };
    served = s.1;
  }
  leaf_turn_of (pair n m l r ∷ rs) g v q s =
      absurd (q (ap (kind_at t) (head_is g) ∙ kind_of_node n m v.0.0.0 t ∙ v.0.1))

  known_of : (rs : List Residual) → w ∷ ws ≡ nodes_all rs → AllValid t rs → KnownWord t w
  unfolding nodes_all nodes
  known_of [] g v = no_cons g
  known_of (leaf n m ∷ rs) g v = rw (head_is g) (known_node t n m v.0.0)
  known_of (pair n m l r ∷ rs) g v = rw (head_is g) (known_node t n m v.0.0)

  module _ (split : nodes_from store k ≡ w ∷ ws) (s : Trees t e store k modes) where
    pub node_known : KnownWord t w
    node_known = known_of s.forest.trees (sym split ∙ s.forest.spelt) s.forest.valid

    pub pair_turn : kind_at t w ≡ 4 → PairTurn
    pair_turn q = pair_turn_of s.forest.trees (sym split ∙ s.forest.spelt) s.forest.valid q s.served

    pub leaf_turn : (kind_at t w ≡ 4 → ⊥) → LeafTurn
    leaf_turn q = leaf_turn_of s.forest.trees (sym split ∙ s.forest.spelt) s.forest.valid q s.served

-- the place after a pair's node, whose sides have modes of their own
pub next_sides : {t : Table} {e : ℕ} {store : List ℕ} {k modes w : ℕ}
    (two : PairTurn t e store k modes w (nodes_from store (k + 1))) (x : ℕ) → x / 4 ≡ modes / 2
    → ((x % 2 ≡ 0 → ⊥) → Prepared t e store (k + 1) two.l)
    → ((x / 2 % 2 ≡ 0 → ⊥) → Prepared t e store (k + 1 + length (nodes two.l)) two.r)
    → Trees t e store (k + 1) x
unfolding nodes_all
next_sides {modes = modes} two x g l r =
    let d : x / 2 / 2 ≡ modes / 2 = omega arith in
    record {
      forest = record {
        trees = two.l ∷ two.r ∷ two.others.trees;
        spelt = rw (← two.others.spelt) two.spelt;
        valid = (two.valid.2, (two.valid.3, two.others.valid));
      };
      served = (l, (r, rw d two.served));
    }
