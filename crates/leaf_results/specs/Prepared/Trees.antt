-- A store is filled tree by tree: one law per way out of `prepare_tree`.
--     prepared_kept                         what stands of a tree is the same where nothing before its end is touched
--     node_inside, tree_asked               the first node of a tree; what `takes_at` is asked of it
--     marked_store, passed_done             a tree that cannot take the event
--     leaf_held, leaf_done                  a prefix that takes it
--     left_asks, right_asks, pair_done      a pair that takes it, its left side filled first
--     whole_asks, whole_done                the whole residual: `prepare`
-- Assumes nothing.
use Rattle.std.specs.Prelude.{ℕ, ◌+◌, ◌*◌, ◌<◌, ◌≤◌, ◌≡◌, false, get_or, set, take, ltb}
use Rattle.std.proofs.Common.{arith, ap, sym, ◌∙◌, inl, get_or-set_same, ltb-true}
use Rattle.std.proofs.Math.Bool.{true}
use Rattle.std.proofs.Math.Logic.{inr}
use mathlib.Core.List.{List, ◌∷◌, ◌++◌, append_assoc, append-nil}
use Rattle.std.proofs.Math.ListN.{length, length-append}
use Rattle.std.proofs.lemmas.List.{take-set-le}
use Rattle.table.specs.Table.{Table}
use Rattle.node_word.specs.Word.{pack}
use Rattle.residuals.specs.Slots.{nodes}
use Rattle.residuals.specs.Residual.{Residual, leaf, pair, after}
use Rattle.resolving.specs.Words.{kind_at, holds_at}
use Rattle.resolving.specs.Lawful.{Lawful}
use Rattle.tree_walk.specs.Forest.{Valid}
use Rattle.tree_walk.specs.Forest.Words.{known_node, nodes_positive}
use Rattle.tree_walk.specs.Course.{node_count, nodes_from, Prepared}
use Rattle.tree_walk.specs.Course.Nodes.{nodes_none, nodes_cons, nodes_skip}
use Rattle.tree_walk.specs.Course.Turns.{head_is, tail_is}
use Rattle.tree_ways.specs.declared.takes.Tree.{Tree}
use Rattle.tree_ways.specs.Takes.{TreeAt, Takes}
use Rattle.tree_ways.specs.Takes.Counts.{none_of}
use Rattle.leaf_results.specs.declared.preparing.TreeEnd.{TreeEnd}
use Rattle.leaf_memo.specs.Memo.{StoreOf}
use Rattle.leaf_memo.specs.Memo.Laws.{store_marks}
use Rattle.leaf_results.specs.Prepared.{Loaded, LeafFilled, FilledBefore, TreeFrom, TreeFilled, Fills}
use Rattle.leaf_memo.specs.Below.{get_d_below, take_below, nodes_same, leaf_same, nodes_drop, nodes_length}
use Rattle.leaf_results.specs.Prepared.Asked.{still_prepared, prefix_word, pair_word}
use Rattle.leaf_results.specs.Prepared.Nodes.{leaf_fits, sound_store, sound_kept, node_resolves}
use Rattle.leaf_results.specs.Prepared.Repeats.{last_kept, last_filled}

prepared_kept : (t : Table) → Lawful t → (e p : ℕ) (old new : List ℕ) → take p new ≡ take p old → (k : ℕ) (r : Residual)
    → Valid t r → (k + length (nodes r)) * 257 ≤ p → Prepared t e old k r → Prepared t e new k r
unfolding nodes
prepared_kept t law e p old new same k (leaf n m) v h d =
    leaf_same t e p old new (k * 257) (pack n m) same (leaf_fits t law e (pack n m) (known_node t n m v.0).within)
    (omega arith) d
prepared_kept t law e p old new same k (pair n m l r) v h (inl d) =
    inl (get_d_below p new old (k * 257) same (omega arith) ∙ d.0, d.1)
prepared_kept t law e p old new same k (pair n m l r) v h (inr d) =
    let z = length-append (nodes l) (nodes r) in
    inr (
      get_d_below p new old (k * 257) same (omega arith) ∙ d.0,
      prepared_kept t law e p old new same (k + 1) l v.2 (omega (arith, z)) d.1,
      prepared_kept t law e p old new same (k + 1 + length (nodes l)) r v.3 (omega (arith, z)) d.2,
    )

module _ {t : Table} {bound e : ℕ} {old : List ℕ} (s : Loaded t bound e old) (k : ℕ) (f : TreeFrom t old k) where
  pub node_inside : k ≤ node_count old
  node_inside = by_place (native.Mathlib.Decide.dec_lt (node_count old) k)
    where
      by_place : Dec (node_count old < k) → k ≤ node_count old
      by_place (yes a) =
          let z = ap length (sym (nodes_none old k a) ∙ f.spelt) in
          absurd (omega (arith, nodes_positive f.tree, length-append (nodes f.tree) f.tail))
      by_place (no a) = omega arith

  here : nodes_from old k ≡ get_or old k 0 ∷ nodes_from old (k + 1)
  here = nodes_cons old k node_inside (omega (arith, node_inside, s.few, s.size))

  pub tree_asked : TreeAt t old k
  tree_asked = record {
    tree = f.tree;
    tail = _;
    spelt = nodes_drop old k (nodes f.tree) f.tail f.spelt;
    valid = f.valid;
  }

  -- the number of the tree's first node is written
  module _ (v : ℕ) where
    abbrev marked : List ℕ
    marked = set old (k * 257) v

    marked_before : take (k * 257) marked ≡ take (k * 257) old
    marked_before = take-set-le (k * 257) old (k * 257) v (omega arith)

    marked_slot : take 257 marked ≡ take 257 old
    marked_slot = take_below (k * 257) 257 marked old marked_before (omega (arith, f.first))

    marked_number : get_or marked (k * 257) 0 ≡ v
    marked_number = get_or-set_same old (k * 257) v 0 (omega (arith, node_inside, s.size, s.few))

    pub marked_store : StoreOf t marked
    marked_store = store_marks t old k v (omega (arith, node_inside, s.few)) (sound_store t bound e old s)

  pub leaf_done : Lawful t → kind_at t (get_or old k 0) ≡ 2 → (new : List ℕ) → LeafFilled t e old new k
      → TreeFilled t e old new k (record { next = k + 1; last = k })
  unfolding nodes
  leaf_done law q new n =
      record { before = n.before; tree = told; last = last_filled t bound e old s k f.first node_inside law new n }
    where
      told : (r : Residual) (ws : List ℕ) → nodes_from old k ≡ nodes r ++ ws → Valid t r
          → Prepared t e new k r × (k + 1 ≡ k + length (nodes r))
      told (leaf i m) ws g v = (rw (head_is (sym here ∙ g)) at n.leaf, omega arith)
      told (pair i m l r) ws g v = absurd (pair_word t i m l r v (head_is (sym here ∙ g)) q)

  module _ (c : Tree) (ta : Takes t e old k c) where
    asked : (r : Residual) (ws : List ℕ) → nodes_from old k ≡ nodes r ++ ws → Valid t r
        → (c.moves ≡ ltb 0 (length (after t e r))) × (c.next ≡ k + length (nodes r))
    asked r ws g v = ta.of r _ (nodes_drop old k (nodes r) ws g) v

    pub passed_done : c.moves ≡ false → (last : ℕ) → FilledBefore t e old k last
        → TreeFilled t e old (set old (k * 257) 0) k (record { next = c.next; last = last })
    passed_done stuck last b = record {
      before = marked_before 0;
      tree = λ r ws g v.
          let n = asked r ws g v in
          (still_prepared t e (marked 0) k r v (none_of _ (sym n.0 ∙ stuck)) (marked_number 0), n.1);
      last =
          last_kept t e old (marked 0) k (marked_before 0) c.next last
          (omega (arith, (asked f.tree f.tail f.spelt f.valid).1)) b;
    }

    module _ (yes : c.moves ≡ true) where
      some : (r : Residual) (ws : List ℕ) → nodes_from old k ≡ nodes r ++ ws → Valid t r → 0 < length (after t e r)
      some r ws g v = ltb-true 0 _ (sym (asked r ws g v).0 ∙ yes)

      pub leaf_held : kind_at t (get_or old k 0) ≡ 2 → holds_at t e (get_or old k 0) ≡ true
      unfolding nodes
      leaf_held q = by_tree f.tree f.tail f.spelt f.valid
        where
          by_tree : (r : Residual) (ws : List ℕ) → nodes_from old k ≡ nodes r ++ ws → Valid t r
              → holds_at t e (get_or old k 0) ≡ true
          by_tree (leaf n m) ws g v = (prefix_word t e n m v (some (leaf n m) ws g v) (head_is (sym here ∙ g))).1
          by_tree (pair n m l r) ws g v = absurd (pair_word t n m l r v (head_is (sym here ∙ g)) q)

      -- ---- a pair: its sides one after the other

      module _ (q : kind_at t (get_or old k 0) ≡ 2 → ⊥) where
        record Halves : Type 0 where
          l : Residual
          r : Residual
          tail : List ℕ
          spelt : nodes_from old (k + 1) ≡ nodes l ++ (nodes r ++ tail)
          left : Valid t l
          right : Valid t r

        halves : (r : Residual) (ws : List ℕ) → nodes_from old k ≡ nodes r ++ ws → Valid t r → Halves
        unfolding nodes
        halves (leaf n m) ws g v =
            absurd (q (prefix_word t e n m v (some (leaf n m) ws g v) (head_is (sym here ∙ g))).0)
        halves (pair n m l r) ws g v = record {
          l = l;
          r = r;
          tail = ws;
          spelt = tail_is (sym here ∙ g) ∙ append_assoc (nodes l) (nodes r) ws;
          left = v.2;
          right = v.3;
        }

        one : Halves
        one = halves f.tree f.tail f.spelt f.valid

        next_spelt : nodes_from (marked 1) (k + 1) ≡ nodes_from old (k + 1)
        next_spelt = nodes_same old (marked 1) (k + 1) (marked_slot 1) s.few (omega (arith, node_inside, s.few))

        pub left_asks : (last : ℕ) → FilledBefore t e old k last
            → Loaded t bound e (set old (k * 257) 1) × TreeFrom t (set old (k * 257) 1) (k + 1)
            × FilledBefore t e (set old (k * 257) 1) (k + 1) last
        left_asks last b = (
          sound_kept t bound e old (marked 1) s (marked_slot 1) (marked_store 1),
          record {
            first = omega arith;
            tree = one.l;
            tail = nodes one.r ++ one.tail;
            spelt = next_spelt ∙ one.spelt;
            valid = one.left;
          },
          last_kept t e old (marked 1) k (marked_before 1) (k + 1) last (omega arith) b,
        )

        module _ (a : TreeEnd) (x : List ℕ) (fl : TreeFilled t e (set old (k * 257) 1) x (k + 1) a) where
          left_slot : take 257 x ≡ take 257 old
          left_slot =
              take_below ((k + 1) * 257) 257 x (marked 1) fl.before (omega arith) ∙ marked_slot 1

          module _ (l r : Residual) (ws : List ℕ) (g : nodes_from old (k + 1) ≡ nodes l ++ (nodes r ++ ws))
              (v : Valid t l) where
            left_told : Prepared t e x (k + 1) l × (a.next ≡ k + 1 + length (nodes l))
            left_told = fl.tree l (nodes r ++ ws) (next_spelt ∙ g) v

            left_end : a.next ≤ node_count old + 1
            left_end =
                omega (
                  arith,
                  node_inside,
                  left_told.1,
                  nodes_length old (k + 1) (omega (arith, node_inside)) (omega (arith, s.few, s.size)),
                  ap length g,
                  length-append (nodes l) (nodes r ++ ws),
                )

            right_spelt : nodes_from x a.next ≡ nodes r ++ ws
            right_spelt =
                nodes_same old x a.next left_slot s.few (omega (arith, left_end, s.few))
                ∙ rw left_told.1
                (nodes_skip old (k + 1) (nodes l) (nodes r ++ ws) (omega (arith, s.few, s.size)) g)

          further : k < a.next
          further = omega (arith, (left_told one.l one.r one.tail one.spelt one.left).1)

          pub right_asks : StoreOf t x → Loaded t bound e x × TreeFrom t x a.next × (k < a.next)
          right_asks h = (
            sound_kept t bound e old x s left_slot h,
            record {
              first = omega (arith, further);
              tree = one.r;
              tail = one.tail;
              spelt = right_spelt one.l one.r one.tail one.spelt one.left;
              valid = one.right;
            },
            further,
          )

          module _ (law : Lawful t) (b : TreeEnd) (y : List ℕ) (fr : TreeFilled t e x y a.next b) where
            pair_number : get_or y (k * 257) 0 ≡ 1
            pair_number =
                get_d_below (a.next * 257) y x (k * 257) fr.before (omega (arith, further))
                ∙ get_d_below ((k + 1) * 257) x (marked 1) (k * 257) fl.before (omega arith) ∙ marked_number 1

            told : (r : Residual) (ws : List ℕ) → nodes_from old k ≡ nodes r ++ ws → Valid t r
                → Prepared t e y k r × (b.next ≡ k + length (nodes r))
            unfolding nodes
            told (leaf n m) ws g v =
                absurd (q (prefix_word t e n m v (some (leaf n m) ws g v) (head_is (sym here ∙ g))).0)
            told (pair n m l r) ws g v =
                let h = tail_is (sym here ∙ g) ∙ append_assoc (nodes l) (nodes r) ws in
                let dl = left_told l r ws h v.2 in
                let dr = fr.tree r ws (right_spelt l r ws h v.2) v.3 in (
                  inr (
                    pair_number,
                    prepared_kept t law e (a.next * 257) x y fr.before (k + 1) l v.2 (omega (arith, dl.1))
                        dl.0,
                    rw dl.1 at dr.0,
                  ),
                  omega (arith, dl.1, dr.1, length-append (nodes l) (nodes r)),
                )

            pub pair_done : TreeFilled t e old y k b
            pair_done = record {
              before =
                  take_below (a.next * 257) (k * 257) y x fr.before (omega (arith, further))
                  ∙ take_below ((k + 1) * 257) (k * 257) x (marked 1) fl.before (omega arith) ∙ marked_before 1;
              tree = told;
              last = fr.last;
            }

-- ---- the whole residual

module _ {t : Table} {bound e : ℕ} {old : List ℕ} (s : Loaded t bound e old) where
  pub whole_asks : TreeFrom t old 1
  whole_asks = record {
    first = omega arith;
    tree = s.tree;
    tail = _;
    spelt = s.spelt ∙ sym (append-nil (nodes s.tree));
    valid = s.valid;
  }

  pub whole_done : Lawful t → (c : TreeEnd) (new : List ℕ) → TreeFilled t e old new 1 c → StoreOf t new
      → Fills t bound e old new
  whole_done law c new f h =
      let now = sound_kept t bound e old new s f.before h in
      record {
        ready = record {
          size = now.size;
          few = now.few;
          law = law;
          event = now.event;
          resolvable = λ j a b q z. node_resolves t bound e new now j a b law q z;
        };
        slot = f.before;
        tree = λ r v g. (f.tree r _ (g ∙ sym (append-nil (nodes r))) v).0;
      }
