-- The words of a residual from each node on are those of trees, one after the other.
--     forest_tail, forest_known, none_spelt    such words without the first; the first; where there are none
--     root_inside, whole, node, words_from     the residual's words; the first of those from a node on; they are such
-- Assumes nothing.
use Rattle.std.specs.Prelude.{ℕ, zero, suc, ◌+◌, ◌-◌, ◌<◌, ◌≤◌, ◌≡◌, refl, length, get_or, drop}
use native.Mathlib.Omega.{arith}
use Rattle.std.proofs.Common.{add-one, ap, subst, ◌∙◌, length-append, length-drop}
use Rattle.std.proofs.Math.Path.{sym}
use mathlib.Core.List.{List, [], ◌∷◌, ◌++◌, append_assoc, append-nil}
use Rattle.std.proofs.Math.Seq.{take-append_seam}
use Rattle.table.specs.Table.{Table}
use Rattle.residuals.specs.Residual.{Residual, leaf, pair}
use Rattle.residuals.specs.Slots.{nodes, nodes_all}
use Rattle.resolving.specs.Words.{KnownWord}
use Rattle.resolving.specs.Distinct.{window}
use Rattle.resolving.specs.Distinct.Laws.{window_cons}
use Rattle.tree_walk.specs.Forest.{AllValid, Forest}
use Rattle.tree_walk.specs.Forest.Words.{known_node, nodes_positive}
use Rattle.tree_walk.specs.Course.Turns.{head_is, tail_is, no_cons}
use Rattle.tree_ways.specs.Only.{Rooted}

-- ---- words of trees, one after the other

module _ (t : Table) (w : ℕ) (ws : List ℕ) where
  forest_tail : (rs : List Residual) → w ∷ ws ≡ nodes_all rs → AllValid t rs → Forest t ws
  unfolding nodes_all nodes
  forest_tail [] g v = no_cons g
  forest_tail (leaf n m ∷ rs) g v = record { trees = rs; spelt = tail_is g; valid = v.1 }
  forest_tail (pair n m l r ∷ rs) g v = record {
    trees = l ∷ r ∷ rs;
    spelt = tail_is g ∙ append_assoc (nodes l) (nodes r) (nodes_all rs);
    valid = (v.0.2, (v.0.3, v.1));
  }

  pub forest_known : (rs : List Residual) → w ∷ ws ≡ nodes_all rs → AllValid t rs → KnownWord t w
  unfolding nodes_all nodes
  forest_known [] g v = no_cons g
  forest_known (leaf n m ∷ rs) g v = rw (head_is g) (known_node t n m v.0.0)
  forest_known (pair n m l r ∷ rs) g v = rw (head_is g) (known_node t n m v.0.0)

pub none_spelt : (rs : List Residual) → [] ≡ nodes_all rs → rs ≡ []
unfolding nodes_all
none_spelt [] g = refl
none_spelt (r ∷ rs) g =
    absurd (omega (arith, ap length g, nodes_positive r, length-append (nodes r) (nodes_all rs)))

-- ---- the residual's words

module _ {t : Table} {area : List ℕ} {k n : ℕ} (s : Rooted t area k n) where
  pub root_inside : (k + n ≤ length area) × (n ≤ 15)
  root_inside =
      let at = s.short.at in (
        omega (
          arith,
          s.count,
          ap length at.spelt,
          length-append (nodes at.tree) at.tail,
          length-drop k area,
          nodes_positive at.tree,
        ),
        omega (arith, s.count, s.short.few),
      )

  spelt_window : (r : Residual) (ws : List ℕ) → drop k area ≡ nodes r ++ ws → n ≡ length (nodes r)
      → window k n area ≡ nodes r
  unfolding window
  spelt_window r ws g h = rw (g, h) (take-append_seam (nodes r) ws)

  pub whole : (r : Residual) (ws : List ℕ) → drop k area ≡ nodes r ++ ws → n ≡ length (nodes r)
      → window (k + 0) (n - 0) area ≡ nodes_all (r ∷ [])
  unfolding nodes_all
  whole r ws g h =
      let z : k + 0 ≡ k = omega arith in
      let y : n - 0 ≡ n = omega arith in
      rw (z, y) (spelt_window r ws g h ∙ sym (append-nil (nodes r)))

  pub node : (i : ℕ) → i < n
      → window (k + i) (n - i) area ≡ get_or area (k + i) 0 ∷ window (k + (i + 1)) (n - (i + 1)) area
  node i h =
      let z : n - i ≡ suc (n - (i + 1)) = omega arith in
      let y : k + (i + 1) ≡ k + i + 1 = omega arith in
      rw (z, y) (window_cons (k + i) (n - (i + 1)) area (omega (arith, root_inside.0)))

  -- the words from each node on are those of trees
  pub words_from : (j : ℕ) → j ≤ n → Forest t (window (k + j) (n - j) area)
  words_from zero h =
      let at = s.short.at in
      record {
        trees = at.tree ∷ [];
        spelt = whole at.tree at.tail at.spelt s.count;
        valid = (at.valid, tt);
      }
  words_from (suc j) h =
      let f = words_from j (omega arith) in
      subst (λ (x : ℕ). Forest t (window (k + x) (n - x) area)) (add-one j)
      (forest_tail t _ _ f.trees (sym (node j (omega arith)) ∙ f.spelt) f.valid)
