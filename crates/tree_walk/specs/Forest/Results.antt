-- The results of a walk over a tree that is kept, and over one that takes the event.
--     results_kept, results_moved     the walk over that tree, and then over the others
--     kept_both, kept_either          after_kept of a pair
-- Assumes nothing.
use Rattle.std.specs.Prelude.{ℕ, ◌+◌, ◌*◌, ◌/◌, ◌≡◌, refl, Bool, List, [], ◌∷◌, ◌++◌, map}
use native.Mathlib.Omega.{arith}
use Rattle.std.proofs.Common.{ap, sym, ◌∙◌, append_assoc}
use Rattle.std.proofs.Math.Bool.{true, false}
use Rattle.std.proofs.lemmas.List.{map-append}
use Rattle.table.specs.Table.{Table}
use Rattle.table.specs.Node.{term_of, ref_of}
use Rattle.table.specs.Memory.{Memory}
use Rattle.table.specs.Member.{member}
use Rattle.node_word.specs.Word.{pack}
use Rattle.residuals.specs.Residual.{Residual, leaf, pair, pairs}
use Rattle.residuals.specs.Slots.{nodes}
use Rattle.tree_walk.specs.Walk.{joins, before, results}
use Rattle.tree_walk.specs.Walk.Results.{kept_pair, kept_leaf, both_sides, one_side, moved_leaf, odd, half}
use Rattle.tree_walk.specs.Forest.{Valid, after_kept}
use Rattle.tree_walk.specs.Forest.Words.{kind_of_node, holds_of_node, options_of_node, joins_one, joins_append}
use Rattle.tree_walk.specs.Forest.Words.{grouped, nodes_pairs}

-- ---- a tree that is kept

spelt_pair : (n : ℕ) (m : Memory) (l r : Residual) (ws : List ℕ) → nodes (pair n m l r) ++ ws
    ≡ pack n m ∷ (nodes l ++ (nodes r ++ ws))
unfolding nodes
spelt_pair n m l r ws = ap (λ (x : List ℕ). pack n m ∷ x) (append_assoc (nodes l) (nodes r) ws)

one_pair : (n : ℕ) (m : Memory) (l r : Residual) → before (pack n m) (joins (nodes l ∷ []) (nodes r ∷ []))
    ≡ nodes (pair n m l r) ∷ []
unfolding nodes joins before
one_pair n m l r = refl

one_leaf : (n : ℕ) (m : Memory) (c : List (List ℕ)) → before (pack n m) c ≡ joins (nodes (leaf n m) ∷ []) c
unfolding nodes before
one_leaf n m c = sym (joins_one (pack n m ∷ []) c)

spelt_leaf : (n : ℕ) (m : Memory) (ws : List ℕ) → nodes (leaf n m) ++ ws ≡ pack n m ∷ ws
unfolding nodes
spelt_leaf n m ws = refl

module _ (t : Table) (e : ℕ) where
  pub results_kept : (r : Residual) → Valid t r → (ws : List ℕ) (rest : ℕ) → results t e (nodes r ++ ws) (rest * 2)
      ≡ joins (nodes r ∷ []) (results t e ws rest)
  results_kept (leaf n m) v ws rest =
      let d : rest * 2 / 2 ≡ rest = omega arith in
      rw (spelt_leaf n m ws)
      (kept_leaf t e (pack n m) ws (rest * 2) (omega arith) (λ q. v.1 (sym (kind_of_node n m v.0.0 t) ∙ q))
      ∙ rw d (one_leaf n m (results t e ws rest)))
  results_kept (pair n m l r) v ws rest =
      let d : rest * 2 / 2 * 4 ≡ rest * 2 * 2 = omega arith in
      rw (spelt_pair n m l r ws)
      (kept_pair t e (pack n m) (nodes l ++ (nodes r ++ ws)) (rest * 2) (omega arith)
      (kind_of_node n m v.0.0 t ∙ v.1)
      ∙ rw (d, results_kept l v.2 (nodes r ++ ws) (rest * 2), results_kept r v.3 ws rest)
      (grouped (pack n m) (nodes l ∷ []) (nodes r ∷ []) (results t e ws rest) ∙ rw (one_pair n m l r)))

  -- ---- a tree that takes the event

  pub kept_both : (n : ℕ) (m : Memory) (l r : Residual) → member t (ref_of (term_of t n)) m e ≡ true
      → after_kept t e (pair n m l r) ≡ pairs n m (after_kept t e l) (after_kept t e r)
  unfolding after_kept
  kept_both n m l r h = rw (h, after_kept)

  pub kept_either : (n : ℕ) (m : Memory) (l r : Residual) → member t (ref_of (term_of t n)) m e ≡ false
      → after_kept t e (pair n m l r) ≡ pairs n m (after_kept t e l) (r ∷ []) ++ pairs n m (l ∷ []) (after_kept t e r)
  unfolding after_kept
  kept_either n m l r h = rw (h, after_kept)

  Moved : Residual → Type 0
  Moved r =
      (ws : List ℕ) (rest : ℕ) → results t e (nodes r ++ ws) (rest * 2 + 1)
      ≡ joins (map nodes (after_kept t e r)) (results t e ws rest)

  pair_moved : (n : ℕ) (m : Memory) (l r : Residual) → Valid t (pair n m l r) → Moved l → Moved r → (b : Bool)
      → member t (ref_of (term_of t n)) m e ≡ b → Moved (pair n m l r)
  unfolding Moved
  pair_moved n m l r v ml mr true h ws rest =
      let d : rest * 4 + 3 ≡ (rest * 2 + 1) * 2 + 1 = omega arith in
      rw (spelt_pair n m l r ws)
      (both_sides t e (pack n m) (nodes l ++ (nodes r ++ ws)) (rest * 2 + 1) (odd rest)
      (kind_of_node n m v.0.0 t ∙ v.1) (holds_of_node n m v.0.0 t e ∙ h)
      ∙ rw (half rest, d, ml (nodes r ++ ws) (rest * 2 + 1), mr ws rest)
      (grouped (pack n m) (map nodes (after_kept t e l)) (map nodes (after_kept t e r)) (results t e ws rest)
      ∙ rw (kept_both n m l r h, nodes_pairs n m (after_kept t e l) (after_kept t e r))))
  pair_moved n m l r v ml mr false h ws rest =
      let d : rest * 4 + 1 ≡ (rest * 2) * 2 + 1 = omega arith in
      let f : rest * 4 + 2 ≡ (rest * 2 + 1) * 2 = omega arith in
      rw (spelt_pair n m l r ws)
      (one_side t e (pack n m) (nodes l ++ (nodes r ++ ws)) (rest * 2 + 1) (odd rest)
      (kind_of_node n m v.0.0 t ∙ v.1) (holds_of_node n m v.0.0 t e ∙ h)
      ∙ rw (
        half rest,
        d,
        f,
        ml (nodes r ++ ws) (rest * 2),
        results_kept r v.3 ws rest,
        results_kept l v.2 (nodes r ++ ws) (rest * 2 + 1),
        mr ws rest,
        grouped (pack n m) (map nodes (after_kept t e l)) (nodes r ∷ []) (results t e ws rest),
        grouped (pack n m) (nodes l ∷ []) (map nodes (after_kept t e r)) (results t e ws rest),
        ← (nodes_pairs n m (after_kept t e l) (r ∷ [])),
        ← (nodes_pairs n m (l ∷ []) (after_kept t e r)),
      )
      (sym (joins_append (map nodes (pairs n m (after_kept t e l) (r ∷ [])))
      (map nodes (pairs n m (l ∷ []) (after_kept t e r))) (results t e ws rest))
      ∙ rw (
        ← (map-append nodes (pairs n m (after_kept t e l) (r ∷ [])) (pairs n m (l ∷ []) (after_kept t e r))),
        kept_either n m l r h,
      )))

  leaf_moved : (n : ℕ) (m : Memory) → Valid t (leaf n m) → Moved (leaf n m)
  unfolding Moved after_kept
  leaf_moved n m v ws rest =
      rw (spelt_leaf n m ws)
      (moved_leaf t e (pack n m) ws (rest * 2 + 1) (odd rest) (λ q. v.1 (sym (kind_of_node n m v.0.0 t) ∙ q))
      ∙ rw (half rest, options_of_node n m v.0.0 t e))

  moved : (r : Residual) → Valid t r → Moved r
  moved (leaf n m) v = leaf_moved n m v
  moved (pair n m l r) v =
      pair_moved n m l r v (moved l v.2) (moved r v.3) (member t (ref_of (term_of t n)) m e) refl

  pub results_moved : (r : Residual) → Valid t r → (ws : List ℕ) (rest : ℕ)
      → results t e (nodes r ++ ws) (rest * 2 + 1) ≡ joins (map nodes (after_kept t e r)) (results t e ws rest)
  unfolding Moved
  results_moved r v = moved r v
