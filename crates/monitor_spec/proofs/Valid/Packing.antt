-- A slot gives back its residual. Assumes nothing.
use Rattle.std.specs.Prelude.{ℕ, ◌-◌, ◌≡◌, take}
use Rattle.std.proofs.Math.Path.{refl, ap}
use Rattle.std.proofs.Common.{ap₂, sym, ◌∙◌}
use mathlib.Core.List.{List, [], ◌∷◌, ◌++◌, append_assoc, append-nil}
use Rattle.std.proofs.Math.Option.{some}
use Rattle.std.proofs.Math.ListN.{length, replicate}
use Rattle.std.proofs.Math.Seq.{take-append_seam}
use Rattle.table.specs.Table.{Table, Term, stop, fail, prefix, choice, par, call, term_at}
use Rattle.table.specs.Memory.{Memory}
use Rattle.residuals.specs.Residual.{Residual, leaf, pair}
use Rattle.monitor_spec.specs.Meaning.{IsLeaf, IsPar, Sound}
use Rattle.node_word.specs.Word.{pack, term_of_word, memory_of, Digits}
use Rattle.node_word.proofs.Word.Laws.{term_pack, memory_pack}
use Rattle.residuals.specs.Slots.{nodes, slot_of}
use Rattle.monitor_spec.specs.Valid.{join_trees, plant, plant_word, forest, one_tree, slot_residual}

abbrev pub DigitsAll : Residual → Type 0
DigitsAll (leaf n m) = Digits m
DigitsAll (pair n m l r) = Digits m × DigitsAll l × DigitsAll r

module _ (t : Table) where
  plant_at : (n : ℕ) (m : Memory) (rs : List Residual) (x : Term) → Digits m → term_at t n ≡ some x
      → plant_word t (pack n m) rs ≡ plant n m rs x
  unfolding plant_word
  plant_at n m rs x h e =
      let a : term_of_word (pack n m) ≡ n = term_pack n m h in
      let b : memory_of (pack n m) ≡ m = memory_pack n m h in
      let f : term_at t (term_of_word (pack n m)) ≡ some x = ap (term_at t) a ∙ e in
      rw (f, plant_word) (ap₂ (λ (i : ℕ) (k : Memory). plant i k rs x) a b)

  plant_leaf : (n : ℕ) (m : Memory) (rs : List Residual) (x : Term) → IsLeaf x → plant n m rs x ≡ some (leaf n m ∷ rs)
  unfolding plant
  plant_leaf n m rs stop i = refl
  plant_leaf n m rs fail i = absurd i
  plant_leaf n m rs (prefix r p) i = refl
  plant_leaf n m rs (choice p q) i = absurd i
  plant_leaf n m rs (par r p q) i = absurd i
  plant_leaf n m rs (call d) i = absurd i

  plant_pair : (n : ℕ) (m : Memory) (l r : Residual) (rs : List Residual) (x : Term) → IsPar x
      → plant n m (l ∷ r ∷ rs) x ≡ some (pair n m l r ∷ rs)
  unfolding plant join_trees
  plant_pair n m l r rs stop i = absurd i
  plant_pair n m l r rs fail i = absurd i
  plant_pair n m l r rs (prefix s p) i = absurd i
  plant_pair n m l r rs (choice p q) i = absurd i
  plant_pair n m l r rs (par s p q) i = refl
  plant_pair n m l r rs (call d) i = absurd i

  forest_word : (w : ℕ) (ws : List ℕ) (rs : List Residual) → forest t ws ≡ some rs
      → forest t (w ∷ ws) ≡ plant_word t w rs
  unfolding forest
  forest_word w ws rs e = rw (e, forest)

  -- a tree's words are read as that tree
  pub forest_nodes : (r : Residual) → Sound t r → DigitsAll r → (ws : List ℕ) (rs : List Residual)
      → forest t ws ≡ some rs → forest t (nodes r ++ ws) ≡ some (r ∷ rs)
  unfolding nodes
  forest_nodes (leaf n m) (x, e, i) d ws rs h =
      forest_word (pack n m) ws rs h ∙ plant_at n m rs x d e ∙ plant_leaf n m rs x i
  forest_nodes (pair n m l r) (x, e, i, a, b) d ws rs h =
      let k : forest t (nodes l ++ (nodes r ++ ws)) ≡ some (l ∷ r ∷ rs) =
      forest_nodes l a d.1 (nodes r ++ ws) (r ∷ rs) (forest_nodes r b d.2 ws rs h) in
      ap (λ (z : List ℕ). forest t (pack n m ∷ z)) (append_assoc (nodes l) (nodes r) ws)
      ∙ forest_word (pack n m) (nodes l ++ (nodes r ++ ws)) (l ∷ r ∷ rs) k
      ∙ plant_at n m (l ∷ r ∷ rs) x d.0 e
      ∙ plant_pair n m l r rs x i

  forest_whole : (r : Residual) → Sound t r → DigitsAll r → forest t (nodes r) ≡ some (r ∷ [])
  unfolding forest
  forest_whole r s d = ap (forest t) (sym (append-nil (nodes r))) ∙ forest_nodes r s d [] [] refl

  slot_tree : (c : ℕ) (ws : List ℕ) (r : Residual) → forest t (take c ws) ≡ some (r ∷ [])
      → slot_residual t (c ∷ ws) ≡ some r
  unfolding slot_residual one_tree
  slot_tree c ws r e = rw (e, slot_residual)

  -- a slot is read as its residual
  pub slot_residual_slot_of : (r : Residual) → Sound t r → DigitsAll r → slot_residual t (slot_of r) ≡ some r
  unfolding slot_of
  slot_residual_slot_of r s d =
      slot_tree (length (nodes r)) (nodes r ++ replicate (15 - length (nodes r)) 0) r
      (ap (forest t) (take-append_seam (nodes r) (replicate (15 - length (nodes r)) 0)) ∙ forest_whole r s d)
