-- The words of the trees that node words spell are these words.
--     spelled, one_words    of trees; of one tree
-- Assumes nothing.
use Rattle.std.specs.Prelude.{ℕ, ◌≡◌}
use Rattle.std.proofs.Math.Path.{refl, ap, ap₂, sym}
use Rattle.std.proofs.Common.{◌∙◌}
use mathlib.Core.List.{List, [], ◌∷◌, append_assoc, append-nil}
use Rattle.std.proofs.Math.Option.{Option, none, some}
use Rattle.table.specs.Table.{Table, Term, stop, fail, prefix, choice, par, call, term_at}
use Rattle.table.specs.Memory.{Memory}
use Rattle.residuals.specs.Residual.{Residual, leaf, pair}
use Rattle.node_word.specs.Word.{pack, term_of_word, memory_of}
use Rattle.node_word.proofs.Word.Laws.{word_pack}
use Rattle.residuals.specs.Slots.{nodes, nodes_all}
use Rattle.monitor_spec.specs.Valid.{join_trees, plant, plant_word, forest}
use Rattle.monitor_spec.proofs.Valid.Laws.{some_same, none_some, plant_none, plant_some, forest_none, forest_some}

join_words : (n : ℕ) (m : Memory) (qs rs : List Residual) → join_trees n m qs ≡ some rs
    → nodes_all rs ≡ pack n m ∷ nodes_all qs
unfolding join_trees nodes_all nodes
join_words n m [] rs e = none_some rs e
join_words n m (x ∷ []) rs e = none_some rs e
join_words n m (x ∷ y ∷ qs) rs e =
    ap nodes_all (sym (some_same (pair n m x y ∷ qs) rs e))
    ∙ ap (pack n m ∷◌) (append_assoc (nodes x) (nodes y) (nodes_all qs))

leaf_words : (n : ℕ) (m : Memory) (qs rs : List Residual) → some (leaf n m ∷ qs) ≡ some rs
    → nodes_all rs ≡ pack n m ∷ nodes_all qs
unfolding nodes_all nodes
leaf_words n m qs rs e = ap nodes_all (sym (some_same (leaf n m ∷ qs) rs e))

plant_words : (n : ℕ) (m : Memory) (p : Term) (qs rs : List Residual) → plant n m qs p ≡ some rs
    → nodes_all rs ≡ pack n m ∷ nodes_all qs
unfolding plant
plant_words n m stop qs rs e = leaf_words n m qs rs e
plant_words n m fail qs rs e = none_some rs e
plant_words n m (prefix s p) qs rs e = leaf_words n m qs rs e
plant_words n m (choice p q) qs rs e = none_some rs e
plant_words n m (par s p q) qs rs e = join_words n m qs rs e
plant_words n m (call d) qs rs e = none_some rs e

module _ (t : Table) where
  pub spelled : (ws : List ℕ) (rs : List Residual) → forest t ws ≡ some rs → nodes_all rs ≡ ws
  unfolding forest nodes_all
  spelled [] rs e = ap nodes_all (sym (some_same [] rs e))
  spelled (w ∷ ws) rs e = by (forest t ws) refl (spelled ws)
    where
      word : (qs : List Residual) → nodes_all qs ≡ ws → plant_word t w qs ≡ some rs → (o : Option Term)
          → term_at t (term_of_word w) ≡ o → nodes_all rs ≡ w ∷ ws
      word qs q h none k = none_some rs (sym (plant_none t w qs k) ∙ h)
      word qs q h (some p) k =
          plant_words (term_of_word w) (memory_of w) p qs rs (sym (plant_some t w qs p k) ∙ h)
          ∙ ap₂ ◌∷◌ (word_pack w) q

      by : (o : Option (List Residual)) → forest t ws ≡ o
          → ((qs : List Residual) → forest t ws ≡ some qs → nodes_all qs ≡ ws) → nodes_all rs ≡ w ∷ ws
      by none k ih = none_some rs (sym (forest_none t w ws k) ∙ e)
      by (some qs) k ih = word qs (ih qs k) (sym (forest_some t w ws qs k) ∙ e) (term_at t (term_of_word w)) refl

  pub one_words : (ws : List ℕ) (r : Residual) → forest t ws ≡ some (r ∷ []) → nodes r ≡ ws
  unfolding nodes_all
  one_words ws r e = sym (append-nil (nodes r)) ∙ spelled ws (r ∷ []) e
