-- The residuals after the event, by way; a leaf.
--     MovedBy, Became                          what a way says of the residuals after the event
--     way_not_kind, way_not_held, way_held     the way of a leaf
--     leaf_became                              what it says
-- Pairs are in `Pair.antt`. Assumes nothing.
use Rattle.std.specs.Prelude.{ℕ, zero, suc, ◌+◌, ◌<◌, ◌≡◌, refl, Bool, true, false, length}
use Rattle.std.proofs.Common.{arith, ap, ap₂, subst, ◌∙◌, eq-eqb, ne_eqb}
use Rattle.std.proofs.Math.Decide.{ℕ_discrete}
use Rattle.std.proofs.Math.Path.{sym}
use mathlib.Core.List.{List, [], ◌∷◌, ◌++◌, map, append-nil}
use Rattle.table.specs.Table.{Table}
use Rattle.table.specs.Branches.{branches}
use Rattle.table.specs.Node.{term_of}
use Rattle.tree_ways.specs.declared.only.Moves.{Moves}
use Rattle.tree_ways.specs.declared.only.Way.{Way}
use Rattle.tree_ways.specs.declared.only.Way.TheVariants.{Still, Moving, Many}
use Rattle.table.specs.Memory.{Memory}
use Rattle.node_word.specs.Word.{pack, term_of_word}
use Rattle.node_word.proofs.Word.Laws.{term_pack}
use Rattle.residuals.specs.Residual.{Residual, leaf, after}
use Rattle.residuals.specs.Slots.{nodes}
use Rattle.resolving.specs.Words.{kind_at, holds_at}
use Rattle.resolving.specs.Lawful.{Lawful}
use Rattle.resolving.specs.ResidualWords.{nth}
use Rattle.resolving.specs.ResidualWords.Resolved.{length_resolved}
use Rattle.tree_walk.specs.Walk.{option, leaf_results}
use Rattle.tree_walk.specs.Forest.{Valid}
use Rattle.tree_walk.specs.Walk.Leaves.{results_yes}
use Rattle.tree_ways.specs.Covering.{results_not_kind, results_not_held}
use Rattle.tree_ways.specs.Members.{node_results}
use Rattle.tree_ways.specs.Only.{leaf_moves, count_way, leaf_way}
use Rattle.tree_ways.specs.Only.{rebuilt, ending, tried, moved, Active, Movable, Marked}
use Rattle.tree_ways.specs.Only.Marks.{grown_moved}
use Rattle.tree_ways.specs.Only.Moved.{tried_some}

-- ---- what a way says

pub record MovedBy (t : Table) (e : ℕ) (r : Residual) (m : Moves) : Type 0 where
  pub all : map nodes (after t e r) ≡ moved t e (nodes r) m.each m.also
  pub some : 0 < m.each
  pub can : Movable t e (nodes r) m.each
  pub marked : Marked t e (nodes r) m.also
  pub only : m.lone ≡ true → map nodes (after t e r) ≡ rebuilt t e (nodes r) (m.each + m.also) ∷ []
  pub single : m.lone ≡ true → Marked t e (nodes r) (m.each + m.also)

abbrev pub Became : Table → ℕ → Residual → Way → Type 0
Became t e r Still = after t e r ≡ []
Became t e r (Moving m) = MovedBy t e r m
Became t e r Many = Unit

-- ---- a leaf

module _ (t : Table) (e w : ℕ) where
  pub way_not_kind : (kind_at t w ≡ 2 → ⊥) → Still ≡ leaf_way t e w
  unfolding leaf_way
  way_not_kind k = rw (ne_eqb _ _ k, leaf_way)

  module _ (k : kind_at t w ≡ 2) where
    pub way_not_held : holds_at t e w ≡ false → Still ≡ leaf_way t e w
    unfolding leaf_way
    way_not_held h = rw (eq-eqb _ _ k, h, leaf_way)

    pub way_held : holds_at t e w ≡ true → leaf_way t e w ≡ count_way (branches t (term_of t (term_of_word w + 1)))
    unfolding leaf_way
    way_held h = rw (eq-eqb _ _ k, h, leaf_way)

only_one : (l : List Residual) → length l ≡ 1 → map nodes l ≡ nodes (nth l 0) ∷ []
unfolding nth
only_one [] z = absurd (omega arith)
only_one (r ∷ []) z = refl
only_one (r ∷ (s ∷ l)) z = absurd (omega arith)

no_one : (l : List Residual) → length l ≡ 0 → l ≡ []
no_one [] z = refl
no_one (r ∷ l) z = absurd (omega arith)

ending_nothing : (xs : List (List ℕ)) → ending [] xs ≡ xs
ending_nothing [] = refl
ending_nothing (x ∷ xs) = ap₂ (λ (y : List ℕ) (l : List (List ℕ)). y ∷ l) (append-nil x) (ending_nothing xs)

module _ (t : Table) (law : Lawful t) (e n : ℕ) (m : Memory) (v : Valid t (leaf n m)) where
  abbrev w : ℕ
  w = pack n m

  after_is : after t e (leaf n m) ≡ leaf_results t e w
  after_is = sym (node_results t e n m v.0.0)

  module _ (k : kind_at t w ≡ 2) (h : holds_at t e w ≡ true) where
    active : Active t e w
    active = record { within = rw (term_pack n m v.0.0) v.0.1; kind = k; held = h }

    count_is : length (leaf_results t e w) ≡ branches t (term_of t (term_of_word w + 1))
    count_is = ap length (results_yes t e w (eq-eqb _ _ k) h) ∙ length_resolved t law _ _

    leaf_all : map nodes (after t e (leaf n m)) ≡ moved t e (nodes (leaf n m)) 1 0
    unfolding nodes moved tried rebuilt
    leaf_all =
        rw (after_is, tried_some t e w 1 [] (λ z. absurd (omega arith)))
        (sym (append-nil (ending [] (map nodes (leaf_results t e w))) ∙ ending_nothing (map nodes (leaf_results t e w))))

    leaf_moves_lem : (o : Bool) → (o ≡ true → branches t (term_of t (term_of_word w + 1)) ≡ 1)
        → MovedBy t e (leaf n m) (leaf_moves o)
    unfolding nodes rebuilt option
    leaf_moves_lem o f = record {
      all = leaf_all;
      some = omega arith;
      can = (λ z. active, refl);
      marked = (λ z. absurd (z refl), tt);
      only = λ z. rw after_is (only_one (leaf_results t e w) (count_is ∙ f z)
          ∙ sym (ap (λ (x : List ℕ). (x ++ []) ∷ []) (grown_moved t e w 1 (λ y. absurd (omega arith)))
          ∙ rw (append-nil (option t e w 0), results_yes t e w (eq-eqb _ _ k) h)));
      single = λ z. (λ y. record { active = active; alone = f z }, tt);
    }

    by_count : (c : ℕ) → branches t (term_of t (term_of_word w + 1)) ≡ c → Became t e (leaf n m) (count_way c)
    by_count zero ec = after_is ∙ no_one (leaf_results t e w) (count_is ∙ ec)
    by_count (suc zero) ec = leaf_moves_lem true (λ z. ec)
    by_count (suc (suc c)) ec = leaf_moves_lem false (λ z. absurd (let y : ◌≡◌ {A = ℕ} 0 1 = cc in omega arith))

  pub leaf_became : Became t e (leaf n m) (leaf_way t e w)
  leaf_became =
      elim (ℕ_discrete (kind_at t w) 2) [
        | yes k ↦ by_held (holds_at t e w) refl k
        | no k ↦ subst (Became t e (leaf n m)) (way_not_kind t e w k)
            (after_is ∙ results_not_kind t e w (ne_eqb _ _ k))
      ]
    where
      by_held : (b : Bool) → holds_at t e w ≡ b → kind_at t w ≡ 2 → Became t e (leaf n m) (leaf_way t e w)
      by_held true h k = subst (Became t e (leaf n m)) (sym (way_held t e w k h)) (by_count k h _ refl)
      by_held false h k =
          subst (Became t e (leaf n m)) (way_not_held t e w k h)
          (after_is ∙ results_not_held t e w (eq-eqb _ _ k) h)
