-- A walk over node words keeps the number of the trees that they spell and the sum of their reach, and is lost where
-- they spell none or a memory does not fit.
--     kept, planted_all_forest   what is kept of trees; the walk is what is kept of `forest`
-- Assumes nothing.
use Prim.Native.Nat.{ℕ, suc, ◌+◌, ◌-◌, ◌≤◌, ◌<◌}
use native.Mathlib.Omega.{arith}
use Rattle.std.proofs.Common.{add-one, ◌∙◌}
use Rattle.std.proofs.Math.Decide.{dec_lt}
use Rattle.std.specs.Prelude.{◌≡◌, Bool, ◌&&◌, length, None}
use Rattle.std.proofs.Math.Path.{refl, ap, ap₂, sym}
use Rattle.std.proofs.Math.Bool.{true, false, and_assoc}
use mathlib.Core.List.{List, [], ◌∷◌}
use Rattle.std.proofs.Math.Option.{Option, none, some}
use Rattle.table.specs.Table.{Table, Term, stop, fail, prefix, choice, par, call, term_count, term_at, enclosing}
use Rattle.table.specs.Node.{term_of as nodeTerm}
use Rattle.table.proofs.Node.Numbers.{term_at_lem}
use Rattle.table.specs.Memory.{Memory}
use Rattle.table.specs.Width.{reach}
use Rattle.table.proofs.Stands.Laws.{number_at, number_below}
use Rattle.monitor_spec.proofs.Proper.Laws.{reach_at_at}
use Rattle.residuals.specs.Residual.{Residual, leaf, pair}
use Rattle.node_word.specs.Word.{term_of_word, memory_of}
use Rattle.monitor_spec.specs.Valid.{join_trees, plant, plant_word, forest, memory_fits, memories_fit, reach_sum}
use Rattle.monitor_spec.proofs.Valid.Laws.{plant_none, plant_some, forest_none, forest_some}
use Rattle.monitor_spec.specs.Consistent.{every}
use Rattle.valid_slots.specs.Walk.{Forest, trees, with_leaf, paired, word_fits, planted_by, planted, planted_all}
use Rattle.valid_slots.specs.Walk.Laws.{paired_few, paired_two, planted_unfit, planted_fit}
use Rattle.valid_slots.specs.Walk.Laws.{unknown_term, known_term}

-- where no trees are spelled, it stays so
by_broken : (r : ℕ) (p : Term) → planted_by r None p ≡ None
unfolding planted_by with_leaf paired
by_broken r stop = refl
by_broken r fail = refl
by_broken r (prefix s p) = refl
by_broken r (choice p q) = refl
by_broken r (par s p q) = refl
by_broken r (call d) = refl

module _ (t : Table) where
  unfoldable pub reach_all : List Residual → ℕ
  reach_all [] = 0
  reach_all (r ∷ rs) = reach_sum t r + reach_all rs

  -- by whether all memories fit
  unfoldable pub counted_if : Bool → List Residual → Forest
  counted_if true rs = trees (length rs) (reach_all rs)
  counted_if false rs = None

  unfoldable pub kept : Option (List Residual) → Forest
  kept none = None
  kept (some rs) = counted_if (every (memories_fit t) rs) rs

  kept_none : kept none ≡ None
  unfolding kept
  kept_none = refl

  -- ---- one node word

  module _ (n : ℕ) (m : Memory) (p : Term) (e : term_at t n ≡ some p) where
    abbrev fit : Bool
    fit = memory_fits t.alphabet (enclosing t n) m

    -- a memory that does not fit
    leaf_unfit : fit ≡ false → (rs : List Residual) → None ≡ kept (some (leaf n m ∷ rs))
    unfolding kept counted_if every memories_fit
    leaf_unfit f rs = rw f

    join_unfit : fit ≡ false → (rs : List Residual) → None ≡ kept (join_trees n m rs)
    unfolding kept counted_if every memories_fit join_trees
    join_unfit f [] = refl
    join_unfit f (x ∷ []) = refl
    join_unfit f (x ∷ y ∷ rs) = rw f

    -- one that fits
    leaf_by : (b : Bool) (rs : List Residual) → with_leaf (reach t p) (counted_if b rs) ≡ counted_if b (leaf n m ∷ rs)
    unfolding with_leaf counted_if reach_all reach_sum
    leaf_by true rs =
        ap₂ trees (add-one (length rs)) (ap (λ (i : ℕ). i + reach_all rs) (sym (reach_at_at t n p e)))
    leaf_by false rs = refl

    leaf_fit : fit ≡ true → (rs : List Residual) → with_leaf (reach t p) (kept (some rs)) ≡ kept (some (leaf n m ∷ rs))
    unfolding kept every memories_fit
    leaf_fit f rs = leaf_by (every (memories_fit t) rs) rs
        ∙ ap (λ (b : Bool). counted_if (b && every (memories_fit t) rs) (leaf n m ∷ rs)) (sym f)

    join_by : (b : Bool) (x y : Residual) (rs : List Residual)
        → paired (counted_if b (x ∷ y ∷ rs)) ≡ counted_if b (pair n m x y ∷ rs)
    unfolding counted_if reach_all reach_sum
    join_by true x y rs =
        let s : ℕ = reach_sum t x + (reach_sum t y + reach_all rs) in
        let c : suc (suc (length rs)) - 1 ≡ suc (length rs) = omega arith in
        let d : s ≡ reach_sum t x + reach_sum t y + reach_all rs = omega arith in
        sym (paired_two (suc (suc (length rs))) s (omega arith)) ∙ ap₂ trees c d
    join_by false x y rs = unfold paired in refl

    pair_fits : (x y : Residual) (rs : List Residual) → fit ≡ true
        → every (memories_fit t) (x ∷ y ∷ rs) ≡ every (memories_fit t) (pair n m x y ∷ rs)
    unfolding every memories_fit
    pair_fits x y rs f =
        sym (and_assoc (memories_fit t x) (memories_fit t y) (every (memories_fit t) rs))
        ∙ ap (λ (b : Bool). (b && (memories_fit t x && memories_fit t y)) && every (memories_fit t) rs) (sym f)

    none_one : (b : Bool) (x : Residual) → paired (counted_if b (x ∷ [])) ≡ None
    unfolding counted_if
    none_one true x = sym (paired_few 1 (reach_all (x ∷ [])) (omega arith))
    none_one false x = unfold paired in refl

    join_fit : fit ≡ true → (rs : List Residual) → paired (kept (some rs)) ≡ kept (join_trees n m rs)
    unfolding kept join_trees
    join_fit f [] = unfold every counted_if in sym (paired_few 0 (reach_all []) (omega arith))
    join_fit f (x ∷ []) = none_one (every (memories_fit t) (x ∷ [])) x
    join_fit f (x ∷ y ∷ rs) =
        join_by (every (memories_fit t) (x ∷ y ∷ rs)) x y rs
        ∙ ap (λ (b : Bool). counted_if b (pair n m x y ∷ rs)) (pair_fits x y rs f)

  plant_unfit : (n : ℕ) (m : Memory) (p : Term) → term_at t n ≡ some p
      → memory_fits t.alphabet (enclosing t n) m ≡ false → (rs : List Residual) → None ≡ kept (plant n m rs p)
  unfolding plant
  plant_unfit n m stop e f rs = leaf_unfit n m stop e f rs
  plant_unfit n m fail e f rs = unfold kept in refl
  plant_unfit n m (prefix s p) e f rs = leaf_unfit n m (prefix s p) e f rs
  plant_unfit n m (choice p q) e f rs = unfold kept in refl
  plant_unfit n m (par s p q) e f rs = join_unfit n m (par s p q) e f rs
  plant_unfit n m (call d) e f rs = unfold kept in refl

  plant_fit : (n : ℕ) (m : Memory) (p : Term) → term_at t n ≡ some p
      → memory_fits t.alphabet (enclosing t n) m ≡ true → (rs : List Residual)
      → planted_by (reach t p) (kept (some rs)) p ≡ kept (plant n m rs p)
  unfolding planted_by plant
  plant_fit n m stop e f rs = leaf_fit n m stop e f rs
  plant_fit n m fail e f rs = unfold kept in refl
  plant_fit n m (prefix s p) e f rs = leaf_fit n m (prefix s p) e f rs
  plant_fit n m (choice p q) e f rs = unfold kept in refl
  plant_fit n m (par s p q) e f rs = join_fit n m (par s p q) e f rs
  plant_fit n m (call d) e f rs = unfold kept in refl

  -- a term that is not there
  past_none : (n : ℕ) → term_count t ≤ n → term_at t n ≡ none
  past_none n h = by (term_at t n) refl
    where
      by : (o : Option Term) → term_at t n ≡ o → term_at t n ≡ none
      by none e = e
      by (some p) e = absurd (omega (arith, number_below t (number_at t n p e).stands))

  word_kept : (w : ℕ) (rs : List Residual) → planted t w (kept (some rs)) ≡ kept (plant_word t w rs)
  word_kept w rs = by (dec_lt (term_of_word w) (term_count t))
    where
      at_fit : (h : term_of_word w < term_count t) (b : Bool)
          → memory_fits t.alphabet (enclosing t (term_of_word w)) (memory_of w) ≡ b
          → planted t w (kept (some rs)) ≡ kept (plant_word t w rs)
      at_fit h true f =
          let e = term_at_lem t (term_of_word w) h in
          planted_fit t w (kept (some rs)) (sym (known_term t w (term_of_word w) true refl h (sym f)))
          ∙ plant_fit (term_of_word w) (memory_of w) (nodeTerm t (term_of_word w)) e f rs
          ∙ ap kept (sym (plant_some t w rs (nodeTerm t (term_of_word w)) e))
      at_fit h false f =
          let e = term_at_lem t (term_of_word w) h in
          sym (planted_unfit t w (kept (some rs)) (sym (known_term t w (term_of_word w) false refl h (sym f))))
          ∙ plant_unfit (term_of_word w) (memory_of w) (nodeTerm t (term_of_word w)) e f rs
          ∙ ap kept (sym (plant_some t w rs (nodeTerm t (term_of_word w)) e))

      by : Dec (term_of_word w < term_count t) → planted t w (kept (some rs)) ≡ kept (plant_word t w rs)
      by (yes h) = at_fit h (memory_fits t.alphabet (enclosing t (term_of_word w)) (memory_of w)) refl
      by (no h) =
          sym (planted_unfit t w (kept (some rs)) (sym (unknown_term t w (term_of_word w) refl (omega arith))))
          ∙ sym kept_none
          ∙ ap kept (sym (plant_none t w rs (past_none (term_of_word w) (omega arith))))

  -- ---- all of them

  pub broken_stays : (w : ℕ) → planted t w None ≡ None
  broken_stays w = by (word_fits t w) refl
    where
      by : (b : Bool) → word_fits t w ≡ b → planted t w None ≡ None
      by true e = planted_fit t w None e ∙ by_broken (reach t (nodeTerm t (term_of_word w))) (nodeTerm t (term_of_word w))
      by false e = sym (planted_unfit t w None e)

  -- The walk is what is kept of the trees that the words spell.
  pub planted_all_forest : (ws : List ℕ) → planted_all t ws ≡ kept (forest t ws)
  unfolding planted_all
  planted_all_forest [] = unfold forest kept counted_if every reach_all in refl
  planted_all_forest (w ∷ ws) = by (forest t ws) refl (planted_all_forest ws)
    where
      by : (o : Option (List Residual)) → forest t ws ≡ o → planted_all t ws ≡ kept (forest t ws)
          → planted t w (planted_all t ws) ≡ kept (forest t (w ∷ ws))
      by none e ih =
          ap (planted t w) (ih ∙ ap kept e ∙ kept_none) ∙ broken_stays w
          ∙ sym kept_none ∙ ap kept (sym (forest_none t w ws e))
      by (some rs) e ih =
          ap (planted t w) (ih ∙ ap kept e) ∙ word_kept w rs ∙ ap kept (sym (forest_some t w ws rs e))
