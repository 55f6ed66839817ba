-- A slot is valid exactly when it is the slot of a proper residual. Assumes nothing.
use Rattle.std.specs.Prelude.{ℕ, zero, suc, ◌≤◌, ◌<◌, ◌≡◌, Bool, true, false, ◌&&◌, ◌||◌, take, eqb, ltb, leb}
use Rattle.std.proofs.Common.{arith, ap, sym, ◌∙◌, eq-eqb, lt-ltb, le-ltb, le-leb, ltb-true, eqb-true, leb-true}
use Rattle.std.proofs.Math.Decide.{dec_lt}
use Rattle.std.proofs.Math.Path.{refl, subst}
use mathlib.Core.List.{List, [], ◌∷◌}
use Rattle.std.proofs.Math.Option.{Option, none, some}
use Rattle.table.specs.Table.{Table, Term, stop, fail, prefix, choice, par, call, term_at, enclosing}
use Rattle.numbers.specs.Every.{All}
use Rattle.table.specs.Memory.{Memory, digit}
use Rattle.monitor_spec.specs.Regular.{Regular}
use Rattle.residuals.specs.Residual.{Residual, leaf, pair}
use Rattle.monitor_spec.specs.Meaning.{Sound}
use Rattle.node_word.specs.Word.{term_of_word, memory_of}
use Rattle.slots.specs.Canon.{Order, below, same, above, compare_words}
use Rattle.residuals.specs.Slots.{slot_of}
use Rattle.slots.proofs.Canon.Comparison.{cmp_refl, same_eq}
use Rattle.monitor_spec.specs.Valid.{join_trees, plant, plant_word, forest, one_tree, slot_residual, digit_fits}
use Rattle.monitor_spec.specs.Valid.{memory_fits, memories_fit, reach_sum, is_same, valid_slot}
use Rattle.monitor_spec.specs.Proper.{Remembers, MemoriesFit, Proper}
use Rattle.monitor_spec.proofs.Valid.Residuals.{read_back}
use Rattle.monitor_spec.proofs.State.Areas.{both_true}

-- ---- a valid slot

or_left : (a b : Bool) → a ≡ true → (a || b) ≡ true
or_left a b e = rw e

or_right : (a b : Bool) → b ≡ true → (a || b) ≡ true
or_right true b e = refl
or_right false b e = e

digit_fits_lem : (a c i v : ℕ) → v < a → (c ≤ i → v ≡ 0) → digit_fits a c i v ≡ true
unfolding digit_fits
digit_fits_lem a c i v h f = both_true (lt-ltb v a h) (by (dec_lt i c))
  where
    by : Dec (i < c) → (ltb i c || eqb v 0) ≡ true
    by (yes l) = or_left (ltb i c) (eqb v 0) (lt-ltb i c l)
    by (no l) = or_right (ltb i c) (eqb v 0) (eq-eqb v 0 (f (omega arith)))

memory_fits_lem : (a c : ℕ) (m : Memory) → Remembers a c m → memory_fits a c m ≡ true
unfolding memory_fits digit
memory_fits_lem a c m f =
    let x = f 0 (omega arith) in
    let y = f 1 (omega arith) in
    let z = f 2 (omega arith) in
    let w = f 3 (omega arith) in
    both_true (digit_fits_lem a c 0 m.m0 x.0 x.1)
    (both_true (digit_fits_lem a c 1 m.m1 y.0 y.1)
    (both_true (digit_fits_lem a c 2 m.m2 z.0 z.1) (digit_fits_lem a c 3 m.m3 w.0 w.1)))

module _ (t : Table) where
  memories_fit_lem : (r : Residual) → MemoriesFit t r → memories_fit t r ≡ true
  unfolding memories_fit
  memories_fit_lem (leaf n m) f = memory_fits_lem t.alphabet (enclosing t n) m f
  memories_fit_lem (pair n m l r) (f, a, b) =
      both_true (memory_fits_lem t.alphabet (enclosing t n) m f) (both_true (memories_fit_lem l a) (memories_fit_lem r b))

  pub valid_at : (w : List ℕ) (r : Residual) → slot_residual t w ≡ some r
      → valid_slot t w ≡ (is_same (compare_words (slot_of r) w) && (memories_fit t r && leb (reach_sum t r) 8))
  unfolding valid_slot
  valid_at w r e = rw (e, valid_slot)

  pub proper_valid : Regular t → (r : Residual) → Proper t r → valid_slot t (slot_of r) ≡ true
  proper_valid regular r (s, (f, k)) =
      valid_at (slot_of r) r (read_back t regular r (s, (f, k)))
      ∙ both_true (ap is_same (cmp_refl (slot_of r))) (both_true (memories_fit_lem r f) (le-leb (reach_sum t r) 8 k))

-- ---- and back

pub and_split : (a b : Bool) → (a && b) ≡ true → (a ≡ true) × (b ≡ true)
and_split true b e = (refl, e)
and_split false b e = absurd (let z : ◌≡◌ {A = ℕ} 0 1 = cc in omega arith)

or_split : (a b : Bool) → (a || b) ≡ true → (a ≡ false) → b ≡ true
or_split true b e f = absurd (let z : ◌≡◌ {A = ℕ} 0 1 = cc in omega arith)
or_split false b e f = e

fits_digit : (a c i v : ℕ) → digit_fits a c i v ≡ true → (v < a) × (c ≤ i → v ≡ 0)
unfolding digit_fits
fits_digit a c i v h =
    let (x, y) = and_split (ltb v a) (ltb i c || eqb v 0) h in
    (ltb-true v a x, λ l. eqb-true v 0 (or_split (ltb i c) (eqb v 0) y (le-ltb i c l)))

fits_memory : (a c : ℕ) (m : Memory) → memory_fits a c m ≡ true → Remembers a c m
unfolding memory_fits digit
fits_memory a c m h zero l = fits_digit a c 0 m.m0 (and_split (digit_fits a c 0 m.m0) _ h).0
fits_memory a c m h (suc zero) l =
    fits_digit a c 1 m.m1 (and_split (digit_fits a c 1 m.m1) _ (and_split (digit_fits a c 0 m.m0) _ h).1).0
fits_memory a c m h (suc (suc zero)) l =
    fits_digit a c 2 m.m2
    (and_split (digit_fits a c 2 m.m2) _
    (and_split (digit_fits a c 1 m.m1) _ (and_split (digit_fits a c 0 m.m0) _ h).1).1).0
fits_memory a c m h (suc (suc (suc zero))) l =
    fits_digit a c 3 m.m3
    (and_split (digit_fits a c 2 m.m2) _
    (and_split (digit_fits a c 1 m.m1) _ (and_split (digit_fits a c 0 m.m0) _ h).1).1).1
fits_memory a c m h (suc (suc (suc (suc i)))) l = absurd (omega arith)

pub some_same : {A : Type 0} (x y : A) → some x ≡ some y → x ≡ y
some_same x y p = cc

pub none_some : {A X : Type 0} (x : A) → none ≡ some x → X
none_some x p = absurd (let z : ◌≡◌ {A = ℕ} 0 1 = cc in omega arith)

module _ (t : Table) where
  fits_memories : (r : Residual) → memories_fit t r ≡ true → MemoriesFit t r
  unfolding memories_fit
  fits_memories (leaf n m) h = fits_memory t.alphabet (enclosing t n) m h
  fits_memories (pair n m l r) h =
      let (x, y) = and_split (memory_fits t.alphabet (enclosing t n) m) (memories_fit t l && memories_fit t r) h in
      let (z, w) = and_split (memories_fit t l) (memories_fit t r) y in
      (fits_memory t.alphabet (enclosing t n) m x, fits_memories l z, fits_memories r w)

  -- what a word plants is sound
  join_sound : (n : ℕ) (m : Memory) (r : Term) (x y : Term) (s : Rattle.table.specs.Table.SetRef)
      → term_at t n ≡ some (par s x y) → (rs qs : List Residual) → All (Sound t) rs → join_trees n m rs ≡ some qs
      → All (Sound t) qs
  unfolding join_trees
  join_sound n m r x y s e [] qs h p = none_some qs p
  join_sound n m r x y s e (a ∷ []) qs h p = none_some qs p
  join_sound n m r x y s e (a ∷ b ∷ rs) qs h p =
      subst (All (Sound t)) (some_same (pair n m a b ∷ rs) qs p) ((par s x y, e, tt, h.0, h.1.0), h.1.1)

  plant_sound : (n : ℕ) (m : Memory) (x : Term) → term_at t n ≡ some x → (rs qs : List Residual) → All (Sound t) rs
      → plant n m rs x ≡ some qs → All (Sound t) qs
  unfolding plant
  plant_sound n m stop e rs qs h p = subst (All (Sound t)) (some_same (leaf n m ∷ rs) qs p) ((stop, e, tt), h)
  plant_sound n m fail e rs qs h p = none_some qs p
  plant_sound n m (prefix s x) e rs qs h p =
      subst (All (Sound t)) (some_same (leaf n m ∷ rs) qs p) ((prefix s x, e, tt), h)
  plant_sound n m (choice x y) e rs qs h p = none_some qs p
  plant_sound n m (par s x y) e rs qs h p = join_sound n m x x y s e rs qs h p
  plant_sound n m (call d) e rs qs h p = none_some qs p

  pub plant_none : (w : ℕ) (rs : List Residual) → term_at t (term_of_word w) ≡ none → plant_word t w rs ≡ none
  unfolding plant_word
  plant_none w rs e = rw (e, plant_word)

  pub plant_some : (w : ℕ) (rs : List Residual) (x : Term) → term_at t (term_of_word w) ≡ some x
      → plant_word t w rs ≡ plant (term_of_word w) (memory_of w) rs x
  unfolding plant_word
  plant_some w rs x e = rw (e, plant_word)

  pub forest_none : (w : ℕ) (ws : List ℕ) → forest t ws ≡ none → forest t (w ∷ ws) ≡ none
  unfolding forest
  forest_none w ws e = rw (e, forest)

  pub forest_some : (w : ℕ) (ws : List ℕ) (rs : List Residual) → forest t ws ≡ some rs
      → forest t (w ∷ ws) ≡ plant_word t w rs
  unfolding forest
  forest_some w ws rs e = rw (e, forest)

  forest_sound : (ws : List ℕ) (qs : List Residual) → forest t ws ≡ some qs → All (Sound t) qs
  unfolding forest
  forest_sound [] qs p = subst (All (Sound t)) (some_same [] qs p) tt
  forest_sound (w ∷ ws) qs p = by (forest t ws) refl (forest_sound ws)
    where
      word : (rs : List Residual) → All (Sound t) rs → plant_word t w rs ≡ some qs → (o : Option Term)
          → term_at t (term_of_word w) ≡ o → All (Sound t) qs
      word rs h q none e = none_some qs (sym (plant_none w rs e) ∙ q)
      word rs h q (some x) e = plant_sound (term_of_word w) (memory_of w) x e rs qs h (sym (plant_some w rs x e) ∙ q)

      by : (o : Option (List Residual)) → forest t ws ≡ o
          → ((rs : List Residual) → forest t ws ≡ some rs → All (Sound t) rs) → All (Sound t) qs
      by none e ih = none_some qs (sym (forest_none w ws e) ∙ p)
      by (some rs) e ih = word rs (ih rs e) (sym (forest_some w ws rs e) ∙ p) (term_at t (term_of_word w)) refl

  one_sound : (rs : List Residual) (r : Residual) → All (Sound t) rs → one_tree rs ≡ some r → Sound t r
  unfolding one_tree
  one_sound [] r h p = none_some r p
  one_sound (q ∷ []) r h p = subst (Sound t) (some_same q r p) h.0
  one_sound (q ∷ q' ∷ rs) r h p = none_some r p

  pub slot_none : (c : ℕ) (ws : List ℕ) → forest t (take c ws) ≡ none → slot_residual t (c ∷ ws) ≡ none
  unfolding slot_residual
  slot_none c ws e = rw (e, slot_residual)

  pub slot_some : (c : ℕ) (ws : List ℕ) (rs : List Residual) → forest t (take c ws) ≡ some rs
      → slot_residual t (c ∷ ws) ≡ one_tree rs
  unfolding slot_residual
  slot_some c ws rs e = rw (e, slot_residual)

  slot_sound : (w : List ℕ) (r : Residual) → slot_residual t w ≡ some r → Sound t r
  unfolding slot_residual
  slot_sound [] r p = none_some r p
  slot_sound (c ∷ ws) r p = by (forest t (take c ws)) refl
    where
      by : (o : Option (List Residual)) → forest t (take c ws) ≡ o → Sound t r
      by none e = none_some r (sym (slot_none c ws e) ∙ p)
      by (some rs) e = one_sound rs r (forest_sound (take c ws) rs e) (sym (slot_some c ws rs e) ∙ p)

  pub valid_none : (w : List ℕ) → slot_residual t w ≡ none → valid_slot t w ≡ false
  unfolding valid_slot
  valid_none w e = rw (e, valid_slot)

  is_same_lem : (o : Order) → is_same o ≡ true → o ≡ same
  is_same_lem below e = absurd (let z : ◌≡◌ {A = ℕ} 0 1 = cc in omega arith)
  is_same_lem same e = refl
  is_same_lem above e = absurd (let z : ◌≡◌ {A = ℕ} 0 1 = cc in omega arith)

  pub record SlotOf (w : List ℕ) : Type 0 where
    pub residual : Residual
    pub reads : slot_residual t w ≡ some residual
    pub words : slot_of residual ≡ w
    pub proper : Proper t residual

  pub valid_proper : (w : List ℕ) → valid_slot t w ≡ true → SlotOf w
  valid_proper w h = by (slot_residual t w) refl
    where
      by : (o : Option Residual) → slot_residual t w ≡ o → SlotOf w
      by none e = absurd (let q : false ≡ true = sym (valid_none w e) ∙ h in let z : ◌≡◌ {A = ℕ} 0 1 = cc in
          omega arith)
      by (some r) e =
          let (x, y) = and_split (is_same (compare_words (slot_of r) w)) (memories_fit t r && leb (reach_sum t r) 8)
          (sym (valid_at t w r e) ∙ h) in
          let (z, k) = and_split (memories_fit t r) (leb (reach_sum t r) 8) y in
          record {
            residual = r;
            reads = e;
            words = same_eq (slot_of r) w (is_same_lem (compare_words (slot_of r) w) x);
            proper = (slot_sound w r e, (fits_memories r z, leb-true (reach_sum t r) 8 k));
          }
