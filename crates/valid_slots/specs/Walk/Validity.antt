-- A slot is valid exactly when its count is 1 to 15, its other words are zero, and the walk over its node words ends
-- with one tree whose reach is not too large.
--     slot_empty, slot_large, slot_rest, slot_walk    a slot, by its first word, its last words and the walk
-- Assumes nothing.
use Rattle.std.specs.Prelude.{ℕ, suc, ◌+◌, ◌-◌, ◌≤◌, ◌<◌, ◌≡◌, Bool, ◌&&◌, get_or, take, drop}
use native.Mathlib.Omega.{arith}
use Rattle.std.proofs.Math.Path.{refl, ap, ap₂, sym}
use Rattle.std.proofs.Common.{◌∙◌, length-drop, take-append-drop, drop-cons, drop-drop, drop_at, ne_eqb}
use Rattle.std.proofs.Math.Bool.{true, false, and-false}
use mathlib.Core.List.{List, [], ◌∷◌, ◌++◌}
use Rattle.std.proofs.Math.Option.{Option, none, some}
use Rattle.std.proofs.Math.ListN.{length, replicate}
use Rattle.std.proofs.Math.Seq.{take_all, length-take-le}
use Rattle.std.proofs.Math.Dec.{leb}
use Rattle.table.specs.Table.{Table}
use Rattle.residuals.specs.Residual.{Residual}
use Rattle.slots.specs.Canon.{Order, below, same, above, compare_words}
use Rattle.residuals.specs.Slots.{nodes, slot_of}
use Rattle.slots.proofs.Canon.Comparison.{cmp_refl, same_eq}
use Rattle.monitor_spec.specs.Valid.{forest, one_tree, memories_fit, reach_sum}
use Rattle.monitor_spec.specs.Valid.{is_same, valid_slot}
use Rattle.monitor_spec.proofs.Valid.Laws.{slot_none, slot_some, valid_none, valid_at}
use Rattle.monitor_spec.proofs.State.Areas.{zero_zeros}
use Rattle.monitor_spec.specs.Consistent.{every, all_zero}
use Rattle.monitor_spec.proofs.Consistent.Reading.{zero_split}
use Rattle.valid_slots.specs.Walk.{Forest, planted_all, is_whole}
use Rattle.valid_slots.specs.Walk.Words.{one_words}
use Rattle.valid_slots.specs.Walk.Spelling.{reach_all, counted_if, kept, planted_all_forest}

not_same : (a b : List ℕ) → (a ≡ b → ⊥) → is_same (compare_words a b) ≡ false
not_same a b h = by (compare_words a b) refl
  where
    by : (o : Order) → compare_words a b ≡ o → is_same (compare_words a b) ≡ false
    by below e = ap is_same e
    by same e = absurd (h (same_eq a b e))
    by above e = ap is_same e

are_same : (a b : List ℕ) → a ≡ b → is_same (compare_words a b) ≡ true
are_same a b e = ap is_same (ap (compare_words a) (sym e) ∙ cmp_refl a)

heads : (x y : ℕ) (a b : List ℕ) → x ∷ a ≡ y ∷ b → x ≡ y
heads x y a b e = cc

tails : (x y : ℕ) (a b : List ℕ) → x ∷ a ≡ y ∷ b → a ≡ b
tails x y a b e = cc

false_true : {X : Type 0} → false ≡ true → X
false_true e = absurd (let z : ◌≡◌ {A = ℕ} 0 1 = cc in omega arith)

module _ (t : Table) where
  -- ---- how the walk ends

  whole_none : is_whole (kept t none) ≡ false
  unfolding is_whole kept
  whole_none = refl

  whole_nil : is_whole (kept t (some [])) ≡ false
  unfolding is_whole kept counted_if every
  whole_nil = refl

  whole_one : (r : Residual) → is_whole (kept t (some (r ∷ []))) ≡ (memories_fit t r && leb (reach_sum t r) 8)
  unfolding kept every is_whole counted_if reach_all
  whole_one r = by (memories_fit t r)
    where
      by : (b : Bool) → is_whole (counted_if t (b && true) (r ∷ [])) ≡ (b && leb (reach_sum t r) 8)
      by true = let e : reach_sum t r + 0 ≡ reach_sum t r = omega arith in ap (λ (i : ℕ). leb i 8) e
      by false = refl

  whole_more : (r q : Residual) (rs : List Residual) → is_whole (kept t (some (r ∷ q ∷ rs))) ≡ false
  unfolding kept is_whole counted_if
  whole_more r q rs = by (every (memories_fit t) (r ∷ q ∷ rs))
    where
      by : (b : Bool) → is_whole (counted_if t b (r ∷ q ∷ rs)) ≡ false
      by true = rw (ne_eqb (suc (suc (length rs))) 1 (λ e. omega arith))
      by false = refl

  -- ---- the slot

  module _ (c : ℕ) (ws : List ℕ) (l : length ws ≡ 15) where
    valid_one : (r : Residual) → forest t (take c ws) ≡ some (r ∷ [])
        → valid_slot t (c ∷ ws)
        ≡ (is_same (compare_words (slot_of r) (c ∷ ws)) && (memories_fit t r && leb (reach_sum t r) 8))
    unfolding one_tree
    valid_one r e = valid_at t (c ∷ ws) r (slot_some t c ws (r ∷ []) e)

    valid_nil : forest t (take c ws) ≡ some [] → valid_slot t (c ∷ ws) ≡ false
    unfolding one_tree
    valid_nil e = valid_none t (c ∷ ws) (slot_some t c ws [] e)

    valid_more : (r q : Residual) (rs : List Residual) → forest t (take c ws) ≡ some (r ∷ q ∷ rs)
        → valid_slot t (c ∷ ws) ≡ false
    unfolding one_tree
    valid_more r q rs e = valid_none t (c ∷ ws) (slot_some t c ws (r ∷ q ∷ rs) e)

    module _ (r : Residual) (e : nodes r ≡ take c ws) where
      -- the tree's slot is this one exactly where zeros follow
      slot_words : c ≤ 15 → slot_of r ≡ c ∷ (take c ws ++ replicate (15 - c) 0)
      unfolding slot_of
      slot_words h =
          let k : length (nodes r) ≡ c = ap length e ∙ length-take-le c ws (omega arith) in
          ap₂ (λ (i : ℕ) (x : List ℕ). i ∷ (x ++ replicate (15 - i) 0)) k e

      same_zero : c ≤ 15 → is_same (compare_words (slot_of r) (c ∷ ws)) ≡ all_zero (drop c ws)
      same_zero h = by (all_zero (drop c ws)) refl
        where
          d : length (drop c ws) ≡ 15 - c
          d = omega (arith, length-drop c ws)

          by : (b : Bool) → all_zero (drop c ws) ≡ b → is_same (compare_words (slot_of r) (c ∷ ws)) ≡ all_zero (drop c ws)
          by true z =
              let q : drop c ws ≡ replicate (15 - c) 0 =
              zero_split (drop c ws) z ∙ ap (λ (i : ℕ). replicate i 0) d in
              are_same (slot_of r) (c ∷ ws)
              (slot_words h
              ∙ ap (c ∷◌) (ap (take c ws ++◌) (sym q) ∙ take-append-drop c ws))
              ∙ sym z
          by false z =
              not_same (slot_of r) (c ∷ ws)
              (λ s.
              let u : take c ws ++ replicate (15 - c) 0 ≡ ws = tails c c _ _ (sym (slot_words h) ∙ s) in
              let v : replicate (15 - c) 0 ≡ drop c ws =
              sym (drop_at (take c ws) (replicate (15 - c) 0) c (length-take-le c ws (omega arith)))
              ∙ ap (drop c) u in
              false_true (sym z ∙ ap all_zero (sym v) ∙ zero_zeros (15 - c)))
              ∙ sym z

      -- a count that is too large
      same_large : 15 < c → is_same (compare_words (slot_of r) (c ∷ ws)) ≡ false
      unfolding slot_of
      same_large h =
          not_same (slot_of r) (c ∷ ws)
          (λ s.
          let k : length (nodes r) ≡ 15 = ap length (e ∙ take_all c ws (omega arith)) ∙ l in
          let x : length (nodes r) ≡ c = heads (length (nodes r)) c _ _ s in
          omega arith)

    valid_walk : c ≤ 15 → valid_slot t (c ∷ ws) ≡ (all_zero (drop c ws) && is_whole (planted_all t (take c ws)))
    valid_walk h =
        by (forest t (take c ws)) refl
        ∙ ap (λ (f : Forest). all_zero (drop c ws) && is_whole f) (sym (planted_all_forest t (take c ws)))
      where
        false_and : (x : Bool) → x ≡ false → valid_slot t (c ∷ ws) ≡ false
            → valid_slot t (c ∷ ws) ≡ (all_zero (drop c ws) && x)
        false_and x e v = v ∙ sym (ap (all_zero (drop c ws) &&◌) e ∙ and-false (all_zero (drop c ws)))

        trees : (rs : List Residual) → forest t (take c ws) ≡ some rs
            → valid_slot t (c ∷ ws) ≡ (all_zero (drop c ws) && is_whole (kept t (some rs)))
        trees [] e = false_and _ whole_nil (valid_nil e)
        trees (r ∷ []) e =
            valid_one r e
            ∙ ap₂ ◌&&◌ (same_zero r (one_words t (take c ws) r e) h) (sym (whole_one r))
        trees (r ∷ q ∷ rs) e = false_and _ (whole_more r q rs) (valid_more r q rs e)

        by : (o : Option (List Residual)) → forest t (take c ws) ≡ o
            → valid_slot t (c ∷ ws) ≡ (all_zero (drop c ws) && is_whole (kept t (forest t (take c ws))))
        by none e =
            false_and _ (ap (λ (o : Option (List Residual)). is_whole (kept t o)) e ∙ whole_none)
            (valid_none t (c ∷ ws) (slot_none t c ws e))
        by (some rs) e =
            trees rs e
            ∙ ap (λ (o : Option (List Residual)). all_zero (drop c ws) && is_whole (kept t o)) (sym e)

    valid_large : 15 < c → valid_slot t (c ∷ ws) ≡ false
    valid_large h = by (forest t (take c ws)) refl
      where
        trees : (rs : List Residual) → forest t (take c ws) ≡ some rs → valid_slot t (c ∷ ws) ≡ false
        trees [] e = valid_nil e
        trees (r ∷ []) e =
            valid_one r e
            ∙ ap (◌&& (memories_fit t r && leb (reach_sum t r) 8)) (same_large r (one_words t (take c ws) r e) h)
        trees (r ∷ q ∷ rs) e = valid_more r q rs e

        by : (o : Option (List Residual)) → forest t (take c ws) ≡ o → valid_slot t (c ∷ ws) ≡ false
        by none e = valid_none t (c ∷ ws) (slot_none t c ws e)
        by (some rs) e = trees rs e

  -- ---- a slot as the code reads it

  module _ (s : List ℕ) (l : length s ≡ 16) where
    parts : s ≡ get_or s 0 0 ∷ drop 1 s
    parts = drop-cons s 0 0 (omega arith)

    rest_length : length (drop 1 s) ≡ 15
    rest_length = omega (arith, length-drop 1 s)

    rest_drop : drop (get_or s 0 0) (drop 1 s) ≡ drop (get_or s 0 0 + 1) s
    rest_drop =
        let e : 1 + get_or s 0 0 ≡ get_or s 0 0 + 1 = omega arith in
        drop-drop (get_or s 0 0) 1 s ∙ ap (λ (i : ℕ). drop i s) e

    slot_by : get_or s 0 0 ≤ 15
        → valid_slot t s ≡ (all_zero (drop (get_or s 0 0 + 1) s) && is_whole (planted_all t (take (get_or s 0 0) (drop 1 s))))
    slot_by h =
        ap (valid_slot t) parts
        ∙ valid_walk (get_or s 0 0) (drop 1 s) rest_length h
        ∙ ap (λ (x : List ℕ). all_zero x && is_whole (planted_all t (take (get_or s 0 0) (drop 1 s)))) rest_drop

    pub slot_empty : get_or s 0 0 ≡ 0 → false ≡ valid_slot t s
    unfolding planted_all is_whole
    slot_empty e =
        sym (slot_by (omega arith)
        ∙ ap (λ (i : ℕ). all_zero (drop (get_or s 0 0 + 1) s) && is_whole (planted_all t (take i (drop 1 s)))) e
        ∙ and-false (all_zero (drop (get_or s 0 0 + 1) s)))

    pub slot_large : 15 < get_or s 0 0 → false ≡ valid_slot t s
    slot_large h = sym (ap (valid_slot t) parts ∙ valid_large (get_or s 0 0) (drop 1 s) rest_length h)

    pub slot_rest : get_or s 0 0 ≤ 15 → all_zero (drop (get_or s 0 0 + 1) s) ≡ false → false ≡ valid_slot t s
    slot_rest h z =
        sym (slot_by h ∙ ap (◌&& is_whole (planted_all t (take (get_or s 0 0) (drop 1 s)))) z)

    pub slot_walk : get_or s 0 0 ≤ 15 → all_zero (drop (get_or s 0 0 + 1) s) ≡ true → (f : Forest) (r : Bool)
        → f ≡ planted_all t (take (get_or s 0 0) (drop 1 s)) → r ≡ is_whole f → r ≡ valid_slot t s
    slot_walk h z f r e k =
        k ∙ ap is_whole e
        ∙ sym (slot_by h ∙ ap (◌&& is_whole (planted_all t (take (get_or s 0 0) (drop 1 s)))) z)
