-- The words of the results that moves say.
--     joins_one_right, joins_one_left     each before some words, some words before each
--     tried_none, tried_some              one leaf
--     moved_none, moved_append, moved_node      where no leaf moves; the words of two trees; a node that is kept
-- Assumes nothing.
use Prim.Native.Nat.{ℕ, ◌+◌, ◌*◌, ◌/◌, ◌%◌, ◌<◌, ◌^◌}
use native.Mathlib.Omega.{arith}
use Rattle.std.proofs.Math.Decide.{ℕ_discrete}
use Rattle.std.specs.Prelude.{◌≡◌, length}
use Rattle.std.proofs.Math.Path.{refl, ap, ap₂, sym}
use Rattle.std.proofs.Common.{◌∙◌, eq-eqb, ne_eqb}
use mathlib.Core.List.{List, [], ◌∷◌, ◌++◌, map, append_assoc, append-nil, map-append}
use Rattle.table.specs.Table.{Table}
use Rattle.residuals.specs.Slots.{nodes}
use Rattle.tree_walk.specs.Walk.{leaf_results, joins, before}
use Rattle.tree_ways.specs.Only.{grown, rebuilt, ending, starting, tried, tried_by, moved}
use Rattle.tree_ways.specs.Only.Marks.{grown_kept, rebuilt_append, above, half_small}

-- ---- lists of words

ending_append : (c d : List ℕ) (xs : List (List ℕ)) → ending (c ++ d) xs ≡ ending d (ending c xs)
ending_append c d [] = refl
ending_append c d (x ∷ xs) =
    ap₂ (λ (y : List ℕ) (l : List (List ℕ)). y ∷ l) (sym (append_assoc x c d)) (ending_append c d xs)

starting_append : (c d : List ℕ) (xs : List (List ℕ)) → starting (c ++ d) xs ≡ starting c (starting d xs)
starting_append c d [] = refl
starting_append c d (x ∷ xs) =
    ap₂ (λ (y : List ℕ) (l : List (List ℕ)). y ∷ l) (append_assoc c d x) (starting_append c d xs)

starting_ending : (o c : List ℕ) (xs : List (List ℕ)) → starting o (ending c xs) ≡ ending c (starting o xs)
starting_ending o c [] = refl
starting_ending o c (x ∷ xs) =
    ap₂ (λ (y : List ℕ) (l : List (List ℕ)). y ∷ l) (sym (append_assoc o x c)) (starting_ending o c xs)

starting_nothing : (xs : List (List ℕ)) → starting [] xs ≡ xs
starting_nothing [] = refl
starting_nothing (x ∷ xs) = ap (λ (l : List (List ℕ)). x ∷ l) (starting_nothing xs)

starting_word : (w : ℕ) (xs : List (List ℕ)) → starting (w ∷ []) xs ≡ before w xs
unfolding before
starting_word w [] = refl
starting_word w (x ∷ xs) = ap (λ (l : List (List ℕ)). (w ∷ x) ∷ l) (starting_word w xs)

pub joins_one_right : (xs : List (List ℕ)) (c : List ℕ) → joins xs (c ∷ []) ≡ ending c xs
unfolding joins
joins_one_right [] c = refl
joins_one_right (x ∷ xs) c = ap (λ (l : List (List ℕ)). (x ++ c) ∷ l) (joins_one_right xs c)

pub joins_one_left : (o : List ℕ) (xs : List (List ℕ)) → joins (o ∷ []) xs ≡ starting o xs
unfolding joins
joins_one_left o xs = append-nil (starting o xs)

-- ---- one leaf

module _ (t : Table) (e : ℕ) where
  pub tried_none : (w m : ℕ) (c : List ℕ) → m ≡ 0 → tried_by t e m w c ≡ []
  unfolding tried_by
  tried_none w m c z = rw (eq-eqb _ _ z, tried_by)

  pub tried_some : (w m : ℕ) (c : List ℕ) → (m ≡ 0 → ⊥) → tried_by t e m w c ≡ tried t e w c
  unfolding tried_by
  tried_some w m c z = rw (ne_eqb _ _ z, tried_by)

  tried_append : (w m : ℕ) (c d : List ℕ) → tried_by t e m w (c ++ d) ≡ ending d (tried_by t e m w c)
  unfolding tried
  tried_append w m c d =
      elim (ℕ_discrete m 0) [
        | yes z ↦ rw (tried_none w m (c ++ d) z, tried_none w m c z)
        | no z ↦
            tried_some w m (c ++ d) z ∙ ending_append c d (map nodes (leaf_results t e w))
            ∙ ap (ending d) (sym (tried_some w m c z))
      ]

  -- ---- all leaves

  pub moved_none : (ws : List ℕ) (also : ℕ) → moved t e ws 0 also ≡ []
  unfolding moved
  moved_none [] also = refl
  moved_none (w ∷ ws) also = rw (tried_none w 0 (rebuilt t e ws (also / 2)) refl, moved_none ws (also / 2))

  pub moved_append : (xs ys : List ℕ) (x y u v : ℕ) → x < 2 ^ length xs → u < 2 ^ length xs
      → moved t e (xs ++ ys) (x + y * 2 ^ length xs) (u + v * 2 ^ length xs)
      ≡ ending (rebuilt t e ys v) (moved t e xs x u) ++ starting (rebuilt t e xs u) (moved t e ys y v)
  unfolding moved rebuilt
  moved_append [] ys x y u v h k =
      let z : x + y * 2 ^ 0 ≡ y = omega arith in
      let i : u + v * 2 ^ 0 ≡ v = omega arith in
      rw (z, i) (sym (starting_nothing (moved t e ys y v)))
  moved_append (w ∷ xs) ys x y u v h k =
      let g : List ℕ = grown t e w (u % 2) in
      let rx : List ℕ = rebuilt t e xs (u / 2) in
      let ry : List ℕ = rebuilt t e ys v in
      let mx : List (List ℕ) = moved t e xs (x / 2) (u / 2) in
      let my : List (List ℕ) = moved t e ys y v in
      let a : List (List ℕ) = tried_by t e (x % 2) w rx in
      rw (
        (above t e x y (length xs)).0,
        (above t e x y (length xs)).1,
        (above t e u v (length xs)).0,
        (above t e u v (length xs)).1,
        rebuilt_append t e xs ys (u / 2) v (half_small t e u (length xs) k),
        moved_append xs ys (x / 2) y (u / 2) v (half_small t e x (length xs) h) (half_small t e u (length xs) k),
      )
      (ap₂ (λ (p q : List (List ℕ)). p ++ q) (tried_append w (x % 2) rx ry)
      (map-append (λ c. g ++ c) (ending ry mx) (starting rx my)
      ∙ ap₂ (λ (p q : List (List ℕ)). p ++ q) (starting_ending g ry mx) (sym (starting_append g rx my)))
      ∙ sym (append_assoc (ending ry a) (ending ry (starting g mx)) (starting (g ++ rx) my))
      ∙ ap (λ (p : List (List ℕ)). p ++ starting (g ++ rx) my) (sym (map-append (λ o. o ++ ry) a (starting g mx))))

  -- a node that is kept
  pub moved_node : (w : ℕ) (ws : List ℕ) (x u : ℕ) → x % 2 ≡ 0 → u % 2 ≡ 0
      → moved t e (w ∷ ws) x u ≡ before w (moved t e ws (x / 2) (u / 2))
  unfolding moved
  moved_node w ws x u a b =
      rw (tried_none w (x % 2) (rebuilt t e ws (u / 2)) a, grown_kept t e w (u % 2) b)
      (starting_word w (moved t e ws (x / 2) (u / 2)))
