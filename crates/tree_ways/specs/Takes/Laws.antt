-- Whether a residual may take an event: one law per way out of `takes_at`.
--     tree_in, tree_known, tree_left, tree_right     where the words of a tree and of its sides stand
--     leaf_yes, leaf_no                              of a prefix's word, by its set
--     takes_not_kind, takes_prefix, takes_pair       a tree, by the kind of its first node
-- Assumes nothing.
use Prim.Native.Nat.{ℕ, suc, ◌+◌, ◌<◌}
use Rattle.std.proofs.Common.{arith, add-one, sym, ◌∙◌, length-drop, drop-cons, drop-drop, drop_at, lt-ltb, ltb-true}
use Rattle.std.specs.Prelude.{◌≡◌, Bool, get_or}
use Rattle.std.proofs.Math.Path.{refl, ap}
use Rattle.std.proofs.Math.Bool.{true, false}
use mathlib.Core.List.{List, ◌∷◌, ◌++◌, append_assoc}
use Rattle.std.proofs.Math.ListN.{length, drop, length-append}
use Rattle.std.proofs.Math.Dec.{ltb}
use Rattle.table.specs.Table.{Table}
use Rattle.table.specs.Branches.{branches}
use Rattle.table.specs.Branches.Capped.{capped}
use Rattle.table.specs.Node.{term_of, kind_of, ref_of}
use Rattle.tree_ways.specs.declared.takes.Tree.{Tree}
use Rattle.table.specs.Memory.{Memory}
use Rattle.table.specs.Member.{member}
use Rattle.node_word.specs.Word.{pack, term_of_word, Digits}
use Rattle.node_word.proofs.Word.Laws.{term_pack}
use Rattle.residuals.specs.Residual.{Residual, leaf, pair, after}
use Rattle.residuals.specs.Slots.{nodes}
use Rattle.resolving.specs.Words.{kind_at, holds_at, KnownWord}
use Rattle.resolving.specs.Lawful.{Lawful}
use Rattle.tree_walk.specs.Forest.{Valid}
use Rattle.tree_walk.specs.Forest.Words.{kind_of_node, holds_of_node, known_node, nodes_positive}
use Rattle.tree_ways.specs.Takes.{TreeAt, Takes, leaf_takes, pair_takes}
use Rattle.tree_ways.specs.Takes.Counts.{leaf_not_kind, leaf_not_held, leaf_held, pair_both, pair_either}
use Rattle.tree_ways.specs.Takes.Counts.{any_product, no_product, any_capped, none_of}

-- ---- a prefix's word

pub leaf_yes : (t : Table) (e w : ℕ) → holds_at t e w ≡ true → (i c : ℕ) → i ≡ term_of_word w
    → c ≡ capped (branches t (term_of t (i + 1))) → ltb 0 c ≡ leaf_takes t e w
unfolding leaf_takes
leaf_yes t e w z i c ei ec = rw (z, leaf_takes, ec, ei)

pub leaf_no : (t : Table) (e w : ℕ) → holds_at t e w ≡ false → false ≡ leaf_takes t e w
unfolding leaf_takes
leaf_no t e w z = rw (z, leaf_takes)

-- ---- where the words of a tree stand

module _ {t : Table} {area : List ℕ} (k : ℕ) (s : TreeAt t area k) where
  pub tree_in : k < length area
  tree_in =
      omega (
        arith,
        nodes_positive s.tree,
        length-append (nodes s.tree) s.tail,
        ap length s.spelt,
        length-drop k area,
      )

  tree_split : drop k area ≡ get_or area k 0 ∷ drop (k + 1) area
  tree_split = drop-cons area k 0 tree_in ∙ rw add-one

  pub first_word_lem : {x : ℕ} {xs : List ℕ} → drop k area ≡ (x ∷ xs) → (get_or area k 0 ≡ x) × (drop (k + 1) area ≡ xs)
  first_word_lem g = let w = sym tree_split ∙ g in (cc, cc)

  known_by : (r : Residual) (ws : List ℕ) → drop k area ≡ nodes r ++ ws → Valid t r → KnownWord t (get_or area k 0)
  unfolding nodes
  known_by (leaf n m) ws g v = rw (first_word_lem g).0 (known_node t n m v.0)
  known_by (pair n m l r) ws g v = rw (first_word_lem g).0 (known_node t n m v.0)

  pub tree_known : KnownWord t (get_or area k 0)
  tree_known = known_by s.tree s.tail s.spelt s.valid

  pub record Sides (whole : Residual) : Type 0 where
    pub l : Residual
    pub r : Residual
    pub tail : List ℕ
    pub size : length (nodes whole) ≡ suc (length (nodes l) + length (nodes r))
    pub spelt : drop (k + 1) area ≡ nodes l ++ (nodes r ++ tail)
    pub left : Valid t l
    pub right : Valid t r

  sides_by : (r : Residual) (ws : List ℕ) → drop k area ≡ nodes r ++ ws → Valid t r → kind_at t (get_or area k 0) ≡ 4
      → Sides r
  unfolding nodes
  sides_by (leaf n m) ws g v q =
      absurd (v.1 (sym (kind_of_node n m v.0.0 t) ∙ ap (kind_at t) (sym (first_word_lem g).0) ∙ q))
  sides_by (pair n m l r) ws g v q = record {
    l = l;
    r = r;
    tail = ws;
    size = ap suc (length-append (nodes l) (nodes r));
    spelt = (first_word_lem g).1 ∙ append_assoc (nodes l) (nodes r) ws;
    left = v.2;
    right = v.3;
  }

  pub skipped : (a b : List ℕ) → drop (k + 1) area ≡ a ++ b → drop (k + 1 + length a) area ≡ b
  skipped a b g =
      sym (drop-drop (length a) (k + 1) area) ∙ ap (drop (length a)) g ∙ drop_at a b (length a) refl

  module _ (q : kind_at t (get_or area k 0) ≡ 4) where
    pub sides : Sides s.tree
    sides = sides_by s.tree s.tail s.spelt s.valid q

    pub tree_left : TreeAt t area (k + 1)
    tree_left = record {
      tree = sides.l;
      tail = nodes sides.r ++ sides.tail;
      spelt = sides.spelt;
      valid = sides.left;
    }

    pub tree_right : (e : ℕ) (a : Tree) → Takes t e area (k + 1) a → TreeAt t area a.next × (k < a.next)
    tree_right e a ta =
        let g = (ta.of sides.l _ sides.spelt sides.left).1 in (
          record {
            tree = sides.r;
            tail = sides.tail;
            spelt = rw g (skipped (nodes sides.l) _ sides.spelt);
            valid = sides.right;
          },
          omega (arith, g),
        )

  -- ---- a leaf

  module _ (e : ℕ) where
    takes_by : (c : Tree) → c.next ≡ k + 1 → (kind_at t (get_or area k 0) ≡ 4 → ⊥)
        → ((n : ℕ) (m : Memory) → Digits m → get_or area k 0 ≡ pack n m
        → c.moves ≡ ltb 0 (length (after t e (leaf n m))))
        → Takes t e area k c
    unfolding nodes
    takes_by c en q f = record { of = told }
      where
        told : (r : Residual) (ws : List ℕ) → drop k area ≡ nodes r ++ ws → Valid t r
            → (c.moves ≡ ltb 0 (length (after t e r))) × (c.next ≡ k + length (nodes r))
        told (leaf n m) ws g v = (f n m v.0.0 (first_word_lem g).0, en)
        told (pair n m l r) ws g v =
            absurd (q (ap (kind_at t) (first_word_lem g).0 ∙ kind_of_node n m v.0.0 t ∙ v.1))

    pub takes_not_kind : (kind_at t (get_or area k 0) ≡ 4 → ⊥) → (kind_at t (get_or area k 0) ≡ 2 → ⊥)
        → Takes t e area k (record { moves = false; next = k + 1 })
    takes_not_kind q z =
        takes_by _ refl q
        (λ n m h w. rw (leaf_not_kind t e n m (λ y. z (ap (kind_at t) w ∙ kind_of_node n m h t ∙ y))))

    module _ (q : kind_at t (get_or area k 0) ≡ 2) where
      not_pair : kind_at t (get_or area k 0) ≡ 4 → ⊥
      not_pair z = omega arith

      here : (n : ℕ) (m : Memory) → Digits m → get_or area k 0 ≡ pack n m → kind_of (term_of t n) ≡ 2
      here n m h w = sym (kind_of_node n m h t) ∙ ap (kind_at t) (sym w) ∙ q

      takes_not_held : holds_at t e (get_or area k 0) ≡ false
          → Takes t e area k (record { moves = false; next = k + 1 })
      takes_not_held z =
          takes_by _ refl not_pair
          (λ n m h w. rw (leaf_not_held t e n m (here n m h w)
          (sym (holds_of_node n m h t e) ∙ ap (holds_at t e) (sym w) ∙ z)))

      takes_leaf : Lawful t → holds_at t e (get_or area k 0) ≡ true → (i c : ℕ) → i ≡ term_of_word (get_or area k 0)
          → c ≡ capped (branches t (term_of t (i + 1)))
          → Takes t e area k (record { moves = ltb 0 c; next = k + 1 })
      takes_leaf law z i c ei ec =
          takes_by _ refl not_pair
          (λ n m h w.
          let d : i ≡ n = ei ∙ ap term_of_word w ∙ term_pack n m h in
          rw (leaf_held t e n m law (here n m h w) (sym (holds_of_node n m h t e) ∙ ap (holds_at t e) (sym w) ∙ z))
          (any_capped (branches t (term_of t (n + 1))) c (rw d at ec)))

      leaf_one : Lawful t → (h : Bool) → holds_at t e (get_or area k 0) ≡ h
          → Takes t e area k (record { moves = leaf_takes t e (get_or area k 0); next = k + 1 })
      unfolding leaf_takes
      leaf_one law true z = rw (z, leaf_takes) (takes_leaf law z _ _ refl refl)
      leaf_one law false z = rw (z, leaf_takes) (takes_not_held z)

      pub takes_prefix : Lawful t → (x : Bool) → x ≡ leaf_takes t e (get_or area k 0) → (j : ℕ) → j ≡ k + 1
          → Takes t e area k (record { moves = x; next = j })
      takes_prefix law x g j n = rw (g, n) (leaf_one law (holds_at t e (get_or area k 0)) refl)

    -- ---- a pair

    module _ (q : kind_at t (get_or area k 0) ≡ 4) (a : Tree) (ta : Takes t e area (k + 1) a) (b : Tree)
        (tb : Takes t e area a.next b) where
      pair_by : (c : Tree) → c.next ≡ b.next
          → ((n : ℕ) (m : Memory) (l r : Residual) → Digits m → kind_of (term_of t n) ≡ 4 → get_or area k 0 ≡ pack n m
          → a.moves ≡ ltb 0 (length (after t e l)) → b.moves ≡ ltb 0 (length (after t e r))
          → c.moves ≡ ltb 0 (length (after t e (pair n m l r))))
          → Takes t e area k c
      unfolding nodes
      pair_by c en f = record { of = told }
        where
          told : (r : Residual) (ws : List ℕ) → drop k area ≡ nodes r ++ ws → Valid t r
              → (c.moves ≡ ltb 0 (length (after t e r))) × (c.next ≡ k + length (nodes r))
          told (leaf n m) ws g v =
              absurd (v.1 (sym (kind_of_node n m v.0.0 t) ∙ ap (kind_at t) (sym (first_word_lem g).0) ∙ q))
          told (pair n m l r) ws g v =
              let after_l : drop (k + 1) area ≡ nodes l ++ (nodes r ++ ws) =
              (first_word_lem g).1 ∙ append_assoc (nodes l) (nodes r) ws in
              let ga = ta.of l (nodes r ++ ws) after_l v.2 in
              let there : drop a.next area ≡ nodes r ++ ws = rw ga.1 (skipped (nodes l) (nodes r ++ ws) after_l)
              in
              let gb = tb.of r ws there v.3 in (
                f n m l r v.0.0 v.1 (first_word_lem g).0 ga.0 gb.0,
                omega (arith, en, ga.1, gb.1, length-append (nodes l) (nodes r)),
              )

      set_of : (x : Bool) → holds_at t e (get_or area k 0) ≡ x → (n : ℕ) (m : Memory) → Digits m
          → get_or area k 0 ≡ pack n m → member t (ref_of (term_of t n)) m e ≡ x
      set_of x z n m h w = sym (holds_of_node n m h t e) ∙ ap (holds_at t e) (sym w) ∙ z

      takes_both_yes : holds_at t e (get_or area k 0) ≡ true → a.moves ≡ true
          → Takes t e area k (record { moves = b.moves; next = b.next })
      takes_both_yes z y =
          pair_by _ refl
          (λ n m l r h s w ml mr.
          rw (pair_both t e n m l r s (set_of true z n m h w))
          (mr ∙ sym (any_product (length (after t e l)) (length (after t e r)) (ltb-true 0 _ (sym ml ∙ y)))))

      takes_both_no : holds_at t e (get_or area k 0) ≡ true → a.moves ≡ false
          → Takes t e area k (record { moves = false; next = b.next })
      takes_both_no z y =
          pair_by _ refl
          (λ n m l r h s w ml mr.
          rw (pair_both t e n m l r s (set_of true z n m h w))
          (sym (no_product (length (after t e l)) (length (after t e r)) (none_of _ (sym ml ∙ y)))))

      takes_either_yes : holds_at t e (get_or area k 0) ≡ false → a.moves ≡ true
          → Takes t e area k (record { moves = true; next = b.next })
      takes_either_yes z y =
          pair_by _ refl
          (λ n m l r h s w ml mr.
          let p : 0 < length (after t e l) = ltb-true 0 (length (after t e l)) (sym ml ∙ y) in
          rw (pair_either t e n m l r s (set_of false z n m h w))
          (sym (lt-ltb 0 (length (after t e l) + length (after t e r)) (omega arith))))

      takes_either_no : holds_at t e (get_or area k 0) ≡ false → a.moves ≡ false
          → Takes t e area k (record { moves = b.moves; next = b.next })
      takes_either_no z y =
          pair_by _ refl
          (λ n m l r h s w ml mr.
          let p : length (after t e l) + length (after t e r) ≡ length (after t e r) =
          omega (arith, none_of (length (after t e l)) (sym ml ∙ y)) in
          rw (pair_either t e n m l r s (set_of false z n m h w), p) mr)

      pair_one : (h x : Bool) → holds_at t e (get_or area k 0) ≡ h → a.moves ≡ x
          → Takes t e area k (record { moves = pair_takes x b.moves h; next = b.next })
      unfolding pair_takes
      pair_one true true z y = takes_both_yes z y
      pair_one true false z y = takes_both_no z y
      pair_one false true z y = takes_either_yes z y
      pair_one false false z y = takes_either_no z y

      pub takes_pair : (h : Bool) → h ≡ holds_at t e (get_or area k 0) → (x : Bool) → x ≡ pair_takes a.moves b.moves h
          → (j : ℕ) → j ≡ b.next → Takes t e area k (record { moves = x; next = j })
      takes_pair h z x g j n = rw (g, n) (pair_one h a.moves (sym z) refl)
