-- The loop of `root_code`, from the last node to the first, and the way that its word says.
--     stacked_kept, stacked_more       a word above those of trees; the word of one tree more
--     codes-..                         the loop, at a node
--     leaf_told, way_told              the word of one leaf; the way that a word says
-- Assumes nothing.
use Prim.Native.Nat.{ℕ, suc, ◌+◌, ◌-◌, ◌*◌, ◌<◌, ◌≤◌, ◌^◌}
use native.Mathlib.Omega.{arith}
use Rattle.std.specs.Prelude.{◌≡◌, Bool, get_or, set}
use Rattle.std.proofs.Math.Path.{refl, ap, subst}
use Rattle.std.proofs.Common.{sym, ◌∙◌, get_or-set_same, get_or-set_other}
use mathlib.Core.List.{List, [], ◌∷◌, ◌++◌, append_assoc}
use Rattle.std.proofs.Math.ListN.{length, drop, length-set, length-append}
use Rattle.table.specs.Table.{Table}
use Rattle.table.specs.Memory.{Memory}
use Rattle.node_word.specs.Word.{pack}
use Rattle.tree_ways.specs.declared.only.Way.{Way}
use Rattle.residuals.specs.Residual.{Residual, leaf, pair}
use Rattle.residuals.specs.Slots.{nodes, nodes_all}
use Rattle.resolving.specs.Words.{kind_at, holds_at, KnownWord}
use Rattle.resolving.specs.Distinct.{window}
use Rattle.resolving.specs.Distinct.Laws.{length_window, window_none}
use Rattle.tree_walk.specs.Forest.{Valid, AllValid}
use Rattle.tree_walk.specs.Forest.Words.{kind_of_node, nodes_positive}
use Rattle.tree_walk.specs.Course.Turns.{head_is, tail_is, no_cons}
use Rattle.tree_ways.specs.Only.{marks_of, leaf_way, way_of, Rooted, WayIn}
use Rattle.tree_ways.specs.Takes.Laws.{first_word_lem}
use Rattle.tree_ways.specs.Code.{way_code, code_bound, pair_code, DecodedWay, CodeIn, Stacked, Codes}
use Rattle.tree_ways.specs.Code.Laws.{code_small, code_pair, marks_one, marks_fit}
use Rattle.tree_ways.specs.Code.Suffix.{forest_known, none_spelt, root_inside, whole, node, words_from}

-- ---- the stack

module _ (t : Table) (e : ℕ) where
  -- a word at or above the height
  stacked_kept : (stack : List ℕ) (p h i v : ℕ) (rs : List Residual) → h ≤ i → Stacked t e stack p h rs
      → Stacked t e (set stack i v) p h rs
  stacked_kept stack p h i v [] k s = s
  stacked_kept stack p h i v (r ∷ rs) k s = (
    s.0,
    get_or-set_other stack i (h - 1) v 0 (λ z. omega (arith, z, s.0)) ∙ s.1,
    stacked_kept stack (p + length (nodes r)) (h - 1) i v rs (omega arith) s.2,
  )

  -- one word more, of a tree at place j with d nodes
  stacked_more : (stack : List ℕ) (j h d v : ℕ) (r : Residual) (rs : List Residual) → h < length stack
      → length (nodes r) ≡ d → v ≡ way_code (way_of t e r) j → Stacked t e stack (j + d) h rs
      → Stacked t e (set stack h v) j (h + 1) (r ∷ rs)
  stacked_more stack j h d v r rs k size ev s =
      let z : h + 1 - 1 ≡ h = omega arith in (
        omega arith,
        rw z (get_or-set_same stack h v 0 k ∙ ev),
        rw (z, size) (stacked_kept stack (j + d) h h v rs (omega arith) s),
      )

-- ---- the loop

module _ {t : Table} {area : List ℕ} {k n : ℕ} (s : Rooted t area k n) where
  pub codes_first : (e : ℕ) (stack : List ℕ) → length stack ≡ 16 → Codes t e area k n stack 0 n
  codes_first e stack size =
      record { inside = omega arith; size = size; height = omega (arith, (root_inside s).1); of = told }
    where
      told : (rs : List Residual) → AllValid t rs → window (k + n) (n - n) area ≡ nodes_all rs
          → Stacked t e stack n 0 rs
      told rs v g =
          let z : n - n ≡ 0 = omega arith in
          let none : rs ≡ [] = none_spelt rs (sym (rw z (window_none (k + n) area)) ∙ g) in
          subst (Stacked t e stack n 0) (sym none) refl

  -- ---- at node j

  module _ {e : ℕ} {stack : List ℕ} {h j : ℕ} (c : Codes t e area k n stack h j) where
    pub codes_last : j ≡ 0 → CodeIn t e area k n (get_or stack 0 0)
    codes_last none = record { of = told }
      where
        told : (r : Residual) (ws : List ℕ) → drop k area ≡ nodes r ++ ws → Valid t r → n ≡ length (nodes r)
            → get_or stack 0 0 ≡ way_code (way_of t e r) 0
        told r ws g v en =
            let d = subst (Codes t e area k n stack h) none c in
            let st = d.of (r ∷ []) (v, tt) (whole s r ws g en) in
            rw st.2 at st.1

    module _ (some : 0 < j) where
      abbrev i : ℕ
      i = j - 1

      abbrev w : ℕ
      w = get_or area (k + i) 0

      here : Codes t e area k n stack h (i + 1)
      here = let z : j ≡ j - 1 + 1 = omega arith in subst (Codes t e area k n stack h) z c

      pub codes_inside : (k + i < length area) × (i < 15)
      codes_inside = (omega (arith, (root_inside s).0, c.inside), omega (arith, c.height))

      before : i < n
      before = omega (arith, c.inside)

      pub codes_known : KnownWord t w
      codes_known =
          let f = words_from s i (omega (arith, before)) in
          forest_known t _ _ f.trees (sym (node s i before) ∙ f.spelt) f.valid

      split : {ws : List ℕ} → window (k + i) (n - i) area ≡ ws
          → w ∷ window (k + (i + 1)) (n - (i + 1)) area ≡ ws
      split g = sym (node s i before) ∙ g

      pub codes_leaf : (kind_at t w ≡ 4 → ⊥) → (v : ℕ) → v ≡ way_code (leaf_way t e w) i
          → Codes t e area k n (set stack h v) (h + 1) i
      unfolding nodes_all nodes way_of
      codes_leaf q v ev = record {
        inside = omega (arith, before);
        size = length-set stack h v ∙ c.size;
        height = omega (arith, c.height);
        of = told;
      }
        where
          told : (rs : List Residual) → AllValid t rs → window (k + i) (n - i) area ≡ nodes_all rs
              → Stacked t e (set stack h v) i (h + 1) rs
          told [] a g = no_cons (split g)
          told (leaf x m ∷ rs) a g =
              stacked_more t e stack i h 1 v (leaf x m) rs (omega (arith, c.height, c.size)) refl
              (ev ∙ ap (λ (y : ℕ). way_code (leaf_way t e y) i) (head_is (split g)))
              (here.of rs a.1 (tail_is (split g)))
          told (pair x m l r ∷ rs) a g =
              absurd (q (ap (kind_at t) (head_is (split g)) ∙ kind_of_node x m a.0.0.0 t ∙ a.0.1))

      module _ (q : kind_at t w ≡ 4) where
        not_leaf : (x : ℕ) (m : Memory) → Valid t (leaf x m) → w ≡ pack x m → ⊥
        not_leaf x m v g = v.1 (sym (kind_of_node x m v.0.0 t) ∙ ap (kind_at t) (sym g) ∙ q)

        -- of a pair at node i: its sides' words are on the stack
        record Two (l r : Residual) (rs : List Residual) : Type 0 where
          two : 2 ≤ h
          left : get_or stack (h - 1) 0 ≡ way_code (way_of t e l) (i + 1)
          right : get_or stack (h - 2) 0 ≡ way_code (way_of t e r) (i + (length (nodes l) + 1))
          below : Stacked t e stack (i + suc (length (nodes l) + length (nodes r))) (h - 2) rs
          fits : marks_of (way_of t e l) * 2 ^ (i + 1) + marks_of (way_of t e r) * 2 ^ (i + (length (nodes l) + 1)) < 65536

        two_of : (x : ℕ) (m : Memory) (l r : Residual) (rs : List Residual) → AllValid t (pair x m l r ∷ rs)
            → window (k + i) (n - i) area ≡ nodes_all (pair x m l r ∷ rs) → Two l r rs
        unfolding nodes_all nodes
        two_of x m l r rs a g =
            let st = here.of (l ∷ r ∷ rs) (a.0.2, (a.0.3, a.1))
            (tail_is (split g) ∙ append_assoc (nodes l) (nodes r) (nodes_all rs)) in
            let z : h - 1 - 1 ≡ h - 2 = omega arith in
            let p : i + 1 + length (nodes l) ≡ i + (length (nodes l) + 1) = omega arith in
            let y : i + 1 + length (nodes l) + length (nodes r) ≡ i + suc (length (nodes l) + length (nodes r))
            = omega arith in
            record {
              two = omega (arith, st.0, st.2.0);
              left = st.1;
              right = rw (z, p) at st.2.1;
              below = rw (z, y) at st.2.2;
              fits =
                  marks_fit t e l r i
                  (omega (
                    arith,
                    ap length g,
                    length_window (k + i) (n - i) area (omega (arith, (root_inside s).0)),
                    length-append (nodes l ++ nodes r) (nodes_all rs),
                    length-append (nodes l) (nodes r),
                    (root_inside s).1,
                  ));
            }

        ready_by : (rs : List Residual) → AllValid t rs → window (k + i) (n - i) area ≡ nodes_all rs
            → (2 ≤ h) × (get_or stack (h - 1) 0 < code_bound) × (get_or stack (h - 2) 0 < code_bound)
        unfolding nodes_all nodes
        ready_by [] a g = no_cons (split g)
        ready_by (leaf x m ∷ rs) a g = absurd (not_leaf x m a.0 (head_is (split g)))
        ready_by (pair x m l r ∷ rs) a g =
            let d = two_of x m l r rs a g in (
              d.two,
              rw d.left (code_small (way_of t e l) (i + 1) (omega (arith, d.fits))),
              rw d.right (code_small (way_of t e r) (i + (length (nodes l) + 1)) (omega (arith, d.fits))),
            )

        pub codes_ready : (2 ≤ h) × (get_or stack (h - 1) 0 < code_bound) × (get_or stack (h - 2) 0 < code_bound)
        codes_ready = let f = words_from s i (omega (arith, before)) in ready_by f.trees f.valid f.spelt

        pub codes_pair : (held : Bool) → held ≡ holds_at t e w → (v : ℕ)
            → v ≡ pair_code (get_or stack (h - 1) 0) (get_or stack (h - 2) 0) held
            → Codes t e area k n (set stack (h - 2) v) (h - 1) i
        unfolding nodes_all nodes way_of
        codes_pair held eh v ev = record {
          inside = omega (arith, before);
          size = length-set stack (h - 2) v ∙ c.size;
          height = omega (arith, c.height);
          of = told;
        }
          where
            told : (rs : List Residual) → AllValid t rs → window (k + i) (n - i) area ≡ nodes_all rs
                → Stacked t e (set stack (h - 2) v) i (h - 1) rs
            told [] a g = no_cons (split g)
            told (leaf x m ∷ rs) a g = absurd (not_leaf x m a.0 (head_is (split g)))
            told (pair x m l r ∷ rs) a g =
                let d = two_of x m l r rs a g in
                let z : h - 1 ≡ h - 2 + 1 = omega (arith, d.two) in
                let mark : holds_at t e w ≡ holds_at t e (pack x m) = ap (holds_at t e) (head_is (split g)) in
                let code : v ≡ way_code (way_of t e (pair x m l r)) i =
                ev ∙ rw (d.left, d.right, eh, mark) (code_pair (length (nodes l) + 1) i (way_of t e l) (way_of t e r)
                (holds_at t e (pack x m)) d.fits) in
                subst (λ (y : ℕ). Stacked t e (set stack (h - 2) v) i y (pair x m l r ∷ rs)) (sym z)
                (stacked_more t e stack i (h - 2) _ v (pair x m l r) rs (omega (arith, c.height, c.size))
                (ap suc (length-append (nodes l) (nodes r))) code d.below)

-- ---- way_of

module _ {t : Table} {area : List ℕ} {k n : ℕ} (s : Rooted t area k n) (e v : ℕ) where
  pub leaf_told : n ≡ 1 → v ≡ way_code (leaf_way t e (get_or area k 0)) 0 → CodeIn t e area k n v
  unfolding nodes way_of
  leaf_told en ev = record { of = told }
    where
      told : (r : Residual) (ws : List ℕ) → drop k area ≡ nodes r ++ ws → Valid t r → n ≡ length (nodes r)
          → v ≡ way_code (way_of t e r) 0
      told (leaf i m) ws g u h =
          ev ∙ ap (λ (x : ℕ). way_code (leaf_way t e x) 0) (first_word_lem k s.short.at g).0
      told (pair i m l r) ws g u h = absurd (omega (arith, nodes_positive l, length-append (nodes l) (nodes r)))

  pub way_told : (c : Way) → CodeIn t e area k n v → DecodedWay v c → WayIn t e area k n c
  way_told c i d = record {
    of = λ r ws g u h.
        d.of (way_of t e r) (marks_one t e r (omega (arith, h, (root_inside s).1))) (i.of r ws g u h);
  }
