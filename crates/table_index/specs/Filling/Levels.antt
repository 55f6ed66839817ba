-- Widths of bodies, and of a level: the ways out of `body_width`, the turns of `level_width`.
--     body_asked, root_inside, body_own, body_other                  a body
--     LevelSoFar, level_first, level_asked, level_next, level_done   the bodies of a level, one after another
-- Assumes nothing.
use Rattle.std.specs.Prelude.{ℕ, suc, ◌+◌, ◌≤◌, ◌<◌, max, ◌≡◌, Bool, true, false, length, eqb}
use native.Mathlib.Omega.{arith}
use Rattle.std.proofs.Math.Decide.{dec_lt}
use Rattle.std.proofs.Common.{add-one, sym, ◌∙◌, eq-eqb, ne_eqb}
use Rattle.std.proofs.Math.Path.{refl, ap}
use Rattle.std.proofs.Math.Bool.{cond}
use mathlib.Core.List.{List, [], ◌∷◌}
use Rattle.std.proofs.Math.ListN.{get_or, drop, drop_of_length-le}
use Rattle.std.proofs.Math.Seq.{drop-cons}
use Rattle.table.specs.Table.{fail, Definition, Table, body_number}
use Rattle.table.specs.References.{level_in}
use Rattle.table_index.specs.References.Nodes.{node_links}
use Rattle.table.specs.Width.{width_with, widest}
use Rattle.table.specs.Branches.{body_in}
use Rattle.table.specs.Node.{term_of}
use Rattle.table.proofs.Node.Laws.{body_node, own_node}
use Rattle.table_index.specs.Layout.{terms_at, sets_at, bodies_at, levels_at, widths_at, width_digit}
use Rattle.table_index.specs.Index.{Structured}
use Rattle.table_index.specs.Filling.{KeptOutside, stored_call, CallCounted, WidthsAsked, WidthsFilled}
use Rattle.table_index.specs.Filling.{LevelAsked, body_width, BodyDone, LevelDone}
use Rattle.table_index.specs.Filling.Kinds.{size_some}
use Rattle.table_index.specs.Filling.Spans.{end_stored, body_whole}
use Rattle.table_index.specs.Filling.OneWidth.{calls_kept}

-- ---- a body

stored_small : (t : Table) (w : List ℕ) (level : ℕ) → ((k : ℕ) → k < level → get_or w (widths_at + k) 0 ≤ 8)
    → (d : ℕ) → level_in t.definitions d ≤ level → stored_call t w level d ≤ 8
unfolding stored_call
stored_small t w level f d h = go (dec_lt (level_in t.definitions d) level)
  where
    go : Dec (level_in t.definitions d < level)
        → cond (eqb (level_in t.definitions d) level) 1 (get_or w (widths_at + level_in t.definitions d) 0) ≤ 8
    go (yes k) =
        let n : (level_in t.definitions d ≡ level → ⊥) = λ e. omega arith in
        rw (ne_eqb _ _ n) (f (level_in t.definitions d) k)
    go (no k) =
        let e : level_in t.definitions d ≡ level = omega arith in
        rw (eq-eqb _ _ e) (omega arith)

module _ (t : Table) (w : List ℕ) (d level : ℕ) (a : LevelAsked t w level) (h : d < length t.definitions) where
  abbrev Root : ℕ
  Root = get_or w (bodies_at + d) 0

  abbrev End : ℕ
  End = get_or w (bodies_at + d + 1) 0

  root_is : Root ≡ body_number t d
  root_is = a.structure.roots d (omega arith)

  end_is : End ≡ body_number t (suc d)
  end_is = end_stored t w d a.structure h

  -- the body has a term
  pub root_inside : Root < 1024
  root_inside =
      let b = body_node t d h in
      let n = b.next in
      let i = b.inside in
      let s = size_some (body_in t.definitions d) in
      let r = root_is in
      let m = a.fields.terms_most in
      omega arith

  own_level : get_or w (levels_at + d) 0 ≡ level → level_in t.definitions d ≡ level
  own_level e = sym (a.structure.levels d h) ∙ e

  level_counted : level_in t.definitions d ≡ level → (n : ℕ) → body_number t d ≤ n → n < body_number t (suc d)
      → CallCounted t w level n
  level_counted e n l u c x =
      let b = (body_node t d h).inside in
      let k = node_links t a.linked n (omega arith) in
      let o = own_node t d n h l u in
      let q = rw (o, e) at (k.lower c x) in
      (k.exists c x, stored_small t w level a.lower c q)

  pub body_asked : get_or w (levels_at + d) 0 ≡ level → WidthsAsked t w Root End level
  body_asked e =
      let b = body_node t d h in
      let n = b.next in
      rw (root_is, end_is)
      (record {
        fields = a.fields;
        structure = a.structure;
        ordered = omega arith;
        inside = b.inside;
        whole = body_whole t d h;
        counted = level_counted (own_level e);
      })

  pub body_own : (v : List ℕ) → get_or w (levels_at + d) 0 ≡ level → WidthsFilled t w v Root End level
      → BodyDone t w v d level (width_digit (get_or v (terms_at + Root) 0))
  unfolding body_width
  body_own v e f =
      let b = body_node t d h in
      let n = b.next in
      let i = b.inside in
      let m = a.fields.terms_most in
      let s = size_some (body_in t.definitions d) in
      let r = root_is in
      let z = end_is in
      let k = (f.known Root (omega arith) (omega arith)).value in
      record {
        structure = f.structure;
        kept = λ x g. f.kept x (λ y. g (omega arith));
        value =
            k ∙ ap (λ (x : ℕ). width_with (stored_call t w level) (term_of t x)) r
            ∙ ap (width_with (stored_call t w level)) b.term
            ∙ rw (eq-eqb _ _ (own_level e)) refl;
      }

  pub body_other : (get_or w (levels_at + d) 0 ≡ level → ⊥) → BodyDone t w w d level 0
  unfolding body_width
  body_other n =
      let o : (level_in t.definitions d ≡ level → ⊥) = λ q. n (a.structure.levels d h ∙ q) in
      record { structure = a.structure; kept = λ x g. refl; value = rw (ne_eqb _ _ o) refl }

-- ---- the bodies of a level

pub record LevelSoFar (t : Table) (w v : List ℕ) (level widest_so d : ℕ) : Type 0 where
  pub inside : d ≤ length t.definitions
  pub structure : Structured t v
  pub kept : KeptOutside terms_at sets_at w v
  pub rest : max widest_so (widest (width_with (stored_call t w level)) level (drop d t.definitions))
      ≡ widest (width_with (stored_call t w level)) level t.definitions

pub level_first : (t : Table) (w : List ℕ) (level : ℕ) → LevelAsked t w level → LevelSoFar t w w level 0 0
level_first t w level a =
    record { inside = omega arith; structure = a.structure; kept = λ x h. refl; rest = omega arith }

module _ (t : Table) (w v : List ℕ) (level m d : ℕ) (a : LevelAsked t w level) (s : LevelSoFar t w v level m d) where
  pub level_asked : LevelAsked t v level
  level_asked =
      record {
        fields = a.fields;
        structure = s.structure;
        linked = a.linked;
        inside = a.inside;
        lower = λ k h. rw (s.kept (widths_at + k) (λ x. omega arith)) (a.lower k h);
      }

  larger_rest : (b : Bool) (x rest : ℕ) → max (max m (cond b x 0)) rest ≡ max m (cond b (max x rest) rest)
  larger_rest true x rest = omega arith
  larger_rest false x rest = omega arith

  pub level_next : (v' : List ℕ) (r x : ℕ) → d < length t.definitions → BodyDone t v v' d level r → x ≡ max m r
      → LevelSoFar t w v' level x (d + 1)
  unfolding body_width widest level_in body_in
  level_next v' r x h b e =
      let ds = t.definitions in
      let z : Definition = record { level = 0; body = fail } in
      let f = width_with (stored_call t w level) in
      let c : stored_call t v level ≡ stored_call t w level =
      calls_kept t w v level (λ y g. s.kept y (λ k. omega arith))
      in
      let val : r ≡ cond (eqb (get_or ds d z).level level) (f (get_or ds d z).body) 0 = rw c at b.value in
      let cut : drop d ds ≡ get_or ds d z ∷ drop (suc d) ds = drop-cons ds d z h in
      let old = rw cut at s.rest in
      record {
        inside = omega arith;
        structure = b.structure;
        kept = λ y g. b.kept y g ∙ s.kept y g;
        rest = rw (add-one d, e, val)
            (larger_rest (eqb (get_or ds d z).level level) (f (get_or ds d z).body) (widest f level (drop (suc d) ds))
            ∙ old);
      }

  pub level_done : length t.definitions ≤ d → LevelDone t w v level m
  unfolding widest
  level_done h =
      let e : drop d t.definitions ≡ [] = drop_of_length-le t.definitions h in
      let r = rw e at s.rest in
      record { structure = s.structure; kept = s.kept; value = omega arith }
