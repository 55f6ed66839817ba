-- Widths of the levels, one after another: the turns and the ways out of `first_wide_level`.
--     WideSoFar, wide_first, wide_asked, wide_next     a level more
--     wide_level, wide_none                            a level above 8; none
--     reach_asked, reach_done                          then the reach of all terms
--     wide_broken, wide_nowhere                        what it answers
-- Assumes nothing.
use Rattle.std.specs.Prelude.{ℕ, zero, suc, ◌+◌, ◌≤◌, ◌<◌, ◌≡◌, List, [], ◌∷◌, set, eqb}
use native.Mathlib.Omega.{arith}
use Rattle.std.proofs.Math.Decide.{dec_lt}
use Rattle.std.proofs.Math.Path.{refl, sym, ap, fun_ext}
use Rattle.std.proofs.Common.{◌∙◌, subst, length-set, get_or-set_same, get_or-set_other}
use Rattle.std.proofs.Math.Bool.{cond}
use Rattle.std.proofs.Math.Option.{none, some}
use Rattle.std.proofs.Math.ListN.{length, get_or, get_or-eq_default}
use borrow.Author.Tests.{eq-eqb, ne_eqb, le-leb, lt-leb}
use Rattle.std.specs.declared.option.Option.TheVariants.{Some, None}
use Rattle.table.specs.Grow.{grow}
use Rattle.table.proofs.Grow.Laws.{length_grow, get_d_grow, grow_stable}
use Rattle.table.specs.First.{or_else, unless}
use Rattle.table.specs.Table.{Table, term_count}
use Rattle.table.specs.Context.{Each}
use Rattle.table.proofs.Context.Laws.{each_imp}
use Rattle.table.specs.Branches.{body_in}
use Rattle.table.specs.Node.{term_of}
use Rattle.table.proofs.Node.Laws.{each_node}
use Rattle.table.specs.Fields.{Fields}
use Rattle.table.specs.References.{level_in, first_wrong}
use Rattle.table_index.specs.References.Nodes.{node_links}
use Rattle.table.specs.Width.{width_with, widest, call_width, next_width, all_widths, level_width}
use Rattle.table.specs.Width.{reach, first_above, too_wide}
use Rattle.table.proofs.Width.Laws.{above_in}
use Rattle.table.proofs.Width.Reach.{bodies_all, reach_linked}
use Rattle.table.proofs.Equations.{widest_agree}
use Rattle.table_index.specs.Layout.{terms_at, widths_at, term_count_at, structure_of, width_digit}
use Rattle.table_index.specs.Layout.Laws.{reach_same}
use Rattle.table_index.specs.Index.{Structured, Reaching, table_in}
use Rattle.table_index.specs.Index.Laws.{structured_kept}
use Rattle.table_index.specs.Judging.{WideDone}
use Rattle.table_index.specs.Filling.{stored_call, WidthsAsked, WidthsFilled}
use Rattle.table_index.specs.Filling.{LevelAsked, LevelDone}
use Rattle.table_index.specs.Filling.Spans.{level_most, all_whole, linkage, calls_level}

-- ---- the levels

above_at : (bound i : ℕ) (l : List ℕ) (j : ℕ) → j < length l → ((k : ℕ) → k < j → get_or l k 0 ≤ bound)
    → bound < get_or l j 0 → first_above bound i l ≡ some (i + j)
unfolding first_above or_else unless
above_at bound i [] j h f b = absurd (omega arith)
above_at bound i (n ∷ l) zero h f b =
    let e : i ≡ i + 0 = omega arith in
    rw (lt-leb n bound b) (ap some e)
above_at bound i (n ∷ l) (suc j) h f b =
    let e : suc i + j ≡ i + suc j = omega arith in
    rw (le-leb n bound (f 0 (omega arith)))
    (above_at bound (suc i) l j (omega arith) (λ k g. f (suc k) (omega arith)) b ∙ ap some e)

pub record WideSoFar (t : Table) (v : List ℕ) (level : ℕ) : Type 0 where
  pub inside : level ≤ 8
  pub structure : Structured t v
  pub stored : (k : ℕ) → k < level → get_or v (widths_at + k) 0 ≡ level_width t k
  pub few : (k : ℕ) → k < level → level_width t k ≤ 8

pub wide_first : (t : Table) (w : List ℕ) → Structured t w → WideSoFar t w 0
wide_first t w s =
    record {
      inside = omega arith;
      structure = s;
      stored = λ k h. absurd (omega arith);
      few = λ k h. absurd (omega arith);
    }

module _ (t : Table) (v : List ℕ) (level : ℕ) (f : Fields t) (linked : first_wrong t ≡ none)
    (s : WideSoFar t v level) where
  pub wide_asked : level < 8 → LevelAsked t v level
  wide_asked h =
      record {
        fields = f;
        structure = s.structure;
        linked = linked;
        inside = omega arith;
        lower = λ k g. rw (s.stored k g) (s.few k g);
      }

  abbrev F : List ℕ → ℕ
  F = next_width t.definitions

  call_agrees : level < 8 → (e : ℕ) → level_in t.definitions e ≤ level
      → call_width t.definitions (grow F level) e ≡ stored_call t v level e
  unfolding call_width stored_call
  call_agrees h e b = go (dec_lt (level_in t.definitions e) level)
    where
      go : Dec (level_in t.definitions e < level)
          → cond (eqb (level_in t.definitions e) (length (grow F level))) 1
          (get_or (grow F level) (level_in t.definitions e) 0)
          ≡ cond (eqb (level_in t.definitions e) level) 1 (get_or v (widths_at + level_in t.definitions e) 0)
      go (yes k) =
          let n = length_grow F level in
          let x : (level_in t.definitions e ≡ length (grow F level) → ⊥) = λ q. omega arith in
          let y : (level_in t.definitions e ≡ level → ⊥) = λ q. omega arith in
          rw (ne_eqb _ _ x, ne_eqb _ _ y, s.stored (level_in t.definitions e) k)
          (unfold level_width all_widths in grow_stable F 0 level 8 (level_in t.definitions e) k (omega arith))
      go (no k) =
          let n = length_grow F level in
          let x : level_in t.definitions e ≡ length (grow F level) = omega arith in
          let y : level_in t.definitions e ≡ level = omega arith in
          rw (eq-eqb _ _ x, eq-eqb _ _ y) refl

  -- the stored widths give the level's
  pub wide_value : (v' : List ℕ) (r : ℕ) → level < 8 → LevelDone t v v' level r → r ≡ level_width t level
  unfolding level_width all_widths next_width
  wide_value v' r h d =
      let ds = t.definitions in
      d.value
      ∙ sym
      (get_d_grow F 0 8 level h
      ∙ ap (λ (n : ℕ). widest (width_with (call_width ds (grow F level))) n ds) (length_grow F level)
      ∙ widest_agree ds (call_width ds (grow F level)) (stored_call t v level) level (call_agrees h) 0 ds
      (calls_level t linked))

  length_widths : length (all_widths t.definitions) ≡ 8
  unfolding all_widths
  length_widths = length_grow F 8

  pub wide_next : (v' : List ℕ) (r : ℕ) → level < 8 → LevelDone t v v' level r → r ≤ 8
      → WideSoFar t (set v' (widths_at + level) r) (level + 1)
  wide_next v' r h d b =
      let e = wide_value v' r h d in
      let o = d.structure.whole in
      let w' = set v' (widths_at + level) r in
      let other : (x : ℕ) → (x ≡ widths_at + level → ⊥) → get_or w' x 0 ≡ get_or v' x 0 =
      λ x g. get_or-set_other v' (widths_at + level) x r 0 g
      in
      let old : (k : ℕ) → k < level → get_or w' (widths_at + k) 0 ≡ level_width t k =
      λ k g. other (widths_at + k) (λ q. omega arith) ∙ d.kept (widths_at + k) (λ q. omega arith) ∙ s.stored k g
      in
      let here : get_or w' (widths_at + level) 0 ≡ level_width t level =
      get_or-set_same v' (widths_at + level) r 0 (omega arith) ∙ e
      in
      record {
        inside = omega arith;
        structure =
            structured_kept t v' w' f (length-set v' (widths_at + level) r) (λ x g k. other x (λ q. k (omega arith)))
            (λ n g. ap structure_of (other (terms_at + n) (λ q. omega arith))) d.structure;
        stored = λ k g.
            elim (dec_lt k level) [
              | yes q ↦ old k q
              | no q ↦
                  let z : k ≡ level = omega arith in
                  subst (λ (j : ℕ). get_or w' (widths_at + j) 0 ≡ level_width t j) (sym z) here
            ];
        few = λ k g.
            elim (dec_lt k level) [
              | yes q ↦ s.few k q
              | no q ↦ let z : k ≡ level = omega arith in subst (λ (j : ℕ). level_width t j ≤ 8) (sym z) (omega arith)
            ];
      }

  -- a level above 8
  pub wide_level : (v' : List ℕ) (r : ℕ) → level < 8 → LevelDone t v v' level r → 8 < r → too_wide t ≡ some level
  unfolding too_wide
  wide_level v' r h d b =
      let e = wide_value v' r h d in
      let n = length_widths in
      let z : 0 + level ≡ level = omega arith in
      let q : 8 < level_width t level = omega arith in
      above_at 8 0 (all_widths t.definitions) level (omega arith) (unfold level_width in s.few)
      (unfold level_width in q)
      ∙ ap some z

  -- none
  pub wide_none : 8 ≤ level → too_wide t ≡ none
  unfolding too_wide
  wide_none h =
      above_in 8 0 (all_widths t.definitions)
      (λ j.
      elim (dec_lt j 8) [
        | yes q ↦ unfold level_width in s.few j (omega arith)
        | no q ↦
            let n = length_widths in
            let z : get_or (all_widths t.definitions) j 0 ≡ 0 =
            get_or-eq_default (all_widths t.definitions) 0 (omega arith)
            in
            omega arith
      ])

  -- ---- reach
  stored_reach : 8 ≤ level → (d : ℕ) → stored_call t v 8 d ≡ level_width t (level_in t.definitions d)
  unfolding stored_call
  stored_reach h d =
      let m = level_most t f d in
      let n : (level_in t.definitions d ≡ 8 → ⊥) = λ e. omega arith in
      rw (ne_eqb _ _ n) (s.stored (level_in t.definitions d) (omega arith))

  pub reach_asked : 8 ≤ level → WidthsAsked t v 0 (get_or v term_count_at 0) 8
  reach_asked h =
      rw s.structure.terms
      (record {
        fields = f;
        structure = s.structure;
        ordered = omega arith;
        inside = omega arith;
        whole = all_whole t;
        counted = λ n l u d x. (
          (node_links t linked n u).exists d x,
          rw (stored_reach h d) (let m = level_most t f d in s.few (level_in t.definitions d) (omega arith)),
        );
      })

  -- the widths are at most 8, and so is the reach of every term
  reach_small : 8 ≤ level → (n : ℕ) → n < term_count t → reach t (term_of t n) ≤ 8
  reach_small h n b =
      each_node (λ p. reach t p ≤ 8) t
      (bodies_all (Each (λ p. reach t p ≤ 8)) t.definitions
      (λ d k.
      let m = level_most t f d in
      let q = s.few (level_in t.definitions d) (omega arith) in
      each_imp (λ p. reach t p ≤ level_width t (level_in t.definitions d)) (λ p. reach t p ≤ 8) (λ p x. omega arith)
      (body_in t.definitions d) (reach_linked t f.levels (linkage t linked) d k)))
      n b

  reach_stored : (v' : List ℕ) → 8 ≤ level → WidthsFilled t v v' 0 (get_or v term_count_at 0) 8 → (n : ℕ)
      → n < term_count t → width_digit (get_or v' (terms_at + n) 0) ≡ reach t (term_of t n)
  unfolding reach
  reach_stored v' h g n b =
      let e = s.structure.terms in
      let c : stored_call t v 8 ≡ (λ d. level_width t (level_in t.definitions d)) = fun_ext (stored_reach h) in
      rw c at (g.known n (omega arith) (omega arith)).value

  pub reach_done : (v' : List ℕ) → 8 ≤ level → WidthsFilled t v v' 0 (get_or v term_count_at 0) 8 → Reaching t v'
  reach_done v' h g n b =
      let z = reach_small h n b in
      reach_same (get_or v' (terms_at + n) 0) (reach t (term_of t n)) (reach_stored v' h g n b) (omega arith)

-- ---- the answers

pub wide_broken : (l w' : List ℕ) (level : ℕ) → too_wide (table_in l) ≡ some level → Structured (table_in l) w'
    → WideDone l w' (Some level)
wide_broken l w' level e s =
    record {
      answer = rw e refl;
      structure = s;
      reaches = λ q. absurd (let z : ◌≡◌ {A = ℕ} 0 1 = cc in omega arith);
    }

pub wide_nowhere : (l w' : List ℕ) → too_wide (table_in l) ≡ none → Structured (table_in l) w' → Reaching (table_in l) w'
    → WideDone l w' None
wide_nowhere l w' e s r = record { answer = rw e refl; structure = s; reaches = λ q. r }
