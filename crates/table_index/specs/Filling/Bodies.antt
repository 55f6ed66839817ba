-- The branches of the bodies, one after another, then of all terms: the turns of `fill_all_branches`.
--     BodiesSoFar, bodies_first, bodies_asked, bodies_next     a body more
--     all_asked, all_done                                      then all terms
-- Assumes nothing.
use Rattle.std.specs.Prelude.{ℕ, suc, ◌+◌, ◌≤◌, ◌<◌, ◌≡◌, refl, List, length, get_or}
use Rattle.std.proofs.Common.{arith, add-one, ap, ◌∙◌}
use Rattle.std.proofs.Math.Decide.{dec_le}
use Rattle.table.specs.Table.{Table, term_count, body_number}
use Rattle.table.specs.Table.{sizes}
use Rattle.table_index.specs.References.Nodes.{node_links}
use Rattle.table.proofs.Node.Laws.{own_node, spot_of}
use Rattle.table_index.specs.Layout.{terms_at, bodies_at, term_count_at, branches_digit}
use Rattle.table_index.specs.Index.{Structured}
use Rattle.table_index.specs.Filling.{ReachKept, BranchesKnown, prefixes_at, FillAsked, CallsReady}
use Rattle.table_index.specs.Filling.{BranchesFilled, AllAsked, AllDone}
use Rattle.table_index.specs.Filling.Spans.{end_stored, body_before, body_inside, body_whole, all_whole}

pub record BodiesSoFar (t : Table) (w v : List ℕ) (d : ℕ) : Type 0 where
  pub inside : d ≤ length t.definitions
  pub structure : Structured t v
  pub reaches : ReachKept w v
  pub known : (n : ℕ) → n < body_number t d → prefixes_at t n ≡ 0 → BranchesKnown t v n

pub bodies_first : (t : Table) (w : List ℕ) → AllAsked t w → BodiesSoFar t w w 0
unfolding body_number sizes
bodies_first t w a =
    record {
      inside = omega arith;
      structure = a.structure;
      reaches = λ n h. refl;
      known = λ n h q. absurd (omega arith);
    }

module _ (t : Table) (w v : List ℕ) (d : ℕ) (a : AllAsked t w) (s : BodiesSoFar t w v d) where
  -- a body before d has its branches
  body_known : (e : ℕ) → e < d → BranchesKnown t v (body_number t e)
  body_known e h =
      let i = s.inside in
      let b = body_inside t e (omega arith) in
      let x = b.ends in
      let y = body_before t (suc e) d h i in
      s.known (body_number t e) (omega arith) b.bare

  module _ (h : d < length t.definitions) where
    abbrev Root : ℕ
    Root = get_or v (bodies_at + d) 0

    abbrev End : ℕ
    End = get_or v (bodies_at + d + 1) 0

    root_is : Root ≡ body_number t d
    root_is = s.structure.roots d (omega arith)

    end_is : End ≡ body_number t (suc d)
    end_is = end_stored t v d s.structure h

    pub bodies_asked : FillAsked t v Root End
    bodies_asked =
        let b = body_inside t d h in
        let x = b.ends in
        rw (root_is, end_is)
        (record {
          fields = a.fields;
          structure = s.structure;
          linked = a.linked;
          ordered = omega arith;
          inside = b.inside;
          whole = body_whole t d h;
        })

    -- a call with no prefix around it names a body before d
    bare_ready : CallsReady t v (body_number t d) (body_number t (suc d)) 0
    bare_ready n l u q e x =
        let b = (body_inside t d h).inside in
        let o = own_node t d n h l u in
        let g = (node_links t a.linked n (omega arith)).guarded e x (omega arith) in
        body_known e (omega arith)

    bodies_known : (v' : List ℕ) → BranchesFilled t v v' (body_number t d) (body_number t (suc d))
        → (n : ℕ) → n < body_number t (suc d) → prefixes_at t n ≡ 0 → Dec (body_number t d ≤ n) → BranchesKnown t v' n
    bodies_known v' f n u q (yes l) = f.known 0 bare_ready n l u (omega arith)
    bodies_known v' f n u q (no l) =
        ap branches_digit (f.kept (terms_at + n) (λ x. omega arith)) ∙ s.known n (omega arith) q

    pub bodies_next : (v' : List ℕ) → BranchesFilled t v v' Root End → BodiesSoFar t w v' (d + 1)
    bodies_next v' f =
        let g = rw (root_is, end_is) at f in
        rw (add-one d)
        (record {
          inside = h;
          structure = g.structure;
          reaches = λ n k. g.reaches n k ∙ s.reaches n k;
          known = λ n u q. bodies_known v' g n u q (dec_le (body_number t d) n);
        })

  -- then all terms
  pub all_asked : FillAsked t v 0 (get_or w term_count_at 0)
  all_asked =
      rw a.structure.terms
      (record {
        fields = a.fields;
        structure = s.structure;
        linked = a.linked;
        ordered = omega arith;
        inside = omega arith;
        whole = all_whole t;
      })

  all_ready : length t.definitions ≤ d → CallsReady t v 0 (term_count t) 31
  all_ready h n l u q e x = let k = (node_links t a.linked n u).exists e x in body_known e (omega arith)

  pub all_done : (v' : List ℕ) → length t.definitions ≤ d → BranchesFilled t v v' 0 (get_or w term_count_at 0)
      → AllDone t w v'
  all_done v' h f =
      let g = rw a.structure.terms at f in
      record {
        structure = g.structure;
        reaches = λ n k. g.reaches n k ∙ s.reaches n k;
        branching = λ n u.
            let p = (spot_of t a.fields n u).prefixes in
            g.known 31 (all_ready h) n (omega arith) u (omega arith);
      }
