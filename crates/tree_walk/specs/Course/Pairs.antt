-- A pair that is to take the event: one law per way out of `walk_pair`, where the modes are rest * 2 + 1.
--     pair_stuck                             it cannot
--     pair_place                             it can: the place after its node
--     pair_both                              both sides take the event
--     pair_then, pair_room, pair_exceeded    one after the other
-- Assumes nothing.
use Rattle.std.specs.Prelude.{ℕ, ◌+◌, ◌*◌, ◌/◌, ◌≤◌, ◌≡◌, true, false, length, get_or, Ok, Err}
use native.Mathlib.Omega.{arith}
use Rattle.std.proofs.Math.Path.{sym}
use Rattle.std.proofs.Common.{◌∙◌, inl, inr}
use mathlib.Core.List.{List, [], ◌∷◌, ◌++◌, append_assoc}
use Rattle.table.specs.Table.{Table}
use Rattle.residuals.specs.Residual.{Residual, pair}
use Rattle.residuals.specs.Slots.{nodes}
use Rattle.slots.specs.Holding.{put_all, Gave, Held, no_room}
use Rattle.slots.proofs.Holding.Laws.{put_none, put_then, put_stop}
use Rattle.resolving.specs.Words.{kind_at, holds_at}
use Rattle.resolving.specs.ResidualWords.{pushed, Clean}
use Rattle.tree_walk.specs.Walk.{joins, before, results, onto}
use Rattle.tree_walk.specs.Walk.Results.{onto_before, onto_append, both_sides, one_side, odd, half}
use Rattle.tree_walk.specs.Forest.{after_kept}
use Rattle.tree_walk.specs.Forest.Results.{results_moved}
use Rattle.tree_walk.specs.Course.{node_count, nodes_from, Ready, Prepared, Place, walked}
use Rattle.tree_walk.specs.Course.Turns.{PairTurn, next_sides}
use Rattle.tree_walk.specs.Course.Places.{split, pair_here, next_place, go}

module _ {t : Table} {bound e : ℕ} {store : List ℕ} (ready : Ready t bound e store) (k rest : ℕ) (slot area : List ℕ)
    (count : ℕ)
    (p : Place t e store k (rest * 2 + 1) slot area count) (h : k ≤ node_count store)
    (q : kind_at t (get_or store k 0) ≡ 4) where
  head : nodes_from store k ≡ get_or store k 0 ∷ nodes_from store (k + 1)
  head = split ready k (rest * 2 + 1) slot area count p h

  turn : PairTurn t e store k (rest * 2 + 1) (get_or store k 0) (nodes_from store (k + 1))
  turn = pair_here ready k (rest * 2 + 1) slot area count p h q

  whole : Residual
  whole = pair turn.n turn.m turn.l turn.r

  is_prepared : Prepared t e store k whole
  unfolding whole
  is_prepared = turn.prepared (odd rest)

  -- ---- by the pair's number in the store

  module _ (zero : get_or store (k * 257) 0 ≡ 0) where
    none_after : Prepared t e store k whole → after_kept t e whole ≡ []
    unfolding whole
    none_after (inl d) = d.1
    none_after (inr d) = absurd (omega (arith, d.0))

    spelt_here : nodes_from store k ≡ nodes whole ++ turn.tail
    unfolding nodes whole
    spelt_here = head ∙ rw (turn.node, turn.spelt, append_assoc (nodes turn.l) (nodes turn.r))

    no_result : results t e (nodes_from store k) (rest * 2 + 1) ≡ []
    unfolding joins whole
    no_result = rw spelt_here (results_moved t e whole turn.valid turn.tail rest ∙ rw (none_after is_prepared))

    pub pair_stuck : Gave (walked t e store k (rest * 2 + 1) slot area count) (Ok count) area
    unfolding walked onto
    pair_stuck = record { same = put_none area count ∙ rw no_result; fits = p.held }

  module _ (some : get_or store (k * 257) 0 ≡ 0 → ⊥) where
    sides_of : Prepared t e store k whole
        → Prepared t e store (k + 1) turn.l × Prepared t e store (k + 1 + length (nodes turn.l)) turn.r
    unfolding whole
    sides_of (inl d) = absurd (some d.0)
    sides_of (inr d) = (d.1, d.2)

    -- the place after the pair's node, where the modes of its sides are new
    pub pair_place : (x : ℕ) (s a : List ℕ) (c : ℕ) → x ≤ rest * 4 + 3 → x / 4 ≡ rest → s ≡ slot → c * 16 ≤ length a
        → Clean s × Place t e store (k + 1) x (pushed s (get_or store k 0)) a c
    pair_place x s a c w m es f =
        let d = sides_of is_prepared in rw es (
          p.clean,
          next_place ready k (rest * 2 + 1) slot area count p h x a c (omega arith) f
              (next_sides turn x (m ∙ sym (half rest)) (λ z. d.0) (λ z. d.1)),
        )

  -- ---- both sides

  pub pair_both : holds_at t e (get_or store k 0) ≡ true → (r : Held) (l : List ℕ)
      → Gave (walked t e store (k + 1) (rest * 4 + 3) (pushed slot (get_or store k 0)) area count) r l
      → Gave (walked t e store k (rest * 2 + 1) slot area count) r l
  pair_both held = go ready k (rest * 2 + 1) slot area count p h (rest * 4 + 3) both
    where
      both : results t e (nodes_from store k) (rest * 2 + 1)
          ≡ before (get_or store k 0) (results t e (nodes_from store (k + 1)) (rest * 4 + 3))
      both = rw head (both_sides t e _ (nodes_from store (k + 1)) (rest * 2 + 1) (odd rest) q held ∙ rw (half rest))

  -- ---- one side, then the other

  module _ (no : holds_at t e (get_or store k 0) ≡ false) (r1 : Held) (l1 : List ℕ)
      (g1 : Gave (walked t e store (k + 1) (rest * 4 + 1) (pushed slot (get_or store k 0)) area count) r1 l1) where
    either : results t e (nodes_from store k) (rest * 2 + 1)
        ≡ before (get_or store k 0) (results t e (nodes_from store (k + 1)) (rest * 4 + 1)) ++ before
        (get_or store k 0) (results t e (nodes_from store (k + 1)) (rest * 4 + 2))
    either = rw head (one_side t e _ (nodes_from store (k + 1)) (rest * 2 + 1) (odd rest) q no ∙ rw (half rest))

    total : walked t e store k (rest * 2 + 1) slot area count
        ≡ put_all area count
        (onto (pushed slot (get_or store k 0)) (results t e (nodes_from store (k + 1)) (rest * 4 + 1)) ++ onto
        (pushed slot (get_or store k 0)) (results t e (nodes_from store (k + 1)) (rest * 4 + 2)))
    unfolding walked
    total = rw (either, onto_append, onto_before, onto_before)

    pub pair_then : (c1 : ℕ) → r1 ≡ Ok c1 → (s : List ℕ) → s ≡ slot → (r : Held) (l : List ℕ)
        → Gave (walked t e store (k + 1) (rest * 4 + 2) (pushed s (get_or store k 0)) l1 c1) r l
        → Gave (walked t e store k (rest * 2 + 1) slot area count) r l
    unfolding walked
    pair_then c1 e1 s es r l g =
        let g2 = rw es at g in
        record { same = g2.same ∙ put_then area count _ _ e1 g1.same ∙ sym total; fits = g.fits }

    pub pair_room : (c1 : ℕ) → r1 ≡ Ok c1 → c1 * 16 ≤ length l1
    pair_room c1 e1 = rw e1 at g1.fits

    pub pair_exceeded : r1 ≡ Err no_room → Gave (walked t e store k (rest * 2 + 1) slot area count) (Err no_room) l1
    unfolding walked
    pair_exceeded e1 = record { same = put_stop area count _ _ e1 g1.same ∙ sym total; fits = omega arith }
