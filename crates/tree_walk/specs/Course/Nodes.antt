-- The node words in a store.
--     nodes_none, nodes_cons, nodes_skip     from a node on: none, the next one, those after some
-- Assumes nothing.
use Rattle.std.specs.Prelude.{ℕ, suc, ◌+◌, ◌-◌, ◌<◌, ◌≤◌, ◌≡◌, List, [], ◌∷◌, ◌++◌, length, get_or}
use Rattle.std.proofs.Common.{arith, sym, ◌∙◌}
use Rattle.std.proofs.Math.Decide.{dec_lt}
use Rattle.resolving.specs.Distinct.{window}
use Rattle.resolving.specs.Distinct.Laws.{window_cons}
use Rattle.tree_walk.specs.Course.{node_count, nodes_from}

pub nodes_none : (store : List ℕ) (k : ℕ) → node_count store < k → nodes_from store k ≡ []
unfolding nodes_from window
nodes_none store k h = let e : node_count store + 1 - k ≡ 0 = omega arith in rw e

pub nodes_cons : (store : List ℕ) (k : ℕ) → k ≤ node_count store → k < length store → nodes_from store k
    ≡ get_or store k 0 ∷ nodes_from store (k + 1)
unfolding nodes_from
nodes_cons store k h l =
    let e : node_count store + 1 - k ≡ suc (node_count store + 1 - (k + 1)) = omega arith in
    rw e (window_cons k (node_count store + 1 - (k + 1)) store l)

pub nodes_skip : (store : List ℕ) (k : ℕ) (a b : List ℕ) → node_count store < length store → nodes_from store k ≡ a ++ b
    → nodes_from store (k + length a) ≡ b
nodes_skip store k [] b h e = let z : k + 0 ≡ k = omega arith in rw z e
nodes_skip store k (x ∷ a) b h e =
    elim (dec_lt (node_count store) k) [
      | yes z ↦ absurd (no_nodes (sym (nodes_none store k z) ∙ e))
      | no z ↦
          let d : k + suc (length a) ≡ k + 1 + length a = omega arith in
          rw d (nodes_skip store (k + 1) a b h (tail_of (sym (nodes_cons store k (omega arith) (omega arith)) ∙ e)))
    ]
  where
    no_nodes : {y : ℕ} {ys : List ℕ} → [] ≡ y ∷ ys → ⊥
    no_nodes e = let z : ◌≡◌ {A = ℕ} 0 1 = cc in omega arith

    tail_of : {y z : ℕ} {ys zs : List ℕ} → y ∷ ys ≡ z ∷ zs → ys ≡ zs
    tail_of e = cc
