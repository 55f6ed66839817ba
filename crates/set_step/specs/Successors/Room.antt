-- The residuals after an event fit a slot where the results of a residual's nodes have room in it.
--     after_room        their node words are no more than what the residual's nodes can become
--     slots_written     slots that words are pushed to are those of residuals that fit
--     sixteen_words     they have sixteen words
-- Assumes nothing.
use Rattle.std.specs.Prelude.{ℕ, suc, ◌+◌, ◌≤◌, ◌≡◌, refl, Bool, true, false, length}
use Rattle.std.proofs.Common.{arith, ap₂, ◌∙◌, length-append}
use mathlib.Core.List.{List, [], ◌∷◌, map, flat_map}
use Rattle.std.proofs.lemmas.List.{length-replicate}
use Rattle.numbers.specs.Every.{All, all_imp, all_append}
use Rattle.table.specs.Table.{Table}
use Rattle.table.specs.Memory.{Memory}
use Rattle.table.specs.Member.{member}
use Rattle.table.specs.Node.{term_of, ref_of}
use Rattle.residuals.specs.Residual.{Residual, leaf, pair, pairs, after}
use Rattle.residuals.specs.Slots.{nodes, slot_of}
use Rattle.slots.specs.Canon.{AllSixteen}
use Rattle.resolving.specs.ResidualWords.After.{after_both, after_either}
use Rattle.resolving.specs.ResidualWords.Pushed.{length_push_all}
use Rattle.resolving.specs.Distinct.{empty}
use Rattle.tree_walk.specs.Walk.{longest, room, onto}
use Rattle.tree_walk.specs.Forest.{Valid}
use Rattle.tree_ways.specs.Covering.{slot_form}
use Rattle.tree_ways.specs.Members.{room_append, nodes_room, node_results}

-- ---- at most so many node words

abbrev pub Within : ℕ → Residual → Type 0
Within k r = length (nodes r) ≤ k

longest_all : (rs : List Residual) → All (Within (longest (map nodes rs))) rs
unfolding longest
longest_all [] = tt
longest_all (r ∷ rs) =
    let k = longest (map nodes rs) in
    (omega arith, all_imp (Within k) (Within (longest (map nodes (r ∷ rs)))) (λ q h. omega arith) rs (longest_all rs))

row_within : (n : ℕ) (m : Memory) (l : Residual) (a b : ℕ) → Within a l → (rs : List Residual) → All (Within b) rs
    → All (Within (suc (a + b))) (map (pair n m l) rs)
unfolding nodes
row_within n m l a b h [] k = tt
row_within n m l a b h (r ∷ rs) k =
    (omega (arith, k.0, length-append (nodes l) (nodes r)), row_within n m l a b h rs k.1)

pairs_within : (n : ℕ) (m : Memory) (a b : ℕ) (ls rs : List Residual) → All (Within a) ls → All (Within b) rs
    → All (Within (suc (a + b))) (pairs n m ls rs)
unfolding pairs flat_map
pairs_within n m a b [] rs h k = tt
pairs_within n m a b (l ∷ ls) rs h k =
    all_append (Within (suc (a + b))) (map (pair n m l) rs) (pairs n m ls rs) (row_within n m l a b h.0 rs k)
    (pairs_within n m a b ls rs h.1 k)

-- ---- after an event

module _ (t : Table) (e : ℕ) where
  pair_room : (n : ℕ) (m : Memory) (l r : Residual)
      → suc (room t e (nodes l) + room t e (nodes r)) ≤ room t e (nodes (pair n m l r))
  unfolding room nodes
  pair_room n m l r = omega (arith, room_append t e (nodes l) (nodes r))

  leaf_room : (n : ℕ) (m : Memory) → Valid t (leaf n m)
      → longest (map nodes (after t e (leaf n m))) ≤ room t e (nodes (leaf n m))
  unfolding room nodes
  leaf_room n m v = rw (node_results t e n m v.0.0) (omega arith)

  module _ (n : ℕ) (m : Memory) (l r : Residual) (v : Valid t (pair n m l r))
      (f : All (Within (room t e (nodes l))) (after t e l))
      (g : All (Within (room t e (nodes r))) (after t e r)) where
    some_pairs : (ls rs : List Residual) → All (Within (room t e (nodes l))) ls
        → All (Within (room t e (nodes r))) rs
        → All (Within (room t e (nodes (pair n m l r)))) (pairs n m ls rs)
    some_pairs ls rs h k =
        all_imp (Within (suc (room t e (nodes l) + room t e (nodes r)))) (Within (room t e (nodes (pair n m l r))))
        (λ q w. omega (arith, pair_room n m l r)) (pairs n m ls rs)
        (pairs_within n m (room t e (nodes l)) (room t e (nodes r)) ls rs h k)

    pair_within : (b : Bool) → member t (ref_of (term_of t n)) m e ≡ b
        → All (Within (room t e (nodes (pair n m l r)))) (after t e (pair n m l r))
    pair_within true h = rw (after_both t e n m l r v.1 h) (some_pairs (after t e l) (after t e r) f g)
    pair_within false h =
        rw (after_either t e n m l r v.1 h)
        (all_append (Within (room t e (nodes (pair n m l r)))) (pairs n m (after t e l) (r ∷ []))
        (pairs n m (l ∷ []) (after t e r)) (some_pairs (after t e l) (r ∷ []) f (nodes_room t e (nodes r), tt))
        (some_pairs (l ∷ []) (after t e r) (nodes_room t e (nodes l), tt) g))

  pub after_room : (r : Residual) → Valid t r → All (Within (room t e (nodes r))) (after t e r)
  after_room (leaf n m) v =
      all_imp (Within (longest (map nodes (after t e (leaf n m))))) (Within (room t e (nodes (leaf n m))))
      (λ q h. omega (arith, leaf_room n m v)) (after t e (leaf n m)) (longest_all (after t e (leaf n m)))
  after_room (pair n m l r) v = pair_within n m l r v (after_room l v.2) (after_room r v.3) _ refl

-- ---- slots

pub slots_written : (rs : List Residual) → All (Within 15) rs → onto empty (map nodes rs) ≡ map slot_of rs
unfolding onto slot_of
slots_written [] h = refl
slots_written (r ∷ rs) h = ap₂ ◌∷◌ (slot_form (nodes r) h.0) (slots_written rs h.1)

pub all_sixteen : (ws : List (List ℕ)) → AllSixteen (onto empty ws)
unfolding onto
all_sixteen [] = tt
all_sixteen (w ∷ ws) = (length_push_all empty w ∙ length-replicate {A = ℕ} 16 0, all_sixteen ws)

pub sixteen_words : (rs : List Residual) → All (Within 15) rs → AllSixteen (map slot_of rs)
sixteen_words rs h = rw (← (slots_written rs h)) (all_sixteen (map nodes rs))
