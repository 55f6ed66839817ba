-- The results of a proper residual's nodes fit a slot: what a step asks of a slot before an event.
--     room_proper     the words that a residual's nodes can become are fewer than twice its reach
--     sound_slot      of a slot that holds a proper residual
-- Assumes nothing.
use Rattle.std.specs.Prelude.{ℕ, suc, ◌+◌, ◌*◌, ◌≤◌, ◌<◌, ◌≡◌, List, [], ◌∷◌, ◌++◌, map, length}
use native.Mathlib.Omega.{arith}
use Rattle.std.proofs.Common.{◌∙◌}
use Rattle.numbers.specs.Every.{All, all_imp, all_and}
use Rattle.table.specs.Table.{Table}
use Rattle.table.specs.Memory.{Memory}
use Rattle.table.specs.Node.{term_of, kind_of}
use Rattle.table.specs.Rules.{Rules}
use Rattle.node_word.specs.Word.{pack, Digits}
use Rattle.resolving.specs.ResidualWords.After.{after_not_kind}
use Rattle.tree_walk.specs.Walk.{leaf_results, longest, room}
use Rattle.set_step.specs.Stepped.{SoundSlot}
use Rattle.tree_ways.specs.Members.{room_append, node_results}
use Rattle.monitor_spec.proofs.Regular.Laws.{regular}
use Rattle.residuals.specs.Residual.{Residual, leaf, pair, after}
use Rattle.monitor_spec.proofs.ResidualMeaning.After.{after_sound}
use Rattle.monitor_spec.specs.Meaning.{Sound}
use Rattle.residuals.specs.Slots.{nodes}
use Rattle.monitor_spec.specs.Valid.{reach_sum}
use Rattle.monitor_spec.specs.Proper.{Fitting, Proper}
use Rattle.monitor_spec.proofs.Proper.Laws.{after_fitting}
use Rattle.monitor_spec.proofs.Proper.Nodes.{nodes_reach, nodes_most}
use Rattle.step_laws.specs.Trees.{valid_proper}
use Rattle.step_laws.specs.Areas.{SlotAt, slot_count, slot_tree}

-- ---- the longest

longest_most : (k : ℕ) → 1 ≤ k → (rs : List Residual) → All (λ r. suc (length (nodes r)) ≤ k) rs
    → suc (longest (map nodes rs)) ≤ k
unfolding longest
longest_most k p [] h = p
longest_most k p (r ∷ rs) h =
    let a = longest_most k p rs h.1 in
    let b = h.0 in
    omega arith

module _ (t : Table) (rules : Rules t) (e : ℕ) (small : e < t.alphabet) where
  -- a parallel's word alone becomes nothing
  results_none : (n : ℕ) (m : Memory) → Digits m → kind_of (term_of t n) ≡ 4 → leaf_results t e (pack n m) ≡ []
  results_none n m h k = node_results t e n m h ∙ after_not_kind t e n m (λ z. omega arith)

  -- ---- one leaf

  after_short : (r : Residual) → Proper t r
      → All (λ q. suc (length (nodes q)) ≤ 2 * reach_sum t r) (after t e r)
  after_short r (s, (f, k)) =
      all_imp (λ q. Sound t q × Fitting t (reach_sum t r) q) (λ q. suc (length (nodes q)) ≤ 2 * reach_sum t r)
      (λ q h. let a = nodes_reach t (regular t rules) q h.0 in let b = h.1.1 in omega arith) (after t e r)
      (all_and (Sound t) (Fitting t (reach_sum t r)) (after t e r) (after_sound t (regular t rules) e r s)
      (after_fitting t (regular t rules) e small r s f))

  leaf_longest : (n : ℕ) (m : Memory) → Proper t (leaf n m)
      → suc (longest (map nodes (leaf_results t e (pack n m)))) ≤ 2 * reach_sum t (leaf n m)
  leaf_longest n m p =
      let k = nodes_reach t (regular t rules) (leaf n m) p.0 in
      let z = node_results t e n m (valid_proper t rules (leaf n m) p).0.0 in
      rw z (longest_most (2 * reach_sum t (leaf n m)) (omega arith) (after t e (leaf n m)) (after_short (leaf n m) p))

  -- ---- a tree

  leaf_room : (n : ℕ) (m : Memory) → Proper t (leaf n m)
      → suc (room t e (pack n m ∷ [])) ≤ 2 * reach_sum t (leaf n m)
  unfolding room nodes
  leaf_room n m p =
      let k = nodes_reach t (regular t rules) (leaf n m) p.0 in
      let l = leaf_longest n m p in
      omega arith

  pair_room : (n : ℕ) (m : Memory) (ws : List ℕ) → Digits m → kind_of (term_of t n) ≡ 4
      → room t e (pack n m ∷ ws) ≡ suc (room t e ws)
  unfolding room longest
  pair_room n m ws h k = rw (results_none n m h k) (omega arith)

  room_proper : (r : Residual) → Proper t r → suc (room t e (nodes r)) ≤ 2 * reach_sum t r
  unfolding nodes reach_sum
  room_proper (leaf n m) p = leaf_room n m p
  room_proper (pair n m l r) ((x, h, i, a, b), ((f, c, d), k)) =
      let u = room_proper l (a, (c, omega arith)) in
      let v = room_proper r (b, (d, omega arith)) in
      let y = valid_proper t rules (pair n m l r) ((x, h, i, a, b), ((f, c, d), k)) in
      let z = pair_room n m (nodes l ++ nodes r) y.0.0 y.1 in
      omega (arith, room_append t e (nodes l) (nodes r))

  pub sound_slot : (area : List ℕ) (i : ℕ) (r : Residual) → Proper t r → SlotAt area (i * 16) r
      → SoundSlot t e area i
  sound_slot area i r p s =
      let c = slot_count area (i * 16) r s in
      let k = nodes_most t (regular t rules) r p in
      let l = room_proper r p in
      let h = p.1.1 in
      record {
        few = omega arith;
        tree = r;
        spelt = slot_tree area i r s;
        valid = valid_proper t rules r p;
        room = rw (slot_tree area i r s) (omega arith);
      }
