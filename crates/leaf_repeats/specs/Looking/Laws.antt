-- The laws of a look at a residual's results.
--     follower_known, follower_resolves     a leaf's follower is a term, which can be resolved
--     looks_from, looks_head                the first nodes; there are some where one is marked
--     looks_leaf, looks_next                a marked leaf; the nodes after the first
-- Assumes nothing.
use Rattle.std.specs.Prelude.{ℕ, suc, ◌+◌, ◌-◌, ◌/◌, ◌%◌, ◌<◌, ◌≤◌, ◌≡◌, List, ◌∷◌, map, length, get_or}
use Rattle.std.proofs.Common.{arith, ap, ◌∙◌, eq-eqb}
use Rattle.std.proofs.Math.Decide.{dec_lt}
use Rattle.table.specs.Table.{Table, term_count}
use Rattle.table.specs.Memory.{remember}
use Rattle.node_word.specs.Word.{term_of_word, memory_of}
use Rattle.residuals.specs.Residual.{resolve}
use Rattle.residuals.specs.Slots.{nodes}
use Rattle.resolving.specs.Words.{kind_at}
use Rattle.resolving.specs.Lawful.{Lawful, follower_in}
use Rattle.resolving.specs.ResidualWords.{nth}
use Rattle.resolving.specs.Distinct.{window, Resolvable}
use Rattle.resolving.specs.Distinct.Laws.{window_cons, window_none}
use Rattle.tree_walk.specs.Walk.{room, leaf_results, longest}
use Rattle.tree_walk.specs.Walk.Leaves.{results_yes, nodes_short}
use Rattle.tree_ways.specs.Only.{Movable}
use Rattle.leaf_repeats.specs.Looking.{LooksLeaf, Looks}

-- ---- one leaf

module _ {t : Table} {bound e w : ℕ} (law : Lawful t) (s : LooksLeaf t bound e w) where
  next_known : term_of_word w + 1 < term_count t
  unfolding kind_at
  next_known = follower_in t (term_of_word w) s.active.within s.active.kind

  next_fits : (i : ℕ) → i < length (resolve t (term_of_word w + 1) (remember e (memory_of w)))
      → length (nodes (nth (resolve t (term_of_word w + 1) (remember e (memory_of w))) i)) ≤ 15
  next_fits i h =
      let y : length (nodes (nth (resolve t (term_of_word w + 1) (remember e (memory_of w))) i))
      ≤ longest (map nodes (leaf_results t e w))
      = rw (results_yes t e w (eq-eqb _ _ s.active.kind) s.active.held) (nodes_short _ i h) in
      omega (arith, s.room, y)

  next_resolves : Resolvable t bound (term_of_word w + 1) (remember e (memory_of w))
  unfolding kind_at
  next_resolves = record {
    within = next_known;
    below = rw s.whole (law.named (term_of_word w + 1) next_known);
    known = omega (arith, s.whole);
    small = law.followers (term_of_word w) s.active.within s.active.kind;
    fits = next_fits;
  }

  -- k is the number of the leaf's term, mm has its memory, m that with the event
  module _ (k : ℕ) (ek : k ≡ term_of_word w) where
    pub follower_known : k + 1 < term_count t
    follower_known = rw ek next_known

    pub follower_resolves : (mm m : ℕ) → memory_of mm ≡ memory_of w → memory_of m ≡ remember e (memory_of mm)
        → Resolvable t bound (k + 1) (memory_of m)
    follower_resolves mm m emm em = rw (em, ek, emm) next_resolves

-- ---- the nodes

pub looks_from : {t : Table} {bound e : ℕ} {src : List ℕ} {p n each : ℕ} → Looks t bound e src p n each → (q k : ℕ)
    → q ≡ p → k ≡ n → Looks t bound e src q k each
looks_from s q k eq ek = rw (eq, ek) s

pub looks_head : {t : Table} {bound e : ℕ} {src : List ℕ} {p n each : ℕ} → Looks t bound e src p n each → 0 < each
    → 0 < n
looks_head {src = src} {p = p} {n = n} s h =
    elim (dec_lt 0 n) [
      | yes y ↦ y
      | no y ↦
          let z : n ≡ 0 = omega arith in
          absurd (omega (arith, h, rw (z, window_none p src) at s.can))
    ]

module _ {t : Table} {bound e : ℕ} {src : List ℕ} {p n each : ℕ} (s : Looks t bound e src p n each) (some : 0 < n) where
  split : window p n src ≡ get_or src p 0 ∷ window (p + 1) (n - 1) src
  split =
      let z : n ≡ suc (n - 1) = omega (arith, some) in
      ap (λ (k : ℕ). window p k src) z ∙ window_cons p (n - 1) src (omega (arith, s.inside, some))

  can_here : Movable t e (get_or src p 0 ∷ window (p + 1) (n - 1) src) each
  can_here = rw split at s.can

  room_here : room t e (get_or src p 0 ∷ window (p + 1) (n - 1) src) ≤ 15
  room_here = rw split at s.room

  pub looks_leaf : each % 2 ≡ 1 → LooksLeaf t bound e (get_or src p 0)
  unfolding room
  looks_leaf odd = record {
    event = s.event;
    whole = s.whole;
    active = can_here.0 (λ z. omega arith);
    room = omega (arith, room_here);
  }

  pub looks_next : (q k : ℕ) → q ≡ p + 1 → k ≡ n - 1 → Looks t bound e src q k (each / 2)
  unfolding room
  looks_next q k eq ek = rw (eq, ek) (record {
    event = s.event;
    whole = s.whole;
    inside = omega (arith, s.inside, some);
    can = can_here.1;
    room = omega (arith, room_here);
  })
