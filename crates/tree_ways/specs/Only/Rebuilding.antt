-- The words of a residual, rebuilt: one law per way out of its functions.
--     Rebuilding, rebuild-..     the loop of `rebuild`
--     rest_carries, rest_grown   one node
--     rest_fits                  all nodes: they fit the slot
-- Assumes nothing.
use Prim.Native.Nat.{ℕ, suc, ◌+◌, ◌-◌, ◌/◌, ◌%◌, ◌<◌, ◌≤◌}
use native.Mathlib.Omega.{arith}
use Rattle.std.proofs.Math.Decide.{ℕ_discrete}
use Rattle.std.specs.Prelude.{◌≡◌, refl, length, get_or}
use Rattle.std.proofs.Math.Path.{sym}
use Rattle.std.proofs.Common.{◌∙◌, length-append, eq-eqb}
use mathlib.Core.List.{List, [], ◌∷◌, map}
use Rattle.table.specs.Table.{Table}
use Rattle.table.specs.Memory.{remember}
use Rattle.node_word.specs.Word.{term_of_word, memory_of}
use Rattle.residuals.specs.Slots.{nodes}
use Rattle.resolving.specs.Lawful.{Lawful}
use Rattle.resolving.specs.ResidualWords.{pushed, push_all}
use Rattle.resolving.specs.ResidualWords.Resolved.{length_resolved}
use Rattle.resolving.specs.ResidualWords.Popped.{clean_pushed, clean_push_all}
use Rattle.resolving.specs.ResidualWords.Pushed.{head_pushed, head_push_all, push_all_append}
use Rattle.resolving.specs.Distinct.{window}
use Rattle.resolving.specs.Distinct.Laws.{length_window, window_cons, window_none}
use Rattle.tree_walk.specs.Walk.{option, room, leaf_results, longest}
use Rattle.tree_walk.specs.Walk.Leaves.{results_yes, nodes_short}
use Rattle.tree_ways.specs.Members.{nodes_room}
use Rattle.tree_ways.specs.Only.{grown, rebuilt, Single, Carries, Rest, Rebuilds}
use Rattle.tree_ways.specs.Only.Marks.{grown_kept, grown_moved}

option_fits : (t : Table) → Lawful t → (e w : ℕ) → Single t e w
    → length (option t e w 0) ≤ longest (map nodes (leaf_results t e w))
unfolding option
option_fits t law e w s =
    rw (results_yes t e w (eq-eqb _ _ s.active.kind) s.active.held)
    (nodes_short _ 0
    (rw (length_resolved t law (term_of_word w + 1) (remember e (memory_of w)), s.alone) (omega arith)))

module _ (t : Table) (law : Lawful t) (e w : ℕ) (ws : List ℕ) (m : ℕ) (slot : List ℕ)
    (r : Rest t e (w ∷ ws) m slot) where
  pub rest_room : get_or slot 0 0 < 15
  unfolding room
  rest_room = omega (arith, r.room)

  rest_keep : m % 2 ≡ 0 → Rest t e ws (m / 2) (pushed slot w)
      × (push_all (pushed slot w) (rebuilt t e ws (m / 2)) ≡ push_all slot (rebuilt t e (w ∷ ws) m))
  unfolding room rebuilt push_all
  rest_keep z = (
    record {
      clean = clean_pushed slot w r.clean;
      room = omega (arith, head_pushed slot w r.clean.whole, r.room);
      marked = r.marked.1;
    },
    rw (z, grown_kept t e w 0 refl),
  )

  rest_single : (m % 2 ≡ 0 → ⊥) → Single t e w
  rest_single z = r.marked.0 z

  rest_follow : (m % 2 ≡ 0 → ⊥) → Rest t e ws (m / 2) (push_all slot (option t e w 0))
      × (push_all (push_all slot (option t e w 0)) (rebuilt t e ws (m / 2)) ≡ push_all slot (rebuilt t e (w ∷ ws) m))
  unfolding room rebuilt
  rest_follow z = (
    record {
      clean = clean_push_all slot (option t e w 0) r.clean;
      room =
          omega (
            arith,
            head_push_all slot (option t e w 0) r.clean.whole,
            r.room,
            option_fits t law e w (rest_single z),
          );
      marked = r.marked.1;
    },
    rw (grown_moved t e w (m % 2) z) (sym (push_all_append slot (option t e w 0) (rebuilt t e ws (m / 2)))),
  )

  -- the node as its mark says
  pub rest_carries : {bound : ℕ} → e < t.alphabet → bound ≡ length t.definitions → Carries t bound e w m slot
  unfolding room
  rest_carries he hb = record {
    law = law;
    event = he;
    whole = hb;
    single = r.marked.0;
    room = elim (ℕ_discrete (m % 2) 0) [
      | yes z ↦ rw (grown_kept t e w (m % 2) z) (omega (arith, r.room))
      | no z ↦ rw (grown_moved t e w (m % 2) z) (omega (arith, r.room, option_fits t law e w (rest_single z)))
    ];
    size = r.clean.whole;
  }

  pub rest_grown : Rest t e ws (m / 2) (push_all slot (grown t e w (m % 2)))
  unfolding push_all
  rest_grown =
      elim (ℕ_discrete (m % 2) 0) [
        | yes z ↦ rw (grown_kept t e w (m % 2) z) (rest_keep z).0
        | no z ↦ rw (grown_moved t e w (m % 2) z) (rest_follow z).0
      ]

-- what the nodes become fits the slot
pub rest_fits : (t : Table) → Lawful t → (e : ℕ) (ws : List ℕ) (m : ℕ) (slot : List ℕ) → Rest t e ws m slot
    → get_or slot 0 0 + length (rebuilt t e ws m) ≤ 15
unfolding rebuilt room
rest_fits t law e [] m slot r = omega (arith, r.room)
rest_fits t law e (w ∷ ws) m slot r =
    omega (
      arith,
      rest_fits t law e ws (m / 2) _ (rest_grown t law e w ws m slot r),
      head_push_all slot (grown t e w (m % 2)) r.clean.whole,
      length-append (grown t e w (m % 2)) (rebuilt t e ws (m / 2)),
    )

-- the loop, at the j-th node
pub record Rebuilding (t : Table) (e : ℕ) (area : List ℕ) (p n marks : ℕ) (start slot : List ℕ) (m j : ℕ)
    : Type 0 where
  pub rest : Rest t e (window (p + j) (n - j) area) m slot
  pub same : push_all slot (rebuilt t e (window (p + j) (n - j) area) m)
      ≡ push_all start (rebuilt t e (window p n area) marks)

module _ {t : Table} {bound e : ℕ} {area : List ℕ} {p n marks : ℕ} {start : List ℕ}
    (b : Rebuilds t bound e area p n marks start) where
  pub rebuild_first : Rebuilding t e area p n marks start start marks 0
  rebuild_first =
      let z : p + 0 ≡ p = omega arith in
      let y : n - 0 ≡ n = omega arith in
      record {
        rest = rw (z, y) b.rest;
        same = rw (z, y);
      }

  -- the nodes that are left have room
  pub rebuild_room : (slot : List ℕ) (m j : ℕ) → j ≤ n → Rebuilding t e area p n marks start slot m j
      → (length slot ≡ 16) × (get_or slot 0 0 + (n - j) ≤ 15)
  rebuild_room slot m j h r = (
    r.rest.clean.whole,
    omega (
      arith,
      r.rest.room,
      nodes_room t e (window (p + j) (n - j) area),
      length_window (p + j) (n - j) area (omega (arith, b.inside)),
    ),
  )

  module _ (slot : List ℕ) (m j : ℕ) (h : j < n) (r : Rebuilding t e area p n marks start slot m j) (w : ℕ)
      (ew : w ≡ get_or area (p + j) 0) where
    node : window (p + j) (n - j) area ≡ w ∷ window (p + (j + 1)) (n - (j + 1)) area
    node =
        let z : n - j ≡ suc (n - (j + 1)) = omega arith in
        let y : p + (j + 1) ≡ p + j + 1 = omega arith in
        rw (z, y, ew) (window_cons (p + j) (n - (j + 1)) area (omega (arith, b.inside)))

    here : Rest t e (w ∷ window (p + (j + 1)) (n - (j + 1)) area) m slot
    here = rw node at r.rest

    pub rebuild_keep : m % 2 ≡ 0 → Rebuilding t e area p n marks start (pushed slot w) (m / 2) (j + 1)
    rebuild_keep z =
        let k = rest_keep t b.law e w _ m slot here z in
        record { rest = k.0; same = k.1 ∙ (rw node at r.same) }

    pub rebuild_carries : Carries t bound e w m slot
    rebuild_carries = rest_carries t b.law e w _ m slot here b.event b.whole

    pub rebuild_carry : (s : List ℕ) → s ≡ push_all slot (grown t e w (m % 2))
        → Rebuilding t e area p n marks start s (m / 2) (j + 1)
    unfolding rebuilt
    rebuild_carry s es =
        let ws : List ℕ = window (p + (j + 1)) (n - (j + 1)) area in
        rw es (record {
          rest = rest_grown t b.law e w ws m slot here;
          same = sym (push_all_append slot (grown t e w (m % 2)) (rebuilt t e ws (m / 2))) ∙ (rw node at r.same);
        })

  pub rebuild_last : (slot : List ℕ) (m j : ℕ) → n ≤ j → Rebuilding t e area p n marks start slot m j
      → slot ≡ push_all start (rebuilt t e (window p n area) marks)
  unfolding rebuilt push_all
  rebuild_last slot m j h r =
      let z : n - j ≡ 0 = omega arith in
      sym (rw (z, window_none (p + j) area)) ∙ r.same
