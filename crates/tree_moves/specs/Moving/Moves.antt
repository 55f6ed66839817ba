-- The leaves that move, one after the other: one law per way out of `step_moves`, and per turn of its loop.
--     MovesLeft, moves_first               what holds at a node; the first
--     left_leaf, left_cleared, left_exceeded     a leaf that moves: its step, and what is left when it has been stepped
--     left_room, left_pushed, left_carries, left_carried     a node that does not: pushed, or carried where marked
--     left_end                             no leaf is left
-- Assumes nothing.
use Rattle.std.specs.Prelude.{ℕ, suc, ◌+◌, ◌-◌, ◌*◌, ◌/◌, ◌%◌, ◌<◌, ◌≤◌, ◌≡◌, refl, List, ◌∷◌, ◌++◌, length, get_or, Ok, Err}
use Rattle.std.proofs.Common.{arith, ap, sym, ◌∙◌}
use Rattle.std.proofs.Math.Decide.{dec_lt}
use Rattle.table.specs.Table.{Table}
use Rattle.resolving.specs.Lawful.{Lawful}
use Rattle.resolving.specs.ResidualWords.{pushed, push_all}
use Rattle.resolving.specs.Distinct.{window}
use Rattle.resolving.specs.Distinct.Laws.{window_cons, window_none}
use Rattle.tree_walk.specs.Walk.{onto}
use Rattle.tree_walk.specs.Walk.Results.{onto_append, onto_head}
use Rattle.slots.specs.Holding.{Outcome, held_as, put_all, Gave, Held, no_room}
use Rattle.slots.proofs.Holding.Laws.{put_none, put_then, put_stop}
use Rattle.tree_ways.specs.Only.{grown, rebuilt, starting, tried_by, moved, Movable, Rest}
use Rattle.tree_ways.specs.Only.{Carries}
use Rattle.tree_ways.specs.Only.Marks.{grown_kept}
use Rattle.tree_ways.specs.Only.Rebuilding.{rest_carries, rest_grown, rest_room}
use Rattle.tree_ways.specs.Only.Moved.{tried_none, tried_some, moved_none}
use Rattle.tree_moves.specs.Moving.{StepsLeaf, stepped_leaf, StepsMoves, stepped_moves}

-- n nodes from p on are left; with what is held by now they come to the outcome o
pub record MovesLeft (t : Table) (e : ℕ) (src : List ℕ) (p n each also : ℕ) (slot dst : List ℕ) (c : ℕ)
    (o : Outcome) : Type 0 where
  pub law : Lawful t
  pub inside : p + n ≤ length src
  pub can : Movable t e (window p n src) each
  pub rest : Rest t e (window p n src) also slot
  pub held : c * 16 ≤ length dst
  pub same : stepped_moves t e src p n each also slot dst c ≡ o

pub moves_first : {t : Table} {bound e : ℕ} {src : List ℕ} {p n each also : ℕ} {slot dst : List ℕ} {c : ℕ}
    → StepsMoves t bound e src p n each also slot dst c
    → MovesLeft t e src p n each also slot dst c (stepped_moves t e src p n each also slot dst c)
moves_first s =
    record { law = s.law; inside = s.inside; can = s.can; rest = s.rest; held = s.held; same = refl }

module _ {t : Table} {e : ℕ} {src : List ℕ} {p n each also : ℕ} {slot dst : List ℕ} {c : ℕ} {o : Outcome}
    (s : MovesLeft t e src p n each also slot dst c o) where
  pub left_end : each ≡ 0 → Gave o (Ok c) dst
  unfolding stepped_moves onto
  left_end z =
      record { same = put_none dst c ∙ rw (z, moved_none t e (window p n src) also) at s.same; fits = s.held }

  module _ (some : 0 < each) where
    abbrev first : ℕ
    first = get_or src p 0

    abbrev others : List ℕ
    others = window (p + 1) (n - 1) src

    pub left_head : 0 < n
    left_head =
        elim (dec_lt 0 n) [
          | yes h ↦ h
          | no h ↦
              let z : n ≡ 0 = omega arith in
              absurd (omega (arith, rw (z, window_none p src) at s.can))
        ]

    split : window p n src ≡ first ∷ others
    split =
        let z : n ≡ suc (n - 1) = omega (arith, left_head) in
        ap (λ (k : ℕ). window p k src) z ∙ window_cons p (n - 1) src (omega (arith, s.inside, left_head))

    rest_here : Rest t e (first ∷ others) also slot
    rest_here = rw split at s.rest

    can_here : Movable t e (first ∷ others) each
    can_here = rw split at s.can

    by_parts : (x : ℕ) (y : List ℕ) (d : ℕ) → stepped_moves t e src p n x also slot y d
        ≡ put_all y d (onto slot (tried_by t e (x % 2) first (rebuilt t e others (also / 2)))
        ++ onto (push_all slot (grown t e first (also % 2))) (moved t e others (x / 2) (also / 2)))
    unfolding stepped_moves moved
    by_parts x y d =
        rw (
          split,
          onto_append slot (tried_by t e (x % 2) first (rebuilt t e others (also / 2)))
              (starting (grown t e first (also % 2)) (moved t e others (x / 2) (also / 2))),
          onto_head slot (grown t e first (also % 2)) (moved t e others (x / 2) (also / 2)),
        )

    -- where the leaf does not move
    no_part : (x : ℕ) (y : List ℕ) (d : ℕ) → x % 2 ≡ 0 → stepped_moves t e src p n x also slot y d
        ≡ put_all y d (onto (push_all slot (grown t e first (also % 2))) (moved t e others (x / 2) (also / 2)))
    unfolding onto
    no_part x y d z =
        by_parts x y d ∙ rw (tried_none t e first (x % 2) (rebuilt t e others (also / 2)) z)

    -- ---- a leaf that moves

    module _ (odd : each % 2 ≡ 1) where
      moves : each % 2 ≡ 0 → ⊥
      moves z = omega arith

      pub left_leaf : {bound : ℕ} → e < t.alphabet → bound ≡ length t.definitions
          → StepsLeaf t bound e src p n also slot dst c
      left_leaf event whole = record {
        law = s.law;
        event = event;
        whole = whole;
        inside = s.inside;
        some = left_head;
        active = can_here.0 moves;
        rest = s.rest;
        held = s.held;
      }

      module _ (r1 : Held) (l1 : List ℕ) (g1 : Gave (stepped_leaf t e src p n also slot dst c) r1 l1) where
        leaf_part : held_as r1 l1
            ≡ put_all dst c (onto slot (tried_by t e (each % 2) first (rebuilt t e others (also / 2))))
        unfolding stepped_leaf
        leaf_part = g1.same ∙ rw (tried_some t e first (each % 2) (rebuilt t e others (also / 2)) moves)

        pub left_cleared : (d : ℕ) → r1 ≡ Ok d → MovesLeft t e src p n (each - 1) also slot l1 d o
        left_cleared d ed =
            let h : (each - 1) / 2 ≡ each / 2 = omega arith in
            let z : (each - 1) % 2 ≡ 0 = omega arith in
            record {
              law = s.law;
              inside = s.inside;
              can = rw split (λ y. absurd (y z), rw h can_here.1);
              rest = s.rest;
              held = rw ed at g1.fits;
              same =
                  no_part (each - 1) l1 d z ∙ rw h (put_then dst c _ _ ed leaf_part) ∙ sym (by_parts each dst c)
                  ∙ s.same;
            }

        pub left_exceeded : r1 ≡ Err no_room → Gave o (Err no_room) l1
        left_exceeded ed =
            record {
              same = put_stop dst c _ _ ed leaf_part ∙ sym (by_parts each dst c) ∙ s.same;
              fits = omega arith;
            }

    -- ---- a node that does not

    pub left_room : get_or slot 0 0 < 15
    left_room = rest_room t s.law e first others also slot rest_here

    pub left_carries : {bound : ℕ} → e < t.alphabet → bound ≡ length t.definitions
        → Carries t bound e first also slot
    left_carries = rest_carries t s.law e first others also slot rest_here

    module _ (even : each % 2 ≡ 0) where
      pub left_carried : (x : List ℕ) → x ≡ push_all slot (grown t e first (also % 2))
          → MovesLeft t e src (p + 1) (n - 1) (each / 2) (also / 2) x dst c o
      unfolding stepped_moves
      left_carried x ex = record {
        law = s.law;
        inside = omega (arith, s.inside, left_head);
        can = can_here.1;
        rest = rw ex (rest_grown t s.law e first others also slot rest_here);
        held = s.held;
        same = rw ex (sym (no_part each dst c even)) ∙ s.same;
      }

      pub left_pushed : also % 2 ≡ 0
          → MovesLeft t e src (p + 1) (n - 1) (each / 2) (also / 2) (pushed slot first) dst c o
      unfolding push_all
      left_pushed z = left_carried (pushed slot first) (rw (grown_kept t e first (also % 2) z))
