-- One residual and one event: one law per way out of `step_one` and `step_many`.
--     slot_rooted                    the residual's tree stands in its slot
--     still_one                      it has no result
--     lone_rebuilds, lone_done       it has one
--     several_asks, several_done     it has those that moves say
--     several_looks                  these can be looked at
--     loaded_sound, start_place, many_done, many_one     it may have others
-- Assumes nothing.
use Rattle.std.specs.Prelude.{ℕ, ◌+◌, ◌-◌, ◌*◌, ◌<◌, ◌≤◌, ◌^◌, ◌≡◌, true, take, Ok}
use Rattle.std.proofs.Common.{arith, ◌∙◌, take-append-drop, get_or-take, pow_mono}
use Rattle.std.proofs.Math.Path.{ap, sym}
use mathlib.Core.List.{List, [], ◌∷◌, ◌++◌, map, append-nil}
use Rattle.std.proofs.Math.ListN.{length, get_or, drop}
use Rattle.table.specs.Table.{Table}
use Rattle.residuals.specs.Residual.{after}
use Rattle.residuals.specs.Slots.{nodes, nodes_all}
use Rattle.slots.specs.Holding.{put_one, put_all, Gave, Held}
use Rattle.slots.proofs.Holding.Laws.{put_none, put_single}
use Rattle.slots.specs.Canon.{SameMembers}
use Rattle.slots.proofs.Canon.Members.{same_refl, same_sym, same_map}
use Rattle.resolving.specs.Distinct.{window, empty}
use Rattle.resolving.specs.Distinct.Laws.{at_window, length_window}
use Rattle.resolving.specs.ResidualWords.{push_all}
use Rattle.resolving.specs.ResidualWords.Popped.{clean_empty}
use Rattle.tree_walk.specs.Walk.{room, results, onto}
use Rattle.tree_walk.specs.Forest.{after_kept}
use Rattle.tree_walk.specs.Course.{node_count, nodes_from, Trees, Place, walked}
use Rattle.tree_ways.specs.declared.only.Moves.{Moves}
use Rattle.tree_ways.specs.declared.only.Way.{Way}
use Rattle.tree_ways.specs.declared.only.Way.TheVariants.{Still, Moving}
use Rattle.tree_ways.specs.Only.{way_of, rebuilt, Rooted, WayIn, Rebuilds}
use Rattle.tree_ways.specs.Only.Marks.{marks_small}
use Rattle.tree_ways.specs.Only.Laws.{MovedBy}
use Rattle.tree_ways.specs.Only.Pair.{became}
use Rattle.tree_moves.specs.Moving.{StepsMoves, stepped_moves}
use Rattle.tree_ways.specs.Members.{short_of, same_after}
use Rattle.leaf_memo.specs.Memo.Laws.{memo_behind}
use Rattle.leaf_results.specs.Prepared.{Loaded, Fills}
use Rattle.leaf_memo.specs.Below.{nodes_same, window_of_prefix}
use Rattle.leaf_repeats.specs.Looking.{Looks}
use Rattle.set_step.specs.Stepped.{slot_nodes, StepsOne, stepped_one, SteppedOne}
use Rattle.set_step.specs.Successors.Laws.{results_of}

module _ {t : Table} {bound e : ℕ} {src : List ℕ} {i : ℕ} {store dst : List ℕ} {c : ℕ}
    (s : StepsOne t bound e src i store dst c) where
  -- ---- the tree in its slot

  tree_spelt : drop (i * 16 + 1) src
      ≡ nodes s.slot.tree ++ drop (get_or src (i * 16) 0) (drop (i * 16 + 1) src)
  unfolding slot_nodes window
  tree_spelt =
      sym (take-append-drop (get_or src (i * 16) 0) (drop (i * 16 + 1) src))
      ∙ ap (λ (x : List ℕ). x ++ drop (get_or src (i * 16) 0) (drop (i * 16 + 1) src)) s.slot.spelt

  module _ (n : ℕ) (en : n ≡ get_or src (i * 16) 0) where
    tree_count : n ≡ length (nodes s.slot.tree)
    unfolding slot_nodes
    tree_count =
        en ∙ sym (length_window (i * 16 + 1) (get_or src (i * 16) 0) src (omega (arith, s.slot.few, s.inside)))
        ∙ ap length s.slot.spelt

    pub slot_rooted : Rooted t src (i * 16 + 1) n
    slot_rooted = record {
      short = record {
        at = record { tree = s.slot.tree; tail = _; spelt = tree_spelt; valid = s.slot.valid };
        few = omega (arith, s.slot.few, en, tree_count);
      };
      count = tree_count;
    }

  -- the residuals after the event are the results, but for repeats
  after_members : SameMembers (onto empty (map nodes (after t e s.slot.tree)))
      (onto empty (results t e (slot_nodes src i) 1))
  unfolding onto
  after_members =
      let tree = s.slot.tree in
      let short = short_of t e tree s.slot.valid (rw s.slot.spelt at s.slot.room) in
      rw (s.slot.spelt, results_of t e tree s.slot.valid)
      (same_map (λ c. push_all empty c) (map nodes (after t e tree)) (map nodes (after_kept t e tree))
      (same_sym (map nodes (after_kept t e tree)) (map nodes (after t e tree))
      (same_after t e tree s.slot.valid short)))

  after_held : (r : Held) (l : List ℕ) → Gave (put_all dst c (onto empty (map nodes (after t e s.slot.tree)))) r l
      → SteppedOne t e src i dst c r l
  after_held r l g =
      record { slots = onto empty (map nodes (after t e s.slot.tree)); members = after_members; gave = g }

  -- ---- by way

  module _ (n : ℕ) (en : n ≡ get_or src (i * 16) 0) (v : Way) (o : WayIn t e src (i * 16 + 1) n v) where
    way_is : v ≡ way_of t e s.slot.tree
    way_is = o.of s.slot.tree _ tree_spelt s.slot.valid (tree_count n en)

    nodes_here : window (i * 16 + 1) n src ≡ nodes s.slot.tree
    unfolding slot_nodes
    nodes_here = ap (λ (x : ℕ). window (i * 16 + 1) x src) en ∙ s.slot.spelt

    pub still_one : v ≡ Still → SteppedOne t e src i dst c (Ok c) dst
    unfolding onto
    still_one z =
        let g : after t e s.slot.tree ≡ [] = rw (sym way_is ∙ z) at
        (became t s.law e s.slot.tree s.slot.valid) in
        after_held (Ok c) dst (record { same = put_none dst c ∙ rw g; fits = s.held })

    module _ (m : Moves) (z : v ≡ Moving m) where
      moved_by : MovedBy t e s.slot.tree m
      moved_by = rw (sym way_is ∙ z) at (became t s.law e s.slot.tree s.slot.valid)

      pub marks_few : m.each + m.also < 18446744073709551616
      marks_few =
          let few : length (nodes s.slot.tree) ≤ 15 = omega (arith, s.slot.few, en, tree_count n en) in
          let w : m.each + m.also < 2 ^ length (nodes s.slot.tree) = rw (sym way_is ∙ z) at
          (marks_small t e s.slot.tree) in
          omega (arith, w, pow_mono few)

      inside_here : i * 16 + 1 + n ≤ length src
      inside_here = rw en (omega (arith, s.slot.few, s.inside))

      room_here : get_or empty 0 0 + room t e (window (i * 16 + 1) n src) ≤ 15
      room_here =
          let y : room t e (window (i * 16 + 1) n src) ≤ 15 = rw (nodes_here, ← s.slot.spelt) s.slot.room in
          omega arith

      pub several_asks : StepsMoves t bound e src (i * 16 + 1) n m.each m.also empty dst c
      several_asks = record {
        law = s.law;
        event = s.event;
        whole = s.whole;
        inside = inside_here;
        can = rw nodes_here moved_by.can;
        rest = record { clean = clean_empty; room = room_here; marked = rw nodes_here moved_by.marked };
        held = s.held;
      }

      pub several_looks : Looks t bound e src (i * 16 + 1) n m.each
      several_looks = record {
        event = s.event;
        whole = s.whole;
        inside = inside_here;
        can = rw nodes_here moved_by.can;
        room = omega (arith, room_here);
      }

      pub several_done : (r : Held) (l : List ℕ)
          → Gave (stepped_moves t e src (i * 16 + 1) n m.each m.also empty dst c) r l
          → SteppedOne t e src i dst c r l
      unfolding stepped_moves
      several_done r l g =
          after_held r l (record { same = g.same ∙ rw (nodes_here, ← moved_by.all); fits = g.fits })

      module _ (one : m.lone ≡ true) where
        pub lone_rebuilds : Rebuilds t bound e src (i * 16 + 1) n (m.each + m.also) empty
        lone_rebuilds = record {
          law = s.law;
          event = s.event;
          whole = s.whole;
          inside = inside_here;
          rest = record { clean = clean_empty; room = room_here; marked = rw nodes_here (moved_by.single one) };
        }

        pub lone_done : (slot : List ℕ)
            → slot ≡ push_all empty (rebuilt t e (window (i * 16 + 1) n src) (m.each + m.also)) → (r : Held)
            (l : List ℕ) → Gave (put_one dst c slot) r l → SteppedOne t e src i dst c r l
        unfolding onto
        lone_done slot es r l g =
            after_held r l (record {
              same = g.same ∙ put_single dst c slot ∙ rw (moved_by.only one, es, nodes_here);
              fits = g.fits;
            })

  -- ---- the general way

  module _ (store₁ : List ℕ) (size : length store₁ ≡ length store)
      (loaded : (take 16 store₁ ≡ window (i * 16) 16 src) × (drop 16 store₁ ≡ drop 16 store)) where
    count_is : node_count store₁ ≡ get_or src (i * 16) 0
    count_is =
        let z : i * 16 + 0 ≡ i * 16 = omega arith in
        sym (get_or-take 16 store₁ 0 0 (omega arith)) ∙ ap (λ (x : List ℕ). get_or x 0 0) loaded.0
        ∙ at_window (i * 16) 16 src 0 (omega arith) ∙ rw z

    nodes_are : nodes_from store₁ 1 ≡ slot_nodes src i
    unfolding nodes_from slot_nodes
    nodes_are =
        let few = s.slot.few in
        let k : node_count store₁ + 1 - 1 ≡ get_or src (i * 16) 0 = omega (arith, count_is) in
        rw k (window_of_prefix 16 store₁ src (i * 16) 1 (get_or src (i * 16) 0) loaded.0 (omega arith))

    pub loaded_sound : Loaded t bound e store₁
    loaded_sound = record {
      size = size ∙ s.leaves.size;
      memo = memo_behind t 16 store store₁ loaded.1 (omega arith) s.leaves.memo;
      few = rw count_is s.slot.few;
      event = s.event;
      whole = s.whole;
      tree = s.slot.tree;
      spelt = nodes_are ∙ s.slot.spelt;
      valid = s.slot.valid;
      room = rw nodes_are s.slot.room;
    }

    module _ (now : List ℕ) (f : Fills t bound e store₁ now) where
      now_nodes : nodes_from now 1 ≡ slot_nodes src i
      now_nodes = nodes_same store₁ now 1 f.slot loaded_sound.few (omega arith) ∙ nodes_are

      tree_nodes : nodes_from now 1 ≡ nodes s.slot.tree
      tree_nodes = now_nodes ∙ s.slot.spelt

      start_trees : Trees t e now 1 1
      unfolding nodes_all
      start_trees = record {
        forest = record {
          trees = s.slot.tree ∷ [];
          spelt = tree_nodes ∙ sym (append-nil (nodes s.slot.tree));
          valid = (s.slot.valid, tt);
        };
        served = (λ z. f.tree s.slot.tree s.slot.valid (nodes_are ∙ s.slot.spelt), tt);
      }

      pub start_place : Place t e now 1 1 empty dst c
      start_place = record {
        first = omega arith;
        last = omega arith;
        bits = omega arith;
        clean = clean_empty;
        room = let q : room t e (nodes_from now 1) ≤ 15 = rw now_nodes s.slot.room in omega arith;
        held = s.held;
        trees = start_trees;
      }

      pub many_done : (r : Held) (l : List ℕ) → Gave (walked t e now 1 1 empty dst c) r l
          → Gave (stepped_one t e src i dst c) r l
      unfolding walked stepped_one
      many_done r l g = record { same = g.same ∙ rw now_nodes; fits = g.fits }

  pub many_one : (r : Held) (l : List ℕ) → Gave (stepped_one t e src i dst c) r l → SteppedOne t e src i dst c r l
  unfolding stepped_one
  many_one r l g =
      let xs : List (List ℕ) = onto empty (results t e (slot_nodes src i) 1) in
      record { slots = xs; members = same_refl xs; gave = g }
