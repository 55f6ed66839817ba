-- One leaf that moves: one law per way out of `step_leaf`.
--     leaf_known, leaf_resolves, leaf_rebuilds     what it asks of others
--     leaf_left, leaf_first, leaf_next, leaf_exceeded, leaf_end    its loop
--     leaf_whole, leaf_back                        the whole result; the slot as it was
-- Assumes nothing.
use Rattle.std.specs.Prelude.{ℕ, suc, ◌+◌, ◌-◌, ◌*◌, ◌/◌, ◌<◌, ◌≤◌, ◌≡◌, List, [], ◌∷◌, ◌++◌, map, get_or, drop, Ok, Err}
use Rattle.std.proofs.Common.{arith, add-one, ap, ◌∙◌, drop_of_length-le, drop-cons, eq-eqb}
use Rattle.std.proofs.Math.Path.{refl, sym}
use Rattle.std.proofs.Math.ListN.{length}
use Rattle.std.proofs.lemmas.List.{length-map}
use Rattle.table.specs.Table.{Table, term_count}
use Rattle.table.specs.Branches.{branches}
use Rattle.table.specs.Branches.Capped.{capped}
use Rattle.table.specs.Node.{term_of}
use Rattle.table.specs.Memory.{remember}
use Rattle.node_word.specs.Word.{term_of_word, memory_of}
use Rattle.residuals.specs.Residual.{resolve}
use Rattle.residuals.specs.Slots.{nodes}
use Rattle.resolving.specs.Words.{kind_at}
use Rattle.resolving.specs.Lawful.{follower_in}
use Rattle.resolving.specs.ResidualWords.{nth, push_all, pop_all, Resolves, resolved_into}
use Rattle.resolving.specs.ResidualWords.Resolved.{length_resolved}
use Rattle.resolving.specs.ResidualWords.Pushed.{length_push_all, head_push_all, push_all_append}
use Rattle.resolving.specs.ResidualWords.Popped.{clean_push_all, pop_back}
use Rattle.resolving.specs.Distinct.{window}
use Rattle.resolving.specs.Distinct.Laws.{window_cons}
use Rattle.tree_walk.specs.Walk.{room, leaf_results, longest, onto}
use Rattle.slots.specs.Holding.{Outcome, held_as, put_one, put_all, Gave, Held, no_room}
use Rattle.slots.proofs.Holding.Laws.{put_none, put_single, put_then, put_stop}
use Rattle.tree_walk.specs.Walk.Leaves.{results_yes, nodes_short, nodes_at}
use Rattle.tree_ways.specs.Only.{rebuilt, ending, tried, Rest}
use Rattle.tree_ways.specs.Only.{Rebuilds}
use Rattle.tree_ways.specs.Only.Rebuilding.{rest_fits}
use Rattle.tree_moves.specs.Moving.{StepsLeaf, stepped_leaf}

-- what is left of the leaf's results, from the i-th on
unfoldable pub leaf_left : Table → ℕ → List ℕ → ℕ → ℕ → ℕ → List ℕ → List ℕ → ℕ → ℕ → Outcome
leaf_left t e src p n also slot dst c i =
    put_all dst c
    (onto slot
    (ending (rebuilt t e (window (p + 1) (n - 1) src) (also / 2))
    (drop i (map nodes (leaf_results t e (get_or src p 0))))))

module _ {t : Table} {bound e : ℕ} {src : List ℕ} {p n also : ℕ} {slot dst : List ℕ} {c : ℕ}
    (s : StepsLeaf t bound e src p n also slot dst c) where
  abbrev w : ℕ
  w = get_or src p 0

  abbrev ws : List ℕ
  ws = window (p + 1) (n - 1) src

  abbrev results : List (List ℕ)
  results = map nodes (leaf_results t e w)

  abbrev tail : List ℕ
  tail = rebuilt t e ws (also / 2)

  split : window p n src ≡ w ∷ ws
  split =
      let z : n ≡ suc (n - 1) = omega (arith, s.some) in
      ap (λ (k : ℕ). window p k src) z ∙ window_cons p (n - 1) src (omega (arith, s.inside, s.some))

  here : Rest t e (w ∷ ws) also slot
  here = rw split at s.rest

  results_are : results ≡ map nodes (resolve t (term_of_word w + 1) (remember e (memory_of w)))
  results_are = ap (map nodes) (results_yes t e w (eq-eqb _ _ s.active.kind) s.active.held)

  abbrev left : List ℕ → ℕ → ℕ → Outcome
  left l d i = leaf_left t e src p n also slot l d i

  -- k is the number of the leaf's term, mm has its memory, m that with the event
  module _ (k mm m : ℕ) (ek : k ≡ term_of_word w) (emm : memory_of mm ≡ memory_of w)
      (em : memory_of m ≡ remember e (memory_of mm)) where
    pub leaf_known : k + 1 < term_count t
    unfolding kind_at
    leaf_known = rw ek (follower_in t (term_of_word w) s.active.within s.active.kind)

    few : branches t (term_of t (k + 1)) ≤ 256
    unfolding kind_at
    few = rw ek (s.law.followers (term_of_word w) s.active.within s.active.kind)

    many : length results ≡ branches t (term_of t (k + 1))
    many = rw (results_are, ek) (simp length-map (length_resolved t s.law _ _))

    module _ (b : ℕ) (eb : b ≡ capped (branches t (term_of t (k + 1)))) where
      pub count_is : b ≡ length results
      unfolding capped
      count_is = omega (arith, few, many, eb)

      module _ (i : ℕ) (h : i < b) where
        fits : get_or slot 0 0 + (length (nodes (nth (resolve t (k + 1) (memory_of m)) i)) + room t e ws) ≤ 15
        unfolding room
        fits =
            let z : i < length (resolve t (k + 1) (memory_of m)) = omega
            (arith, count_is, many, length_resolved t s.law (k + 1) (memory_of m)) in
            let y : length (nodes (nth (resolve t (k + 1) (memory_of m)) i)) ≤ longest results
            = rw (results_are, ← emm, ← em, ← ek) (nodes_short (resolve t (k + 1) (memory_of m)) i z) in
            omega (arith, here.room, y)

        pub leaf_resolves : Resolves t bound (k + 1) (memory_of m) i slot
        leaf_resolves = record {
          within = leaf_known;
          below = rw s.whole (s.law.named (k + 1) leaf_known);
          known = omega (arith, s.whole);
          small = few;
          index = omega (arith, count_is, many, length_resolved t s.law (k + 1) (memory_of m));
          room = omega (arith, fits);
          whole = here.clean.whole;
        }

        module _ (o : List ℕ) (eo : o ≡ resolved_into t (k + 1) (memory_of m) i slot) where
          written : o ≡ push_all slot (nodes (nth (resolve t (k + 1) (memory_of m)) i))
          unfolding resolved_into
          written = eo

          pub leaf_rebuilds : Rebuilds t bound e src (p + 1) (n - 1) (also / 2) o
          leaf_rebuilds = record {
            law = s.law;
            event = s.event;
            whole = s.whole;
            inside = omega (arith, s.inside, s.some);
            rest = record {
              clean = rw written (clean_push_all slot _ here.clean);
              room =
                  rw written (omega (
                    arith,
                    fits,
                    head_push_all slot (nodes (nth (resolve t (k + 1) (memory_of m)) i)) here.clean.whole,
                  ));
              marked = here.marked.1;
            };
          }

          opened : drop i results ≡ nodes (nth (resolve t (k + 1) (memory_of m)) i) ∷ drop (i + 1) results
          opened =
              drop-cons results i [] (omega (arith, count_is))
              ∙ rw (add-one i)
              (ap (λ (x : List ℕ). x ∷ drop (suc i) results)
              (rw (results_are, ← emm, ← em, ← ek) (nodes_at (resolve t (k + 1) (memory_of m)) i
              (omega (arith, count_is, many, length_resolved t s.law (k + 1) (memory_of m))))))

          -- the whole result is a slot
          pub leaf_whole : (x : List ℕ) → x ≡ push_all o tail → (get_or x 0 0 < 16) × (length x ≡ 16)
          leaf_whole x ex =
              let r = leaf_rebuilds.rest in (
                rw ex (omega (
                  arith,
                  head_push_all o tail r.clean.whole,
                  rest_fits t s.law e ws (also / 2) o r,
                )),
                rw ex (length_push_all o tail ∙ r.clean.whole),
              )

          -- the slot as it was
          pub leaf_back : (x : List ℕ) → x ≡ push_all o tail → (before : ℕ) → before ≡ get_or slot 0 0
              → pop_all x (get_or x 0 0 - before) ≡ slot
          leaf_back x ex before eb =
              let all : x ≡ push_all slot (nodes (nth (resolve t (k + 1) (memory_of m)) i) ++ tail) = ex
              ∙ rw written (sym (push_all_append slot (nodes (nth (resolve t (k + 1) (memory_of m)) i)) tail)) in
              rw (all, eb) (pop_back slot _ here.clean)

          module _ (x : List ℕ) (ex : x ≡ push_all o tail) (y : List ℕ) (q : ℕ) (r : Held) (l : List ℕ)
              (g : Gave (put_one y q x) r l) where
            one_more : left y q i ≡ put_all y q ((x ∷ []) ++ onto slot (ending tail (drop (i + 1) results)))
            unfolding leaf_left onto
            one_more =
                rw (opened, ex, written, push_all_append slot (nodes (nth (resolve t (k + 1) (memory_of m)) i)) tail)

            pub leaf_next : (d : ℕ) → r ≡ Ok d → (left l d (i + 1) ≡ left y q i) × (d * 16 ≤ length l)
            unfolding leaf_left
            leaf_next d ed = (
              put_then y q (x ∷ []) _ ed (g.same ∙ put_single y q x) ∙ sym one_more,
              rw ed at g.fits,
            )

            pub leaf_exceeded : r ≡ Err no_room → held_as (Err no_room) l ≡ left y q i
            leaf_exceeded ed = put_stop y q (x ∷ []) _ ed (g.same ∙ put_single y q x) ∙ sym one_more

      pub leaf_end : (y : List ℕ) (q i : ℕ) → b ≤ i → held_as (Ok q) y ≡ left y q i
      unfolding leaf_left onto
      leaf_end y q i h =
          put_none y q ∙ rw (drop_of_length-le results {i = i} (omega (arith, count_is)))

  pub leaf_first : left dst c 0 ≡ stepped_leaf t e src p n also slot dst c
  unfolding leaf_left stepped_leaf tried
  leaf_first = refl
