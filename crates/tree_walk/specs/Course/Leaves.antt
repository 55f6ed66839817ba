-- A leaf that takes the event: one law per way out of `walk_leaf`, where the modes are rest * 2 + 1.
--     leaf_start, leaf_end, leaf_few     its loop begins and ends
--     go_resolves, go_place              a result, and the place after it
--     go_back                            its nodes are popped again
--     go_next, go_exceeded               what is left after that
-- Assumes nothing.
use Rattle.std.specs.Prelude.{ℕ, ◌+◌, ◌-◌, ◌*◌, ◌<◌, ◌≤◌, ◌≡◌, refl, Bool, true, false, length, drop, eqb, Ok, Err}
use Rattle.std.proofs.Common.{arith, add-one, ◌∙◌, drop_of_length-le, drop-cons, eqb-true}
use Rattle.std.proofs.Math.Path.{ap, sym}
use mathlib.Core.List.{List, [], ◌∷◌, ◌++◌, map}
use Rattle.std.proofs.Math.ListN.{get_or, length-map}
use Rattle.table.specs.Table.{Table}
use Rattle.table.specs.Memory.{remember}
use Rattle.node_word.specs.Word.{term_of_word, memory_of}
use Rattle.slots.specs.Holding.{held_as, put_all, Gave, Held, no_room}
use Rattle.slots.proofs.Holding.Laws.{put_none, put_then, put_stop}
use Rattle.resolving.specs.ResidualWords.Pushed.{head_push_all}
use Rattle.resolving.specs.ResidualWords.Popped.{clean_push_all, pop_back}
use Rattle.resolving.specs.ResidualWords.Resolved.{length_resolved}
use Rattle.resolving.specs.Distinct.{Resolvable}
use Rattle.resolving.specs.Distinct.Laws.{at_window}
use Rattle.resolving.specs.ResidualWords.{push_all, pop_all, Resolves, resolved_into}
use Rattle.resolving.specs.Words.{kind_at, holds_at}
use Rattle.tree_walk.specs.Walk.{leaf_kept, option, options, joins, results, room, onto}
use Rattle.tree_walk.specs.Walk.Leaves.{kept_not_kind, kept_not_held, leaf_length, leaf_below, options_length}
use Rattle.tree_walk.specs.Walk.Leaves.{option_at}
use Rattle.tree_walk.specs.Walk.Leaves.{option_short}
use Rattle.tree_walk.specs.Walk.Results.{onto_head, onto_append, moved_leaf, odd, half}
use Rattle.tree_walk.specs.Course.{node_count, nodes_from, LeafAt, Ready, Place, walked, leaf_rest}
use Rattle.tree_walk.specs.Course.Places.{split, spare, bits_next, leaf_here, next_leaf}

module _ {t : Table} {bound e : ℕ} {store : List ℕ} (ready : Ready t bound e store) (k rest : ℕ) (slot area : List ℕ)
    (count : ℕ)
    (p : Place t e store k (rest * 2 + 1) slot area count) (h : k ≤ node_count store)
    (q : kind_at t (get_or store k 0) ≡ 4 → ⊥) where
  node' : LeafAt t e store (k * 257) (get_or store k 0)
  node' = (leaf_here ready k (rest * 2 + 1) slot area count p h q).prepared (odd rest)

  -- a leaf with a result is a prefix whose set holds the event
  by_test : (b c : Bool) → eqb (kind_at t (get_or store k 0)) 2 ≡ b → holds_at t e (get_or store k 0) ≡ c
      → 0 < length (leaf_kept t e (get_or store k 0))
      → Resolvable t bound (term_of_word (get_or store k 0) + 1) (remember e (memory_of (get_or store k 0)))
  by_test true true eb ec z = ready.resolvable k p.first h (eqb-true (kind_at t (get_or store k 0)) 2 eb) ec
  by_test true false eb ec z = absurd (omega (arith, rw (kept_not_held t e _ eb ec) at z))
  by_test false c eb ec z = absurd (omega (arith, rw (kept_not_kind t e _ eb) at z))

  can_resolve : 0 < length (leaf_kept t e (get_or store k 0))
      → Resolvable t bound (term_of_word (get_or store k 0) + 1) (remember e (memory_of (get_or store k 0)))
  can_resolve = by_test _ _ refl refl

  pub leaf_start : leaf_rest t e store k rest slot area count 0 ≡ walked t e store k (rest * 2 + 1) slot area count
  unfolding leaf_rest walked
  leaf_start =
      rw (
        split ready k (rest * 2 + 1) slot area count p h,
        moved_leaf t e (get_or store k 0) (nodes_from store (k + 1))
            (rest * 2 + 1) (odd rest) q,
        half rest,
      )

  module _ (j i : ℕ) (jh : j < get_or store (k * 257) 0) (ei : i ≡ get_or store (k * 257 + 1 + j) 0) where
    jk : j < length (leaf_kept t e (get_or store k 0))
    jk = rw (← node'.number) jh

    pub leaf_few : get_or store (k * 257) 0 ≤ 256
    leaf_few =
        let s = can_resolve (omega (arith, jk)) in
        omega (
          arith,
          node'.number,
          leaf_length t e (get_or store k 0),
          s.small,
          length_resolved t ready.law (term_of_word (get_or store k 0) + 1) (remember e (memory_of (get_or store k 0))),
        )

    which : i ≡ get_or (leaf_kept t e (get_or store k 0)) j 0
    which = ei ∙ sym (at_window (k * 257 + 1) _ store j jk) ∙ rw node'.indices

    chosen : get_or (options t e (get_or store k 0)) j [] ≡ option t e (get_or store k 0) i
    unfolding options
    chosen = option_at t e (get_or store k 0) (leaf_kept t e (get_or store k 0)) j jk ∙ rw (← which)

    opened : drop j (options t e (get_or store k 0))
        ≡ option t e (get_or store k 0) i ∷ drop (j + 1) (options t e (get_or store k 0))
    opened = drop-cons (options t e (get_or store k 0)) j [] many ∙ rw (chosen, add-one j)
      where
        many : j < length (options t e (get_or store k 0))
        many = rw (options_length t e (get_or store k 0)) jk

    short : get_or slot 0 0 + (length (option t e (get_or store k 0) i) + room t e (nodes_from store (k + 1))) ≤ 15
    short =
        omega (
          arith,
          spare ready k (rest * 2 + 1) slot area count p h,
          option_short t e (get_or store k 0) j jk,
          ap (λ (x : ℕ). length (option t e (get_or store k 0) x)) which,
        )

    pub leaf_resolves : Resolves t bound (term_of_word (get_or store k 0) + 1)
        (remember e (memory_of (get_or store k 0))) i slot
    unfolding option
    leaf_resolves =
        let s = can_resolve (omega (arith, jk)) in
        record {
          within = s.within;
          below = s.below;
          known = s.known;
          small = s.small;
          index = rw which ((leaf_below t e (get_or store k 0)).at j jk);
          room = omega (arith, short);
          whole = p.clean.whole;
        }

    module _ (s : List ℕ)
        (es : s ≡ resolved_into t (term_of_word (get_or store k 0) + 1) (remember e (memory_of (get_or store k 0))) i
        slot) where
      es' : s ≡ push_all slot (option t e (get_or store k 0) i)
      unfolding resolved_into option
      es' = es

      pub leaf_place : (a : List ℕ) (c : ℕ) → c * 16 ≤ length a → Place t e store (k + 1) rest s a c
      leaf_place a c f = rw es' (record {
        first = omega arith;
        last = omega arith;
        bits = bits_next ready k (rest * 2 + 1) slot area count p h rest (omega arith);
        clean = clean_push_all slot _ p.clean;
        room = omega (arith, short, head_push_all slot (option t e (get_or store k 0) i) p.clean.whole);
        held = f;
        trees = rw (half rest) at (next_leaf ready k (rest * 2 + 1) slot area count p h q);
      })

      module _ (a : List ℕ) (c : ℕ) (r1 : Held) (l1 : List ℕ) (g1 : Gave (walked t e store (k + 1) rest s a c) r1 l1)
        where
          leaf_split : leaf_rest t e store k rest slot a c j
              ≡ put_all a c
              (onto s (results t e (nodes_from store (k + 1)) rest) ++ onto slot
              (joins (drop (j + 1) (options t e (get_or store k 0))) (results t e (nodes_from store (k + 1)) rest)))
          unfolding leaf_rest joins
          leaf_split =
              rw (
                opened,
                onto_append slot
                    (map (λ c. option t e (get_or store k 0) i ++ c) (results t e (nodes_from store (k + 1)) rest))
                    (joins (drop (j + 1) (options t e (get_or store k 0))) (results t e (nodes_from store (k + 1)) rest)),
                onto_head slot (option t e (get_or store k 0) i) (results t e (nodes_from store (k + 1)) rest),
                es',
              )

          pub leaf_next : (d : ℕ) → r1 ≡ Ok d → leaf_rest t e store k rest slot l1 d (j + 1)
              ≡ leaf_rest t e store k rest slot a c j
          unfolding leaf_rest walked
          leaf_next d e1 = put_then a c _ _ e1 g1.same ∙ sym leaf_split

          pub leaf_exceeded : r1 ≡ Err no_room → held_as (Err no_room) l1 ≡ leaf_rest t e store k rest slot a c j
          unfolding walked
          leaf_exceeded e1 = put_stop a c _ _ e1 g1.same ∙ sym leaf_split

  pub leaf_end : (a : List ℕ) (c j : ℕ) → get_or store (k * 257) 0 ≤ j → held_as (Ok c) a
      ≡ leaf_rest t e store k rest slot a c j
  unfolding leaf_rest options joins onto
  leaf_end a c j w =
      put_none a c
      ∙ rw (drop_of_length-le (map (option t e (get_or store k 0)) (leaf_kept t e (get_or store k 0))) {i = j}
      (rw length-map (omega (arith, node'.number))))

-- ---- as the code has it

module _ {t : Table} {bound e : ℕ} {store : List ℕ} (ready : Ready t bound e store) (k rest : ℕ) (slot area : List ℕ)
    (count : ℕ)
    (p : Place t e store k (rest * 2 + 1) slot area count) (h : k ≤ node_count store)
    (q : kind_at t (get_or store k 0) ≡ 4 → ⊥) (j i : ℕ) (jh : j < get_or store (k * 257) 0)
    (ei : i ≡ get_or store (k * 257 + 1 + j) 0)
    (n mm m : ℕ) (en : n ≡ term_of_word (get_or store k 0)) (emm : memory_of mm ≡ memory_of (get_or store k 0))
    (em : memory_of m ≡ remember e (memory_of mm)) (s0 : List ℕ) (e0 : s0 ≡ slot) where
  pub go_resolves : Resolves t bound (n + 1) (memory_of m) i s0
  go_resolves = rw (e0, em, en, emm) (leaf_resolves ready k rest slot area count p h q j i jh ei)

  module _ (s : List ℕ) (es : s ≡ resolved_into t (n + 1) (memory_of m) i s0) where
    es2 : s ≡ resolved_into t (term_of_word (get_or store k 0) + 1) (remember e (memory_of (get_or store k 0))) i slot
    es2 = rw (e0, em, en, emm) at es

    pub go_place : (a : List ℕ) (c : ℕ) → c * 16 ≤ length a → Place t e store (k + 1) rest s a c
    go_place = leaf_place ready k rest slot area count p h q j i jh ei s es2

    pub go_back : (s1 s2 : List ℕ) → s1 ≡ s → s2 ≡ pop_all s1 (get_or s1 0 0 - get_or slot 0 0) → s2 ≡ slot
    unfolding resolved_into
    go_back s1 s2 e1 e2 =
        e2 ∙ ap (λ (x : List ℕ). pop_all x (get_or x 0 0 - get_or slot 0 0)) (e1 ∙ es2) ∙ pop_back slot _ p.clean

    pub go_next : (a : List ℕ) (c : ℕ) (r1 : Held) (l1 : List ℕ) → Gave (walked t e store (k + 1) rest s a c) r1 l1
        → (d : ℕ) → r1 ≡ Ok d
        → (leaf_rest t e store k rest slot l1 d (j + 1) ≡ leaf_rest t e store k rest slot a c j) × (d * 16 ≤ length l1)
    go_next a c r1 l1 g d ed =
        (leaf_next ready k rest slot area count p h q j i jh ei s es2 a c r1 l1 g d ed, rw ed at g.fits)

    pub go_exceeded : (a : List ℕ) (c : ℕ) (r1 : Held) (l1 : List ℕ)
        → Gave (walked t e store (k + 1) rest s a c) r1 l1 → r1 ≡ Err no_room
        → held_as (Err no_room) l1 ≡ leaf_rest t e store k rest slot a c j
    go_exceeded = leaf_exceeded ready k rest slot area count p h q j i jh ei s es2
