-- Holding slots in an area is putting them in their places in a list.
--     put_slot                          holding one: what is held, or that there is no room
--     put_canon, put_exceeded_canon     holding several: what is held, and when there is no room
-- Assumes nothing.
use Rattle.std.specs.Prelude.{ℕ, ◌+◌, ◌-◌, ◌*◌, ◌<◌, ◌≤◌, ◌≡◌, refl, Some, None, Ok, Err}
use native.Mathlib.Omega.{arith}
use Rattle.std.proofs.Math.Decide.{dec_lt}
use Rattle.std.proofs.Math.Path.{ap, sym}
use Rattle.std.proofs.Common.{◌∙◌, length-take-le, drop-drop}
use Rattle.std.proofs.Math.Bool.{true, false}
use mathlib.Core.List.{List, [], ◌∷◌, ◌++◌, append_assoc, append-nil, flatten}
use Rattle.std.proofs.Math.ListN.{length, take, drop, replicate, length-append, length-replicate}
use Rattle.std.proofs.lemmas.List.{replicate-append-replicate}
use Rattle.std.proofs.Math.Seq.{take-take, take_at, drop_at, take-append-le, take_all}
use Rattle.std.proofs.Math.Dec.{ltb}
use borrow.Author.Tests.{lt-ltb, le-ltb}
use Rattle.numbers.specs.Every.{all_append}
use Rattle.slots.specs.Insertion.{Place, no_room, place_in, gapped, stored, insert_answer, insert_words}
use Rattle.slots.specs.Holding.{Outcome, held_as, put_one, chain, put_all}
use Rattle.slots.specs.Canon.{insert_sorted, canon, fill, Sixteen, AllSixteen}
use Rattle.slots.proofs.Canon.Canonical.{Ascending, in_canon, canon_ascending, canon_snoc, canon_grows}
use Rattle.slots.proofs.Canon.Members.{slots_in}
use Rattle.slots.proofs.Canon.Areas.{flatten_append, slots_append, length_flatten, length_fill}
use Rattle.slots.proofs.Canon.Places.{place_among, place_in_lem, Split, split_place, held_same}

-- ---- the words of an area

zeros_less : (n : ℕ) → drop {A = ℕ} 16 (replicate (n + 16) 0) ≡ replicate n 0
zeros_less n =
    let z : n + 16 ≡ 16 + n = omega arith in
    ap (λ (k : ℕ). drop {A = ℕ} 16 (replicate k 0)) z
    ∙ ap (drop {A = ℕ} 16) (sym (replicate-append-replicate {A = ℕ} 16 n 0))
    ∙ drop_at (replicate {A = ℕ} 16 0) (replicate n 0) 16 (length-replicate {A = ℕ} 16 0)

-- a gap opened at p, and a slot stored in it
module _ (a b s : List ℕ) (z p n : ℕ) (ep : length a ≡ p) (en : length a + length b ≡ n) (es : length s ≡ 16) where
  words_of : List ℕ
  words_of = a ++ (b ++ replicate (z + 16) 0)

  long : length words_of ≡ n + (z + 16)
  unfolding words_of
  long =
      length-append a _ ∙ omega (arith, length-append b (replicate (z + 16) 0), length-replicate {A = ℕ} (z + 16) 0)

  front : length (take (p + 16) words_of) ≡ p + 16
  front = length-take-le (p + 16) words_of (omega (arith, long))

  regroup : words_of ≡ (a ++ b) ++ replicate (z + 16) 0
  unfolding words_of
  regroup = sym (append_assoc a b (replicate (z + 16) 0))

  middle : drop p (take n words_of) ≡ b
  middle =
      ap (λ (l : List ℕ). drop p (take n l)) regroup
      ∙ ap (drop p) (take_at (a ++ b) (replicate (z + 16) 0) n (length-append a b ∙ en)) ∙ drop_at a b p ep

  end : drop (n + 16) words_of ≡ replicate z 0
  end =
      sym (drop-drop 16 n words_of)
      ∙ ap (drop 16) (ap (drop n) regroup ∙ drop_at (a ++ b) (replicate (z + 16) 0) n (length-append a b ∙ en))
      ∙ zeros_less z

  open_gap : gapped words_of p n ≡ take (p + 16) words_of ++ (b ++ replicate z 0)
  unfolding gapped
  open_gap = rw (middle, end)

  start : take p words_of ≡ a
  unfolding words_of
  start = take_at a (b ++ replicate (z + 16) 0) p ep

  pub opened : stored (gapped (a ++ (b ++ replicate (z + 16) 0)) p n) p s 16 ≡ a ++ (s ++ (b ++ replicate z 0))
  unfolding stored words_of
  opened =
      ap (λ (g : List ℕ). take p g ++ take 16 s ++ drop (p + 16) g) open_gap
      ∙ rw (
        take-append-le p (take (p + 16) words_of) (b ++ replicate z 0) (omega (arith, front)),
        take-take p (p + 16) words_of (omega arith),
        start,
        drop_at (take (p + 16) words_of) (b ++ replicate z 0) (p + 16) front,
        take_all 16 s (omega arith),
      )
      (append_assoc a s (b ++ replicate z 0))

-- ---- one slot

module _ (most : ℕ) (xs : List (List ℕ)) (s : List ℕ) (v : AllSixteen xs) (u : Ascending xs) (es : length s ≡ 16)
    (h : length xs ≤ most) where
  there : place_in (length xs) (fill most xs) s ≡ place_among xs s 0
  unfolding fill
  there = place_in_lem s es xs (replicate ((most - length xs) * 16) 0) v u

  module _ (i : ℕ) (e : place_among xs s 0 ≡ Some i) where
    d : Split xs s 0 i
    d = split_place xs s 0 i e

    parts : AllSixteen d.a × AllSixteen d.b
    parts = slots_append d.a d.b (rw d.whole at v)

    lengths : length xs ≡ length d.a + length d.b
    lengths = ap length d.whole ∙ length-append d.a d.b

    longer : length (insert_sorted s xs) ≡ length xs + 1
    longer = ap length d.put ∙ length-append d.a (s ∷ d.b) ∙ omega (arith, lengths)

    module _ (w : length xs < most) where
      area_before : fill most xs
          ≡ flatten d.a ++ (flatten d.b ++ replicate ((most - length xs - 1) * 16 + 16) 0)
      unfolding fill
      area_before =
          let z : (most - length xs) * 16 ≡ (most - length xs - 1) * 16 + 16 = omega arith in
          ap (λ (k : ℕ). flatten xs ++ replicate k 0) z
          ∙ ap (λ (l : List ℕ). l ++ replicate ((most - length xs - 1) * 16 + 16) 0)
          (ap flatten d.whole ∙ flatten_append d.a d.b)
          ∙ append_assoc (flatten d.a) (flatten d.b) _

      area_after : fill most (insert_sorted s xs)
          ≡ flatten d.a ++ (s ++ (flatten d.b ++ replicate ((most - length xs - 1) * 16) 0))
      unfolding fill flatten
      area_after =
          let z : (most - length (insert_sorted s xs)) * 16 ≡ (most - length xs - 1) * 16 = omega (arith, longer) in
          ap (λ (k : ℕ). flatten (insert_sorted s xs) ++ replicate k 0) z
          ∙ ap (λ (l : List ℕ). l ++ replicate ((most - length xs - 1) * 16) 0)
          (ap flatten d.put ∙ flatten_append d.a (s ∷ d.b))
          ∙ append_assoc (flatten d.a) (s ++ flatten d.b) _
          ∙ ap (λ (l : List ℕ). flatten d.a ++ l) (append_assoc s (flatten d.b) _)

      inserted : stored (gapped (fill most xs) (i * 16) (length xs * 16)) (i * 16) s 16
          ≡ fill most (insert_sorted s xs)
      inserted =
          ap (λ (l : List ℕ). stored (gapped l (i * 16) (length xs * 16)) (i * 16) s 16) area_before
          ∙ opened (flatten d.a) (flatten d.b) s ((most - length xs - 1) * 16) (i * 16) (length xs * 16)
          (length_flatten d.a parts.0 ∙ omega (arith, d.count))
          (omega (arith, length_flatten d.a parts.0, length_flatten d.b parts.1, lengths)) es
          ∙ sym area_after

      put_new_slot : put_one (fill most xs) (length xs) s
          ≡ held_as (Ok (length (insert_sorted s xs))) (fill most (insert_sorted s xs))
      unfolding put_one insert_answer insert_words
      put_new_slot =
          let f : ltb (length (fill most xs) - length xs * 16) 16
          ≡ false = le-ltb (length (fill most xs) - length xs * 16) 16 (omega (arith, length_fill most xs v h))
          in
          rw (there, e, f, inserted, longer)

    put_full : length xs ≡ most → (put_one (fill most xs) (length xs) s).held ≡ Err no_room
    unfolding put_one insert_answer
    put_full w =
        let f : ltb (length (fill most xs) - length xs * 16) 16
        ≡ true = lt-ltb (length (fill most xs) - length xs * 16) 16 (omega (arith, length_fill most xs v h)) in
        rw (there, e, f)

  put_held_slot : place_among xs s 0 ≡ None → put_one (fill most xs) (length xs) s
      ≡ held_as (Ok (length (insert_sorted s xs))) (fill most (insert_sorted s xs))
  unfolding put_one insert_answer insert_words
  put_held_slot e = rw (there, e, held_same xs s 0 e)

  -- a slot is held, or refused exactly where the slots would be more than fit
  pub record PutSlot : Type 0 where
    pub held : length (insert_sorted s xs) ≤ most → put_one (fill most xs) (length xs) s
        ≡ held_as (Ok (length (insert_sorted s xs))) (fill most (insert_sorted s xs))
    pub refused : most < length (insert_sorted s xs) → (put_one (fill most xs) (length xs) s).held ≡ Err no_room

  by_place : (q : Place) → place_among xs s 0 ≡ q → PutSlot
  by_place None e =
      record { held = λ w. put_held_slot e; refused = λ w. absurd (omega (arith, ap length (held_same xs s 0 e))) }
  by_place (Some i) e = record {
    held = λ w. put_new_slot i e (omega (arith, longer i e));
    refused = λ w. put_full i e (omega (arith, longer i e));
  }

  pub put_slot : PutSlot
  put_slot = by_place (place_among xs s 0) refl

-- ---- all slots

stays : (o : Outcome) (f : List ℕ → ℕ → Outcome) → o.held ≡ Err no_room → (chain o.held o.area f).held ≡ Err no_room
stays o f e = rw e

-- where those of l are held, s comes
module _ (most : ℕ) (l : List (List ℕ)) (s : List ℕ) (v : AllSixteen l) (es : length s ≡ 16)
    (h : length (canon l) ≤ most)
  where
    held_slots : AllSixteen (canon l)
    held_slots = slots_in (canon l) l v (λ a i. (in_canon a l).0 i)

    next_held : length (canon (l ++ s ∷ [])) ≤ most → put_one (fill most (canon l)) (length (canon l)) s
        ≡ held_as (Ok (length (canon (l ++ s ∷ [])))) (fill most (canon (l ++ s ∷ [])))
    next_held k =
        rw (canon_snoc l s)
        ((put_slot most (canon l) s held_slots (canon_ascending l) es h).held (rw (canon_snoc l s) at k))

    next_refused : most < length (canon (l ++ s ∷ []))
        → (put_one (fill most (canon l)) (length (canon l)) s).held ≡ Err no_room
    next_refused k =
        (put_slot most (canon l) s held_slots (canon_ascending l) es h).refused (rw (canon_snoc l s) at k)

    exceeded_by : (ss : List (List ℕ)) → (length (canon (l ++ s ∷ [])) ≤ most
        → (put_all (fill most (canon (l ++ s ∷ []))) (length (canon (l ++ s ∷ []))) ss).held ≡ Err no_room)
        → Dec (most < length (canon (l ++ s ∷ [])))
        → (chain (put_one (fill most (canon l)) (length (canon l)) s).held
        (put_one (fill most (canon l)) (length (canon l)) s).area (λ l c. put_all l c ss)).held ≡ Err no_room
    exceeded_by ss ih (yes z) = stays _ _ (next_refused z)
    exceeded_by ss ih (no z) = rw (next_held (omega arith)) (ih (omega arith))

    more : AllSixteen (l ++ s ∷ [])
    more = all_append Sixteen l (s ∷ []) v (es, tt)

put_from : (most : ℕ) (l ss : List (List ℕ)) → AllSixteen l → AllSixteen ss → length (canon l) ≤ most
    → length (canon (l ++ ss)) ≤ most → put_all (fill most (canon l)) (length (canon l)) ss
    ≡ held_as (Ok (length (canon (l ++ ss)))) (fill most (canon (l ++ ss)))
unfolding put_all
put_from most l [] v w h k = rw (append-nil l)
put_from most l (s ∷ ss) v w h k =
    let e : (l ++ s ∷ []) ++ ss ≡ l ++ s ∷ ss = append_assoc l (s ∷ []) ss in
    let k' : length (canon ((l ++ s ∷ []) ++ ss)) ≤ most = rw e k in
    let g : length (canon (l ++ s ∷ [])) ≤ most = omega (arith, canon_grows (l ++ s ∷ []) ss) in
    rw (next_held most l s v w.0 h g, ← e)
    (put_from most (l ++ s ∷ []) ss (more most l s v w.0 h) w.1 g k')

exceeded_from : (most : ℕ) (l ss : List (List ℕ)) → AllSixteen l → AllSixteen ss → length (canon l) ≤ most
    → most < length (canon (l ++ ss)) → (put_all (fill most (canon l)) (length (canon l)) ss).held ≡ Err no_room
unfolding put_all
exceeded_from most l [] v w h k = absurd (omega (arith, ap (λ (a : List (List ℕ)). length (canon a)) (append-nil l)))
exceeded_from most l (s ∷ ss) v w h k =
    let k' : most < length (canon ((l ++ s ∷ []) ++ ss)) = rw (append_assoc l (s ∷ []) ss) k in
    exceeded_by most l s v w.0 h ss
    (λ g. exceeded_from most (l ++ s ∷ []) ss (more most l s v w.0 h) w.1 g k')
    (dec_lt most (length (canon (l ++ s ∷ []))))

-- holding slots in an area of none gives the ascending slots without repeats; it is exceeded exactly where these are
-- more than fit
pub put_canon : (most : ℕ) (ss : List (List ℕ)) → AllSixteen ss → length (canon ss) ≤ most
    → put_all (fill most []) 0 ss ≡ held_as (Ok (length (canon ss))) (fill most (canon ss))
unfolding canon
put_canon most ss w k = put_from most [] ss tt w (omega arith) k

pub put_exceeded_canon : (most : ℕ) (ss : List (List ℕ)) → AllSixteen ss → most < length (canon ss)
    → (put_all (fill most []) 0 ss).held ≡ Err no_room
unfolding canon
put_exceeded_canon most ss w k = exceeded_from most [] ss tt w (omega arith) k
