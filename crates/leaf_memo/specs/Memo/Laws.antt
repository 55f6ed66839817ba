-- The laws of what a store keeps of leaves.
--     entry_place                                      where an entry stands
--     entry_below, entry_behind                        an entry that is not touched
--     memo_behind, store_behind, -marks, -copies       no entry is touched
--     entry_writes, kept_before, store_kept            an entry is written
--     KeepsNone, none_first, -next, -done, keeps_one   nothing is kept in the first entries, in all; in one there is
--     forget_next, forget_done, store_zeros            a store that keeps nothing, such as zeros, is one of every table
-- Assumes nothing.
use Rattle.std.specs.Prelude.{ℕ, ◌+◌, ◌*◌, ◌<◌, ◌≤◌, ◌≡◌, refl, List, length, get_or, set, take, drop, replicate}
use Rattle.std.proofs.Common.{arith, sym, ◌∙◌, length-set, get_or-set_same, get_or-set_other, drop-set-lt}
use Rattle.std.proofs.lemmas.List.{length-replicate, get_or-replicate, take-set-le}
use Rattle.table.specs.Table.{Table}
use Rattle.resolving.specs.Distinct.{window}
use Rattle.resolving.specs.Distinct.Laws.{drop_further}
use Rattle.tree_walk.specs.Layout.{memo_at, entry_count, entry_words, entry_most, store_words}
use Rattle.tree_walk.specs.Course.{LeafAt}
use Rattle.leaf_memo.specs.Memo.{Copied, EntryAt, Entry, Memo, StoreOf, EntryKept, KeptInEntry, KeepsOne}
use Rattle.leaf_memo.specs.Memo.Copies.{get_d_behind, window_behind, leaf_copied}
use Rattle.leaf_memo.specs.Below.{get_d_below, window_below, take_below}

pub entry_place : (i : ℕ) → i < entry_count → EntryAt (memo_at + i * entry_words)
entry_place i h = record { number = i; within = h; place = refl }

-- ---- an entry whose words are the same

module _ (t : Table) (old new : List ℕ) (p : ℕ) (word : get_or new p 0 ≡ get_or old p 0)
    (event : get_or new (p + 1) 0 ≡ get_or old (p + 1) 0) (number : get_or new (p + 2) 0 ≡ get_or old (p + 2) 0)
    (indices : (n : ℕ) → n ≤ entry_most → window (p + 2 + 1) n new ≡ window (p + 2 + 1) n old) where
  entry_same : Entry t old p → Entry t new p
  entry_same d = record {
    few = λ e h. rw word (d.few e (sym event ∙ h));
    part = λ e h.
        let x = d.part e (sym event ∙ h) in
        rw word
        (record { number = number ∙ x.number; indices = indices _ (d.few e (sym event ∙ h)) ∙ x.indices });
  }

module _ (t : Table) (m : ℕ) (old new : List ℕ) (p : ℕ) where
  pub entry_below : take m new ≡ take m old → p + entry_words ≤ m → Entry t old p → Entry t new p
  entry_below s h =
      entry_same t old new p (get_d_below m new old p s (omega arith)) (get_d_below m new old (p + 1) s (omega arith))
      (get_d_below m new old (p + 2) s (omega arith))
      (λ n k. window_below m new old (p + 2 + 1) n s (omega arith))

  pub entry_behind : drop m new ≡ drop m old → m ≤ p → Entry t old p → Entry t new p
  entry_behind s h =
      entry_same t old new p (get_d_behind m new old p s (omega arith)) (get_d_behind m new old (p + 1) s (omega arith))
      (get_d_behind m new old (p + 2) s (omega arith))
      (λ n k. window_behind m new old (p + 2 + 1) n s (omega arith))

module _ (t : Table) (m : ℕ) (old new : List ℕ) (same : drop m new ≡ drop m old) (h : m ≤ memo_at) where
  pub memo_behind : Memo t old → Memo t new
  memo_behind d =
      record { entry = λ p z. entry_behind t m old new p same (omega (arith, z.place)) (d.entry p z) }

  pub store_behind : length new ≡ length old → StoreOf t old → StoreOf t new
  store_behind l d = record { size = l ∙ d.size; memo = memo_behind d.memo }

pub store_marks : (t : Table) (store : List ℕ) (k v : ℕ) → k ≤ 15 → StoreOf t store → StoreOf t (set store (k * 257) v)
store_marks t store k v h =
    store_behind t (k * 257 + 1) store (set store (k * 257) v)
    (drop-set-lt (k * 257 + 1) store (k * 257) v (omega arith)) (omega arith) (simp length-set)

pub store_copies : (t : Table) (old new : List ℕ) (p q : ℕ) → Copied old new p q → q + (get_or old p 0 + 1) ≤ memo_at
    → length new ≡ length old → StoreOf t old → StoreOf t new
store_copies t old new p q c h l = store_behind t (q + (get_or old p 0 + 1)) old new c.behind h l

-- ---- an entry is written

module _ (old x : List ℕ) (p w e at : ℕ) (c : Copied old x at (p + 2)) (l : p + entry_words ≤ length x)
    (h : get_or old at 0 ≤ entry_most)
  where
    pub entry_writes : EntryKept old (set (set x p w) (p + 1) (e + 1)) p w e at
    entry_writes = record {
      before =
          take-set-le p (set x p w) (p + 1) (e + 1) (omega arith) ∙ take-set-le p x p w (omega arith)
          ∙ take_below (p + 2) p x old c.before (omega arith);
      word =
          get_or-set_other (set x p w) (p + 1) p (e + 1) 0 (λ z. omega arith) ∙ get_or-set_same x p w 0 (omega arith);
      event = get_or-set_same (set x p w) (p + 1) (e + 1) 0 (simp length-set (omega arith));
      part =
          window_behind (p + 2) (set (set x p w) (p + 1) (e + 1)) x (p + 2) _
          (drop-set-lt (p + 2) (set x p w) (p + 1) (e + 1) (omega arith)
          ∙ drop-set-lt (p + 2) x p w (omega arith)) (omega arith)
          ∙ c.part;
      behind =
          drop-set-lt (p + entry_words) (set x p w) (p + 1) (e + 1) (omega arith)
          ∙ drop-set-lt (p + entry_words) x p w (omega arith)
          ∙ drop_further (p + 2 + (get_or old at 0 + 1)) (p + entry_words) x old c.behind (omega arith);
    }

module _ (t : Table) (old new : List ℕ) (p w e at : ℕ) (z : EntryAt p) (size : length old ≡ store_words)
    (same : length new ≡ length old) (inside : at < memo_at) (d : LeafAt t e old at w) (m : Memo t old) where
  module _ (f : get_or old at 0 ≤ entry_most) (k : EntryKept old new p w e at) where
    written : (e' : ℕ) → get_or new (p + 1) 0 ≡ e' + 1 → e' ≡ e
    written e' h = omega (arith, k.event)

    here : Entry t new p
    here = record {
      few = λ e' h. rw (written e' h, k.word) (omega (arith, d.number));
      part = λ e' h.
          rw (written e' h, k.word)
          (leaf_copied t e old new at (p + 2) w k.part (omega arith) (omega (arith, z.place, z.within)) d);
    }

    by_place : (q : ℕ) (y : EntryAt q) → Dec (q < p) → Dec (p < q) → Entry t new q
    by_place q y (yes a) b =
        entry_below t p old new q k.before (omega (arith, z.place, y.place)) (m.entry q y)
    by_place q y (no a) (yes b) =
        entry_behind t (p + entry_words) old new q k.behind (omega (arith, z.place, y.place)) (m.entry q y)
    by_place q y (no a) (no b) = let same : q ≡ p = omega arith in rw same here

    memo_written : Memo t new
    memo_written = record {
      entry = λ q y. by_place q y (native.Mathlib.Decide.dec_lt q p) (native.Mathlib.Decide.dec_lt p q);
    }

  kept_by : KeptInEntry old new p w e at → Dec (entry_most < get_or old at 0) → Memo t new
  kept_by k (yes a) = rw (k.other a) m
  kept_by k (no a) = memo_written (omega arith) (k.fits (omega arith))

  pub store_kept : KeptInEntry old new p w e at → StoreOf t new
  store_kept k =
      record { size = same ∙ size; memo = kept_by k (native.Mathlib.Decide.dec_lt entry_most (get_or old at 0)) }

before_by : (old new : List ℕ) (p w e at : ℕ) → KeptInEntry old new p w e at → Dec (entry_most < get_or old at 0)
    → take p new ≡ take p old
before_by old new p w e at k (yes a) = rw (k.other a)
before_by old new p w e at k (no a) = (k.fits (omega arith)).before

pub kept_before : (old new : List ℕ) (p w e at : ℕ) → KeptInEntry old new p w e at → take p new ≡ take p old
kept_before old new p w e at k = before_by old new p w e at k (native.Mathlib.Decide.dec_lt entry_most (get_or old at 0))

-- ---- the loops of `forget` and `keeps_some`

nothing_kept : (t : Table) (store : List ℕ) (p : ℕ) → get_or store (p + 1) 0 ≡ 0 → Entry t store p
nothing_kept t store p z = record { few = λ e h. absurd (omega arith); part = λ e h. absurd (omega arith) }

-- nothing is kept in the first i entries
pub record KeepsNone (store : List ℕ) (i : ℕ) : Type 0 where
  pub none : (j : ℕ) → j < i → get_or store (memo_at + j * entry_words + 1) 0 ≡ 0

module _ (store : List ℕ) where
  pub none_first : KeepsNone store 0
  none_first = record { none = λ j h. absurd (omega arith) }

  pub none_next : (i : ℕ) → KeepsNone store i → get_or store (memo_at + i * entry_words + 1) 0 ≡ 0 → KeepsNone store (i + 1)
  none_next i f h = record { none = λ j k. go j (omega arith) (native.Mathlib.Decide.dec_lt j i) }
    where
      go : (j : ℕ) → j ≤ i → Dec (j < i) → get_or store (memo_at + j * entry_words + 1) 0 ≡ 0
      go j k (yes a) = f.none j a
      go j k (no a) = let same : j ≡ i = omega arith in rw same h

  pub none_done : KeepsNone store entry_count → (p : ℕ) → EntryAt p → get_or store (p + 1) 0 ≡ 0
  none_done f p z = let e : p ≡ memo_at + z.number * entry_words = z.place in rw e (f.none z.number z.within)

  pub keeps_one : (i : ℕ) → i < entry_count → 0 < get_or store (memo_at + i * entry_words + 1) 0 → KeepsOne store
  keeps_one i h k = record { place = memo_at + i * entry_words; entry = entry_place i h; event = k }

module _ (store : List ℕ) where
  pub forget_next : (i : ℕ) → KeepsNone store i → memo_at + i * entry_words + 1 < length store
      → KeepsNone (set store (memo_at + i * entry_words + 1) 0) (i + 1)
  forget_next i f h =
      none_next (set store (memo_at + i * entry_words + 1) 0) i
      (record {
        none = λ j a.
            get_or-set_other store (memo_at + i * entry_words + 1) (memo_at + j * entry_words + 1) 0 0 (λ z. omega arith)
            ∙ f.none j a;
      })
      (get_or-set_same store (memo_at + i * entry_words + 1) 0 0 h)

  pub forget_done : length store ≡ store_words → KeepsNone store entry_count → (t : Table) → StoreOf t store
  forget_done size f t = record {
    size = size;
    memo = record { entry = λ p z. nothing_kept t store p (none_done store f p z) };
  }

pub store_zeros : (t : Table) → StoreOf t (replicate store_words 0)
store_zeros =
    forget_done (replicate store_words 0) (length-replicate {A = ℕ} store_words 0)
    (record { none = λ j h. get_or-replicate {A = ℕ} store_words (memo_at + j * entry_words + 1) 0 0 (omega arith) })
