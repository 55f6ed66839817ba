-- A leaf whose word was there before: its results are the same.
--     over_room, over_fills, over_store       they are copied from the leaf filled last
--     entry_few, entry_fills, entry_store     they are copied from where they are kept
--     kept_fills, kept_store                  they were not kept yet, and are now
--     last_none, last_kept, last_filled       the prefix filled last: none yet; the one that it was; this one
-- Assumes nothing.
use Rattle.std.specs.Prelude.{ℕ, ◌+◌, ◌*◌, ◌<◌, ◌≤◌, ◌≡◌, List, length, get_or, take}
use Rattle.std.proofs.Common.{arith, ◌∙◌}
use Rattle.table.specs.Table.{Table}
use Rattle.resolving.specs.Lawful.{Lawful}
use Rattle.tree_walk.specs.Walk.{leaf_kept}
use Rattle.tree_walk.specs.Layout.{entry_most}
use Rattle.tree_walk.specs.Course.{node_count, LeafAt}
use Rattle.leaf_memo.specs.Memo.{Copied, EntryAt, StoreOf, KeptInEntry}
use Rattle.leaf_memo.specs.Memo.Copies.{leaf_copied}
use Rattle.leaf_memo.specs.Memo.Laws.{store_copies, kept_before, store_kept}
use Rattle.leaf_results.specs.Prepared.{Loaded, LeafFilled, FilledBefore}
use Rattle.leaf_memo.specs.Below.{get_d_below, take_below, leaf_same}
use Rattle.leaf_results.specs.Prepared.Nodes.{node_few}

-- ---- the node is filled

part_fills : (t : Table) (e : ℕ) (old new : List ℕ) (p k : ℕ) → Copied old new p (k * 257)
    → LeafAt t e old p (get_or old k 0) → p < length old → k * 257 < length new → LeafFilled t e old new k
part_fills t e old new p k c d lo ln =
    record { before = c.before; leaf = leaf_copied t e old new p (k * 257) (get_or old k 0) c.part lo ln d }

module _ (t : Table) (e : ℕ) (old : List ℕ) (k last : ℕ) (f : FilledBefore t e old k last) (h : 0 < last) where
  pub over_room : get_or old (last * 257) 0 ≤ 256
  over_room = omega (arith, (f.leaf h).number, f.few h)

  module _ (new : List ℕ) (w : ℕ) (o : Copied old new (last * 257) (k * 257)) (ew : w ≡ get_or old k 0)
      (same : get_or old last 0 ≡ w) (s : StoreOf t old) (ln : length new ≡ length old) (b : k ≤ 15) where
    pub over_fills : LeafFilled t e old new k
    over_fills =
        part_fills t e old new (last * 257) k o (rw (same, ew) at (f.leaf h))
        (omega (arith, f.before, s.size)) (omega (arith, s.size))

    pub over_store : StoreOf t new
    over_store = store_copies t old new (last * 257) (k * 257) o (omega (arith, over_room)) ln s

-- ---- the results are kept

module _ (t : Table) (e : ℕ) (old : List ℕ) (s : StoreOf t old) (k w p : ℕ) (ew : w ≡ get_or old k 0) (z : EntryAt p)
    (word : get_or old p 0 ≡ w) (event : get_or old (p + 1) 0 ≡ e + 1) where
  pub entry_few : get_or old (p + 2) 0 ≤ entry_most
  entry_few =
      let d = s.memo.entry p z in omega (arith, d.few e event, (d.part e event).number)

  module _ (new : List ℕ) (o : Copied old new (p + 2) (k * 257)) (ln : length new ≡ length old) (b : k ≤ 15) where
    pub entry_fills : LeafFilled t e old new k
    entry_fills =
        part_fills t e old new (p + 2) k o (rw (word, ew) at ((s.memo.entry p z).part e event))
        (omega (arith, z.place, z.within, s.size)) (omega (arith, s.size))

    pub entry_store : StoreOf t new
    entry_store = store_copies t old new (p + 2) (k * 257) o (omega (arith, entry_few)) ln s

-- ---- they are kept now

module _ (t : Table) (e : ℕ) (old y new : List ℕ) (k w p : ℕ) (f : LeafFilled t e old y k) (ew : w ≡ get_or old k 0)
    (few : length (leaf_kept t e w) ≤ 256) (b : k ≤ 15) (z : EntryAt p) (d : KeptInEntry y new p w e (k * 257)) where
  same : take p new ≡ take p y
  same = kept_before y new p w e (k * 257) d

  pub kept_fills : LeafFilled t e old new k
  kept_fills = record {
    before = take_below p (k * 257) new y same (omega (arith, z.place)) ∙ f.before;
    leaf = leaf_same t e p y new (k * 257) (get_or old k 0) same (rw ew at few) (omega (arith, z.place)) f.leaf;
  }

  pub kept_store : StoreOf t y → length new ≡ length y → StoreOf t new
  kept_store s ln =
      store_kept t y new p w e (k * 257) z s.size ln (omega arith) (rw ew f.leaf) s.memo d

-- ---- the prefix filled last

module _ (t : Table) (e : ℕ) where
  pub last_none : (store : List ℕ) → FilledBefore t e store 1 0
  last_none store = record { before = omega arith; few = λ h. absurd (omega arith); leaf = λ h. absurd (omega arith) }

  module _ (old new : List ℕ) (k : ℕ) (same : take (k * 257) new ≡ take (k * 257) old) where
    word : (i : ℕ) → i < k * 257 → get_or new i 0 ≡ get_or old i 0
    word i h = get_d_below (k * 257) new old i same h

    pub last_kept : (j last : ℕ) → k ≤ j → FilledBefore t e old k last → FilledBefore t e new j last
    last_kept j last h f = record {
      before = omega (arith, f.before);
      few = λ z. rw (word last (omega (arith, f.before))) (f.few z);
      leaf = λ z.
          rw (word last (omega (arith, f.before)))
          (leaf_same t e (k * 257) old new (last * 257) (get_or old last 0) same (f.few z) (omega (arith, f.before))
          (f.leaf z));
    }

module _ (t : Table) (bound e : ℕ) (store : List ℕ) (s : Loaded t bound e store) (k : ℕ) (a : 1 ≤ k)
    (b : k ≤ node_count store) where
  pub last_filled : Lawful t → (new : List ℕ) → LeafFilled t e store new k → FilledBefore t e new (k + 1) k
  last_filled law new f =
      let same = get_d_below (k * 257) new store k f.before (omega arith) in
      record {
        before = omega arith;
        few = λ z. rw same (node_few t bound e store s k a b law);
        leaf = λ z. rw same f.leaf;
      }
