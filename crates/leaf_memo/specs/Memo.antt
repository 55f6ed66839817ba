-- What a store keeps of leaves: behind the nodes' parts stand entries. An entry has the word of a leaf, an event and
-- one more (0: nothing is kept), and a part: the number of the leaf's results after that event, no more than it has
-- room for, and their indices.
--     Apart, Copied             a part can be copied; it is, and nothing else is touched
--     EntryAt, Entry            where an entry stands; what it says is so
--     Memo, StoreOf             so it is of all entries; a store of a table
--     EntryKept, KeptInEntry    an entry is written; where it has room
--     KeepsOne, KeepsBy         an entry keeps something; whether one does
-- The laws are in `Memo/Copies.antt` (copying a part) and `Memo/Laws.antt`. Assumes nothing.
use Rattle.std.specs.Prelude.{ℕ, ◌+◌, ◌*◌, ◌<◌, ◌≤◌, ◌≡◌, ◌⊎◌, Bool, true, false, List, length, get_or, take, drop}
use Rattle.table.specs.Table.{Table}
use Rattle.resolving.specs.Distinct.{window}
use Rattle.tree_walk.specs.Layout.{memo_at, entry_count, entry_words, entry_most, store_words}
use Rattle.tree_walk.specs.Walk.{leaf_kept}
use Rattle.tree_walk.specs.Course.{LeafAt}
pub mod Copies
pub mod Laws

-- n words and one more from p on can be copied to q on, the first first
abbrev pub Apart : ℕ → ℕ → ℕ → Type 0
Apart p q n = (p + n < q) ⊎ (q ≤ p)

-- the part at p stands at q too; nothing else is touched
pub record Copied (old new : List ℕ) (p q : ℕ) : Type 0 where
  pub before : take q new ≡ take q old
  pub part : window q (get_or old p 0 + 1) new ≡ window p (get_or old p 0 + 1) old
  pub behind : drop (q + (get_or old p 0 + 1)) new ≡ drop (q + (get_or old p 0 + 1)) old

pub record EntryAt (p : ℕ) : Type 0 where
  pub number : ℕ
  pub within : number < entry_count
  pub place : p ≡ memo_at + number * entry_words

pub record Entry (t : Table) (store : List ℕ) (p : ℕ) : Type 0 where
  pub few : (e : ℕ) → get_or store (p + 1) 0 ≡ e + 1 → length (leaf_kept t e (get_or store p 0)) ≤ entry_most
  pub part : (e : ℕ) → get_or store (p + 1) 0 ≡ e + 1 → LeafAt t e store (p + 2) (get_or store p 0)

pub record Memo (t : Table) (store : List ℕ) : Type 0 where
  pub entry : (p : ℕ) → EntryAt p → Entry t store p

pub record StoreOf (t : Table) (store : List ℕ) : Type 0 where
  pub size : length store ≡ store_words
  pub memo : Memo t store

-- the part at `at` stands in the entry at p, as that of the leaf w and the event e; nothing else is touched
pub record EntryKept (old new : List ℕ) (p w e at : ℕ) : Type 0 where
  pub before : take p new ≡ take p old
  pub word : get_or new p 0 ≡ w
  pub event : get_or new (p + 1) 0 ≡ e + 1
  pub part : window (p + 2) (get_or old at 0 + 1) new ≡ window at (get_or old at 0 + 1) old
  pub behind : drop (p + entry_words) new ≡ drop (p + entry_words) old

pub record KeptInEntry (old new : List ℕ) (p w e at : ℕ) : Type 0 where
  pub fits : get_or old at 0 ≤ entry_most → EntryKept old new p w e at
  pub other : entry_most < get_or old at 0 → new ≡ old

pub record KeepsOne (store : List ℕ) : Type 0 where
  pub place : ℕ
  pub entry : EntryAt place
  pub event : 0 < get_or store (place + 1) 0

abbrev pub KeepsBy : List ℕ → Bool → Type 0
KeepsBy store true = KeepsOne store
KeepsBy store false = (p : ℕ) → EntryAt p → get_or store (p + 1) 0 ≡ 0
