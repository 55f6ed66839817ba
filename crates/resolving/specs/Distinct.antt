-- A leaf's distinct results, by their indices, in the order of first occurrence: a result that a leaf gives twice is
-- taken once, before pairs are formed with it.
--     same_words             whether two lists of words are equal
--     window                some words of a list
--     is_kept, kept         whether one of the indices has this slot; the indices whose slots did not occur before
--     key_from              a number that equal lists of words share
--     slot_at, Resolvable    the slot of the i-th residual of a term; what resolving all of a term's residuals asks
--     Known, held_slots     the keys of slots kept, and the first eight slots; one slot more
--     Stored                indices stored in a list
-- The laws are in `Distinct/Laws.antt`; those of the code are in `Distinct/Words.antt` and
-- `Distinct/Keeping.antt`. Assumes nothing.
use Rattle.std.specs.Prelude.{ℕ, zero, suc, ◌+◌, ◌*◌, ◌%◌, ◌<◌, ◌≤◌, ◌≡◌, Bool, true, false, cond, List, [], ◌∷◌, ◌++◌, length, get_or, take, drop, replicate, eqb, ltb}
use Rattle.table.specs.Table.{Table, term_count}
use Rattle.table.specs.Memory.{Memory}
use Rattle.table.specs.Branches.{branches}
use Rattle.table.specs.Node.{term_of}
use Rattle.residuals.specs.Residual.{resolve}
use Rattle.residuals.specs.Slots.{nodes}
use Rattle.slots.specs.Insertion.{stored}
use Rattle.resolving.specs.Lawful.{Below}
use Rattle.resolving.specs.ResidualWords.{nth, resolved_into}
pub mod Laws
pub mod Words
pub mod Keeping

unfoldable pub same_words : List ℕ → List ℕ → Bool
same_words [] [] = true
same_words [] (y ∷ ys) = false
same_words (x ∷ xs) [] = false
same_words (x ∷ xs) (y ∷ ys) = elim (eqb x y) [ true ↦ same_words xs ys | false ↦ false ]

-- the key of a list of words, after what came before it
unfoldable pub key_from : ℕ → List ℕ → ℕ
key_from k [] = k
key_from k (w ∷ ws) = key_from (k % 288230376151711744 * 31 + w % 288230376151711744) ws

-- n words of a list, from p on
unfoldable pub window : ℕ → ℕ → List ℕ → List ℕ
window p n l = take n (drop p l)

unfoldable pub is_kept : (ℕ → List ℕ) → List ℕ → List ℕ → Bool
is_kept f [] s = false
is_kept f (k ∷ ks) s = elim (same_words s (f k)) [ true ↦ true | false ↦ is_kept f ks s ]

unfoldable pub keep_new : (ℕ → List ℕ) → List ℕ → ℕ → List ℕ
keep_new f ks i = elim (is_kept f ks (f i)) [ true ↦ ks | false ↦ ks ++ (i ∷ []) ]

unfoldable pub kept : (ℕ → List ℕ) → ℕ → List ℕ
kept f zero = []
kept f (suc i) = keep_new f (kept f i) i

abbrev pub empty : List ℕ
empty = replicate 16 0

-- the slot of the i-th residual of term n
unfoldable pub slot_at : Table → ℕ → Memory → ℕ → List ℕ
slot_at t n m i = resolved_into t n m i empty

-- term n can be resolved into slots
pub record Resolvable (t : Table) (bound n : ℕ) (m : Memory) : Type 0 where
  pub within : n < term_count t
  pub below : Below bound (term_of t n)
  pub known : bound ≤ length t.definitions
  pub small : branches t (term_of t n) ≤ 256
  pub fits : (i : ℕ) → i < length (resolve t n m) → length (nodes (nth (resolve t n m) i)) ≤ 15

-- the indices in a list are below a bound
pub record Indices (ks : List ℕ) (bound : ℕ) : Type 0 where
  pub at : (j : ℕ) → j < length ks → get_or ks j 0 < bound

-- k indices below a bound from `at` on, the keys of their slots, and the first eight slots
pub record Known (f : ℕ → List ℕ) (bound : ℕ) (indices : List ℕ) (at k : ℕ) (keys slots : List ℕ) : Type 0 where
  pub index : (j : ℕ) → j < k → get_or indices (at + j) 0 < bound
  pub key : (j : ℕ) → j < k → get_or keys j 0 ≡ key_from 0 (f (get_or indices (at + j) 0))
  pub slot : (j : ℕ) → j < k → j < 8 → window (j * 16) 16 slots ≡ f (get_or indices (at + j) 0)

-- the k-th slot held, where it is one of the first eight
unfoldable pub held_slots : List ℕ → ℕ → List ℕ → List ℕ
held_slots l k s = cond (ltb k 8) (stored l (k * 16) s 16) l

-- kept indices stored from `at` on; nothing else is touched
pub record Stored (old new : List ℕ) (at r : ℕ) (ks : List ℕ) : Type 0 where
  pub before : take at new ≡ take at old
  pub number : r ≡ length ks
  pub here : window at r new ≡ ks
  pub behind : drop (at + r) new ≡ drop (at + r) old
