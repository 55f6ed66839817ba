-- One node of a residual in a store.
--     leaf_fits                                 a known leaf's results are few
--     event_fits, sound_store, sound_kept       the event has room in a node word; the store is one of the table; so
--                                               it is where the slot is the same
--     node_known, node_resolves, node_few       the node is a known term; its results can be resolved, and are few
--     fill_resolves, fill_yes, fill_store       `prepare_prefix`
-- Assumes nothing.
use Rattle.std.specs.Prelude.{ℕ, zero, suc, ◌+◌, ◌-◌, ◌*◌, ◌<◌, ◌≤◌, ◌≡◌, refl, Bool, true, false, List, [], ◌∷◌, ◌++◌, map, length, get_or, set, take, eqb}
use native.Mathlib.Omega.{arith}
use Rattle.std.proofs.Common.{◌∙◌, length-set, get_or-set_same, drop-set-lt, eq-eqb, eqb-true}
use Rattle.std.proofs.lemmas.List.{take-set-le}
use Rattle.table.specs.Table.{Table, term_count}
use Rattle.table.specs.Node.{term_of, kind_of}
use Rattle.table.specs.Memory.{remember}
use Rattle.node_word.specs.Word.{digit_bound, term_of_word, memory_of}
use Rattle.node_word.proofs.Word.Laws.{events_fit}
use Rattle.residuals.specs.Slots.{nodes}
use Rattle.residuals.specs.Residual.{Residual, leaf, pair, resolve}
use Rattle.resolving.specs.Lawful.{Lawful, follower_in}
use Rattle.resolving.specs.ResidualWords.Resolved.{length_resolved}
use Rattle.resolving.specs.Distinct.{window, kept, slot_at, Resolvable, Stored}
use Rattle.resolving.specs.Distinct.Laws.{at_window, length_window}
use Rattle.resolving.specs.Words.{kind_at, holds_at, KnownWord}
use Rattle.resolving.specs.ResidualWords.{nth}
use Rattle.tree_walk.specs.Walk.{leaf_kept, leaf_results, longest, room}
use Rattle.tree_walk.specs.Walk.Leaves.{results_yes, kept_yes, kept_not_kind, nodes_short, leaf_length}
use Rattle.tree_walk.specs.Forest.{Valid}
use Rattle.tree_walk.specs.Forest.Words.{known_node}
use Rattle.tree_walk.specs.Course.{node_count, nodes_from}
use Rattle.leaf_memo.specs.Memo.{StoreOf}
use Rattle.leaf_memo.specs.Memo.Laws.{store_behind}
use Rattle.leaf_results.specs.Prepared.{Loaded, LeafFilled}
use Rattle.leaf_memo.specs.Below.{get_d_below, take_below, nodes_same}

-- ---- each node of a tree is a known term, and its results have room

abbrev KnownAll : Table → List ℕ → Type 0
KnownAll t [] = Unit
KnownAll t (w ∷ ws) = KnownWord t w × KnownAll t ws

known_append : (t : Table) (a b : List ℕ) → KnownAll t a → KnownAll t b → KnownAll t (a ++ b)
known_append t [] b x y = y
known_append t (w ∷ a) b x y = (x.0, known_append t a b x.1 y)

known_tree : (t : Table) (r : Residual) → Valid t r → KnownAll t (nodes r)
unfolding nodes
known_tree t (leaf n m) v = (known_node t n m v.0, tt)
known_tree t (pair n m l r) v =
    (known_node t n m v.0, known_append t (nodes l) (nodes r) (known_tree t l v.2) (known_tree t r v.3))

known_at : (t : Table) (ws : List ℕ) (i : ℕ) → KnownAll t ws → i < length ws → KnownWord t (get_or ws i 0)
known_at t [] i x h = absurd (omega arith)
known_at t (w ∷ ws) zero x h = x.0
known_at t (w ∷ ws) (suc i) x h = known_at t ws i x.1 (omega arith)

room_at : (t : Table) (e : ℕ) (ws : List ℕ) (i : ℕ) → i < length ws
    → longest (map nodes (leaf_results t e (get_or ws i 0))) ≤ room t e ws
unfolding room
room_at t e [] i h = absurd (omega arith)
room_at t e (w ∷ ws) zero h = omega arith
room_at t e (w ∷ ws) (suc i) h = omega (arith, room_at t e ws i (omega arith))

after_set : (x : List ℕ) (p v c : ℕ) → window (p + 1) c (set x p v) ≡ window (p + 1) c x
unfolding window
after_set x p v c = rw (drop-set-lt (p + 1) x p v (omega arith))

-- a known leaf's results are few
leaf_fits_by : (t : Table) → Lawful t → (e w : ℕ) → term_of_word w < term_count t → (b : Bool) → eqb (kind_at t w) 2 ≡ b
    → length (leaf_kept t e w) ≤ 256
unfolding kind_at
leaf_fits_by t law e w h true q =
    omega (
      arith,
      leaf_length t e w,
      law.followers (term_of_word w) h (eqb-true (kind_at t w) 2 q),
      length_resolved t law (term_of_word w + 1) (remember e (memory_of w)),
    )
leaf_fits_by t law e w h false q = rw (kept_not_kind t e w q) (omega arith)

pub leaf_fits : (t : Table) → Lawful t → (e w : ℕ) → term_of_word w < term_count t → length (leaf_kept t e w) ≤ 256
leaf_fits t law e w h = leaf_fits_by t law e w h _ refl

-- the event has room in a node word
pub event_fits : {t : Table} {bound e : ℕ} {store : List ℕ} → Lawful t → Loaded t bound e store → e < digit_bound
event_fits law s = omega (arith, s.event, law.events_most, events_fit)

pub sound_store : (t : Table) (bound e : ℕ) (store : List ℕ) → Loaded t bound e store → StoreOf t store
sound_store t bound e store s = record { size = s.size; memo = s.memo }

pub sound_kept : (t : Table) (bound e : ℕ) (old new : List ℕ) → Loaded t bound e old → take 257 new ≡ take 257 old
    → StoreOf t new → Loaded t bound e new
sound_kept t bound e old new s same h =
    let n = nodes_same old new 1 same s.few (omega arith) in
    record {
      size = h.size;
      memo = h.memo;
      few = rw (get_d_below 257 new old 0 same (omega arith)) s.few;
      event = s.event;
      whole = s.whole;
      tree = s.tree;
      spelt = n ∙ s.spelt;
      valid = s.valid;
      room = rw n s.room;
    }

module _ (t : Table) (bound e : ℕ) (store : List ℕ) (s : Loaded t bound e store) (k : ℕ) (a : 1 ≤ k)
    (b : k ≤ node_count store) where
  many : length (nodes_from store 1) ≡ node_count store
  unfolding nodes_from
  many = length_window 1 (node_count store + 1 - 1) store (omega (arith, s.size, s.few)) ∙ omega arith

  which : get_or (nodes_from store 1) (k - 1) 0 ≡ get_or store k 0
  unfolding nodes_from
  which =
      let z : 1 + (k - 1) ≡ k = omega arith in
      at_window 1 (node_count store + 1 - 1) store (k - 1) (omega arith) ∙ rw z

  pub node_known : KnownWord t (get_or store k 0)
  node_known =
      rw which at
      (known_at t (nodes_from store 1) (k - 1) (rw s.spelt (known_tree t s.tree s.valid))
      (omega (arith, many)))

  node_room : longest (map nodes (leaf_results t e (get_or store k 0))) ≤ 15
  node_room = omega (arith, s.room, rw which at (room_at t e (nodes_from store 1) (k - 1) (omega (arith, many))))

  pub node_resolves : Lawful t → kind_at t (get_or store k 0) ≡ 2 → holds_at t e (get_or store k 0) ≡ true
      → Resolvable t bound (term_of_word (get_or store k 0) + 1) (remember e (memory_of (get_or store k 0)))
  unfolding kind_at
  node_resolves a q h = record {
    within = next q;
    below = rw s.whole (a.named (term_of_word (get_or store k 0) + 1) (next q));
    known = omega (arith, s.whole);
    small = a.followers (term_of_word (get_or store k 0)) node_known.within q;
    fits = λ i ih. omega (arith, node_room, short i ih);
  }
    where
      next : kind_of (term_of t (term_of_word (get_or store k 0))) ≡ 2 → term_of_word (get_or store k 0) + 1 < term_count t
      next q = follower_in t (term_of_word (get_or store k 0)) node_known.within q

      short : (i : ℕ)
          → i < length (resolve t (term_of_word (get_or store k 0) + 1) (remember e (memory_of (get_or store k 0))))
          → length
          (nodes (nth (resolve t (term_of_word (get_or store k 0) + 1) (remember e (memory_of (get_or store k 0))))
          i)) ≤ longest (map nodes (leaf_results t e (get_or store k 0)))
      short i ih = rw (results_yes t e (get_or store k 0) (eq-eqb _ _ q) h) (nodes_short _ i ih)

  pub node_few : Lawful t → length (leaf_kept t e (get_or store k 0)) ≤ 256
  node_few law = leaf_fits t law e (get_or store k 0) node_known.within

  module _ (law : Lawful t) (q : kind_at t (get_or store k 0) ≡ 2) (h : holds_at t e (get_or store k 0) ≡ true) (n mm m : ℕ)
      (en : n ≡ term_of_word (get_or store k 0)) (emm : memory_of mm ≡ memory_of (get_or store k 0))
      (em : memory_of m ≡ remember e (memory_of mm)) where
    pub fill_resolves : Resolvable t bound (n + 1) (memory_of m)
    fill_resolves = rw (em, en, emm) (node_resolves law q h)

    follower_kept : leaf_kept t e (get_or store k 0)
        ≡ kept (slot_at t (n + 1) (memory_of m)) (length (resolve t (n + 1) (memory_of m)))
    follower_kept = rw (em, en, emm) (kept_yes t e (get_or store k 0) (eq-eqb _ _ q) h)

    module _ (x : List ℕ) (r : ℕ) (lx : length x ≡ length store)
        (st : Stored store x (k * 257 + 1) r (kept (slot_at t (n + 1) (memory_of m))
        (length (resolve t (n + 1) (memory_of m))))) where
      pub fill_yes : LeafFilled t e store (set x (k * 257) r) k
      fill_yes = record {
        before =
            take-set-le (k * 257) x (k * 257) r (omega arith)
            ∙ take_below (k * 257 + 1) (k * 257) x store st.before (omega arith);
        leaf = record {
          number = rw follower_kept (get_or-set_same x (k * 257) r 0 (omega (arith, s.size, s.few)) ∙ st.number);
          indices = rw (follower_kept, ← st.number) (after_set x (k * 257) r r ∙ st.here);
        };
      }

      pub fill_store : StoreOf t (set x (k * 257) r)
      fill_store =
          let few : r ≤ 256 = omega (arith, st.number, rw follower_kept at (node_few law)) in
          store_behind t (k * 257 + 1 + r) store (set x (k * 257) r)
          (drop-set-lt (k * 257 + 1 + r) x (k * 257) r (omega arith) ∙ st.behind) (omega (arith, s.few))
          (simp length-set lx) (sound_store t bound e store s)
