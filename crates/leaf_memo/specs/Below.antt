-- Two stores that are the same below a place.
--     get_d_below, take_below, window_below    what lies below it is the same
--     nodes_same                               so are the nodes of a residual
--     window_of_prefix                         a window of what two lists share
--     leaf_same                                so is what stands there of a leaf
--     nodes_drop, nodes_length                 the nodes from one on, as a part of the store; how many they are
-- Assumes nothing.
use Rattle.std.specs.Prelude.{ℕ, zero, suc, ◌+◌, ◌-◌, ◌<◌, ◌≤◌, ◌≡◌, List, [], ◌∷◌, ◌++◌, length, get_or, take, drop}
use Rattle.std.proofs.Common.{arith, ap, sym, ◌∙◌, append_assoc, take-append-drop, get_or-take, take-take, drop-drop}
use Rattle.std.proofs.Math.Seq.{take-nil}
use Rattle.table.specs.Table.{Table}
use Rattle.resolving.specs.Distinct.{window}
use Rattle.resolving.specs.Distinct.Laws.{length_window}
use Rattle.tree_walk.specs.Walk.{leaf_kept}
use Rattle.tree_walk.specs.Course.{node_count, nodes_from, LeafAt}

pub get_d_below : (p : ℕ) (a b : List ℕ) (i : ℕ) → take p a ≡ take p b → i < p → get_or a i 0 ≡ get_or b i 0
get_d_below p a b i e h = sym (get_or-take p a i 0 h) ∙ ap (λ (l : List ℕ). get_or l i 0) e ∙ get_or-take p b i 0 h

pub take_below : (p q : ℕ) (a b : List ℕ) → take p a ≡ take p b → q ≤ p → take q a ≡ take q b
take_below p q a b e h = sym (take-take q p a h) ∙ ap (take q) e ∙ take-take q p b h

drop_prefix : (i n : ℕ) (l : List ℕ) → take n (drop i l) ≡ drop i (take (i + n) l)
drop_prefix zero n l = let e : 0 + n ≡ n = omega arith in rw e
drop_prefix (suc i) n [] = let e : suc i + n ≡ suc (i + n) = omega arith in rw e (take-nil n)
drop_prefix (suc i) n (x ∷ l) = let e : suc i + n ≡ suc (i + n) = omega arith in rw e (drop_prefix i n l)

pub window_below : (p : ℕ) (a b : List ℕ) (i n : ℕ) → take p a ≡ take p b → i + n ≤ p → window i n a ≡ window i n b
unfolding window
window_below p a b i n e h = drop_prefix i n a ∙ ap (drop i) (take_below p (i + n) a b e h) ∙ sym (drop_prefix i n b)

pub nodes_same : (old new : List ℕ) (k : ℕ) → take 257 new ≡ take 257 old → node_count old ≤ 15 → k ≤ 16
    → nodes_from new k ≡ nodes_from old k
unfolding nodes_from
nodes_same old new k e h i =
    let g : get_or new 0 0 ≡ get_or old 0 0 = get_d_below 257 new old 0 e (omega arith) in
    rw g (window_below 257 new old k (node_count old + 1 - k) e (omega arith))

-- a window of what two lists share, at different places
pub window_of_prefix : (p : ℕ) (a b : List ℕ) (i j n : ℕ) → take p a ≡ window i p b → j + n ≤ p → window j n a
    ≡ window (i + j) n b
unfolding window
window_of_prefix p a b i j n e h =
    drop_prefix j n a
    ∙ ap (drop j) (sym (take-take (j + n) p a h) ∙ ap (take (j + n)) e ∙ take-take (j + n) p (drop i b) h)
    ∙ sym (drop_prefix j n (drop i b)) ∙ ap (take n) (drop-drop j i b)

-- ---- what stands there of a leaf

pub leaf_same : (t : Table) (e p : ℕ) (old new : List ℕ) (q w : ℕ) → take p new ≡ take p old
    → length (leaf_kept t e w) ≤ 256 → q + 257 ≤ p → LeafAt t e old q w → LeafAt t e new q w
leaf_same t e p old new q w same few h d = record {
  number = get_d_below p new old q same (omega arith) ∙ d.number;
  indices = window_below p new old (q + 1) (length (leaf_kept t e w)) same (omega arith) ∙ d.indices;
}

-- ---- the nodes from k on

pub nodes_drop : (store : List ℕ) (k : ℕ) (a b : List ℕ) → nodes_from store k ≡ a ++ b
    → drop k store ≡ a ++ (b ++ drop (node_count store + 1 - k) (drop k store))
unfolding nodes_from window
nodes_drop store k a b g =
    sym (take-append-drop (node_count store + 1 - k) (drop k store))
    ∙ ap (λ (x : List ℕ). x ++ drop (node_count store + 1 - k) (drop k store)) g
    ∙ append_assoc a b (drop (node_count store + 1 - k) (drop k store))

pub nodes_length : (store : List ℕ) (k : ℕ) → k ≤ node_count store + 1 → node_count store < length store
    → length (nodes_from store k) ≡ node_count store + 1 - k
unfolding nodes_from
nodes_length store k h l = length_window k (node_count store + 1 - k) store (omega arith)
