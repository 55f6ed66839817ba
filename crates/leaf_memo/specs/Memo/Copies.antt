-- Copying a part.
--     get_d_behind, window_behind          what is the same behind a place
--     Over, over_first, -next, -done       a part copied word by word
--     part_copied                          as a whole
--     leaf_copied                          a leaf's results are copied with their part
-- Assumes nothing.
use Rattle.std.specs.Prelude.{ℕ, suc, ◌+◌, ◌-◌, ◌<◌, ◌≤◌, ◌≡◌, refl, List, [], ◌∷◌, ◌++◌, length, get_or, set, take, drop}
use Rattle.std.proofs.Common.{arith, add-one, ap, sym, subst, ◌∙◌, inl, inr, length-drop, length-append, length-take-le, append_assoc, take_at, drop_at, drop-set-lt, take-suc, get_or-drop}
use Rattle.std.proofs.lemmas.List.{take-set-le}
use Rattle.std.specs.List.{copy_within}
use Rattle.table.specs.Table.{Table}
use Rattle.resolving.specs.Distinct.{window}
use Rattle.resolving.specs.Distinct.Laws.{window_none, window_cons, snoc_window, drop_further}
use Rattle.tree_walk.specs.Course.{LeafAt}
use Rattle.tree_walk.specs.Course.Turns.{head_is, tail_is}
use Rattle.leaf_memo.specs.Memo.{Apart, Copied}
use Rattle.leaf_memo.specs.Below.{get_d_below}

pub get_d_behind : (p : ℕ) (a b : List ℕ) (i : ℕ) → drop p a ≡ drop p b → p ≤ i → get_or a i 0 ≡ get_or b i 0
get_d_behind p a b i e h =
    let z : p + (i - p) ≡ i = omega arith in
    rw z at
    (sym (get_or-drop p a (i - p) 0) ∙ ap (λ (l : List ℕ). get_or l (i - p) 0) e ∙ get_or-drop p b (i - p) 0)

pub window_behind : (p : ℕ) (a b : List ℕ) (i n : ℕ) → drop p a ≡ drop p b → p ≤ i → window i n a ≡ window i n b
unfolding window
window_behind p a b i n e h = ap (take n) (drop_further p i a b e h)

-- ---- a part, word by word

-- j words from p on are copied to q on
pub record Over (old now : List ℕ) (p q j : ℕ) : Type 0 where
  pub before : take q now ≡ take q old
  pub part : window q j now ≡ window p j old
  pub behind : drop (q + j) now ≡ drop (q + j) old

window_suc : (l : List ℕ) (p j : ℕ) → p + j < length l → window p (suc j) l ≡ window p j l ++ (get_or l (p + j) 0 ∷ [])
unfolding window
window_suc l p j h = take-suc (drop p l) j 0 (rw length-drop (omega arith)) ∙ rw (get_or-drop p l j 0)

module _ (old : List ℕ) (p q : ℕ) where
  pub over_first : Over old old p q 0
  over_first = record { before = refl; part = window_none _ _ ∙ sym (window_none _ _); behind = refl }

  module _ (now : List ℕ) (j : ℕ) (o : Over old now p q j) where
    unread : (n : ℕ) → Apart p q n → j ≤ n → get_or now (p + j) 0 ≡ get_or old (p + j) 0
    unread n (inl a) h = get_d_below q now old (p + j) o.before (omega arith)
    unread n (inr a) h = get_d_behind (q + j) now old (p + j) o.behind (omega arith)

    pub over_next : (n : ℕ) → Apart p q n → j ≤ n → q + j < length now → p + j < length old
        → Over old (set now (q + j) (get_or now (p + j) 0)) p q (j + 1)
    over_next n a h l k = record {
      before = take-set-le q now (q + j) _ (omega arith) ∙ o.before;
      part =
          rw add-one (snoc_window now q j (get_or now (p + j) 0) l
          ∙ rw (o.part, unread n a h) (sym (window_suc old p j k)));
      behind =
          drop-set-lt (q + (j + 1)) now (q + j) _ (omega arith)
          ∙ drop_further (q + j) (q + (j + 1)) now old o.behind (omega arith);
    }

    pub over_done : (n : ℕ) → n ≡ get_or old p 0 → j ≡ n + 1 → Copied old now p q
    over_done n en ej =
        record { before = o.before; part = rw (ej, en) at o.part; behind = rw (ej, en) at o.behind }

-- the part is copied as a whole
pub part_copied : (old : List ℕ) (p q n : ℕ) → n ≡ get_or old p 0 → p + n < length old → q + n < length old
    → (r : List ℕ) → r ≡ copy_within old p (p + n + 1) q → Copied old r p q
unfolding window
part_copied old p q n en hp hq r e =
    let m : p + n + 1 - p ≡ n + 1 = omega arith in
    let s : List ℕ = drop p old in
    let a : length (take q old) ≡ q = length-take-le q old (omega arith) in
    let b : length (take (n + 1) s) ≡ n + 1 = length-take-le (n + 1) s (rw length-drop (omega arith)) in
    let w : r ≡ (take q old ++ take (n + 1) s) ++ drop (q + (n + 1)) old =
    e ∙ ap (λ (k : ℕ). (take q old ++ take k s) ++ drop (q + k) old) m in
    let v : r ≡ take q old ++ (take (n + 1) s ++ drop (q + (n + 1)) old) =
    w ∙ append_assoc (take q old) (take (n + 1) s) (drop (q + (n + 1)) old) in
    record {
      before = ap (take q) v ∙ take_at (take q old) _ q a;
      part =
          rw en at
          (ap (λ (l : List ℕ). take (n + 1) (drop q l)) v
          ∙ ap (take (n + 1)) (drop_at (take q old) _ q a)
          ∙ take_at (take (n + 1) s) _ (n + 1) b);
      behind =
          rw en at
          (ap (drop (q + (n + 1))) w
          ∙ drop_at (take q old ++ take (n + 1) s) _ (q + (n + 1)) (length-append (take q old) _ ∙ omega (arith, a, b)));
    }

-- ---- a leaf's results

pub leaf_copied : (t : Table) (e : ℕ) (old new : List ℕ) (p q w : ℕ)
    → window q (get_or old p 0 + 1) new ≡ window p (get_or old p 0 + 1) old → p < length old → q < length new
    → LeafAt t e old p w → LeafAt t e new q w
leaf_copied t e old new p q w same lo ln d =
    let m = sym (window_cons q _ new ln) ∙ (rw add-one at same) ∙ window_cons p _ old lo in
    record {
      number = head_is m ∙ d.number;
      indices =
          subst (λ n. window (q + 1) n new ≡ window (p + 1) n old) d.number (tail_is m) ∙ d.indices;
    }
