-- A turn of `walk`: the node words from i on, read from the last. Assumes nothing.
use Prim.Native.Nat.{ℕ, suc, ◌+◌, ◌-◌, ◌≤◌, ◌<◌}
use native.Mathlib.Omega.{arith}
use mathlib.Core.Path.{◌≡◌, ap, ap₂, sym, subst, ◌∙◌}
use mathlib.Core.List.{List}
use lib.ListN.{length, get_or, take, drop, length-drop, drop_of_length-le}
use lib.Seq.{drop-cons, get_or-take, get_or-drop, length-take-le}
use Rattle.table.specs.Table.{Table, term_count}
use Rattle.table.specs.Node.{term_of as nodeTerm}
use Rattle.table.specs.Width.{reach}
use Rattle.table_index.specs.Index.{table_in, Indexed}
use Rattle.index.specs.Facts.{reach_is}
use Rattle.valid_slots.specs.Walk.{Forest, trees, Few, planted, planted_all}
use Rattle.valid_slots.specs.Walk.Laws.{few_more, few_planted}

pub reach_few : {l w : List ℕ} → Indexed l w → (k : ℕ) → k < term_count (table_in l)
    → reach (table_in l) (nodeTerm (table_in l) k) ≤ 8
reach_few x k h = let (e, b) = reach_is x k h in subst (λ (i : ℕ). i ≤ 8) e b

-- the forest f is that of the words from i on, of the first n
pub record Head (t : Table) (s : List ℕ) (n : ℕ) (f : Forest) (i : ℕ) : Type 0 where
  pub at_most : i ≤ n
  pub spells : f ≡ planted_all t (drop i (take n (drop 1 s)))
  pub few : Few f (n - i)

module _ (t : Table) (s : List ℕ) (n : ℕ) (l : length s ≡ 16) (m : n ≤ 15) where
  abbrev words : List ℕ
  words = take n (drop 1 s)

  words_length : length words ≡ n
  words_length = length-take-le n (drop 1 s) (omega (arith, length-drop 1 s))

  pub head_first : Head t s n (trees 0 0) n
  unfolding planted_all
  head_first = record {
    at_most = omega arith;
    spells = ap (planted_all t) (sym (drop_of_length-le words {i = n} (omega (arith, words_length))));
    few = (omega arith, omega arith);
  }

  pub head_few : (f : Forest) (i : ℕ) → 0 < i → Head t s n f i → Few f 14
  head_few f i h x = few_more f (n - i) 14 (omega arith) x.few

  word_at : (j : ℕ) → j < n → get_or words j 0 ≡ get_or s (suc j) 0
  word_at j h =
      let e : 1 + j ≡ suc j = omega arith in
      get_or-take n (drop 1 s) j 0 h ∙ get_or-drop 1 s j 0 ∙ ap (λ (k : ℕ). get_or s k 0) e

  turn : (f : Forest) (j : ℕ) → j < n → f ≡ planted_all t (drop (suc j) words)
      → planted t (get_or s (suc j) 0) f ≡ planted_all t (drop j words)
  unfolding planted_all
  turn f j h e =
      ap₂ (planted t) (sym (word_at j h)) e
      ∙ ap (planted_all t) (sym (drop-cons words j 0 (omega (arith, words_length))))

  pub head_next : ((k : ℕ) → k < term_count t → reach t (nodeTerm t k) ≤ 8) → (f g : Forest) (i : ℕ) → 0 < i
      → Head t s n f i → g ≡ planted t (get_or s i 0) f → Head t s n g (i - 1)
  head_next r f g i h x e =
      let j : ℕ = i - 1 in
      let q : i ≡ suc j = omega arith in
      let b : suc (n - i) ≡ n - j = omega (arith, x.at_most) in
      record {
        at_most = omega (arith, x.at_most);
        spells =
            e ∙ ap (λ (k : ℕ). planted t (get_or s k 0) f) q
            ∙ turn f j (omega (arith, x.at_most))
            (x.spells ∙ ap (λ (k : ℕ). planted_all t (drop k words)) q);
        few =
            subst (λ (k : ℕ). Few g k) b
            (subst (λ (y : Forest). Few y (suc (n - i))) (sym e) (few_planted t (get_or s i 0) f (n - i) r x.few));
      }

  pub head_done : (f : Forest) (i : ℕ) → i ≡ 0 → Head t s n f i → f ≡ planted_all t (take n (drop 1 s))
  head_done f i e x = x.spells ∙ ap (λ (k : ℕ). planted_all t (drop k words)) e
