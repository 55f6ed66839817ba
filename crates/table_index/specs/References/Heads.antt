-- Where a term's kind stands, and how many numbers stand before those of the terms in it, as the code finds them.
--     place_known, place_inside    the place, from the heads before the term and the digits of its word; in the list
--     head_family, head_leaf, head_choice, head_two    the length of its head, by the digits of its word
--     head_fits                    the heads up to it are within the list
-- Assumes nothing.
use Rattle.std.specs.Prelude.{ℕ, ◌+◌, ◌<◌, ◌≤◌, ◌≡◌, List, length, get_or}
use Rattle.std.proofs.Common.{arith, sym, ◌∙◌}
use Rattle.table.specs.Table.{Table, term_count}
use Rattle.table.specs.Node.{node_at, term_of}
use Rattle.table_index.specs.Layout.{terms_at, kind_digit, parameter_digit, own_digit}
use Rattle.table_index.specs.Index.{table_in}
use Rattle.table_index.specs.Index.Laws.{WordDigits, digits}
use Rattle.table_index.specs.Index.Places.{place_in_list}
use Rattle.table_index.specs.Index.Heads.{head_length, heads_before, place_is, length_family, length_leaf, length_choice}
use Rattle.table_index.specs.Index.Heads.{length_two, head_inside}
use Rattle.table_index.specs.Judging.{Judging}

module _ (l work : List ℕ) (j : Judging l work) (n : ℕ) (h : n < term_count (table_in l)) where
  abbrev t : Table
  t = table_in l

  abbrev w : ℕ
  w = get_or work (terms_at + n) 0

  word : WordDigits t n w
  word = digits t work j.fields j.structure n h

  pub place_known : (q : ℕ) → q ≡ heads_before t n → q + own_digit w + 1 ≡ (node_at t n).place
  place_known q e = omega (arith, place_is t n h, word.own)

  pub place_inside : (q : ℕ) → q ≡ heads_before t n → q + own_digit w + 1 ≤ length l
  place_inside q e = omega (arith, place_known q e, place_in_list l j.fields n h)

  pub head_fits : (q : ℕ) → q ≡ heads_before t n → q + head_length (term_of t n) ≤ length l
  head_fits q e = omega (arith, place_known q e, place_in_list l j.fields n h, head_inside (term_of t n))

  pub head_family : 0 < parameter_digit w → 3 ≡ head_length (term_of t n)
  head_family x = length_family (term_of t n) (omega (arith, word.parameter))

  pub head_leaf : kind_digit w < 2 → 1 ≡ head_length (term_of t n)
  head_leaf x = length_leaf (term_of t n) (omega (arith, word.kind))

  pub head_choice : kind_digit w ≡ 3 → 1 ≡ head_length (term_of t n)
  head_choice x = length_choice (term_of t n) (sym word.kind ∙ x)

  pub head_two : parameter_digit w ≤ 0 → 2 ≤ kind_digit w → (kind_digit w ≡ 3 → ⊥) → 2 ≡ head_length (term_of t n)
  head_two x y z =
      length_two (term_of t n) (omega (arith, word.parameter)) (omega (arith, word.kind)) (λ e. z (word.kind ∙ e))
