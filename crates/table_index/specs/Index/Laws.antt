-- The digits of a term's word, and what a write elsewhere keeps of the index.
--     WordDigits, digits       the digits of the word of term n in a structured work area
--     structured_kept          a work area that agrees with a structured one apart from the widths of levels and what
--                              stands above the structure of terms is structured
-- Assumes nothing.
use Rattle.std.specs.Prelude.{ℕ, ◌+◌, ◌*◌, ◌<◌, ◌≤◌, ◌≡◌, List, length, get_or}
use native.Mathlib.Omega.{arith}
use Rattle.std.proofs.Common.{◌∙◌}
use Rattle.table.specs.Table.{SetRef, fixed, family, Term, stop, fail, prefix, choice, par, call}
use Rattle.table.specs.Table.{Table, size, term_count}
use Rattle.table.specs.Fields.{Fields, OfRef, ParamSmall}
use Rattle.table.specs.Node.{node_at, term_of, kind_of, left_size, ref_of, parameter_of}
use Rattle.table.proofs.Node.Laws.{spot_of, node_fits, each_node}
use Rattle.table_index.specs.Layout.{terms_at, sets_at, bodies_at, levels_at, widths_at, alphabet_at, definition_count_at}
use Rattle.table_index.specs.Layout.{term_count_at, start_at, parameter_unit, parallel_unit, entry_unit, prefixes_unit}
use Rattle.table_index.specs.Layout.{own_unit, right_unit, target_unit, kind_digit, parameter_digit, parallel_digit}
use Rattle.table_index.specs.Layout.{entry_digit, prefixes_digit, own_digit, right_digit, target_digit, structure_of}
use Rattle.table_index.specs.Index.{target_of, packed, word_of, Structured}
use Rattle.table_index.specs.Index.Sets.{indexed_kept}

pub record WordDigits (t : Table) (n x : ℕ) : Type 0 where
  pub kind : kind_digit x ≡ kind_of (term_of t n)
  pub parameter : parameter_digit x ≡ parameter_of (ref_of (term_of t n))
  pub parallel : parallel_digit x ≡ (node_at t n).spot.parallel
  pub entry : entry_digit x ≡ (node_at t n).spot.entry
  pub prefixes : prefixes_digit x ≡ (node_at t n).spot.prefixes
  pub own : own_digit x ≡ (node_at t n).spot.own
  pub right : right_digit x ≡ n + 1 + left_size (term_of t n)
  pub target : target_digit x ≡ target_of t.sets (term_of t n)

kind_small : (p : Term) → kind_of p < 8
unfolding kind_of
kind_small stop = omega arith
kind_small fail = omega arith
kind_small (prefix r p) = omega arith
kind_small (choice p q) = omega arith
kind_small (par r p q) = omega arith
kind_small (call d) = omega arith

of_small : (r : SetRef) → ParamSmall r → parameter_of r < 8
of_small (fixed s) h = omega arith
of_small (family s k) h = omega arith

parameter_small : (p : Term) → OfRef ParamSmall p → parameter_of (ref_of p) < 8
unfolding ref_of
parameter_small stop h = omega arith
parameter_small fail h = omega arith
parameter_small (prefix r p) h = of_small r h
parameter_small (choice p q) h = omega arith
parameter_small (par r p q) h = of_small r h
parameter_small (call d) h = omega arith

pub left_inside : (p : Term) → 1 + left_size p ≤ size p
unfolding left_size size
left_inside stop = omega arith
left_inside fail = omega arith
left_inside (prefix r p) = omega arith
left_inside (choice p q) = omega arith
left_inside (par r p q) = omega arith
left_inside (call d) = omega arith

-- the digits of a word whose structure is a sum of digits
module _ (a b c d e f g h x : ℕ)
    (is : structure_of x
    ≡ a + b * parameter_unit + c * parallel_unit + d * entry_unit + e * prefixes_unit + f * own_unit + g * right_unit
    + h * target_unit)
    (la : a < 8) (lb : b < 8) (lc : c ≤ 1) (ld : d ≤ 1) (le : e < 32) (lf : f < 32) (lg : g ≤ 1024) where
  word_digits : (kind_digit x ≡ a) × (parameter_digit x ≡ b) × (parallel_digit x ≡ c) × (entry_digit x ≡ d)
      × (prefixes_digit x ≡ e) × (own_digit x ≡ f) × (right_digit x ≡ g) × (target_digit x ≡ h)
  unfolding structure_of
  word_digits =
      (omega arith, omega arith, omega arith, omega arith, omega arith, omega arith, omega arith, omega arith)

pub digits : (t : Table) (w : List ℕ) → Fields t → Structured t w → (n : ℕ) → n < term_count t
    → WordDigits t n (get_or w (terms_at + n) 0)
unfolding word_of packed term_of
digits t w f s n h =
    let p = term_of t n in
    let at = spot_of t f n h in
    let o = (node_at t n).spot in
    let k = kind_small p in
    let m = parameter_small p (each_node (OfRef ParamSmall) t f.parameters n h) in
    let r : n + 1 + left_size p ≤ 1024 = omega (arith, node_fits t n h, left_inside p, f.terms_most) in
    let d = word_digits (kind_of p) (parameter_of (ref_of p)) o.parallel o.entry o.prefixes o.own
    (n + 1 + left_size p) (target_of t.sets p) (get_or w (terms_at + n) 0) (s.words n h)
    k m at.parallel at.entry at.prefixes at.own r in
    record {
      kind = d.0;
      parameter = d.1;
      parallel = d.2;
      entry = d.3;
      prefixes = d.4;
      own = d.5;
      right = d.6;
      target = d.7;
    }

pub structured_kept : (t : Table) (w w' : List ℕ) → Fields t → length w' ≡ length w
    → ((x : ℕ) → ((terms_at ≤ x) × (x < sets_at) → ⊥) → ((widths_at ≤ x) × (x < alphabet_at) → ⊥)
    → get_or w' x 0 ≡ get_or w x 0)
    → ((n : ℕ) → n < 1024 → structure_of (get_or w' (terms_at + n) 0) ≡ structure_of (get_or w (terms_at + n) 0))
    → Structured t w → Structured t w'
structured_kept t w w' f e k g s =
    let terms_most = f.terms_most in
    let most = f.definitions_most in
    record {
      whole = e ∙ s.whole;
      sets =
          indexed_kept t.alphabet t.sets w w' (λ i h. k i (λ o. omega arith) (λ o. omega arith))
          (λ i h. k (sets_at + i) (λ o. omega arith) (λ o. omega arith)) s.sets;
      words = λ n h. g n (omega arith) ∙ s.words n h;
      roots = λ d h. k (bodies_at + d) (λ o. omega arith) (λ o. omega arith) ∙ s.roots d h;
      levels = λ d h. k (levels_at + d) (λ o. omega arith) (λ o. omega arith) ∙ s.levels d h;
      alphabet = k alphabet_at (λ o. omega arith) (λ o. omega arith) ∙ s.alphabet;
      definitions = k definition_count_at (λ o. omega arith) (λ o. omega arith) ∙ s.definitions;
      terms = k term_count_at (λ o. omega arith) (λ o. omega arith) ∙ s.terms;
      start = k start_at (λ o. omega arith) (λ o. omega arith) ∙ s.start;
    }
