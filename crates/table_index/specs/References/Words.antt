-- The rules on references by a term's word and place, as the code tests them.
--     call_word_fits                                      whether the call with this word keeps the rules
--     bad_reference                                       where the term of a number breaks a rule
--     fits-..                                             one law for each way out of its tests
--     call_kept, call_broken, param_kept, param_broken    what the term of a number breaks
--     first_broken, first_nowhere                         what the terms of the table break first
-- Assumes nothing.
use Prim.Native.Nat.{ℕ, suc, ◌+◌, ◌<◌, ◌≤◌}
use native.Mathlib.Omega.{arith}
use Rattle.std.proofs.Math.Decide.{ℕ_discrete}
use Rattle.std.specs.Prelude.{◌≡◌, refl, Bool, ◌||◌, not, List, get_or, eqb, ltb}
use Rattle.std.proofs.Common.{ap, sym, ◌∙◌}
use Rattle.std.proofs.Math.Bool.{true, false}
use Rattle.std.proofs.Math.Option.{Option, none, some}
use Rattle.std.proofs.Math.ListN.{length}
use borrow.Author.Tests.{lt-ltb, le-ltb, le-leb, lt-leb, eq-eqb, ne_eqb}
use Rattle.table.specs.declared.terms.Spot.{Spot}
use Rattle.std.specs.declared.option.Option as code
use Rattle.std.specs.declared.option.Option.TheVariants.{Some, None}
use Rattle.table.specs.Table.{SetRef, fixed, family, Term, stop, fail, prefix, choice, par, call}
use Rattle.table.specs.Table.{Definition, Table, term_count}
use Rattle.table.specs.First.{unless}
use Rattle.table.specs.Context.{Context}
use Rattle.table.specs.References.{level_in, param_fits, call_fits, wrong_ref, first_wrong}
use Rattle.table_index.specs.References.Nodes.{context_of, wrong_here, wrong_at, first_wrong_in, first_wrong_none}
use Rattle.table.specs.Node.{node_at, term_of, kind_of, ref_of, parameter_of}
use Rattle.table_index.specs.Layout.{terms_at, levels_at, definition_count_at, kind_digit, parameter_digit, parallel_digit}
use Rattle.table_index.specs.Layout.{prefixes_digit, own_digit, target_digit}
use Rattle.table_index.specs.Index.{target_of, Structured, table_in}
use Rattle.table.proofs.Node.Laws.{home_node}
use Rattle.table_index.specs.Index.Laws.{WordDigits, digits}
use Rattle.table_index.specs.Index.Places.{place_in_list, some_numbers, long_numbers}
use Rattle.table_index.specs.Judging.{Judging, first_of}

-- what a word says of where its term stands
abbrev pub word_context : ℕ → Context
word_context w = record { prefixes = prefixes_digit w; in_parallel = eqb (parallel_digit w) 1 }

unfoldable pub call_word_fits : List Definition → ℕ → Bool
call_word_fits ds w =
    call_fits ds (level_in ds (own_digit w)) (own_digit w) (word_context w) (target_digit w)

-- the first number of term n that breaks a rule
abbrev pub bad_reference : Table → ℕ → code.Option ℕ
bad_reference t n = first_of (wrong_at t.definitions (node_at t n))

-- ---- the tests of a call

beside_holds : (x m l : ℕ) → (x ≡ 1 → m < l) → (not (eqb x 1) || ltb m l) ≡ true
beside_holds x m l h =
    elim (ℕ_discrete x 1) [
      | yes e ↦ rw (eq-eqb _ _ e, lt-ltb _ _ (h e))
      | no e ↦ rw (ne_eqb _ _ e)
    ]

-- one law for each way out, in the words of the work area that the tests read
module _ (t : Table) (work : List ℕ) (s : Structured t work)
    (w : ℕ) (o : own_digit w < length t.definitions) where
  home : get_or work (levels_at + own_digit w) 0 ≡ level_in t.definitions (own_digit w)
  home = s.levels (own_digit w) o

  named : target_digit w < get_or work definition_count_at 0 → target_digit w < length t.definitions
  named a = omega (arith, s.definitions)

  level : target_digit w < get_or work definition_count_at 0
      → get_or work (levels_at + target_digit w) 0 ≡ level_in t.definitions (target_digit w)
  level a = s.levels (target_digit w) (named a)

  pub fits_unknown : get_or work definition_count_at 0 ≤ target_digit w → false ≡ call_word_fits t.definitions w
  unfolding call_word_fits call_fits
  fits_unknown a =
      let k : length t.definitions ≤ target_digit w = omega (arith, s.definitions) in rw (le-ltb _ _ k)

  module _ (a : target_digit w < get_or work definition_count_at 0) where
    pub fits_higher : get_or work (levels_at + own_digit w) 0 < get_or work (levels_at + target_digit w) 0
        → false ≡ call_word_fits t.definitions w
    unfolding call_word_fits call_fits
    fits_higher b =
        let k : level_in t.definitions (own_digit w) < level_in t.definitions (target_digit w)
        = omega (arith, home, level a) in
        rw (lt-ltb _ _ (named a), lt-leb _ _ k)

    module _ (b : get_or work (levels_at + target_digit w) 0 ≤ get_or work (levels_at + own_digit w) 0) where
      lower : level_in t.definitions (target_digit w) ≤ level_in t.definitions (own_digit w)
      lower = omega (arith, home, level a)

      pub fits_beside : parallel_digit w ≡ 1
          → get_or work (levels_at + own_digit w) 0 ≤ get_or work (levels_at + target_digit w) 0
          → false ≡ call_word_fits t.definitions w
      unfolding call_word_fits call_fits
      fits_beside c d =
          let k : level_in t.definitions (own_digit w) ≤ level_in t.definitions (target_digit w)
          = omega (arith, home, level a) in
          rw (lt-ltb _ _ (named a), le-leb _ _ lower, eq-eqb _ _ c, le-ltb _ _ k)

      module _ (c : parallel_digit w ≡ 1
          → get_or work (levels_at + target_digit w) 0 < get_or work (levels_at + own_digit w) 0) where
        strict : parallel_digit w ≡ 1 → level_in t.definitions (target_digit w) < level_in t.definitions (own_digit w)
        strict x = omega (arith, home, level a, c x)

        pub fits_bare : prefixes_digit w ≡ 0 → ltb (target_digit w) (own_digit w) ≡ call_word_fits t.definitions w
        unfolding call_word_fits call_fits
        fits_bare d = rw (lt-ltb _ _ (named a), le-leb _ _ lower, beside_holds _ _ _ strict, d)

        pub fits_under : (prefixes_digit w ≡ 0 → ⊥) → true ≡ call_word_fits t.definitions w
        unfolding call_word_fits call_fits
        fits_under d =
            let z : 0 < prefixes_digit w = omega arith in
            rw (lt-ltb _ _ (named a), le-leb _ _ lower, beside_holds _ _ _ strict, lt-ltb _ _ z)

-- ---- what a node breaks

-- the word of a call fits where the call does
call_word : (t : Table) (n w : ℕ) → WordDigits t n w → (d : ℕ) → term_of t n ≡ call d
    → call_word_fits t.definitions w
    ≡ call_fits t.definitions (level_in t.definitions (node_at t n).spot.own) (node_at t n).spot.own
    (context_of (node_at t n).spot) d
unfolding call_word_fits target_of
call_word t n w g d e =
    let k : target_digit w ≡ d = g.target ∙ ap (target_of t.sets) e in
    rw (g.own, g.parallel, g.prefixes, k)

here_call : (ds : List Definition) (s : Spot) (i : ℕ) (p : Term) (b : Bool) → kind_of p ≡ 5
    → ((d : ℕ) → p ≡ call d → b ≡ call_fits ds (level_in ds s.own) s.own (context_of s) d)
    → wrong_here ds s i p ≡ unless b (suc i)
unfolding wrong_here kind_of
here_call ds s i stop b k e = absurd (omega arith)
here_call ds s i fail b k e = absurd (omega arith)
here_call ds s i (prefix r p) b k e = absurd (omega arith)
here_call ds s i (choice p q) b k e = absurd (omega arith)
here_call ds s i (par r p q) b k e = absurd (omega arith)
here_call ds s i (call d) b k e = rw (e d refl)

ref_kept : (s : Spot) (i : ℕ) (r : SetRef) → parameter_of r ≤ s.prefixes → wrong_ref (context_of s) r (suc i) ≡ none
unfolding wrong_ref param_fits unless
ref_kept s i (fixed m) h = refl
ref_kept s i (family m k) h = rw (lt-ltb k s.prefixes h)

ref_broken : (s : Spot) (i : ℕ) (r : SetRef) → s.prefixes < parameter_of r
    → wrong_ref (context_of s) r (suc i) ≡ some (i + 2)
unfolding wrong_ref param_fits unless
ref_broken s i (fixed m) h = absurd (omega arith)
ref_broken s i (family m k) h =
    let e : suc (suc i) ≡ i + 2 = omega arith in
    let l : s.prefixes ≤ k = omega arith in
    rw (le-ltb k s.prefixes l) (ap some e)

here_kept : (ds : List Definition) (s : Spot) (i : ℕ) (p : Term) → (kind_of p ≡ 5 → ⊥)
    → parameter_of (ref_of p) ≤ s.prefixes → wrong_here ds s i p ≡ none
unfolding wrong_here kind_of ref_of
here_kept ds s i stop k h = refl
here_kept ds s i fail k h = refl
here_kept ds s i (prefix r p) k h = ref_kept s i r h
here_kept ds s i (choice p q) k h = refl
here_kept ds s i (par r p q) k h = ref_kept s i r h
here_kept ds s i (call d) k h = absurd (k refl)

here_broken : (ds : List Definition) (s : Spot) (i : ℕ) (p : Term) → s.prefixes < parameter_of (ref_of p)
    → wrong_here ds s i p ≡ some (i + 2)
unfolding wrong_here ref_of
here_broken ds s i stop h = absurd (omega arith)
here_broken ds s i fail h = absurd (omega arith)
here_broken ds s i (prefix r p) h = ref_broken s i r h
here_broken ds s i (choice p q) h = absurd (omega arith)
here_broken ds s i (par r p q) h = ref_broken s i r h
here_broken ds s i (call d) h = absurd (omega arith)

-- ---- what the code answers of term n

module _ (l work : List ℕ) (j : Judging l work) (n : ℕ) (h : n < term_count (table_in l)) where
  abbrev t : Table
  t = table_in l

  abbrev w : ℕ
  w = get_or work (terms_at + n) 0

  word : WordDigits t n w
  word = digits t work j.fields j.structure n h

  pub word_own : own_digit w < length t.definitions
  word_own = omega (arith, word.own, (home_node t n h).known)

  call_answer : (b : Bool) → kind_digit w ≡ 5 → b ≡ call_word_fits t.definitions w
      → wrong_at t.definitions (node_at t n) ≡ unless b (suc (node_at t n).place)
  unfolding wrong_at term_of
  call_answer b k f =
      here_call t.definitions (node_at t n).spot (node_at t n).place (term_of t n) b (sym word.kind ∙ k)
      (λ d x. f ∙ call_word t n w word d x)

  pub call_kept : kind_digit w ≡ 5 → true ≡ call_word_fits t.definitions w
      → None ≡ bad_reference t n
  unfolding unless
  call_kept k f = rw (call_answer true k f)

  pub param_kept : (kind_digit w ≡ 5 → ⊥) → parameter_digit w ≤ prefixes_digit w
      → None ≡ bad_reference t n
  unfolding wrong_at term_of
  param_kept k x =
      rw (here_kept t.definitions (node_at t n).spot (node_at t n).place (term_of t n) (λ y. k (word.kind ∙ y))
      (omega (arith, word.parameter, word.prefixes)))

  -- its kind stands at place p
  module _ (p : ℕ) (placed : p ≡ (node_at t n).place) where
    pub call_place : p + 1 ≤ length l
    call_place = omega (arith, placed, place_in_list l j.fields n h, some_numbers (term_of t n))

    pub param_place : prefixes_digit w < parameter_digit w → p + 2 ≤ length l
    param_place x =
        let k = long_numbers (term_of t n) (omega (arith, word.parameter)) in
        omega (arith, placed, place_in_list l j.fields n h)

    pub call_broken : kind_digit w ≡ 5 → false ≡ call_word_fits t.definitions w
        → Some (p + 1) ≡ bad_reference t n
    unfolding unless
    call_broken k f =
        let z : p + 1 ≡ suc (node_at t n).place = omega (arith, placed) in rw (call_answer false k f) (ap Some z)

    pub param_broken : prefixes_digit w < parameter_digit w
        → Some (p + 2) ≡ bad_reference t n
    unfolding wrong_at term_of
    param_broken x =
        let z : p + 2 ≡ (node_at t n).place + 2 = omega (arith, placed) in
        rw (here_broken t.definitions (node_at t n).spot (node_at t n).place (term_of t n)
        (omega (arith, word.parameter, word.prefixes))) (ap Some z)

-- ---- what it answers of all terms

pub nowhere_out : (o : Option ℕ) → None ≡ first_of o → o ≡ none
nowhere_out none e = refl
nowhere_out (some i) e = let z : ◌≡◌ {A = ℕ} 0 1 = cc in absurd (omega arith)

broken_out : (o : Option ℕ) (i : ℕ) → Some i ≡ first_of o → o ≡ some i
broken_out none i e = let z : ◌≡◌ {A = ℕ} 0 1 = cc in absurd (omega arith)
broken_out (some k) i e = cc

-- no term below n breaks a rule
abbrev pub NoneBelow : Table → ℕ → Type 0
NoneBelow t n = (k : ℕ) → k < n → wrong_at t.definitions (node_at t k) ≡ none

pub first_broken : (t : Table) (n i : ℕ) → n < term_count t → NoneBelow t n
    → Some i ≡ bad_reference t n → Some i ≡ first_of (first_wrong t)
first_broken t n i h b e = rw (first_wrong_in t n i h b (broken_out (wrong_at t.definitions (node_at t n)) i e))

pub first_nowhere : (t : Table) (n : ℕ) → term_count t ≤ n → NoneBelow t n → None ≡ first_of (first_wrong t)
first_nowhere t n h b = rw (first_wrong_none t (λ k x. b k (omega arith)))
