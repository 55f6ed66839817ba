-- The walks of refusals 7, 8 and 9 find the first test that fails.
--     length_links, length_few                      as many tests as numbers, as terms
--     wrong_first, width_first, branches_first      `first_wrong`, `too_wide`, `too_many_branches`
-- Assumes nothing.
use Prim.Native.Nat.{ℕ, zero, suc, ◌+◌}
use native.Mathlib.Omega.{arith}
use Rattle.std.specs.Prelude.{◌≡◌, Bool, replicate, leb}
use Rattle.std.proofs.Math.Path.{refl, ap, ap₂}
use Rattle.std.proofs.Common.{sym, ◌∙◌}
use Rattle.std.proofs.Math.Bool.{true, false}
use mathlib.Core.List.{List, [], ◌∷◌, ◌++◌, flat_map, map}
use Rattle.std.proofs.Math.Option.{none}
use Rattle.std.proofs.Math.ListN.{length, length-append}
use Rattle.std.proofs.lemmas.List.{length-replicate}
use Rattle.table.specs.First.{or_else, unless, first_false}
use Rattle.table.proofs.FirstLaws.{first_false_append}
use Rattle.table.specs.Table.{SetRef, fixed, family, Term, stop, fail, prefix, choice, par, call, Definition}
use Rattle.table.specs.Table.{Table, size}
use Rattle.table.specs.Context.{Context, outermost, under_prefix, under_parallel}
use Rattle.table.specs.Writing.{set_numbers, ref_numbers, term_numbers, definition_numbers, numbers_of}
use Rattle.table.specs.References.{param_fits, call_fits, wrong_ref, wrong_in, wrong_from, first_wrong}
use Rattle.table.specs.Width.{all_widths, first_above, too_wide}
use Rattle.table.specs.Branches.{branches_with, branches_at, all_branches, follower_above, body_above, too_many_branches}
use Rattle.table.specs.Refusals.{ref_links, term_links, links_from, links, few_in, few_from, few_terms, narrow_levels}

-- ---- the length of links
length_ref_links : (c : Context) (r : SetRef) → length (ref_links c r) ≡ length (ref_numbers r)
unfolding ref_links ref_numbers
length_ref_links c (fixed s) = refl
length_ref_links c (family s k) = refl

two : (a b : List Bool) (x y : List ℕ) → length a ≡ length x → length b ≡ length y → length (a ++ b) ≡ length (x ++ y)
two a b x y p q = length-append a b ∙ ap₂ ◌+◌ p q ∙ sym (length-append x y)

module _ (ds : List Definition) (level own : ℕ) where
  length_term_links : (c : Context) (p : Term) → length (term_links ds level own c p) ≡ length (term_numbers p)
  unfolding term_links term_numbers
  length_term_links c stop = refl
  length_term_links c fail = refl
  length_term_links c (prefix r p) =
      ap suc (two (ref_links c r) (term_links ds level own (under_prefix c) p) (ref_numbers r) (term_numbers p)
      (length_ref_links c r) (length_term_links (under_prefix c) p))
  length_term_links c (choice p q) =
      ap suc (two (term_links ds level own c p) (term_links ds level own c q) (term_numbers p) (term_numbers q)
      (length_term_links c p) (length_term_links c q))
  length_term_links c (par r p q) =
      let u = under_parallel c in
      ap suc (two (ref_links c r) (term_links ds level own u p ++ term_links ds level own u q) (ref_numbers r)
      (term_numbers p ++ term_numbers q) (length_ref_links c r)
      (two (term_links ds level own u p) (term_links ds level own u q) (term_numbers p) (term_numbers q)
      (length_term_links (under_parallel c) p) (length_term_links (under_parallel c) q)))
  length_term_links c (call d) = refl

length_links_from : (ds : List Definition) (own : ℕ) (rest : List Definition)
    → length (links_from ds own rest) ≡ length (flat_map definition_numbers rest)
unfolding links_from flat_map definition_numbers
length_links_from ds own [] = refl
length_links_from ds own (d ∷ rest) =
    two (true ∷ term_links ds d.level own outermost d.body) (links_from ds (suc own) rest)
    (d.level ∷ term_numbers d.body) (flat_map definition_numbers rest)
    (ap suc (length_term_links ds d.level own outermost d.body)) (length_links_from ds (suc own) rest)

pub length_links : (t : Table) → length (links t) ≡ length (numbers_of t)
unfolding links numbers_of
length_links t =
    let s = flat_map set_numbers t.sets in
    let a = length-append (replicate (3 + length s) true) (links_from t.definitions 0 t.definitions) in
    let b = length-replicate (3 + length s) true in
    let c = length_links_from t.definitions 0 t.definitions in
    let d = length-append s (length t.definitions ∷ flat_map definition_numbers t.definitions) in
    omega arith

-- ---- first_wrong (refusal 7)
skip : (i : ℕ) (l : List Bool) → first_false i (true ∷ l) ≡ first_false (suc i) l
unfolding first_false or_else unless
skip i l = refl

ref_first : (c : Context) (r : SetRef) (i : ℕ) → first_false i (ref_links c r) ≡ wrong_ref c r i
unfolding ref_links wrong_ref first_false or_else unless
ref_first c (fixed s) i = unfold param_fits in refl
ref_first c (family s k) i = go (param_fits c (family s k))
  where
    go : (b : Bool) → or_else (unless b (suc i)) none ≡ unless b (suc i)
    go true = refl
    go false = refl

module _ (ds : List Definition) (level own : ℕ) where
  in_first : (c : Context) (i : ℕ) (p : Term) → first_false i (term_links ds level own c p) ≡ wrong_in ds level own c i p
  unfolding term_links wrong_in
  in_first c i stop = unfold first_false or_else unless in refl
  in_first c i fail = unfold first_false or_else unless in refl
  in_first c i (prefix r p) =
      skip i _ ∙ first_false_append (suc i) (ref_links c r) _
      ∙ ap₂ or_else (ref_first c r (suc i))
      (rw (length_ref_links c r) (in_first (under_prefix c) (suc i + length (ref_numbers r)) p))
  in_first c i (choice p q) =
      skip i _ ∙ first_false_append (suc i) (term_links ds level own c p) _
      ∙ ap₂ or_else (in_first c (suc i) p)
      (rw (length_term_links ds level own c p) (in_first c (suc i + length (term_numbers p)) q))
  in_first c i (par r p q) =
      let at = suc i + length (ref_numbers r) in
      let u = under_parallel c in
      skip i _ ∙ first_false_append (suc i) (ref_links c r) _
      ∙ ap₂ or_else (ref_first c r (suc i))
      (rw (length_ref_links c r) (first_false_append at (term_links ds level own u p) _
      ∙ ap₂ or_else (in_first u at p)
      (rw (length_term_links ds level own u p) (in_first u (at + length (term_numbers p)) q))))
  in_first c i (call d) = skip i _ ∙ go (call_fits ds level own c d)
    where
      go : (b : Bool) → first_false (suc i) (b ∷ []) ≡ unless b (suc i)
      go true = unfold first_false or_else unless in refl
      go false = unfold first_false or_else unless in refl

from_first : (ds : List Definition) (own i : ℕ) (rest : List Definition)
    → first_false i (links_from ds own rest) ≡ wrong_from ds own i rest
unfolding links_from wrong_from definition_numbers
from_first ds own i [] = unfold first_false in refl
from_first ds own i (d ∷ rest) =
    let e = ap suc (length_term_links ds d.level own outermost d.body) in
    first_false_append i (true ∷ term_links ds d.level own outermost d.body) _
    ∙ ap₂ or_else (skip i _ ∙ in_first ds d.level own outermost (suc i) d.body)
    (rw e (from_first ds (suc own) (i + suc (length (term_numbers d.body))) rest))

trues : (i n : ℕ) → first_false i (replicate n true) ≡ none
trues i zero = unfold first_false in refl
trues i (suc n) = skip i _ ∙ trues (suc i) n

pub wrong_first : (t : Table) → first_false 0 (links t) ≡ first_wrong t
unfolding links first_wrong or_else
wrong_first t =
    let n = 3 + length (flat_map set_numbers t.sets) in
    let e : 0 + length (replicate n true) ≡ n = omega (arith, length-replicate n true) in
    first_false_append 0 (replicate n true) _
    ∙ ap₂ or_else (trues 0 n) (rw e (from_first t.definitions 0 n t.definitions))

-- ---- too_wide (refusal 8)
width_first' : (i : ℕ) (l : List ℕ) → first_false i (map (λ n. leb n 8) l) ≡ first_above 8 i l
unfolding first_false first_above
width_first' i [] = refl
width_first' i (n ∷ l) = ap (or_else (unless (leb n 8) i)) (width_first' (suc i) l)

pub width_first : (t : Table) → first_false 0 (narrow_levels t) ≡ too_wide t
unfolding narrow_levels too_wide
width_first t = width_first' 0 (all_widths t.definitions)

-- ---- too_many_branches (refusal 9)
module _ (calls : ℕ → ℕ) where
  pub length_few : (p : Term) → suc (length (few_in calls p)) ≡ size p
  unfolding few_in size
  length_few stop = refl
  length_few fail = refl
  length_few (prefix r p) = ap suc (length_few p)
  length_few (choice p q) =
      let a = length-append (true ∷ few_in calls p) (true ∷ few_in calls q) in
      let b = length_few p in
      let c = length_few q in
      omega arith
  length_few (par r p q) =
      let a = length-append (true ∷ few_in calls p) (true ∷ few_in calls q) in
      let b = length_few p in
      let c = length_few q in
      omega arith
  length_few (call d) = refl

  few_first : (n : ℕ) (p : Term) → first_false (suc n) (few_in calls p) ≡ follower_above calls n p
  unfolding few_in follower_above first_false
  few_first n stop = refl
  few_first n fail = refl
  few_first n (prefix r p) = ap (or_else (unless (leb (branches_with calls p) 256) (suc n))) (few_first (suc n) p)
  few_first n (choice p q) =
      first_false_append (suc n) (true ∷ few_in calls p) (true ∷ few_in calls q)
      ∙ ap₂ or_else (skip (suc n) (few_in calls p) ∙ few_first (suc n) p)
      (skip _ (few_in calls q) ∙ rw (length_few p) (few_first (suc n + size p) q))
  few_first n (par r p q) =
      first_false_append (suc n) (true ∷ few_in calls p) (true ∷ few_in calls q)
      ∙ ap₂ or_else (skip (suc n) (few_in calls p) ∙ few_first (suc n) p)
      (skip _ (few_in calls q) ∙ rw (length_few p) (few_first (suc n + size p) q))
  few_first n (call d) = refl

  bodies_first : (n : ℕ) (ds : List Definition) → first_false n (few_from calls ds) ≡ body_above calls n ds
  unfolding few_from body_above first_false
  bodies_first n [] = refl
  bodies_first n (d ∷ ds) =
      let h = unless (leb (branches_with calls d.body) 256) n in
      ap (or_else h)
      (first_false_append (suc n) (few_in calls d.body) (few_from calls ds)
      ∙ ap₂ or_else (few_first n d.body) (same ∙ bodies_first (n + size d.body) ds))
    where
      same : first_false (suc n + length (few_in calls d.body)) (few_from calls ds)
          ≡ first_false (n + size d.body) (few_from calls ds)
      same =
          let e = length_few d.body in
          let k : suc n + length (few_in calls d.body) ≡ n + size d.body = omega arith in
          rw k refl

pub branches_first : (t : Table) → first_false 0 (few_terms t) ≡ too_many_branches t
unfolding few_terms too_many_branches
branches_first t = bodies_first (branches_at (all_branches t.definitions)) 0 t.definitions
