-- The kind of the set that passes the bound of the rows is refused with 5 (02, W6).
--     rows_are           the rows of sets, counted by kinds, are their rows
--     sets_stop          so many sets, where the first is refused of those that come after some
--     passing_refused    the judgement of a list whose sets pass the bound
-- Assumes nothing.
use Rattle.std.specs.Prelude.{ℕ, zero, suc, ◌+◌, ◌≤◌, ◌<◌, ◌≡◌, Bool, true, false, ◌&&◌, leb}
use native.Mathlib.Omega.{arith}
use Rattle.std.proofs.Math.Path.{refl}
use Rattle.std.proofs.Common.{sym, subst, length-append, le→leb}
use mathlib.Core.List.{List, [], ◌∷◌, ◌++◌, flat_map}
use Rattle.std.proofs.Math.ListN.{length}
use Rattle.numbers.specs.Choice.{both_in}
use Rattle.numbers.specs.Every.{All}
use Rattle.table.specs.Table.{SetDef, one, each, Table}
use Rattle.table.specs.Rows.{alphabet_most, large_above, large_rows_most, row_count, rows_of, rows_in, all_rows, RowsFit}
use Rattle.table.proofs.RowLaws.{fits_no, fit_less}
use Rattle.table.specs.Fields.{FamilyRows, Fields}
use Rattle.table.proofs.Fields.Laws.{fields_in}
use Rattle.table.specs.Tokens.{Tokens, token, list_tokens}
use Rattle.table.proofs.Tokens.Laws.{Follows, follows_split, list_follows}
use Rattle.table.specs.Parser.{refused, number}
use Rattle.table.proofs.Parser.Laws.{then_in, number_in}
use Rattle.table.proofs.Parser.Steps.{then_stop}
use Rattle.table.specs.Grammar.{kind_fits, event_set, event_sets, table}
use Rattle.table.proofs.Grammar.Sets.{SetOk, set_complete}
use Rattle.table.specs.Writing.{set_numbers}
use Rattle.table.specs.Judge.{declined, judge_read, judge, sized, judge_list}

pub rows_are : (A : ℕ) (ss : List SetDef) → All (FamilyRows A) ss → rows_in A ss ≡ length (all_rows ss)
unfolding rows_in rows_of all_rows
rows_are A [] h = refl
rows_are A (one r ∷ ss) h = let e = rows_are A ss h.1 in omega arith
rows_are A (each rs ∷ ss) h =
    let e = rows_are A ss h.1 in
    let n = length-append rs (all_rows ss) in
    let f = h.0 in
    omega arith

-- the first sets are read, the next is refused
pub sets_stop : (A c n : ℕ) (ts mid : Tokens) (ss : List SetDef) (k at : ℕ) → All (SetOk A) ss
    → RowsFit A (n + rows_in A ss) → Follows (flat_map set_numbers ss) ts mid → length ss < c
    → event_set A (n + rows_in A ss) mid ≡ refused k at → event_sets A c n ts ≡ refused k at
unfolding event_sets flat_map rows_in
sets_stop A zero n ts mid ss k at w fit f b e = absurd (omega arith)
sets_stop A (suc c) n ts mid [] k at w fit f b e =
    let z : n + 0 ≡ n = omega arith in
    then_stop _ _ _ (rw (f, ← z) e)
sets_stop A (suc c) n ts mid (s ∷ ss) k at w fit f b e =
    let x = follows_split (set_numbers s) (flat_map set_numbers ss) ts mid f in
    let z : n + (rows_of A s + rows_in A ss) ≡ n + rows_of A s + rows_in A ss = omega arith in
    then_in _ _ ts x.middle s _
    (set_complete A n ts x.middle s (w.0, fit_less A _ _ (omega arith) fit) x.front)
    (then_stop _ _ _
    (sets_stop A c (n + rows_of A s) x.middle mid ss k at w.1 (subst (RowsFit A) z fit) x.back (omega arith)
    (subst (λ (m : ℕ). event_set A m mid ≡ refused k at) z e)))

and_false : (b : Bool) → (b && false) ≡ false
and_false true = refl
and_false false = refl

set_passing : (A n k at : ℕ) (ts : Tokens) → large_above < A → large_rows_most < n + row_count k A
    → event_set A n (token k at ts) ≡ refused 5 at
unfolding event_set number kind_fits
set_passing A n k at ts h o =
    then_stop _ _ _ (rw (fits_no A (n + row_count k A) h o, and_false (leb k 1)) refl)

module _ (t : Table) (c k : ℕ) (more : List ℕ) (f : Fields t) (large : large_above < t.alphabet)
    (some : length t.sets < c) (few : c ≤ 64)
    (over : large_rows_most < length (all_rows t.sets) + row_count k t.alphabet) where
  abbrev numbers : List ℕ
  numbers = flat_map set_numbers t.sets

  sets_refused : event_sets t.alphabet c 0 (list_tokens 2 (numbers ++ (k ∷ more))) ≡ refused 5 (2 + length numbers)
  unfolding list_tokens
  sets_refused =
      let A = t.alphabet in
      let e = rows_are A t.sets f.family_rows in
      let z : 0 + rows_in A t.sets ≡ rows_in A t.sets = omega arith in
      sets_stop A c 0 (list_tokens 2 (numbers ++ (k ∷ more))) (list_tokens (2 + length numbers) (k ∷ more)) t.sets 5
      (2 + length numbers) (fields_in t f).sets (subst (RowsFit A) (sym z) f.rows_most)
      (list_follows 2 numbers (k ∷ more)) some
      (set_passing A (0 + rows_in A t.sets) k (2 + length numbers) (list_tokens (suc (2 + length numbers)) more) large
      (omega arith))

  stopped : table (list_tokens 0 (t.alphabet ∷ c ∷ (numbers ++ (k ∷ more)))) ≡ refused 5 (2 + length numbers)
  unfolding table list_tokens
  stopped =
      let A = t.alphabet in
      let R = list_tokens 2 (numbers ++ (k ∷ more)) in
      then_in _ _ _ (token c 1 R) A _
      (number_in _ (token A 0 (token c 1 R)) (token c 1 R) A
      (both_in (leb 1 A) (leb A alphabet_most) (le→leb 1 A f.alphabet_least)
      (le→leb A alphabet_most f.alphabet_most_lem))
      (refl, refl))
      (then_in _ _ _ R c _ (number_in _ (token c 1 R) R c (le→leb c 64 few) (refl, refl))
      (then_stop _ _ _ sets_refused))

  pub passing_refused : judge_list (t.alphabet ∷ c ∷ (numbers ++ (k ∷ more))) ≡ declined 5 (2 + length numbers)
  unfolding judge_list sized judge judge_read
  passing_refused = rw stopped refl
