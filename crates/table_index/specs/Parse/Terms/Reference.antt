-- How a set reference is read, one law for each way out of the function that reads it.
--     follows_place                  the place after numbers that were read
--     ref_short, ref_high            there is no number; there is no such set
--     ref_fixed                      a set of kind 0
--     ref_param_short, ref_param_high, ref_family    a set of kind 1, by its parameter
--     ref_place                      the place after a set reference
-- Assumes nothing.
use Rattle.std.specs.Prelude.{ℕ, zero, suc, ◌+◌, ◌/◌, ◌%◌, ◌<◌, ◌≤◌, ◌≡◌, refl, leb}
use native.Mathlib.Omega.{arith}
use Rattle.std.proofs.Common.{sym, ap, ◌∙◌, lt-ltb, le-ltb, le-leb}
use mathlib.Core.List.{List, [], ◌∷◌, flat_map}
use lib.ListN.{length, get_or, take, length-append}
use Rattle.std.proofs.lemmas.Bool.{lt-leb}
use Rattle.table.specs.declared.answer.Refusal.{Refusal}
use Rattle.table.specs.Table.{SetRef, fixed, family, SetDef, one, each}
use Rattle.table.specs.Tokens.{Tokens, token, ended, broken, list_tokens, tokens_at}
use Rattle.table.proofs.Tokens.Laws.{Follows, follows_list}
use Rattle.table.specs.Parser.{Result, got, number, pure, and_then}
use Rattle.table.proofs.Parser.Steps.{number_got, number_off, number_short, then_got, then_stop}
use Rattle.table.specs.Grammar.{ref_of_kind, set_ref}
use Rattle.table.proofs.Grammar.Terms.{ref_sound}
use Rattle.table.specs.Writing.{ref_numbers}
use Rattle.table_index.specs.Layout.{rows_most, sets_at}
use Rattle.table_index.specs.Index.{first_row, kind_of_set, set_word, set_masks, SetsIndexed}
use Rattle.table_index.specs.Parse.{Refuses, ReferenceFound}

-- ---- the place after what was read

abbrev front_place : Tokens → ℕ
front_place (token v at ts) = at
front_place (ended at end) = at
front_place (broken at) = at

front_list : (i : ℕ) (l : List ℕ) → front_place (list_tokens i l) ≡ i
unfolding list_tokens
front_list i [] = refl
front_list i (n ∷ l) = refl

pub follows_place : (l ns : List ℕ) (i j : ℕ) → Follows ns (tokens_at l i) (tokens_at l j) → j ≡ i + length ns
unfolding tokens_at
follows_place l ns i j f =
    let c = follows_list ns i (lib.ListN.drop i l) (list_tokens j (lib.ListN.drop j l)) f in
    sym (front_list j (lib.ListN.drop j l)) ∙ ap front_place c.stream ∙ front_list (i + length ns) c.more

-- ---- a set reference

module _ (sets : List SetDef) (l : List ℕ) (i : ℕ) where
  pub ref_short : (r : Refusal) → length l ≤ i → i ≤ length l → r.number ≡ 3 → r.place ≡ length l
      → Refuses (set_ref sets (tokens_at l i)) r
  unfolding set_ref
  ref_short r a b e f =
      let z : i ≡ length l = omega arith in
      let g : r.place ≡ i = omega arith in
      rw (e, g) (then_stop _ _ _ (number_short _ l i z))

  pub ref_high : (r : Refusal) → i < length l → length sets ≤ get_or l i 0 → r.number ≡ 5 → r.place ≡ i
      → Refuses (set_ref sets (tokens_at l i)) r
  unfolding set_ref
  ref_high r a b e f =
      rw (e, f) (then_stop _ _ _ (number_off _ l i a (le-ltb (get_or l i 0) (length sets) b)))

  ref_known : (r : Result SetRef) → i < length l → get_or l i 0 < length sets
      → ref_of_kind (get_or l i 0) (get_or sets (get_or l i 0) (one [])) (tokens_at l (i + 1)) ≡ r
      → set_ref sets (tokens_at l i) ≡ r
  unfolding set_ref
  ref_known r a b h = then_got _ _ _ (number_got _ l i a (lt-ltb (get_or l i 0) (length sets) b)) h

kind_one : (s : ℕ) (d : SetDef) (ts : Tokens) → kind_of_set d ≡ 0 → ref_of_kind s d ts ≡ got (fixed s) ts
unfolding kind_of_set ref_of_kind pure
kind_one s (one r) ts h = refl
kind_one s (each rs) ts h = absurd (omega arith)

kind_each : (s : ℕ) (d : SetDef) (ts : Tokens) (r : Result SetRef) → kind_of_set d ≡ 1
    → and_then (number (λ k. leb k 3)) (λ k. pure (family s k)) ts ≡ r → ref_of_kind s d ts ≡ r
unfolding kind_of_set ref_of_kind
kind_each s (one x) ts r h k = absurd (omega arith)
kind_each s (each rs) ts r h k = k

kind_most : (d : SetDef) → kind_of_set d ≤ 1
unfolding kind_of_set
kind_most (one r) = omega arith
kind_most (each rs) = omega arith

first_row_most : (s : ℕ) (sets : List SetDef) → first_row sets s ≤ length (flat_map set_masks sets)
unfolding first_row flat_map
first_row_most zero sets = omega arith
first_row_most (suc s) [] = omega arith
first_row_most (suc s) (d ∷ sets) =
    let a = length-append (set_masks d) (flat_map set_masks (take s sets)) in
    let b = length-append (set_masks d) (flat_map set_masks sets) in
    let h = first_row_most s sets in
    omega arith

-- a set's word in two parts
module _ (A : ℕ) (sets : List SetDef) (w : List ℕ) (x : SetsIndexed A sets w) (s : ℕ) (b : s < length sets) where
  set_row : get_or w (sets_at + s) 0 / 2 ≡ first_row sets s
  unfolding set_word
  set_row =
      let e = x.words s b in
      let k = kind_most (get_or sets s (one [])) in
      omega arith

  set_kind : get_or w (sets_at + s) 0 % 2 ≡ kind_of_set (get_or sets s (one []))
  unfolding set_word
  set_kind =
      let e = x.words s b in
      let k = kind_most (get_or sets s (one [])) in
      omega arith

  set_row_few : first_row sets s ≤ rows_most
  set_row_few = let a = x.rows_few in let b = first_row_most s sets in omega arith

module _ (A : ℕ) (sets : List SetDef) (l w : List ℕ) (i : ℕ) (x : SetsIndexed A sets w) (a : i < length l)
    (b : get_or l i 0 < length sets) where
  pub ref_fixed : (t j : ℕ) → get_or w (sets_at + get_or l i 0) 0 % 2 ≡ 0 → t ≡ get_or w (sets_at + get_or l i 0) 0 / 2
      → j ≡ i + 1 → ReferenceFound sets l i t 0 j
  ref_fixed t j k e f =
      let s = get_or l i 0 in
      let row' = set_row A sets w x s b in
      let kind' = set_kind A sets w x s b in
      let few = set_row_few A sets w x s b in
      record {
        reference = fixed s;
        parsed = rw f (ref_known sets l i _ a b (kind_one s (get_or sets s (one [])) (tokens_at l (i + 1)) (omega arith)));
        row = e ∙ row';
        row_few = omega arith;
        digit = refl;
        digit_few = omega arith;
        within = omega arith;
      }

  module _ (k : get_or w (sets_at + get_or l i 0) 0 % 2 ≡ 0 → ⊥) where
    ref_more : (r : Result SetRef)
        → and_then (number (λ k. leb k 3)) (λ k. pure (family (get_or l i 0) k)) (tokens_at l (i + 1)) ≡ r
        → set_ref sets (tokens_at l i) ≡ r
    ref_more r h =
        let s = get_or l i 0 in
        let kind' = set_kind A sets w x s b in
        let m = kind_most (get_or sets s (one [])) in
        let one' : kind_of_set (get_or sets s (one [])) ≡ 1 = omega arith in
        ref_known sets l i r a b (kind_each s (get_or sets s (one [])) (tokens_at l (i + 1)) r one' h)

    pub ref_param_short : (r : Refusal) → length l ≤ i + 1 → r.number ≡ 3 → r.place ≡ length l
        → Refuses (set_ref sets (tokens_at l i)) r
    ref_param_short r c e f =
        let g : r.place ≡ i + 1 = omega arith in
        rw (e, g) (ref_more _ (then_stop _ _ _ (number_short _ l (i + 1) (omega arith))))

    pub ref_param_high : (r : Refusal) → i + 1 < length l → 3 < get_or l (i + 1) 0 → r.number ≡ 5 → r.place ≡ i + 1
        → Refuses (set_ref sets (tokens_at l i)) r
    ref_param_high r c h e f =
        rw (e, f) (ref_more _ (then_stop _ _ _ (number_off _ l (i + 1) c (lt-leb (get_or l (i + 1) 0) 3 h))))

    pub ref_family : (t p j : ℕ) → i + 1 < length l → get_or l (i + 1) 0 ≤ 3
        → t ≡ get_or w (sets_at + get_or l i 0) 0 / 2 → p ≡ suc (get_or l (i + 1) 0) → j ≡ i + 1 + 1
        → ReferenceFound sets l i t p j
    unfolding pure
    ref_family t p j c h e f g =
        let s = get_or l i 0 in
        let row' = set_row A sets w x s b in
        let few = set_row_few A sets w x s b in
        record {
          reference = family s (get_or l (i + 1) 0);
          parsed =
              rw g (ref_more _ (then_got _ _ _ (number_got _ l (i + 1) c (le-leb (get_or l (i + 1) 0) 3 h)) refl));
          row = e ∙ row';
          row_few = omega arith;
          digit = f;
          digit_few = omega arith;
          within = omega arith;
        }

-- the place after a set reference
pub ref_place : (sets : List SetDef) (l : List ℕ) (i t p j : ℕ) (f : ReferenceFound sets l i t p j)
    → j ≡ i + length (ref_numbers f.reference)
ref_place sets l i t p j f =
    follows_place l (ref_numbers f.reference) i j
    (ref_sound sets (tokens_at l i) (tokens_at l j) f.reference f.parsed).1
