-- A set, from its kind and its rows.
--     count_one, count_each, count_few   how many rows a set of a kind has; at most as many as there are events
--     over_small, over_large             whether there are too many rows
--     not_over, is_over, rows_fit        what that says of them
--     rows_room                          and then they have room
--     set_short, set_off, set_over       no kind; a kind that is none; one with too many rows
--     set_stop, set_found                a set whose rows are refused; whose rows were read
-- Assumes nothing.
use Prim.Native.Nat.{ℕ, zero, suc, ◌+◌, ◌<◌, ◌≤◌}
use native.Mathlib.Omega.{arith}
use native.Mathlib.Decide.{dec_lt}
use mathlib.Core.Path.{◌≡◌, refl, sym, ap, ◌∙◌, subst}
use mathlib.Core.List.{List, [], ◌∷◌, map}
use lib.ListN.{length, get_or, length-map}
use lib.Dec.{ltb}
use mathlib.Core.Bool.{Bool, true, false, not, false≢true}
use Rattle.numbers.specs.Choice.{true_T}
use borrow.Author.Tests.{le-leb, lt-leb, lt-ltb, le-ltb}
use Rattle.table.specs.declared.answer.Refusal.{Refusal}
use Rattle.std.specs.declared.result.Result.{Result as Answered}
use Rattle.std.specs.declared.result.Result.TheVariants.{Ok, Err}
use Rattle.table.specs.Table.{SetDef, one, each}
use Rattle.table.specs.Tokens.{Tokens, tokens_at}
use Rattle.table.specs.Parser.{Parser, Result, got, refused, pure, next, and_then, number, times}
use Rattle.table.proofs.Parser.Steps.{number_got, number_off, number_short, then_got, then_stop}
use Rattle.table.specs.Rows.{large_above, large_rows_most, row_count, rows_of, RowsFit, rows_fit}
use Rattle.table.proofs.RowLaws.{fits_out, fits_small, fits_large, fits_no}
use Rattle.table.specs.Grammar.{row, set_of_kind, kind_fits, event_set}
use Rattle.table_index.specs.Layout.{rows_most}
use Rattle.table_index.specs.Index.{mask_of, set_masks, kind_of_set}
use Rattle.table_index.specs.Parse.{RowsStored, RowsFound, RowsRead, SetFound}

pub count_one : (k A : ℕ) → k ≡ 0 → 1 ≡ row_count k A
unfolding row_count
count_one zero A e = refl
count_one (suc k) A e = absurd (omega arith)

pub count_each : (k A : ℕ) → (k ≡ 0 → ⊥) → A ≡ row_count k A
unfolding row_count
count_each zero A e = absurd (e refl)
count_each (suc k) A e = refl

pub count_few : (k A n : ℕ) → n ≡ row_count k A → 1 ≤ A → n ≤ A
unfolding row_count
count_few zero A n e h = omega arith
count_few (suc k) A n e h = omega arith

pub over_small : (A n : ℕ) → A ≤ large_above → false ≡ not (rows_fit A n)
over_small A n h = ap not (sym (fits_small A n h))

pub over_large : (A n : ℕ) → large_above < A → ltb large_rows_most n ≡ not (rows_fit A n)
over_large A n h = go (dec_lt large_rows_most n)
  where
    go : Dec (large_rows_most < n) → ltb large_rows_most n ≡ not (rows_fit A n)
    go (yes l) = rw (lt-ltb large_rows_most n l, fits_no A n h l) refl
    go (no l) =
        let k : n ≤ large_rows_most = omega arith in
        rw (le-ltb large_rows_most n k, fits_large A n h k) refl

pub is_over : (x y : Bool) → x ≡ not y → x ≡ true → y ≡ false
is_over x true e h = let z : ◌≡◌ {A = Bool} false true = sym e ∙ h in absurd (false≢true z)
is_over x false e h = refl

pub not_over : (x y : Bool) → x ≡ not y → x ≡ false → y ≡ true
not_over x true e h = refl
not_over x false e h = let z : ◌≡◌ {A = Bool} false true = sym h ∙ e in absurd (false≢true z)

pub rows_fit_lem : (A n : ℕ) → rows_fit A n ≡ true → RowsFit A n
rows_fit_lem A n e = fits_out A n (true_T _ e)

-- the rows of a set behind others have room where they fit
pub rows_room : (A row n : ℕ) → n ≤ A → (A ≤ large_above → row + large_above ≤ rows_most) → RowsFit A (row + n)
    → row + n ≤ rows_most
rows_room A row n b small fit = go (dec_lt large_above A)
  where
    go : Dec (large_above < A) → row + n ≤ rows_most
    go (yes l) = let f = fit l in omega arith
    go (no l) = let s : A ≤ large_above = omega arith in let f = small s in omega arith

-- ---- one row

module _ {A : Type 0} (p : Parser A) (ts : Tokens) where
  pub record Single (xs : List A) (end : Tokens) : Type 0 where
    pub thing : A
    pub whole : xs ≡ thing ∷ []
    pub read : p ts ≡ got thing end

  single : (xs : List A) (end : Tokens) → times 1 p ts ≡ got xs end → Single xs end
  unfolding times and_then next pure
  single xs end e = go (p ts) refl e
    where
      go : (r : Result A) → p ts ≡ r → next r (λ a. and_then (times 0 p) (λ l. pure (a ∷ l))) ≡ got xs end
          → Single xs end
      go (got a mid) f g =
          let h : xs ≡ a ∷ [] = cc in
          let k : mid ≡ end = cc in
          record { thing = a; whole = h; read = f ∙ ap (λ (us : Tokens). got a us) k }
      go (refused n at) f g = let z : ◌≡◌ {A = ℕ} 0 1 = cc in absurd (omega arith)

  single_stop : (n at : ℕ) → times 1 p ts ≡ refused n at → p ts ≡ refused n at
  unfolding times and_then next pure
  single_stop n at e = go (p ts) refl e
    where
      go : (r : Result A) → p ts ≡ r → next r (λ a. and_then (times 0 p) (λ l. pure (a ∷ l))) ≡ refused n at
          → p ts ≡ refused n at
      go (got a mid) f g = let z : ◌≡◌ {A = ℕ} 0 1 = cc in absurd (omega arith)
      go (refused m k) f g =
          let g' : ◌≡◌ {A = Result (List A)} (refused m k) (refused n at) = unfold next in g in
          let x : m ≡ n = cc in
          let y : k ≡ at = cc in
          f ∙ rw (x, y) refl

-- ---- a set of a kind

module _ (A : ℕ) where
  kind_stop : (k n place : ℕ) (ts : Tokens) → times (row_count k A) (row A) ts ≡ refused n place
      → set_of_kind A k ts ≡ refused n place
  unfolding row_count set_of_kind
  kind_stop zero n place ts h = then_stop _ _ _ (single_stop (row A) ts n place h)
  kind_stop (suc k) n place ts h = then_stop _ _ _ h

  pub record OfKind (k : ℕ) (ts end : Tokens) (rows : List (List ℕ)) : Type 0 where
    pub value : SetDef
    pub read : set_of_kind A k ts ≡ got value end
    pub kinds : k ≡ kind_of_set value
    pub counts : row_count k A ≡ rows_of A value
    pub masks : set_masks value ≡ map mask_of rows

  kind_got : (k : ℕ) (ts end : Tokens) (rows : List (List ℕ)) → k ≤ 1 → times (row_count k A) (row A) ts ≡ got rows end
      → OfKind k ts end rows
  unfolding row_count rows_of set_of_kind kind_of_set set_masks pure
  kind_got zero ts end rows b h =
      let x = single (row A) ts rows end h in
      record {
        value = one x.thing;
        read = then_got _ _ _ x.read refl;
        kinds = refl;
        counts = refl;
        masks = ap (λ (rs : List (List ℕ)). map mask_of rs) (sym x.whole);
      }
  kind_got (suc k) ts end rows b h =
      record { value = each rows; read = then_got _ _ _ h refl; kinds = omega arith; counts = refl; masks = refl }

-- ---- a set

module _ (l : List ℕ) (A row₀ at : ℕ) where
  pub set_short : at ≤ length l → length l ≤ at → event_set A row₀ (tokens_at l at) ≡ refused 3 (length l)
  unfolding event_set
  set_short h k =
      let e : at ≡ length l = omega arith in
      then_stop _ _ _ (number_short (kind_fits A row₀) l at e ∙ ap (λ (n : ℕ). refused 3 n) e)

  pub set_off : at < length l → 1 < get_or l at 0 → event_set A row₀ (tokens_at l at) ≡ refused 5 at
  unfolding event_set kind_fits
  set_off h k =
      let e = lt-leb (get_or l at 0) 1 k in
      then_stop _ _ _ (number_off (kind_fits A row₀) l at h (rw e refl))

  module _ (kind : ℕ) (k : kind ≡ get_or l at 0) (b : at < length l) (small : kind ≤ 1) (count : ℕ)
      (c : count ≡ row_count kind A) where
    kind_is : (y : Bool) → rows_fit A (row₀ + count) ≡ y → kind_fits A row₀ (get_or l at 0) ≡ y
    unfolding kind_fits
    kind_is y e =
        rw (← k, le-leb kind 1 small) (ap (λ (n : ℕ). rows_fit A (row₀ + n)) (sym c) ∙ e)

    pub set_over : rows_fit A (row₀ + count) ≡ false → event_set A row₀ (tokens_at l at) ≡ refused 5 at
    unfolding event_set
    set_over e = then_stop _ _ _ (number_off (kind_fits A row₀) l at b (kind_is false e))

    module _ (fits : rows_fit A (row₀ + count) ≡ true) where
      from_kind : {r : Result SetDef} → set_of_kind A kind (tokens_at l (at + 1)) ≡ r → event_set A row₀ (tokens_at l at) ≡ r
      unfolding event_set
      from_kind {r} e =
          then_got _ _ _ (number_got (kind_fits A row₀) l at b (kind_is true fits))
          (subst (λ (n : ℕ). set_of_kind A n (tokens_at l (at + 1)) ≡ r) k e)

      pub set_stop : (w w' : List ℕ) (z : Refusal) (r : Answered ℕ Refusal) → r ≡ Err z
          → RowsRead l A count (at + 1) row₀ w w' r
          → (event_set A row₀ (tokens_at l at) ≡ refused z.number z.place) × (length w' ≡ length w)
      set_stop w w' z r is told =
          let f = subst (λ (y : Answered ℕ Refusal). RowsRead l A count (at + 1) row₀ w w' y) is told in
          let t = tokens_at l (at + 1) in
          let e = subst (λ (m : ℕ). times m (row A) t ≡ refused z.number z.place) c f.0 in
          (from_kind (kind_stop A kind z.number z.place t e), f.1)

      found : (j : ℕ) (w w' : List ℕ) → 1 ≤ A → row₀ + count ≤ rows_most
          → RowsFound l A count (at + 1) row₀ w w' j → SetFound l A at row₀ w w' j kind (row₀ + count)
      found j w w' some room f =
          let r = f.rows in
          let t = tokens_at l (at + 1) in
          let g = subst (λ (m : ℕ). times m (row A) t ≡ got r (tokens_at l j)) c f.parsed in
          let x = kind_got A kind t (tokens_at l j) r small g in
          let n = f.counted in
          let q : length (set_masks x.value) ≡ count =
          ap (λ (ms : List ℕ). length ms) x.masks ∙ length-map r mask_of ∙ n in
          let d = count_few kind A count c some in
          record {
            value = x.value;
            parsed = from_kind x.read;
            kinds = x.kinds;
            counted = q ∙ c ∙ x.counts;
            ends = ap (λ (m : ℕ). row₀ + m) (sym q);
            few = omega arith;
            fit = rows_fit_lem A (row₀ + count) fits;
            room = room;
            words = subst (λ (ms : List ℕ). RowsStored A row₀ ms w w') (sym x.masks) f.words;
            within = f.within;
          }

      pub set_found : (j : ℕ) (w w' : List ℕ) (r : Answered ℕ Refusal) → r ≡ Ok j
          → RowsRead l A count (at + 1) row₀ w w' r → 1 ≤ A → row₀ + count ≤ rows_most
          → SetFound l A at row₀ w w' j kind (row₀ + count)
      set_found j w w' r is told some room =
          found j w w' some room (subst (λ (y : Answered ℕ Refusal). RowsRead l A count (at + 1) row₀ w w' y) is told)
