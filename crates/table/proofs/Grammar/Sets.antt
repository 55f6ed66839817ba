-- The grammar of sets: what `event_set` reads is what would be written, within its bounds, and the other way.
--     Run, RowOk, SetOk           events, a row, a set within the bounds
--     row_sound, row_complete     a row
--     SetIn                       and after so many rows
--     set_sound, set_complete     a set
--     sets_sound, sets_complete   so many sets
-- Assumes nothing.
use Rattle.std.specs.Prelude.{ℕ, zero, suc, ◌+◌, ◌≤◌, ◌<◌, ◌≡◌, refl, length, leb, ltb}
use Rattle.std.proofs.Common.{arith, sym, ap, subst, leb→le, le→leb, ltb→lt, lt→ltb}
use mathlib.Core.List.{List, [], ◌∷◌, flat_map}
use Rattle.numbers.specs.Choice.{both, both_in}
use Rattle.numbers.specs.Every.{All}
use Rattle.table.specs.Table.{SetDef, one, each}
use Rattle.table.specs.Rows.{row_count, rows_of, rows_in, RowsFit, rows_fit}
use Rattle.table.proofs.RowLaws.{fits_out, fits_in, fit_less}
use Rattle.table.specs.Tokens.{Tokens}
use Rattle.table.proofs.Tokens.Laws.{Follows, follows_split, follows_join}
use Rattle.table.specs.Parser.{got, pure}
use Rattle.table.proofs.Parser.Laws.{pure_out, then_out, then_in, number_out, number_in, Sound, Complete}
use Rattle.table.proofs.Parser.Laws.{times_sound, times_complete}
use Rattle.table.specs.Grammar.{events, row, set_of_kind, kind_fits, event_set, event_sets}
use Rattle.table.specs.Writing.{row_numbers, set_numbers}

-- ---- rows

-- events below A, ascending, none below low
abbrev pub Run : ℕ → ℕ → List ℕ → Type 0
Run A low [] = Unit
Run A low (e ∷ es) = (low ≤ e) × (e < A) × Run A (suc e) es

pub record ReadEvents (A n low : ℕ) (es : List ℕ) (ts rest : Tokens) : Type 0 where
  pub count : length es ≡ n
  pub run : Run A low es
  pub follows : Follows es ts rest

pub events_sound : (A n low : ℕ) (ts rest : Tokens) (es : List ℕ) → events A n low ts ≡ got es rest
    → ReadEvents A n low es ts rest
unfolding events
events_sound A zero low ts rest es h =
    pure_out (λ x us. ReadEvents A zero low x ts us) [] es ts rest h (record { count = refl; run = tt; follows = refl })
events_sound A (suc n) low ts rest es h =
    let a = then_out _ _ ts es rest h in
    let b = then_out _ _ a.middle es rest a.after in
    let e = a.first in
    let one = number_out _ ts a.middle e a.before in
    let ok = both (leb low e) (ltb e A) one.0 in
    let more = events_sound A n (suc e) a.middle b.middle b.first b.before in
    pure_out (λ x us. ReadEvents A (suc n) low x ts us) (e ∷ b.first) es b.middle rest b.after
    (record {
      count = ap suc more.count;
      run = (leb→le low e ok.0, ltb→lt e A ok.1, more.run);
      follows = follows_join (e ∷ []) b.first ts a.middle b.middle one.1 more.follows;
    })

pub events_complete : (A low : ℕ) (ts rest : Tokens) (es : List ℕ) → Run A low es → Follows es ts rest
    → events A (length es) low ts ≡ got es rest
unfolding events pure
events_complete A low ts rest [] h k = rw k refl
events_complete A low ts rest (e ∷ es) h k =
    let s = follows_split (e ∷ []) es ts rest k in
    then_in _ _ ts s.middle e _
    (number_in _ ts s.middle e (both_in (leb low e) (ltb e A) (le→leb low e h.0) (lt→ltb e A h.1)) s.front)
    (then_in _ _ s.middle rest es _ (events_complete A (suc e) s.middle rest es h.2 s.back) refl)

abbrev pub RowOk : ℕ → List ℕ → Type 0
RowOk A r = (length r ≤ A) × Run A 0 r

pub row_sound : (A : ℕ) → Sound (row A) (RowOk A) row_numbers
unfolding row row_numbers
row_sound A ts rest r h =
    let a = then_out _ _ ts r rest h in
    let c = a.first in
    let one = number_out _ ts a.middle c a.before in
    let more = events_sound A c 0 a.middle rest r a.after in (
      (rw more.count (leb→le c A one.0), more.run),
      subst (λ (n : ℕ). Follows (n ∷ r) ts rest) (sym more.count)
          (follows_join (c ∷ []) r ts a.middle rest one.1 more.follows),
    )

pub row_complete : (A : ℕ) → Complete (row A) (RowOk A) row_numbers
unfolding row row_numbers
row_complete A ts rest r h k =
    let s = follows_split (length r ∷ []) r ts rest k in
    then_in _ _ ts s.middle (length r) _
    (number_in _ ts s.middle (length r) (le→leb (length r) A h.0) s.front)
    (events_complete A 0 s.middle rest r h.1 s.back)

-- ---- sets
abbrev pub SetOk : ℕ → SetDef → Type 0
SetOk A (one r) = RowOk A r
SetOk A (each rs) = (length rs ≡ A) × All (RowOk A) rs

-- a set after n rows
abbrev pub SetIn : ℕ → ℕ → SetDef → Type 0
SetIn A n s = SetOk A s × RowsFit A (n + rows_of A s)

kind_sound : (A n k : ℕ) → k ≤ 1 → RowsFit A (n + row_count k A) → (ts mid rest : Tokens) (s : SetDef)
    → Follows (k ∷ []) ts mid
    → set_of_kind A k mid ≡ got s rest
    → SetIn A n s × Follows (set_numbers s) ts rest
unfolding set_of_kind set_numbers row_count rows_of
kind_sound A n zero b w ts mid rest s f h =
    let a = then_out _ _ mid s rest h in
    let r = row_sound A mid a.middle a.first a.before in
    pure_out (λ x us. SetIn A n x × Follows (set_numbers x) ts us) _ s a.middle rest a.after
    ((r.0, w), follows_join (0 ∷ []) (row_numbers a.first) ts mid a.middle f r.1)
kind_sound A n (suc k) b w ts mid rest s f h =
    let e : suc k ≡ 1 = omega arith in
    let a = then_out _ _ mid s rest h in
    let r = times_sound (row A) (RowOk A) row_numbers (row_sound A) A mid a.middle a.first a.before in
    pure_out (λ x us. SetIn A n x × Follows (set_numbers x) ts us) _ s a.middle rest a.after (
      ((r.count, r.within), w),
      follows_join (1 ∷ []) (flat_map row_numbers a.first) ts mid a.middle
          (subst (λ (n : ℕ). Follows (n ∷ []) ts mid) e f) r.follows,
    )

pub set_sound : (A n : ℕ) → Sound (event_set A n) (SetIn A n) set_numbers
unfolding event_set kind_fits
set_sound A n ts rest s h =
    let a = then_out _ _ ts s rest h in
    let k = a.first in
    let one = number_out _ ts a.middle k a.before in
    let ok = both (leb k 1) (rows_fit A (n + row_count k A)) one.0 in
    kind_sound A n k (leb→le k 1 ok.0) (fits_out A (n + row_count k A) ok.1) ts a.middle rest s one.1
    a.after

pub set_complete : (A n : ℕ) → Complete (event_set A n) (SetIn A n) set_numbers
unfolding event_set kind_fits set_of_kind set_numbers row_count rows_of pure
set_complete A n ts rest (one r) h k =
    let s = follows_split (0 ∷ []) (row_numbers r) ts rest k in
    then_in _ _ ts s.middle 0 _ (number_in _ ts s.middle 0 (fits_in A (n + 1) h.1) s.front)
    (then_in _ _ s.middle rest r _ (row_complete A s.middle rest r h.0 s.back) refl)
set_complete A n ts rest (each rs) h k =
    let s = follows_split (1 ∷ []) (flat_map row_numbers rs) ts rest k in
    let rows = times_complete (row A) (RowOk A) row_numbers (row_complete A) s.middle rest rs h.0.1 s.back in
    then_in _ _ ts s.middle 1 _ (number_in _ ts s.middle 1 (fits_in A (n + A) h.1) s.front)
    (then_in _ _ s.middle rest rs _ (rw h.0.0 at rows) refl)

-- ---- so many sets

pub record ReadSets (A c n : ℕ) (ss : List SetDef) (ts rest : Tokens) : Type 0 where
  pub count : length ss ≡ c
  pub within : All (SetOk A) ss
  pub fit : RowsFit A n → RowsFit A (n + rows_in A ss)
  pub follows : Follows (flat_map set_numbers ss) ts rest

pub sets_sound : (A c n : ℕ) (ts rest : Tokens) (ss : List SetDef) → event_sets A c n ts ≡ got ss rest
    → ReadSets A c n ss ts rest
unfolding event_sets flat_map rows_in
sets_sound A zero n ts rest ss h =
    pure_out (λ x us. ReadSets A zero n x ts us) [] ss ts rest h (record {
      count = refl;
      within = tt;
      fit = λ f. fit_less A (n + 0) n (omega arith) f;
      follows = refl;
    })
sets_sound A (suc c) n ts rest ss h =
    let a = then_out _ _ ts ss rest h in
    let b = then_out _ _ a.middle ss rest a.after in
    let s = a.first in
    let one = set_sound A n ts a.middle s a.before in
    let more = sets_sound A c (n + rows_of A s) a.middle b.middle b.first b.before in
    pure_out (λ x us. ReadSets A (suc c) n x ts us) (s ∷ b.first) ss b.middle rest b.after
    (record {
      count = ap suc more.count;
      within = (one.0.0, more.within);
      fit = λ f. fit_less A _ _ (omega arith) (more.fit one.0.1);
      follows =
          follows_join (set_numbers s) (flat_map set_numbers b.first) ts a.middle b.middle one.1
          more.follows;
    })

pub sets_complete : (A n : ℕ) (ts rest : Tokens) (ss : List SetDef) → All (SetOk A) ss → RowsFit A (n + rows_in A ss)
    → Follows (flat_map set_numbers ss) ts rest → event_sets A (length ss) n ts ≡ got ss rest
unfolding event_sets flat_map rows_in pure
sets_complete A n ts rest [] w c f = rw f refl
sets_complete A n ts rest (s ∷ ss) w c f =
    let k = follows_split (set_numbers s) (flat_map set_numbers ss) ts rest f in
    then_in _ _ ts k.middle s _
    (set_complete A n ts k.middle s (w.0, fit_less A _ _ (omega arith) c) k.front)
    (then_in _ _ k.middle rest ss _
    (sets_complete A (n + rows_of A s) k.middle rest ss w.1 (fit_less A _ _ (omega arith) c) k.back) refl)
