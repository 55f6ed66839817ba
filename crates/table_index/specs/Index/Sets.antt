-- Masks of rows, and the index of the sets as sets are added behind it.
--     mask_snoc, mask_under          one more event in a row; a mask below a power stays below the next
--     first_low .. second_high       the two words of a power of 2
--     first_add, second_add          the two words of a mask with one event more
--     masks_snoc, word_kept, word_last   one more set: the masks, the words before it, its own word
--     indexed_none, indexed_snoc     no sets; one more set, its rows and its word stored
--     indexed_kept                   the sets stay indexed where their words are kept
-- Assumes nothing.
use Rattle.std.specs.Prelude.{ℕ, suc, ◌+◌, ◌*◌, ◌^◌, ◌-◌, ◌<◌, ◌≤◌, ◌≡◌, get_or, set}
use native.Mathlib.Omega.{arith}
use Rattle.std.proofs.Math.Nat.{two-pow-succ}
use Rattle.std.proofs.Common.{add-one, ◌∙◌, length-append, get_or-append-add, get_or-set_same, get_or-set_other, pow-add, shr_lt}
use Rattle.std.proofs.Math.Decide.{dec_lt}
use Rattle.std.proofs.Math.Path.{refl, sym, ap}
use mathlib.Core.List.{List, [], ◌∷◌, ◌++◌, append_assoc, append-nil, flat_map}
use Rattle.std.proofs.Math.ListN.{length, get_or-append}
use Rattle.std.proofs.lemmas.List.{take-append-le}
use Rattle.std.proofs.Math.Seq.{take-append_seam, get_or-append_seam}
use Rattle.std.proofs.Math.Pow.{pow_mono, pow-lt}
use Rattle.table.specs.Table.{SetDef, one}
use Rattle.table.specs.Rows.{large_above, RowsFit}
use Rattle.table_index.specs.Layout.{rows_most, word_events, second_at, terms_at, sets_at}
use Rattle.table_index.specs.Index.{mask_of, first_word, second_word, set_masks, kind_of_set, first_row, set_word}
use Rattle.table_index.specs.Index.{SetsIndexed}

-- ---- masks

pub mask_snoc : (es : List ℕ) (e : ℕ) → mask_of (es ++ (e ∷ [])) ≡ mask_of es + 2 ^ e
unfolding mask_of
mask_snoc [] e = omega arith
mask_snoc (x ∷ es) e = let h = mask_snoc es e in omega arith

pub mask_under : (m low e : ℕ) → m < 2 ^ low → low ≤ e → m + 2 ^ e < 2 ^ (e + 1)
mask_under m low e h k =
    let p : 2 ^ low ≤ 2 ^ e = pow_mono k in
    rw (add-one e, two-pow-succ e) (omega arith)

-- ---- the two words

power_small : (e : ℕ) → e < word_events → 2 ^ e < 2 ^ word_events
power_small e h = pow-lt h

power_large : (e : ℕ) → word_events ≤ e → 2 ^ e ≡ 2 ^ (e - word_events) * 2 ^ word_events
power_large e h =
    let s : e ≡ e - word_events + word_events = omega arith in
    ap (λ (x : ℕ). 2 ^ x) s ∙ pow-add 2 (e - word_events) word_events

pub first_low : (e : ℕ) → e < word_events → first_word (2 ^ e) ≡ 2 ^ e
unfolding first_word
first_low e h = let p = power_small e h in omega arith

pub first_high : (e : ℕ) → word_events ≤ e → first_word (2 ^ e) ≡ 0
unfolding first_word
first_high e h = let p = power_large e h in omega arith

pub second_low : (e : ℕ) → e < word_events → second_word (2 ^ e) ≡ 0
unfolding second_word
second_low e h = let p = power_small e h in omega arith

pub second_high : (e : ℕ) → word_events ≤ e → second_word (2 ^ e) ≡ 2 ^ (e - word_events)
unfolding second_word
second_high e h = let p = power_large e h in omega arith

module _ (m low e : ℕ) (h : m < 2 ^ low) (k : low ≤ e) where
  below : m < 2 ^ e
  below = let p : 2 ^ low ≤ 2 ^ e = pow_mono k in omega arith

  first_by : Dec (e < word_events) → first_word (m + 2 ^ e) ≡ first_word m + first_word (2 ^ e)
  unfolding first_word
  first_by (yes l) =
      let s : e + 1 ≤ word_events = omega arith in
      let p : 2 ^ (e + 1) ≤ 2 ^ word_events = pow_mono s in
      let q = mask_under m low e h k in
      omega arith
  first_by (no l) = let p = power_large e (omega arith) in omega arith

  second_by : Dec (e < word_events) → second_word (m + 2 ^ e) ≡ second_word m + second_word (2 ^ e)
  unfolding second_word
  second_by (yes l) =
      let s : e + 1 ≤ word_events = omega arith in
      let p : 2 ^ (e + 1) ≤ 2 ^ word_events = pow_mono s in
      let q = mask_under m low e h k in
      omega arith
  second_by (no l) = let p = power_large e (omega arith) in omega arith

  pub first_add : first_word (m + 2 ^ e) ≡ first_word m + first_word (2 ^ e)
  first_add = first_by (dec_lt e word_events)

  pub second_add : second_word (m + 2 ^ e) ≡ second_word m + second_word (2 ^ e)
  second_add = second_by (dec_lt e word_events)

pub first_word_lem : (m : ℕ) → first_word m < 2 ^ 64
unfolding first_word
first_word_lem m = omega arith

pub second_word_lem : (m : ℕ) → m < 2 ^ 128 → second_word m < 2 ^ 64
unfolding second_word
second_word_lem m h = shr_lt 64 64 h

-- ---- one more set

module _ (sets : List SetDef) (v : SetDef) where
  pub masks_snoc : flat_map set_masks (sets ++ (v ∷ [])) ≡ flat_map set_masks sets ++ set_masks v
  unfolding flat_map
  masks_snoc = go sets
    where
      go : (xs : List SetDef) → flat_map set_masks (xs ++ (v ∷ [])) ≡ flat_map set_masks xs ++ set_masks v
      go [] = append-nil (set_masks v)
      go (x ∷ xs) =
          ap (λ (l : List ℕ). set_masks x ++ l) (go xs)
          ∙ sym (append_assoc (set_masks x) (flat_map set_masks xs) (set_masks v))

  pub word_kept : (s : ℕ) → s < length sets → set_word (sets ++ (v ∷ [])) s ≡ set_word sets s
  unfolding set_word first_row
  word_kept s h =
      let k : s ≤ length sets = omega arith in
      rw (take-append-le s sets (v ∷ []) k, get_or-append sets (v ∷ []) (one []) s h) refl

  pub word_last : set_word (sets ++ (v ∷ [])) (length sets) ≡ length (flat_map set_masks sets) * 2 + kind_of_set v
  unfolding set_word first_row
  word_last = rw (take-append_seam sets (v ∷ []), get_or-append_seam sets v [] (one [])) refl

-- ---- SetsIndexed

pub indexed_none : (A : ℕ) (w : List ℕ) → SetsIndexed A [] w
unfolding flat_map
indexed_none A w =
    record {
      few = omega arith;
      rows_few = omega arith;
      rows_fit = λ l. omega arith;
      firsts = λ i h. absurd (omega arith);
      seconds = λ l i h. absurd (omega arith);
      words = λ s h. absurd (omega arith);
    }

pub indexed_kept : (A : ℕ) (sets : List SetDef) (w w' : List ℕ)
    → ((x : ℕ) → x < terms_at → get_or w' x 0 ≡ get_or w x 0)
    → ((s : ℕ) → s < 64 → get_or w' (sets_at + s) 0 ≡ get_or w (sets_at + s) 0) → SetsIndexed A sets w → SetsIndexed A sets w'
indexed_kept A sets w w' rows words x =
    let few = x.few in
    let rows_few = x.rows_few in
    record {
      few = few;
      rows_few = rows_few;
      rows_fit = x.rows_fit;
      firsts = λ i h. rows i (omega arith) ∙ x.firsts i h;
      seconds = λ l i h. let f = x.rows_fit l in rows (second_at + i) (omega arith) ∙ x.seconds l i h;
      words = λ s h. words s (omega arith) ∙ x.words s h;
    }

-- w' holds w's words apart from the words of the set's rows, and the set's word is stored behind those before it
module _ (A : ℕ) (sets : List SetDef) (v : SetDef) (w w' : List ℕ) (row s x : ℕ) (before : SetsIndexed A sets w)
    (rows : row ≡ length (flat_map set_masks sets)) (long : length w' ≡ 8192) (count : s ≡ length sets) (few : s < 64)
    (room : row + length (set_masks v) ≤ rows_most) (fit : RowsFit A (row + length (set_masks v)))
    (firsts : (k : ℕ) → k < length (set_masks v) → get_or w' (row + k) 0 ≡ first_word (get_or (set_masks v) k 0))
    (seconds : large_above < A → (k : ℕ) → k < length (set_masks v)
    → get_or w' (second_at + (row + k)) 0 ≡ second_word (get_or (set_masks v) k 0))
    (kept : (y : ℕ) → ((row ≤ y) × (y < row + length (set_masks v)) → ⊥)
    → (large_above < A → (second_at + row ≤ y) × (y < second_at + (row + length (set_masks v))) → ⊥)
    → get_or w' y 0 ≡ get_or w y 0)
    (word : x ≡ row * 2 + kind_of_set v) where
  abbrev all : List ℕ
  all = flat_map set_masks sets ++ set_masks v

  old_mask : (i : ℕ) → i < row → get_or all i 0 ≡ get_or (flat_map set_masks sets) i 0
  old_mask i l = get_or-append (flat_map set_masks sets) (set_masks v) 0 i (omega arith)

  new_mask : (i : ℕ) → row ≤ i → get_or all i 0 ≡ get_or (set_masks v) (i - row) 0
  new_mask i l =
      let f : i ≡ length (flat_map set_masks sets) + (i - row) = omega arith in
      ap (λ (j : ℕ). get_or all j 0) f ∙ get_or-append-add (flat_map set_masks sets) (set_masks v) (i - row) 0

  first_at : (i : ℕ) → i < row + length (set_masks v) → get_or (set w' (sets_at + s) x) i 0 ≡ first_word (get_or all i 0)
  first_at i h =
      get_or-set_other w' (sets_at + s) i x 0 (λ e. omega arith) ∙ go (dec_lt i row)
    where
      go : Dec (i < row) → get_or w' i 0 ≡ first_word (get_or all i 0)
      go (yes l) =
          kept i (λ q. omega arith) (λ m q. let f = fit m in omega arith) ∙ before.firsts i (omega arith)
          ∙ ap first_word (sym (old_mask i l))
      go (no l) =
          let e : i ≡ row + (i - row) = omega arith in
          ap (λ (j : ℕ). get_or w' j 0) e ∙ firsts (i - row) (omega arith)
          ∙ ap first_word (sym (new_mask i (omega arith)))

  second_at_lem : large_above < A → (i : ℕ) → i < row + length (set_masks v)
      → get_or (set w' (sets_at + s) x) (second_at + i) 0 ≡ second_word (get_or all i 0)
  second_at_lem m i h =
      let f = fit m in
      get_or-set_other w' (sets_at + s) (second_at + i) x 0 (λ e. omega arith) ∙ go (dec_lt i row)
    where
      go : Dec (i < row) → get_or w' (second_at + i) 0 ≡ second_word (get_or all i 0)
      go (yes l) =
          let f = fit m in
          kept (second_at + i) (λ q. omega arith) (λ n q. omega arith) ∙ before.seconds m i (omega arith)
          ∙ ap second_word (sym (old_mask i l))
      go (no l) =
          let e : i ≡ row + (i - row) = omega arith in
          ap (λ (j : ℕ). get_or w' (second_at + j) 0) e ∙ seconds m (i - row) (omega arith)
          ∙ ap second_word (sym (new_mask i (omega arith)))

  word_at : (k : ℕ) → k < suc s → get_or (set w' (sets_at + s) x) (sets_at + k) 0 ≡ set_word (sets ++ (v ∷ [])) k
  word_at k h = go (dec_lt k s)
    where
      go : Dec (k < s) → get_or (set w' (sets_at + s) x) (sets_at + k) 0 ≡ set_word (sets ++ (v ∷ [])) k
      go (yes l) =
          get_or-set_other w' (sets_at + s) (sets_at + k) x 0 (λ e. omega arith)
          ∙ kept (sets_at + k) (λ q. omega arith) (λ m q. let f = fit m in omega arith)
          ∙ before.words k (omega arith) ∙ sym (word_kept sets v k (omega arith))
      go (no l) =
          let e : k ≡ s = omega arith in
          let f : k ≡ length sets = omega arith in
          ap (λ (j : ℕ). get_or (set w' (sets_at + s) x) (sets_at + j) 0) e
          ∙ get_or-set_same w' (sets_at + s) x 0 (omega arith) ∙ word
          ∙ ap (λ (j : ℕ). j * 2 + kind_of_set v) rows ∙ sym (word_last sets v)
          ∙ ap (λ (j : ℕ). set_word (sets ++ (v ∷ [])) j) (sym f)

  pub indexed_snoc : SetsIndexed A (sets ++ (v ∷ [])) (set w' (sets_at + s) x)
  indexed_snoc =
      let e = masks_snoc sets v in
      let n = ap (λ (l : List ℕ). length l) e ∙ length-append (flat_map set_masks sets) (set_masks v) in
      let c = length-append sets (v ∷ []) in
      record {
        few = omega arith;
        rows_few = omega arith;
        rows_fit = λ l. let f = fit l in omega arith;
        firsts = λ i h. first_at i (omega arith) ∙ ap (λ (l : List ℕ). first_word (get_or l i 0)) (sym e);
        seconds = λ m i h. second_at_lem m i (omega arith) ∙ ap (λ (l : List ℕ). second_word (get_or l i 0)) (sym e);
        words = λ k h. word_at k (omega arith);
      }
