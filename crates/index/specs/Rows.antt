-- Rows as masks, and where the words of a set reference's row stand (01, "Numbers and table": "row v is the set for
-- parameter v").
--     mask_bit                 bit e of an ascending row's mask says whether the row has e
--     first_bit, second_bit    bit e of a mask is a bit of its first word, or of its second
--     RowAt                    the words of a row
--     fixed_row, family_row    the words of a reference's row, by the kind of its set
-- Assumes nothing.
use Rattle.std.specs.Prelude.{ℕ, zero, suc, ◌+◌, ◌*◌, ◌/◌, ◌%◌, ◌^◌, ◌-◌, ◌<◌, ◌≤◌, ◌≡◌, refl, true, false, length, get_or, take, eqb}
use native.Mathlib.Omega.{arith}
use Rattle.std.proofs.Common.{add_comm, zero-mul, one-mul, add-mul, mul_assoc, sym, ap, ◌∙◌, get_or-append-add, pow-add, shr-shr, eq-eqb, ne_eqb}
use Rattle.std.proofs.Math.Nat.{zero-div, pow-succ'}
use Rattle.std.proofs.Math.Decide.{dec_lt}
use mathlib.Core.List.{List, [], ◌∷◌, flat_map}
use Rattle.std.proofs.Math.ListN.{length-append, get_or-append, get_or-map}
use Rattle.std.proofs.lemmas.List.{length-map}
use Rattle.std.proofs.Math.Pow.{pow-lt, high, field, mod-mod-pow}
use Rattle.std.proofs.lemmas.Nat.{shl-shr}
use Rattle.numbers.specs.Every.{All, all_imp, all_at}
use Rattle.table.specs.Table.{SetRef, fixed, family, SetDef, one, each, Table}
use Rattle.table.specs.Fields.{Ascending, EachRow, FamilyRows, IsOne, IsEach, RefExists, Fields}
use Rattle.table.specs.Rows.{alphabet_most, large_above, RowsFit}
use Rattle.table.proofs.RowLaws.{fit_less}
use Rattle.table.specs.Node.{parameter_of}
use Rattle.table.specs.Member.{elem, row_in, set_of, row_of}
use Rattle.table_index.specs.Layout.{rows_most, word_events, second_at, terms_at}
use Rattle.table_index.specs.Index.{mask_of, first_word, second_word, set_masks, first_row, SetsIndexed}

-- ---- masks

-- the mask of a row from x on is a multiple of 2 ^ x
mask_multiple : (x : ℕ) (row : List ℕ) → All (λ f. x ≤ f) row → (k : ℕ) × (mask_of row ≡ k * 2 ^ x)
unfolding mask_of
mask_multiple x [] h = (0, sym (zero-mul (2 ^ x)))
mask_multiple x (f ∷ fs) h =
    let (k, e) = mask_multiple x fs h.1 in
    let s : f ≡ (f - x) + x = omega (arith, h.0) in
    (2 ^ (f - x) + k, rw (e, add-mul) (ap (λ (y : ℕ). y + k * 2 ^ x) (ap (λ (y : ℕ). 2 ^ y) s ∙ pow-add 2 (f - x) x)))

-- a row that begins after e has no bit e
mask_none : (e : ℕ) (row : List ℕ) → All (λ f. e < f) row → mask_of row / 2 ^ e % 2 ≡ 0
mask_none e row h =
    let (k, m) = mask_multiple (suc e) row h in
    let p : k * 2 ^ suc e ≡ k * 2 * 2 ^ e = rw pow-succ' (sym (mul_assoc k 2 (2 ^ e))) in
    let q : mask_of row / 2 ^ e ≡ k * 2 = rw (m, p) (shl-shr (k * 2) e) in
    omega arith

elem_none : (e : ℕ) (row : List ℕ) → All (λ f. e < f) row → elem e row ≡ false
unfolding elem
elem_none e [] h = refl
elem_none e (f ∷ fs) h =
    let l = h.0 in
    let n : eqb e f ≡ false = ne_eqb e f (λ z. omega arith) in
    rw (n, elem) (elem_none e fs h.1)

-- before the multiples of 2 ^ suc x, 2 ^ x has bit x and no higher one
own_bit : (k x : ℕ) → (2 ^ x + k * 2 ^ suc x) / 2 ^ x % 2 ≡ 1
own_bit k x =
    let p : 2 ^ x + k * 2 ^ suc x ≡ (1 + k * 2) * 2 ^ x =
    rw (pow-succ', add-mul, one-mul) (ap (λ (y : ℕ). 2 ^ x + y) (sym (mul_assoc k 2 (2 ^ x)))) in
    let q : (2 ^ x + k * 2 ^ suc x) / 2 ^ x ≡ 1 + k * 2 = rw p (shl-shr (1 + k * 2) x) in
    omega arith

higher_bit : (k x e : ℕ) → x < e → (2 ^ x + k * 2 ^ suc x) / 2 ^ e ≡ k * 2 ^ suc x / 2 ^ e
higher_bit k x e h =
    let j = e - suc x in
    let s : e ≡ suc x + j = omega arith in
    let d : (n : ℕ) → n / 2 ^ e ≡ n / 2 ^ suc x / 2 ^ j =
    λ n. ap (λ (y : ℕ). n / 2 ^ y) s ∙ sym (shr-shr n (suc x) j) in
    let a : (2 ^ x + k * 2 ^ suc x) / 2 ^ suc x ≡ k =
    ap (λ (y : ℕ). y / 2 ^ suc x) (add_comm (2 ^ x) (k * 2 ^ suc x)) ∙ high k (suc x) (pow-lt (omega arith)) in
    d (2 ^ x + k * 2 ^ suc x)
    ∙ ap (λ (y : ℕ). y / 2 ^ j) (a ∙ sym (shl-shr k (suc x)))
    ∙ sym (d (k * 2 ^ suc x))

pub mask_bit : (row : List ℕ) → Ascending row → (e : ℕ) → eqb (mask_of row / 2 ^ e % 2) 1 ≡ elem e row
unfolding mask_of elem
mask_bit [] h e = rw (zero-div (2 ^ e)) refl
mask_bit (x ∷ xs) h e = go (mask_bit xs h.1 e) (dec_lt e x) (dec_lt x e)
  where
    go : eqb (mask_of xs / 2 ^ e % 2) 1 ≡ elem e xs → Dec (e < x) → Dec (x < e)
        → eqb (mask_of (x ∷ xs) / 2 ^ e % 2) 1 ≡ elem e (x ∷ xs)
    go ih (yes l) _ =
        let a : All (λ f. e < f) (x ∷ xs) = (l, all_imp (λ f. x < f) (λ f. e < f) (λ f m. omega arith) xs h.0) in
        ap (λ (y : ℕ). eqb y 1) (mask_none e (x ∷ xs) a) ∙ sym (elem_none e (x ∷ xs) a)
    go ih (no l) (yes m) =
        let (k, p) = mask_multiple (suc x) xs h.0 in
        let n : eqb e x ≡ false = ne_eqb e x (λ z. omega arith) in
        let q : (2 ^ x + mask_of xs) / 2 ^ e ≡ mask_of xs / 2 ^ e = rw p (higher_bit k x e m) in
        rw (n, elem) (ap (λ (y : ℕ). eqb (y % 2) 1) q ∙ ih)
    go ih (no l) (no m) =
        let (k, p) = mask_multiple (suc x) xs h.0 in
        let s : e ≡ x = omega arith in
        let n : eqb e x ≡ true = eq-eqb e x s in
        let q : (2 ^ x + mask_of xs) / 2 ^ e % 2 ≡ 1 = rw (s, p) (own_bit k x) in
        rw (n, elem) (eq-eqb _ 1 q)

-- ---- the two words

pub first_bit : (m e : ℕ) → e < word_events → first_word m / 2 ^ e % 2 ≡ m / 2 ^ e % 2
unfolding first_word
first_bit m e h =
    let j = 63 - e in
    let s : word_events ≡ j + 1 + e = omega arith in
    let f : m % 2 ^ word_events / 2 ^ e ≡ m / 2 ^ e % 2 ^ (j + 1) =
    ap (λ (y : ℕ). m % 2 ^ y / 2 ^ e) s ∙ field m (j + 1) e in
    let g : m / 2 ^ e % 2 ^ (j + 1) % 2 ^ 1 ≡ m / 2 ^ e % 2 ^ 1 = mod-mod-pow (m / 2 ^ e) j 1 in
    ap (λ (y : ℕ). y % 2) f ∙ g

pub second_bit : (m e : ℕ) → word_events ≤ e → second_word m / 2 ^ (e - word_events) % 2 ≡ m / 2 ^ e % 2
unfolding second_word
second_bit m e h =
    let s : word_events + (e - word_events) ≡ e = omega arith in
    ap (λ (y : ℕ). y % 2) (shr-shr m word_events (e - word_events) ∙ ap (λ (y : ℕ). m / 2 ^ y) s)

-- ---- rows of sets

first_next : (d : SetDef) (sets : List SetDef) (s : ℕ)
    → first_row (d ∷ sets) (suc s) ≡ length (set_masks d) + first_row sets s
unfolding first_row flat_map
first_next d sets s = length-append (set_masks d) (flat_map set_masks (take s sets))

-- the mask of row v of set s stands v after the set's first row
mask_at : (sets : List SetDef) (s v : ℕ) → s < length sets → v < length (set_masks (get_or sets s (one [])))
    → (first_row sets s + v < length (flat_map set_masks sets))
    × (get_or (flat_map set_masks sets) (first_row sets s + v) 0 ≡ get_or (set_masks (get_or sets s (one []))) v 0)
unfolding flat_map
mask_at [] s v h l = absurd (omega arith)
mask_at (d ∷ sets) zero v h l =
    unfold first_row in
    let z : 0 + v ≡ v = omega arith in (
      omega (arith, length-append (set_masks d) (flat_map set_masks sets)),
      rw z (get_or-append (set_masks d) (flat_map set_masks sets) 0 v l),
    )
mask_at (d ∷ sets) (suc s) v h l =
    let (b, e) = mask_at sets s v (omega arith) l in
    let z : first_row (d ∷ sets) (suc s) + v ≡ length (set_masks d) + (first_row sets s + v) =
    omega (arith, first_next d sets s) in (
      omega (arith, length-append (set_masks d) (flat_map set_masks sets)),
      rw z (get_or-append-add (set_masks d) (flat_map set_masks sets) (first_row sets s + v) 0 ∙ e),
    )

mask_of_lem : (d : SetDef) (v : ℕ) → v < length (set_masks d) → get_or (set_masks d) v 0 ≡ mask_of (row_in d v)
unfolding set_masks row_in
mask_of_lem (one r) zero h = refl
mask_of_lem (one r) (suc v) h = absurd (omega arith)
mask_of_lem (each rs) v h = unfold mask_of in get_or-map mask_of rs v []

ordered : (d : SetDef) (v : ℕ) → EachRow Ascending d → v < length (set_masks d) → Ascending (row_in d v)
unfolding set_masks row_in
ordered (one r) v h l = h
ordered (each rs) v h l = all_at Ascending [] rs v h (omega (arith, length-map rs mask_of))

-- the words of row i of an alphabet of size A: their bits are the events of the row
pub record RowAt (A : ℕ) (w : List ℕ) (i : ℕ) (row : List ℕ) : Type 0 where
  pub inside : (e : ℕ) → e < A → i + e / word_events * second_at < terms_at
  pub bit : (e : ℕ) → e < A
      → eqb (get_or w (i + e / word_events * second_at) 0 / 2 ^ (e % word_events) % 2) 1 ≡ elem e row

-- from the words of a mask
module _ (A : ℕ) (w : List ℕ) (i m : ℕ) (row : List ℕ) (most : A ≤ alphabet_most) (few : i < rows_most)
    (fit : RowsFit A (i + 1)) (first : get_or w i 0 ≡ first_word m)
    (second : large_above < A → get_or w (second_at + i) 0 ≡ second_word m)
    (bits : (e : ℕ) → eqb (m / 2 ^ e % 2) 1 ≡ elem e row) where
  inside_by : (e : ℕ) → e < A → Dec (e < word_events) → i + e / word_events * second_at < terms_at
  inside_by e l (yes k) = omega arith
  inside_by e l (no k) = let f = fit (omega arith) in omega arith

  bit_by : (e : ℕ) → e < A → Dec (e < word_events)
      → eqb (get_or w (i + e / word_events * second_at) 0 / 2 ^ (e % word_events) % 2) 1 ≡ elem e row
  bit_by e l (yes k) =
      let z : i + e / word_events * second_at ≡ i = omega arith in
      let y : e % word_events ≡ e = omega arith in
      rw (z, y, first) (ap (λ (x : ℕ). eqb x 1) (first_bit m e k) ∙ bits e)
  bit_by e l (no k) =
      let z : i + e / word_events * second_at ≡ second_at + i = omega arith in
      let y : e % word_events ≡ e - word_events = omega arith in
      rw (z, y, second (omega arith)) (ap (λ (x : ℕ). eqb x 1) (second_bit m e (omega arith)) ∙ bits e)

  row_words : RowAt A w i row
  row_words =
      record {
        inside = λ e l. inside_by e l (dec_lt e word_events);
        bit = λ e l. bit_by e l (dec_lt e word_events);
      }

row_at : (t : Table) (w : List ℕ) → Fields t → SetsIndexed t.alphabet t.sets w → (s v : ℕ)
    → s < length t.sets
    → v < length (set_masks (get_or t.sets s (one [])))
    → RowAt t.alphabet w (first_row t.sets s + v) (row_in (get_or t.sets s (one [])) v)
row_at t w f x s v h l =
    let d = get_or t.sets s (one []) in
    let i = first_row t.sets s + v in
    let (b, e) = mask_at t.sets s v h l in
    let m = e ∙ mask_of_lem d v l in
    let o = ordered d v (all_at (EachRow Ascending) (one []) t.sets s f.row_order h) l in
    row_words t.alphabet w i (mask_of (row_in d v)) (row_in d v) f.alphabet_most_lem (omega (arith, x.rows_few))
    (fit_less t.alphabet (i + 1) _ (omega arith) x.rows_fit) (x.firsts i b ∙ ap first_word m)
    (λ large. x.seconds large i b ∙ ap second_word m) (mask_bit (row_in d v) o)

-- ---- rows of references

one_rows : (d : SetDef) (v : ℕ) → IsOne d → (length (set_masks d) ≡ 1) × (row_in d 0 ≡ row_in d v)
unfolding set_masks row_in
one_rows (one r) v h = (refl, refl)
one_rows (each rs) v h = absurd h

each_rows : (A : ℕ) (d : SetDef) → IsEach d → FamilyRows A d → length (set_masks d) ≡ A
unfolding set_masks
each_rows A (one r) h k = absurd h
each_rows A (each rs) h k = length-map rs mask_of ∙ k

-- a reference to a set of kind 0 reads the set's only row
pub fixed_row : (t : Table) (w : List ℕ) → Fields t → SetsIndexed t.alphabet t.sets w → (r : SetRef)
    → RefExists t.sets r
    → parameter_of r ≡ 0 → (v : ℕ) → RowAt t.alphabet w (first_row t.sets (set_of r)) (row_of t r v)
unfolding row_of
fixed_row t w f x (fixed s) h p v =
    let d = get_or t.sets s (one []) in
    let (n, e) = one_rows d v h.1 in
    let z : first_row t.sets s + 0 ≡ first_row t.sets s = omega arith in
    rw (← e, ← z) (row_at t w f x s 0 h.0 (omega arith))
fixed_row t w f x (family s k) h p v = absurd (omega arith)

-- one to a set of kind 1 reads row v
pub family_row : (t : Table) (w : List ℕ) → Fields t → SetsIndexed t.alphabet t.sets w → (r : SetRef)
    → RefExists t.sets r
    → (parameter_of r ≡ 0 → ⊥) → (v : ℕ) → v < t.alphabet
    → RowAt t.alphabet w (first_row t.sets (set_of r) + v) (row_of t r v)
unfolding row_of
family_row t w f x (fixed s) h p v l = absurd (p refl)
family_row t w f x (family s k) h p v l =
    let d = get_or t.sets s (one []) in
    let a = all_at (FamilyRows t.alphabet) (one []) t.sets s f.family_rows h.0 in
    let n = each_rows t.alphabet d h.1 a in
    row_at t w f x s v h.0 (omega arith)
