-- What a front needs.
--     missing_over, missing_some, missing_none            what is missing of a table, by its length
--     wanted_value, wanted_truncated, wanted_malformed    by what is read at its start
--     wanted_decided                                      a front that needs nothing is decided
--     wanted_cut                                          one that needs more is cut short
--     fronts_first, fronts_more                           no bytes; no more than it needs
-- Assumes nothing.
use Rattle.std.specs.Prelude.{ℕ, ◌+◌, ◌-◌, ◌≤◌, ◌<◌, ◌≡◌, refl, List, [], ◌∷◌, ◌++◌, length, take, drop}
use Rattle.std.proofs.Common.{arith, subst, ◌∙◌, append-nil, length-append, length-drop, lt-ltb, le-ltb}
use Rattle.std.proofs.Math.Decide.{dec_lt}
use Rattle.std.proofs.Math.Path.{ap, sym}
use Rattle.std.specs.declared.result.Result.TheVariants.{Ok, Err}
use Rattle.numbers.specs.declared.Reading.{Reading}
use Rattle.numbers.specs.declared.ReadError.TheVariants.{Truncated, Malformed}
use Rattle.numbers.specs.Number.{Scan, value, truncated, malformed, scan_with, read_number}
use Rattle.numbers.specs.Position.{read_at}
use Rattle.numbers.specs.Position.Laws.{value_read, truncated_read, malformed_read}
use Rattle.line_spec.specs.Line.{Head, parts, wrong, cut, head_by, head_of}
use Rattle.line_spec.proofs.Line.Laws.{cut_over, cut_missing, cut_there}
use Rattle.line_spec.proofs.Line.Heads.{value_more, truncated_short}
use Rattle.trace_spec.specs.Reads.{Decided, table_there, length_over, length_loose}
use Rattle.trace_front.specs.Wanted.{missing_of, wanted_by, wanted_of, Fronts, CutShort}
use Rattle.trace_front.specs.Wanted.Scans.{truncated_last}

-- ---- what is missing of a table

module _ (v k : ℕ) where
  pub missing_over : 16384 < v → 0 ≡ missing_of v k
  unfolding missing_of
  missing_over h = rw (lt-ltb 16384 v h)

  pub missing_some : v ≤ 16384 → v - k ≡ missing_of v k
  unfolding missing_of
  missing_some h = rw (le-ltb 16384 v h)

  pub missing_none : v ≤ 16384 → v ≤ k → 0 ≡ missing_of v k
  missing_none h l = let z : 0 ≡ v - k = omega arith in z ∙ missing_some h

-- ---- by what is read

module _ (s : List ℕ) where
  pub wanted_value : (x : Reading) (r : ℕ) → Ok x ≡ read_at s 0 → r ≡ missing_of x.value (length s - x.next)
      → r ≡ wanted_of s
  unfolding wanted_of wanted_by
  wanted_value x r e h =
      h ∙ ap (missing_of x.value) (sym (length-drop x.next s)) ∙ sym (ap wanted_by (value_read s 0 x e).scan)

  pub wanted_within : (x : Reading) → Ok x ≡ read_at s 0 → x.next ≤ length s
  wanted_within x e = (value_read s 0 x e).within

  pub wanted_truncated : Err Truncated ≡ read_at s 0 → 1 ≡ wanted_of s
  unfolding wanted_of wanted_by
  wanted_truncated e = sym (ap wanted_by (truncated_read s 0 e))

  pub wanted_malformed : Err Malformed ≡ read_at s 0 → 0 ≡ wanted_of s
  unfolding wanted_of wanted_by
  wanted_malformed e = sym (ap wanted_by (malformed_read s 0 e))

-- ---- a front that needs nothing

pub wanted_decided : (s : List ℕ) → wanted_of s ≡ 0 → Decided s
unfolding wanted_of wanted_by head_of head_by
wanted_decided s h = by (read_number s) refl
  where
    by : (x : Scan) → read_number s ≡ x → Decided s
    by truncated e = absurd (omega (arith, sym (ap wanted_by e) ∙ h))
    by malformed e = length_loose (ap head_by e)
    by (value v n rest) e = sized (dec_lt 16384 v)
      where
        none : missing_of v (length rest) ≡ 0
        none = sym (ap wanted_by e) ∙ h

        sized : Dec (16384 < v) → Decided s
        sized (yes l) = length_over (ap head_by e ∙ cut_over v rest l)
        sized (no l) =
            let few : v ≤ 16384 = omega arith in
            let there : v ≤ length rest = omega (arith, missing_some v (length rest) few ∙ none) in
            table_there (take v rest) (drop v rest) (ap head_by e ∙ cut_there v rest few there)

pub wanted_cut : (s : List ℕ) → 0 < wanted_of s → CutShort s
unfolding wanted_of wanted_by head_of head_by
wanted_cut s h = by (read_number s) refl
  where
    by : (x : Scan) → read_number s ≡ x → CutShort s
    by truncated e = record { place = 0; head = ap head_by e }
    by malformed e = absurd (omega (arith, ap wanted_by e))
    by (value v n rest) e = sized (dec_lt 16384 v)
      where
        some : missing_of v (length rest) ≡ wanted_of s
        some = sym (ap wanted_by e)

        sized : Dec (16384 < v) → CutShort s
        sized (yes l) = absurd (omega (arith, missing_over v (length rest) l ∙ some))
        sized (no l) =
            let few : v ≤ 16384 = omega arith in
            let short : length rest < v = omega (arith, missing_some v (length rest) few ∙ some) in
            record { place = length rest; head = ap head_by e ∙ cut_missing v rest few short }

-- ---- a front that got no more than it needed

no_parts : {X : Type 0} {y : Head} {n p : ℕ} {bs es : List ℕ} → y ≡ wrong n p → y ≡ parts bs es → X
no_parts e f = absurd (let z : ◌≡◌ {A = ℕ} 0 1 = cc in omega arith)

drop_none : (n : ℕ) (s : List ℕ) → length s ≤ n → drop n s ≡ []
drop_none n s h = by (drop n s) refl
  where
    by : (x : List ℕ) → drop n s ≡ x → drop n s ≡ []
    by [] e = e
    by (y ∷ ys) e = absurd (omega (arith, length-drop n s, ap length e))

-- the table of v bytes is there just whole, or not yet
cut_bare : (v : ℕ) (rest : List ℕ) → length rest ≤ v → (bs es : List ℕ) → cut v rest ≡ parts bs es → es ≡ []
cut_bare v rest h bs es e = by (dec_lt 16384 v) (dec_lt (length rest) v)
  where
    by : Dec (16384 < v) → Dec (length rest < v) → es ≡ []
    by (yes l) k = no_parts (cut_over v rest l) e
    by (no l) (yes k) = no_parts (cut_missing v rest (omega arith) k) e
    by (no l) (no k) =
        let f : parts (take v rest) (drop v rest) ≡ parts bs es =
        sym (cut_there v rest (omega arith) (omega arith)) ∙ e in
        let g : es ≡ drop v rest = cc in
        g ∙ drop_none v rest (omega arith)

cut_front : (s : List ℕ) (v n : ℕ) (rest : List ℕ) → read_number s ≡ value v n rest → length rest ≤ v
    → length s + missing_of v (length rest) ≤ 16387 → Fronts s
unfolding wanted_of wanted_by head_of head_by
cut_front s v n rest e h k =
    record {
      room = subst (λ (x : ℕ). length s + x ≤ 16387) (sym (ap wanted_by e)) k;
      bare = λ bs es f. cut_bare v rest h bs es (sym (ap head_by e) ∙ f);
    }

missing_few : (v k : ℕ) → missing_of v k ≤ 16384
missing_few v k = by (dec_lt 16384 v)
  where
    by : Dec (16384 < v) → missing_of v k ≤ 16384
    by (yes l) = omega (arith, missing_over v k l)
    by (no l) = omega (arith, missing_some v k (omega arith))

-- up to three bytes, of which a number takes the last, if it is found
short_front : (s : List ℕ) → length s ≤ 3 → ((v n : ℕ) (rest : List ℕ) → read_number s ≡ value v n rest → rest ≡ [])
    → Fronts s
unfolding wanted_of wanted_by head_of head_by
short_front s h last = by (read_number s) refl
  where
    by : (x : Scan) → read_number s ≡ x → Fronts s
    by truncated e =
        record {
          room = subst (λ (x : ℕ). length s + x ≤ 16387) (sym (ap wanted_by e)) (omega arith);
          bare = λ bs es f. no_parts (ap head_by e) f;
        }
    by malformed e =
        record {
          room = subst (λ (x : ℕ). length s + x ≤ 16387) (sym (ap wanted_by e)) (omega arith);
          bare = λ bs es f. no_parts (ap head_by e) f;
        }
    by (value v n rest) e =
        let z : length rest ≡ 0 = ap length (last v n rest e) in
        cut_front s v n rest e (omega arith) (omega (arith, missing_few v (length rest)))

pub fronts_first : Fronts []
unfolding read_number scan_with
fronts_first = short_front [] (omega arith) (λ v n rest e. none v n rest e)
  where
    none : (v n : ℕ) (rest : List ℕ) → read_number [] ≡ value v n rest → rest ≡ []
    none v n rest e = absurd (let z : ◌≡◌ {A = ℕ} 0 1 = cc in omega arith)

-- the number goes on: one byte more
truncated_more : (s : List ℕ) (x : ℕ) → read_number s ≡ truncated → Fronts (s ++ (x ∷ []))
truncated_more s x e =
    let l = length-append s (x ∷ []) in
    short_front (s ++ (x ∷ [])) (omega (arith, truncated_short s e)) (λ v n rest f. truncated_last s x v n rest e f)

-- the number is found: no more than is missing of the table
value_table : (s t : List ℕ) (v n : ℕ) (rest : List ℕ) → read_number s ≡ value v n rest
    → length s + missing_of v (length rest) ≤ 16387 → length t ≤ missing_of v (length rest) → 0 < length t
    → Fronts (s ++ t)
value_table s t v n rest e room h some =
    let l = length-append s t in
    let m = length-append rest t in
    by l m (dec_lt 16384 v)
  where
    by : length (s ++ t) ≡ length s + length t → length (rest ++ t) ≡ length rest + length t → Dec (16384 < v)
        → Fronts (s ++ t)
    by l m (yes i) = absurd (omega (arith, missing_over v (length rest) i))
    by l m (no i) =
        let few : v ≤ 16384 = omega arith in
        let x = missing_some v (length rest) few in
        let y = missing_some v (length (rest ++ t)) few in
        cut_front (s ++ t) v n (rest ++ t) (value_more s t v n rest e) (omega arith) (omega arith)

pub fronts_more : (s t : List ℕ) → Fronts s → length t ≤ wanted_of s → Fronts (s ++ t)
unfolding wanted_of wanted_by
fronts_more s [] f h = subst Fronts (sym (append-nil s)) f
fronts_more s (x ∷ t) f h = by (read_number s) refl
  where
    by : (y : Scan) → read_number s ≡ y → Fronts (s ++ (x ∷ t))
    by malformed e = absurd (omega (arith, ap wanted_by e))
    by truncated e = one t (omega (arith, ap wanted_by e))
      where
        one : (u : List ℕ) → length u ≤ 0 → Fronts (s ++ (x ∷ u))
        one [] i = truncated_more s x e
        one (z ∷ u) i = absurd (omega arith)
    by (value v n rest) e =
        let room = f.room in
        let w = ap wanted_by e in
        value_table s (x ∷ t) v n rest e (omega arith) (omega arith) (omega arith)
