-- One pass over the windows of a list: what stands at a position, and what each definition says of the rest.
--     drop_pair, drop_short                  two numbers more, and none
--     good_next, good_bad, good_done         good_from, at a position
--     some_not, some_is, some_last           some_window, by cases
--     gap_next, gap_found, gap_done          some_window of the gaps
--     pair_found, pair_next, pair_none       some_window, by pairs that are taken off the front
-- Assumes nothing.
use Rattle.std.specs.Prelude.{ℕ, suc, ◌+◌, ◌≤◌, ◌<◌, ◌≡◌, Bool, true, ◌&&◌, ◌||◌, List, [], ◌∷◌, ◌++◌, ◌⊎◌, drop}
use Rattle.std.proofs.Common.{arith, ◌∙◌, inl, inr, drop_of_length-le, drop-cons, eq-eqb, ne_eqb}
use Rattle.std.proofs.Math.Decide.{dec_lt}
use Rattle.std.proofs.Math.Path.{refl, sym, ap}
use Rattle.std.proofs.Math.Bool.{false, or-false}
use Rattle.std.proofs.Math.ListN.{length, get_or}
use Rattle.std.proofs.Math.Dec.{eqb}
use Rattle.timetable_spec.specs.Timetable.{week, good_window, good_from, some_window, gaps_from}
use Rattle.timetable_spec.proofs.Timetable.Laws.{gaps_none, gaps_odd, gaps_pair}

-- ---- what stands at a position
module _ (w : List ℕ) (i : ℕ) where
  pub drop_pair : i + 1 < length w → drop i w ≡ get_or w i 0 ∷ get_or w (i + 1) 0 ∷ drop (i + 2) w
  drop_pair h =
      let one : suc i ≡ i + 1 = omega arith in
      let two : suc (i + 1) ≡ i + 2 = omega arith in
      drop-cons w i 0 (omega arith)
      ∙ ap (λ (l : List ℕ). get_or w i 0 ∷ l)
      (ap (λ (n : ℕ). drop n w) one ∙ drop-cons w (i + 1) 0 h
      ∙ ap (λ (n : ℕ). get_or w (i + 1) 0 ∷ drop n w) two)

  -- none or one is left
  pub drop_short : length w ≤ i + 1 → (length w ≤ i) ⊎ ((i < length w) × (drop i w ≡ get_or w i 0 ∷ []))
  drop_short h = by (dec_lt i (length w))
    where
      by : Dec (i < length w) → (length w ≤ i) ⊎ ((i < length w) × (drop i w ≡ get_or w i 0 ∷ []))
      by (yes k) =
          let e = drop_of_length-le w {i = suc i} (omega arith) in
          inr (k, drop-cons w i 0 k ∙ ap (λ (l : List ℕ). get_or w i 0 ∷ l) e)
      by (no k) = inl (omega arith)

-- ---- good_from
module _ (w : List ℕ) (floor i : ℕ) where
  module _ (h : i + 1 < length w) where
    pub good_next : good_window floor (get_or w i 0) (get_or w (i + 1) 0) ≡ true
        → good_from floor (drop i w) ≡ good_from (get_or w (i + 1) 0) (drop (i + 2) w)
    unfolding good_from
    good_next e =
        ap (good_from floor) (drop_pair w i h)
        ∙ ap (λ (t : Bool). t && good_from (get_or w (i + 1) 0) (drop (i + 2) w)) e

    pub good_bad : good_window floor (get_or w i 0) (get_or w (i + 1) 0) ≡ false → good_from floor (drop i w) ≡ false
    unfolding good_from
    good_bad e =
        ap (good_from floor) (drop_pair w i h)
        ∙ ap (λ (t : Bool). t && good_from (get_or w (i + 1) 0) (drop (i + 2) w)) e

  pub good_done : i ≤ length w → length w ≤ i + 1 → good_from floor (drop i w) ≡ eqb i (length w)
  unfolding good_from
  good_done k h = by (drop_short w i h)
    where
      by : (length w ≤ i) ⊎ ((i < length w) × (drop i w ≡ get_or w i 0 ∷ []))
          → good_from floor (drop i w) ≡ eqb i (length w)
      by (inl l) = ap (good_from floor) (drop_of_length-le w l) ∙ sym (eq-eqb i (length w) (omega arith))
      by (inr l) =
          let x = l.0 in
          ap (good_from floor) l.1 ∙ sym (ne_eqb i (length w) (λ e. omega arith))

-- ---- some_window
module _ (t : ℕ → ℕ → Bool) where
  pub some_not : (a b : ℕ) (w : List ℕ) → t a b ≡ false → some_window t (a ∷ b ∷ w) ≡ some_window t w
  unfolding some_window
  some_not a b w e = ap (λ (x : Bool). x || some_window t w) e

  pub some_is : (a b : ℕ) (w : List ℕ) → t a b ≡ true → some_window t (a ∷ b ∷ w) ≡ true
  unfolding some_window
  some_is a b w e = ap (λ (x : Bool). x || some_window t w) e

  pub some_last : (a b : ℕ) → some_window t (a ∷ b ∷ []) ≡ t a b
  unfolding some_window
  some_last a b = or-false (t a b)

-- ---- some_window of the gaps, from the end of the window before
module _ (t : ℕ → ℕ → Bool) (w : List ℕ) (end i : ℕ) where
  module _ (h : i + 1 < length w) where
    pub gap_next : t end (get_or w i 0) ≡ false
        → some_window t (gaps_from end (drop i w)) ≡ some_window t (gaps_from (get_or w (i + 1) 0) (drop (i + 2) w))
    gap_next e =
        ap (λ (l : List ℕ). some_window t (gaps_from end l)) (drop_pair w i h)
        ∙ ap (some_window t) (gaps_pair end _ _ _) ∙ some_not t _ _ _ e

    pub gap_found : t end (get_or w i 0) ≡ true → some_window t (gaps_from end (drop i w)) ≡ true
    gap_found e =
        ap (λ (l : List ℕ). some_window t (gaps_from end l)) (drop_pair w i h)
        ∙ ap (some_window t) (gaps_pair end _ _ _) ∙ some_is t _ _ _ e

  pub gap_done : length w ≤ i + 1 → some_window t (gaps_from end (drop i w)) ≡ t end week
  gap_done h = by (drop_short w i h)
    where
      by : (length w ≤ i) ⊎ ((i < length w) × (drop i w ≡ get_or w i 0 ∷ []))
          → some_window t (gaps_from end (drop i w)) ≡ t end week
      by (inl l) =
          ap (λ (x : List ℕ). some_window t (gaps_from end x)) (drop_of_length-le w l)
          ∙ ap (some_window t) (gaps_none end) ∙ some_last t end week
      by (inr l) =
          ap (λ (x : List ℕ). some_window t (gaps_from end x)) l.1
          ∙ ap (some_window t) (gaps_odd end (get_or w i 0)) ∙ some_last t end week

-- ---- by pairs that are taken off the front
module _ (t : ℕ → ℕ → Bool) where
  pair_front : (x rest : List ℕ) → length x ≡ 2
      → some_window t (x ++ rest) ≡ (t (get_or x 0 0) (get_or x 1 0) || some_window t rest)
  unfolding some_window
  pair_front [] rest e = absurd (omega arith)
  pair_front (a ∷ []) rest e = absurd (omega arith)
  pair_front (a ∷ b ∷ []) rest e = refl
  pair_front (a ∷ b ∷ d ∷ x) rest e = absurd (omega arith)

  pub pair_found : (s x rest : List ℕ) → s ≡ x ++ rest → length x ≡ 2 → true ≡ t (get_or x 0 0) (get_or x 1 0)
      → true ≡ some_window t s
  pair_found s x rest e l h = rw e (rw (pair_front x rest l, ← h) refl)

  pub pair_next : (s x rest : List ℕ) → s ≡ x ++ rest → length x ≡ 2 → false ≡ t (get_or x 0 0) (get_or x 1 0)
      → some_window t rest ≡ some_window t s
  pair_next s x rest e l h = rw e (rw (pair_front x rest l, ← h) refl)

  pub pair_none : (s : List ℕ) → length s < 2 → false ≡ some_window t s
  unfolding some_window
  pair_none [] h = refl
  pair_none (a ∷ []) h = refl
  pair_none (a ∷ b ∷ s) h = absurd (omega arith)
