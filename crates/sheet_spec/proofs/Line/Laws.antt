-- The parts of a line put one after the other into a line of spaces.
--     right_room, right_filled        what `right` asks of a part of spaces, and what it leaves there
--     Row, row_put, row_skip          a line whose first part is done;  one part more
--     lot_part2 to lot_done           the line of a record, part by part;  total_part2, total_done: the last line
--     lot_length, total_length        how long they are
-- Assumes nothing.
use Rattle.std.specs.Prelude.{ℕ, zero, suc, ◌+◌, ◌-◌, ◌^◌, ◌≤◌, ◌<◌, ◌≡◌, refl, length, set, take, drop, eqb}
use Rattle.std.proofs.Common.{arith, ap, sym, ◌∙◌, length-append, take_at, drop_at, eq-eqb, ne_eqb}
use mathlib.Core.List.{List, [], ◌∷◌, ◌++◌, append_assoc}
use Rattle.std.proofs.lemmas.List.{length-replicate, replicate-append-replicate, set_at}
use Rattle.numbers.specs.Choice.{cond_cases}
use Rattle.lot_book.specs.declared.entry.Lot.{Lot}
use Rattle.sheet_spec.specs.Line.{spaces, right, left, verdict, lot_line, total_line, Room}
use Rattle.sheet_spec.proofs.Line.Filling.{right_length}

-- ---- parts of spaces
length_spaces : (k : ℕ) → length (spaces k) ≡ k
length_spaces k = length-replicate {A = ℕ} k 32

take_spaces : (k m : ℕ) → k ≤ m → take k (spaces m) ≡ spaces k
take_spaces zero m h = refl
take_spaces (suc k) zero h = absurd (omega arith)
take_spaces (suc k) (suc m) h = ap (λ (l : List ℕ). 32 ∷ l) (take_spaces k m (omega arith))

drop_spaces : (k m : ℕ) → drop k (spaces m) ≡ spaces (m - k)
drop_spaces zero m = ap spaces {x = m} {y = m - 0} (omega arith)
drop_spaces (suc k) zero = ap spaces {x = 0} {y = 0 - suc k} (omega arith)
drop_spaces (suc k) (suc m) = drop_spaces k m ∙ ap spaces {x = m - k} {y = suc m - suc k} (omega arith)

pub right_room : (k n : ℕ) (part : List ℕ) → part ≡ spaces k → 1 ≤ k → n < 10 ^ k → Room part n
right_room k n part e s h =
    let l : length part ≡ k = ap length e ∙ length_spaces k in
    record {
      blank = e ∙ ap spaces (sym l);
      some = omega arith;
      fits = rw l h;
    }

pub right_filled : (k n : ℕ) (part r : List ℕ) → part ≡ spaces k → r ≡ right (length part) n → r ≡ right k n
right_filled k n part r e h = h ∙ ap (λ (w : ℕ). right w n) (ap length e ∙ length_spaces k)

-- ---- a line whose first part is done, and the rest is spaces
-- the first a bytes of l are s, and m spaces follow
pub record Row (s : List ℕ) (a m : ℕ) (l : List ℕ) : Type 0 where
  pub whole : l ≡ s ++ spaces m
  pub size : length s ≡ a

-- the k bytes from a on are others
abbrev pub put : ℕ → ℕ → List ℕ → List ℕ → List ℕ
put a k l ys = take a l ++ (ys ++ drop k (drop a l))

pub row_none : (m : ℕ) (l : List ℕ) → l ≡ spaces m → Row [] 0 m l
row_none m l e = record { whole = e; size = refl }

pub row_part : (s l : List ℕ) (a m : ℕ) → Row s a m l → (k : ℕ) → k ≤ m → take k (drop a l) ≡ spaces k
row_part s l a m row k h = rw (row.whole, drop_at s (spaces m) a row.size) (take_spaces k m h)

-- one part more
pub row_put : (s l : List ℕ) (a m : ℕ) → Row s a m l → (k : ℕ) (ys : List ℕ) → length ys ≡ k
    → Row (s ++ ys) (a + k) (m - k) (put a k l ys)
row_put s l a m row k ys f =
    let e = row.size in
    record {
      whole =
          rw (row.whole, take_at s (spaces m) a e, drop_at s (spaces m) a e, drop_spaces k m)
          (sym (append_assoc s ys (spaces (m - k))));
      size = rw (length-append s) (omega arith);
    }

-- one space more
pub row_skip : (s l : List ℕ) (a m : ℕ) → Row s a (suc m) l → Row (s ++ (32 ∷ [])) (a + 1) m l
row_skip s l a m row =
    let e = row.size in
    record {
      whole = row.whole ∙ sym (append_assoc s (32 ∷ []) (spaces m));
      size = rw (length-append s) (omega arith);
    }

-- so many spaces more
pub row_spaces : (s l : List ℕ) (a m : ℕ) → Row s a m l → (k : ℕ) → k ≤ m → Row (s ++ spaces k) (a + k) (m - k) l
row_spaces s l a m row k h =
    let e = row.size in
    let z : k + (m - k) ≡ m = omega arith in
    record {
      whole =
          row.whole
          ∙ ap (λ (x : List ℕ). s ++ x) (ap spaces (sym z) ∙ sym (replicate-append-replicate {A = ℕ} k (m - k) 32))
          ∙ sym (append_assoc s (spaces k) (spaces (m - k)));
      size = rw (length-append s, length_spaces k) (omega arith);
    }

-- the line feed
pub row_end : (s l : List ℕ) (a : ℕ) → Row s a 1 l → set l a 10 ≡ s ++ (10 ∷ [])
row_end s l a row = rw row.whole (set_at s 32 [] 10 a row.size)

-- ---- the verdict word
pub word_running : (mark : ℕ) (r : List ℕ) → mark ≡ 0 → r ≡ 114 ∷ 117 ∷ 110 ∷ 110 ∷ 105 ∷ 110 ∷ 103 ∷ []
    → r ≡ left 7 (verdict mark)
unfolding left verdict
word_running mark r z h = h ∙ rw (eq-eqb _ _ z) refl

pub word_failed : (mark : ℕ) (part r : List ℕ) → (mark ≡ 0 → ⊥) → part ≡ spaces 7
    → r ≡ (102 ∷ 97 ∷ 105 ∷ 108 ∷ 101 ∷ 100 ∷ []) ++ drop 6 part → r ≡ left 7 (verdict mark)
unfolding left verdict
word_failed mark part r z e h = h ∙ rw (e, ne_eqb _ _ z) refl

pub left_length : (mark : ℕ) → length (left 7 (verdict mark)) ≡ 7
unfolding left verdict
left_length mark =
    cond_cases (λ (w : List ℕ). length (w ++ spaces (7 - length w)) ≡ 7) (eqb mark 0) _ _ (λ _. refl) (λ _. refl)

-- ---- the line of a record
-- `line` is what is lent, l what `fill` leaves of it, and a, b, w and d what stands in the columns
module _ (r : Lot) (small : r.number < 10 ^ 10) (fits : r.taken < 10 ^ 20) (low : r.place < 10 ^ 8)
    (line l a b w d : List ℕ) (size : length line ≡ 49) (blanked : l ≡ spaces (length line)) where
  row0 : Row [] 0 49 l
  row0 = row_none 49 l (blanked ∙ ap spaces size)

  pub lot_part1 : take 10 l ≡ spaces 10
  lot_part1 = row_part _ _ 0 49 row0 10 (omega arith)

  module _ (fa : a ≡ right (length (take 10 l)) r.number) where
    ea : a ≡ right 10 r.number
    ea = right_filled 10 _ _ _ lot_part1 fa

    abbrev pub lot_line1 : List ℕ
    lot_line1 = put 0 10 l a

    row1 : Row (a ++ (32 ∷ [])) 11 38 lot_line1
    row1 = row_skip a _ 10 38 (row_put [] l 0 49 row0 10 a (rw ea (right_length 9 r.number small)))

    pub lot_part2 : take 20 (drop 11 lot_line1) ≡ spaces 20
    lot_part2 = row_part _ _ 11 38 row1 20 (omega arith)

    module _ (fb : b ≡ right (length (take 20 (drop 11 lot_line1))) r.taken) where
      eb : b ≡ right 20 r.taken
      eb = right_filled 20 _ _ _ lot_part2 fb

      abbrev pub lot_line2 : List ℕ
      lot_line2 = put 11 20 lot_line1 b

      row2 : Row (((a ++ (32 ∷ [])) ++ b) ++ (32 ∷ [])) 32 17 lot_line2
      row2 = row_skip _ _ 31 17 (row_put _ _ 11 38 row1 20 b (rw eb (right_length 19 r.taken fits)))

      pub lot_part3 : take 7 (drop 32 lot_line2) ≡ spaces 7
      lot_part3 = row_part _ _ 32 17 row2 7 (omega arith)

      module _ (ew : w ≡ left 7 (verdict r.mark)) where
        abbrev pub lot_line3 : List ℕ
        lot_line3 = put 32 7 lot_line2 w

        row3 : Row (((((a ++ (32 ∷ [])) ++ b) ++ (32 ∷ [])) ++ w) ++ (32 ∷ [])) 40 9 lot_line3
        row3 = row_skip _ _ 39 9 (row_put _ _ 32 17 row2 7 w (rw ew (left_length r.mark)))

        pub lot_part4 : take 8 (drop 40 lot_line3) ≡ spaces 8
        lot_part4 = row_part _ _ 40 9 row3 8 (omega arith)

        module _ (fd : d ≡ right (length (take 8 (drop 40 lot_line3))) r.place) where
          ed : d ≡ right 8 r.place
          ed = right_filled 8 _ _ _ lot_part4 fd

          row4 : Row ((((((a ++ (32 ∷ [])) ++ b) ++ (32 ∷ [])) ++ w) ++ (32 ∷ [])) ++ d) 48 1 (put 40 8 lot_line3 d)
          row4 = row_put _ _ 40 9 row3 8 d (rw ed (right_length 7 r.place low))

          pub lot_done : set (put 40 8 lot_line3 d) 48 10 ≡ lot_line r
          unfolding lot_line
          lot_done = row_end _ _ 48 row4 ∙ rw (ea, eb, ew, ed) (simp append_assoc)

-- ---- the last line
module _ (sum : ℕ) (fits : sum < 10 ^ 20) (line l t b : List ℕ) (size : length line ≡ 49)
    (blanked : l ≡ spaces (length line)) (et : t ≡ 84 ∷ 79 ∷ 84 ∷ 65 ∷ 76 ∷ []) where
  total0 : Row [] 0 49 l
  total0 = row_none 49 l (blanked ∙ ap spaces size)

  abbrev pub total_line1 : List ℕ
  total_line1 = put 0 5 l t

  total1 : Row (t ++ spaces 6) 11 38 total_line1
  total1 = row_spaces _ _ 5 44 (row_put [] l 0 49 total0 5 t (rw et refl)) 6 (omega arith)

  pub total_part2 : take 20 (drop 11 total_line1) ≡ spaces 20
  total_part2 = row_part _ _ 11 38 total1 20 (omega arith)

  module _ (fb : b ≡ right (length (take 20 (drop 11 total_line1))) sum) where
    eb' : b ≡ right 20 sum
    eb' = right_filled 20 _ _ _ total_part2 fb

    total2 : Row (((t ++ spaces 6) ++ b) ++ spaces 17) 48 1 (put 11 20 total_line1 b)
    total2 =
        row_spaces _ _ 31 18 (row_put _ _ 11 38 total1 20 b (rw eb' (right_length 19 sum fits))) 17 (omega arith)

    pub total_done : set (put 11 20 total_line1 b) 48 10 ≡ total_line sum
    unfolding total_line
    total_done =
        row_end _ _ 48 total2
        ∙ rw (et, eb')
        (ap (λ (x : List ℕ). (84 ∷ 79 ∷ 84 ∷ 65 ∷ 76 ∷ []) ++ (spaces 6 ++ x))
        (append_assoc (right 20 sum) (spaces 17) (10 ∷ [])))

-- ---- how long the lines are
pub lot_length : (r : Lot) → r.number < 10 ^ 10 → r.taken < 10 ^ 20 → r.place < 10 ^ 8 → length (lot_line r) ≡ 49
unfolding lot_line
lot_length r a b d =
    simp (
      length-append,
      right_length 9 r.number a,
      right_length 19 r.taken b,
      left_length r.mark,
      right_length 7 r.place d,
    )

pub total_length : (sum : ℕ) → sum < 10 ^ 20 → length (total_line sum) ≡ 49
unfolding total_line
total_length sum h = simp (length-append, right_length 19 sum h)
