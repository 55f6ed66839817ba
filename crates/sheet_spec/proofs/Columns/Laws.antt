-- The lines that the sheet has are those that their columns call for, and no others.
--     right_aligned, aligned_right       one field
--     lot_columns, columns_lot           the line of a record
--     total_columns, columns_total       the last line
--     text_printed, printed_text         all lines
-- Assumes nothing.
use Rattle.std.specs.Prelude.{ℕ, ◌+◌, ◌-◌, ◌^◌, ◌≤◌, ◌<◌, ◌≡◌, refl, ◌⊎◌}
use Rattle.std.proofs.Common.{arith, sym, ◌∙◌, inl, inr, length-append, length-drop, take-append-drop, take_at, drop-drop, length-take-le, eq-eqb, ne_eqb}
use Rattle.std.proofs.Math.Path.{ap}
use mathlib.Core.List.{List, [], ◌∷◌, ◌++◌, append_assoc}
use Rattle.std.proofs.Math.ListN.{length, take, drop, drop_of_length-le}
use Rattle.std.proofs.lemmas.List.{length-replicate}
use Rattle.std.proofs.Math.Seq.{drop-append-add}
use Rattle.numbers.specs.Every.{All}
use Rattle.decimal.specs.Decimal.{decimal}
use Rattle.decimal.proofs.Decimal.Laws.{is_decimal}
use Rattle.decimal.proofs.Decimal.Unique.{decimal_is}
use Rattle.lot_book.specs.declared.entry.Lot.{Lot}
use Rattle.lot_book.specs.Written.{GoodLot}
use Rattle.sheet_spec.specs.Line.{spaces, right, left, verdict, lot_line, total_line}
use Rattle.sheet_spec.proofs.Line.Filling.{right_length}
use Rattle.sheet_spec.proofs.Line.Laws.{left_length, lot_length, total_length}
use Rattle.sheet_spec.specs.Sheet.{lines_of}
use Rattle.sheet_spec.specs.Columns.{RightAligned, LeftAligned, LotColumns, TotalColumns}
use Rattle.sheet_spec.specs.Columns.{Printed, last_line, lot_line_lem}

-- ---- one field
pub right_aligned : (w n : ℕ) (field : List ℕ) → n < 10 ^ 20 → field ≡ right w n → RightAligned n field
unfolding right
right_aligned w n field h e =
    record { blanks = w - length (decimal n); digits = decimal n; whole = e; shows = is_decimal n h }

pub aligned_right : (w n : ℕ) (field : List ℕ) → n < 10 ^ 20 → length field ≡ w → RightAligned n field
    → field ≡ right w n
unfolding right
aligned_right w n field h l a =
    let same = decimal_is n a.digits h a.shows in
    let size = ap length a.whole ∙ length-append (spaces a.blanks) a.digits in
    let blank = length-replicate {A = ℕ} a.blanks 32 in
    let e = ap length same in
    let k : a.blanks ≡ w - length (decimal n) = omega arith in
    a.whole ∙ rw (k, same) refl

aligned_left : (w : ℕ) (word field : List ℕ) → length field ≡ w → LeftAligned word field → field ≡ left w word
unfolding left
aligned_left w word field l a =
    let size = ap length a.whole ∙ length-append word (spaces a.blanks) in
    let blank = length-replicate {A = ℕ} a.blanks 32 in
    let k : a.blanks ≡ w - length word = omega arith in
    a.whole ∙ rw k refl

-- ---- the parts of a line
-- what follows a part
skip : (xs ys : List ℕ) (k n : ℕ) → length xs ≡ k → drop (k + n) (xs ++ ys) ≡ drop n ys
skip xs ys k n e = rw (← e) (drop-append-add xs ys n)

-- a part, where the line from it on is known
part : (l xs ys : List ℕ) (a k : ℕ) → drop a l ≡ xs ++ ys → length xs ≡ k → take k (drop a l) ≡ xs
part l xs ys a k e f = rw e (take_at xs ys k f)

-- a part and what follows it
cut : (l : List ℕ) (a k : ℕ) → drop a l ≡ take k (drop a l) ++ drop (a + k) l
cut l a k = sym (rw (← (drop-drop k a l)) (take-append-drop k (drop a l)))

-- how long a part is
part_length : (l : List ℕ) (a k : ℕ) → length l ≡ 49 → a + k ≤ 49 → length (take k (drop a l)) ≡ k
part_length l a k e h = let d = length-drop a l in length-take-le k (drop a l) (omega arith)

-- ---- the line of a record
marked : (r : Lot) → GoodLot r → (w : List ℕ) → w ≡ left 7 (verdict r.mark)
    → (r.mark ≡ 0 → LeftAligned (114 ∷ 117 ∷ 110 ∷ 110 ∷ 105 ∷ 110 ∷ 103 ∷ []) w)
    × (r.mark ≡ 1 → LeftAligned (102 ∷ 97 ∷ 105 ∷ 108 ∷ 101 ∷ 100 ∷ []) w)
unfolding left verdict
marked r g w e = (
  λ z. record { blanks = 0; whole = e ∙ rw (eq-eqb r.mark 0 z) refl },
  λ z. let n : (r.mark ≡ 0 → ⊥) = λ y. omega arith in
      record { blanks = 1; whole = e ∙ rw (ne_eqb r.mark 0 n) refl },
)

word_marked : (r : Lot) (w : List ℕ) → length w ≡ 7 → (r.mark ≡ 0) ⊎ (r.mark ≡ 1)
    → (r.mark ≡ 0 → LeftAligned (114 ∷ 117 ∷ 110 ∷ 110 ∷ 105 ∷ 110 ∷ 103 ∷ []) w)
    → (r.mark ≡ 1 → LeftAligned (102 ∷ 97 ∷ 105 ∷ 108 ∷ 101 ∷ 100 ∷ []) w) → w ≡ left 7 (verdict r.mark)
unfolding verdict
word_marked r w l (inl z) a b = aligned_left 7 _ w l (a z) ∙ rw (eq-eqb r.mark 0 z) refl
word_marked r w l (inr z) a b =
    let n : (r.mark ≡ 0 → ⊥) = λ y. omega arith in
    aligned_left 7 _ w l (b z) ∙ rw (ne_eqb r.mark 0 n) refl

-- where the parts of a line stand
module _ (l a b w d : List ℕ) (e : l ≡ a ++ (32 ∷ (b ++ (32 ∷ (w ++ (32 ∷ (d ++ (10 ∷ []))))))))
    (la : length a ≡ 10) (lb : length b ≡ 20) (lw : length w ≡ 7) (ld : length d ≡ 8) where
  from10 : drop 10 l ≡ 32 ∷ (b ++ (32 ∷ (w ++ (32 ∷ (d ++ (10 ∷ []))))))
  from10 = ap (drop 10) e ∙ skip a _ 10 0 la

  from11 : drop 11 l ≡ b ++ (32 ∷ (w ++ (32 ∷ (d ++ (10 ∷ [])))))
  from11 = ap (drop 11) e ∙ skip a _ 10 1 la

  from31 : drop 31 l ≡ 32 ∷ (w ++ (32 ∷ (d ++ (10 ∷ []))))
  from31 = ap (drop 31) e ∙ skip a _ 10 21 la ∙ skip b _ 20 0 lb

  from32 : drop 32 l ≡ w ++ (32 ∷ (d ++ (10 ∷ [])))
  from32 = ap (drop 32) e ∙ skip a _ 10 22 la ∙ skip b _ 20 1 lb

  from39 : drop 39 l ≡ 32 ∷ (d ++ (10 ∷ []))
  from39 = ap (drop 39) e ∙ skip a _ 10 29 la ∙ skip b _ 20 8 lb ∙ skip w _ 7 0 lw

  from40 : drop 40 l ≡ d ++ (10 ∷ [])
  from40 = ap (drop 40) e ∙ skip a _ 10 30 la ∙ skip b _ 20 9 lb ∙ skip w _ 7 1 lw

  from48 : drop 48 l ≡ 10 ∷ []
  from48 = ap (drop 48) e ∙ skip a _ 10 38 la ∙ skip b _ 20 17 lb ∙ skip w _ 7 9 lw ∙ skip d _ 8 0 ld

module _ (r : Lot) (g : GoodLot r) (l : List ℕ) where
  many : r.taken < 10 ^ 20
  many = omega (arith, g.taken_fits)

  small : r.number < 10 ^ 20
  small = omega (arith, g.lot_fits)

  low : r.place < 10 ^ 20
  low = omega (arith, g.place_fits)

  pub lot_columns : l ≡ lot_line r → LotColumns r l
  unfolding lot_line
  lot_columns e =
      let a = right 10 r.number in
      let b = right 20 r.taken in
      let w = left 7 (verdict r.mark) in
      let d = right 8 r.place in
      let la = right_length 9 r.number g.lot_fits in
      let lb = right_length 19 r.taken many in
      let lw = left_length r.mark in
      let ld = right_length 7 r.place g.place_fits in
      let word = marked r g (take 7 (drop 32 l)) (part l w _ 32 7 (from32 l a b w d e la lb lw ld) lw) in
      record {
        size = ap length e ∙ lot_length r g.lot_fits many g.place_fits;
        lot = right_aligned 10 r.number _ small (part l a _ 0 10 e la);
        taken = right_aligned 20 r.taken _ many (part l b _ 11 20 (from11 l a b w d e la lb lw ld) lb);
        place = right_aligned 8 r.place _ low (part l d _ 40 8 (from40 l a b w d e la lb lw ld) ld);
        running = word.0;
        failed = word.1;
        gap11 = part l (spaces 1) _ 10 1 (from10 l a b w d e la lb lw ld) refl;
        gap32 = part l (spaces 1) _ 31 1 (from31 l a b w d e la lb lw ld) refl;
        gap40 = part l (spaces 1) _ 39 1 (from39 l a b w d e la lb lw ld) refl;
        feed = part l (10 ∷ []) [] 48 1 (from48 l a b w d e la lb lw ld) refl;
      }

  pub columns_lot : LotColumns r l → l ≡ lot_line r
  unfolding lot_line
  columns_lot c =
      let s = c.size in
      let a = aligned_right 10 r.number _ small (part_length l 0 10 s (omega arith)) c.lot in
      let b = aligned_right 20 r.taken _ many (part_length l 11 20 s (omega arith)) c.taken in
      let w = word_marked r _ (part_length l 32 7 s (omega arith)) g.marked c.running c.failed in
      let d = aligned_right 8 r.place _ low (part_length l 40 8 s (omega arith)) c.place in
      let end : drop 49 l ≡ [] = drop_of_length-le l {i = 49} (omega arith) in
      cut l 0 10 ∙ rw a (ap (λ (x : List ℕ). right 10 r.number ++ x)
      (cut l 10 1 ∙ rw c.gap11 (ap (λ (x : List ℕ). 32 ∷ x)
      (cut l 11 20 ∙ rw b (ap (λ (x : List ℕ). right 20 r.taken ++ x)
      (cut l 31 1 ∙ rw c.gap32 (ap (λ (x : List ℕ). 32 ∷ x)
      (cut l 32 7 ∙ rw w (ap (λ (x : List ℕ). left 7 (verdict r.mark) ++ x)
      (cut l 39 1 ∙ rw c.gap40 (ap (λ (x : List ℕ). 32 ∷ x)
      (cut l 40 8 ∙ rw d (ap (λ (x : List ℕ). right 8 r.place ++ x)
      (cut l 48 1 ∙ rw (c.feed, end) refl))))))))))))))

-- ---- the last line
module _ (sum : ℕ) (fits : sum < 10 ^ 20) (l : List ℕ) where
  pub total_columns : l ≡ total_line sum → TotalColumns sum l
  unfolding total_line
  total_columns e =
      let b = right 20 sum in
      let lb = right_length 19 sum fits in
      let from31 : drop 31 l ≡ spaces 17 ++ (10 ∷ []) = ap (drop 31) e ∙ skip b _ 20 0 lb in
      let from48 : drop 48 l ≡ 10 ∷ [] = ap (drop 48) e ∙ skip b _ 20 17 lb in
      record {
        size = ap length e ∙ total_length sum fits;
        word = ap (take 5) e;
        total = right_aligned 20 sum _ fits (part l b _ 11 20 (ap (drop 11) e) lb);
        gap6 = ap (λ (x : List ℕ). take 6 (drop 5 x)) e;
        gap32 = part l (spaces 17) _ 31 17 from31 refl;
        feed = part l (10 ∷ []) [] 48 1 from48 refl;
      }

  pub columns_total : TotalColumns sum l → l ≡ total_line sum
  unfolding total_line
  columns_total c =
      let s = c.size in
      let b = aligned_right 20 sum _ fits (part_length l 11 20 s (omega arith)) c.total in
      let end : drop 49 l ≡ [] = drop_of_length-le l {i = 49} (omega arith) in
      cut l 0 5 ∙ rw c.word (ap (λ (x : List ℕ). (84 ∷ 79 ∷ 84 ∷ 65 ∷ 76 ∷ []) ++ x)
      (cut l 5 6 ∙ rw c.gap6 (ap (λ (x : List ℕ). spaces 6 ++ x)
      (cut l 11 20 ∙ rw b (ap (λ (x : List ℕ). right 20 sum ++ x)
      (cut l 31 17 ∙ rw c.gap32 (ap (λ (x : List ℕ). spaces 17 ++ x)
      (cut l 48 1 ∙ rw (c.feed, end) refl))))))))

-- ---- all lines
pub text_printed : (sum : ℕ) (rs : List Lot) → sum < 10 ^ 20 → All GoodLot rs
    → Printed sum rs (lines_of rs ++ total_line sum)
unfolding lines_of
text_printed sum [] h g = last_line (total_columns sum h _ refl)
text_printed sum (r ∷ rs) h g =
    lot_line_lem (lot_line r) (lines_of rs ++ total_line sum) (append_assoc (lot_line r) (lines_of rs) (total_line sum))
    (lot_columns r g.0 _ refl) (text_printed sum rs h g.1)

pub printed_text : (sum : ℕ) (rs : List Lot) (text : List ℕ) → sum < 10 ^ 20 → All GoodLot rs → Printed sum rs text
    → text ≡ lines_of rs ++ total_line sum
unfolding lines_of
printed_text sum [] text h g (last_line c) = columns_total sum h text c
printed_text sum (r ∷ rs) text h g (lot_line_lem line rest e c p) =
    e ∙ rw (columns_lot r g.0 line c, printed_text sum rs rest h g.1 p)
    (sym (append_assoc (lot_line r) (lines_of rs) (total_line sum)))
