-- The outcomes of a sheet, by cases: one law for each way out of `sheet`.
--     sheet_bad, sheet_over, sheet_short, sheet_given       the outcomes
--     judged_bad, judged_lots                               what `judge` says of a book
-- Assumes nothing.
use Rattle.std.specs.Prelude.{ℕ, ◌+◌, ◌/◌, ◌≤◌, ◌<◌, ◌≡◌, List, ◌++◌, length, drop, Some, None, Ok, Err}
use Rattle.std.proofs.Common.{arith, ap, sym, ◌∙◌}
use Rattle.std.proofs.Math.Path.{refl}
use borrow.Author.Tests.{le-ltb, lt-ltb}
use Rattle.lot_book.specs.declared.entry.Lot.{Lot}
use Rattle.lot_book.specs.declared.judging.Judged.{Judged}
use Rattle.lot_book.specs.declared.judging.BadRecord.{BadRecord}
use Rattle.lot_book.specs.Book.{Book, lots, bad, book_of, taken_sum, total_of, judged_of, judgement}
use Rattle.lot_book.proofs.Book.Laws.{within_total, over_total}
use Rattle.sheet_spec.specs.Sheet.{sheet_text, sheet_size, given, refused, printed, outcome_of, sheet_of}
use Rattle.sheet_spec.specs.Sheet.{Writable}

-- ---- the outcomes
module _ (book out : List ℕ) where
  pub sheet_bad : (i : ℕ) → book_of book ≡ bad i → sheet_of book out ≡ refused 14 i out
  unfolding sheet_of outcome_of
  sheet_bad i e = rw e refl

  module _ (rs : List Lot) (e : book_of book ≡ lots rs) where
    pub sheet_over : 18446744073709551615 < taken_sum rs → sheet_of book out ≡ refused 15 0 out
    unfolding sheet_of outcome_of printed
    sheet_over h = rw e (simp (lt-ltb _ _ h))

    module _ (h : taken_sum rs ≤ 18446744073709551615) where
      pub sheet_short : length out < sheet_size rs → sheet_of book out ≡ refused 1 0 out
      unfolding sheet_of outcome_of printed
      sheet_short l = rw e (simp (le-ltb _ _ h, lt-ltb _ _ l))

      pub sheet_given : sheet_size rs ≤ length out
          → sheet_of book out ≡ given (sheet_size rs) (sheet_text rs ++ drop (sheet_size rs) out)
      unfolding sheet_of outcome_of printed
      sheet_given l = rw e (simp (le-ltb _ _ h, le-ltb _ _ l))

-- ---- what `judge` says of a book
pub record HasLots (book : List ℕ) (j : Judged) : Type 0 where
  pub rs : List Lot
  pub whole : book_of book ≡ lots rs
  pub count_is : j.count ≡ length rs
  pub total_is : j.total ≡ total_of (taken_sum rs)

judged_lots_of : (book : List ℕ) (j : Judged) (b : Book) → book_of book ≡ b → Ok j ≡ judged_of 0 0 b → HasLots book j
unfolding judged_of
judged_lots_of book j (lots rs) w e =
    let k : j ≡ record { count = 0 + length rs; total = total_of (0 + taken_sum rs) } = cc in
    let a = ap (λ (x : Judged). x.count) k in
    let b = ap (λ (x : Judged). x.total) k in
    record { rs = rs; whole = w; count_is = omega arith; total_is = b ∙ ap total_of (omega arith) }
judged_lots_of book j (bad i) w e = let z : ◌≡◌ {A = ℕ} 0 1 = cc in absurd (omega arith)

pub judged_lots : (book : List ℕ) (j : Judged) → Ok j ≡ judgement book → HasLots book j
unfolding judgement
judged_lots book j e = judged_lots_of book j (book_of book) refl e

judged_bad_of : (x : BadRecord) (b : Book) → Err x ≡ judged_of 0 0 b → b ≡ bad x.index
unfolding judged_of
judged_bad_of x (lots rs) e = let z : ◌≡◌ {A = ℕ} 0 1 = cc in absurd (omega arith)
judged_bad_of x (bad j) e =
    let k : x ≡ record { index = j } = cc in
    sym (ap (λ (y : BadRecord). bad y.index) k)

pub judged_bad : (book : List ℕ) (x : BadRecord) → Err x ≡ judgement book → book_of book ≡ bad x.index
unfolding judgement
judged_bad book x e = judged_bad_of x (book_of book) e

-- ---- the ways out of `sheet`
module _ (book out : List ℕ) where
  pub out_bad : (x : BadRecord) → Err x ≡ judgement book → refused 14 x.index out ≡ sheet_of book out
  out_bad x e = sym (sheet_bad book out x.index (judged_bad book x e))

  module _ (j : Judged) (e : Ok j ≡ judgement book) where
    pub out_over : j.total ≡ None → refused 15 0 out ≡ sheet_of book out
    out_over f =
        let h = judged_lots book j e in
        let big = over_total (taken_sum h.rs) (sym f ∙ h.total_is) in
        sym (sheet_over book out h.rs h.whole (omega arith))

    module _ (sum : ℕ) (f : j.total ≡ Some sum) where
      pub out_short : length out / 49 ≤ j.count → refused 1 0 out ≡ sheet_of book out
      out_short l =
          let h = judged_lots book j e in
          let w = within_total sum (taken_sum h.rs) (sym f ∙ h.total_is) in
          let small = w.small in
          let c = h.count_is in
          sym (sheet_short book out h.rs h.whole (omega arith) (unfold sheet_size in omega arith))

      pub out_room : j.count < length out / 49 → Writable book out sum
      out_room l =
          let h = judged_lots book j e in
          let w = within_total sum (taken_sum h.rs) (sym f ∙ h.total_is) in
          let small = w.small in
          let same = w.same in
          let c = h.count_is in
          record {
            rs = h.rs;
            whole = h.whole;
            sums = same;
            small = omega arith;
            room = unfold sheet_size in omega arith;
          }
